-- The score of an entry after an act of a site that has seen all of its additions.
use Rattle.std.proofs.Common.{List, None, Option, Some, ap, arith, cond, false, inl, inr, length, option_map, pos, refl, subst, sym, true, true≢false, ℕ, ℤ, ◌+ℤ◌, ◌<◌, ◌==◌, ◌∙◌, ◌≡◌, ◌⊎◌}
use Rattle.std.proofs.lemmas.Bool.{cases_eq, cases_lt, cond-false, cond-true, eq-eqb, ne_eqb}
use Rattle.std.proofs.lemmas.Int.{ints}
use Rattle.std.proofs.lemmas.List.{get_or_past}
use Rattle.std.proofs.lemmas.Option.{none-some, same_Some}
use Rattle.std.specs.List.{range_with_len}
use Rattle.std.specs.Prelude.{if◌then◌else◌}
use Rattle.zq_model.proofs.Entries.{at_stands}
use Rattle.zq_model.proofs.Preferred.{HasValue, IsNoWorse-both, IsNoWorse-itself, score_best, score_reached, score_some}
use Rattle.zq_model.proofs.Sites.{by_site-at}
use Rattle.zq_model.specs.Entry.{Addition, after_act, bumped, bumped_if, sum_at, without}
use Rattle.zq_model.specs.Image.{Entry, addition_at, entry_after}
use Rattle.zq_model.specs.Operation.{Act, Bump, Drop, Put, has}
use Rattle.zq_model.specs.Rule.{Greatest, IsNoWorse, Least, Rule}
use Rattle.zq_model.specs.Score.{score_of, value_of}
use Rattle.zq_model.specs.Sets.{SITES, by_site}
use Rattle.zq_model.proofs.Told.{acted}
use Rattle.zq_model.proofs.BookTotals.{total_more, total_zeros, with_more}

-- ---- scores by what they are

-- an entry without additions has no score
pub score_none : (rule : Rule) (e : Entry) → ((s : ℕ) (a : Addition) → addition_at e s ≡ Some a → ⊥) → score_of rule e ≡ None
score_none rule e none =
    elim (score_of rule e) as (λ r. score_of rule e ≡ r → r ≡ None) [
      | None ↦ λ _. refl
      | Some x ↦ λ is. let value = score_reached rule e x is in absurd (none value.0 value.1 value.2)
    ] refl

-- the value of an addition that none is better than is the score
pub score_is : (rule : Rule) (e : Entry) (x : ℤ) → HasValue e x → ((s : ℕ) (a : Addition) → addition_at e s ≡ Some a → IsNoWorse rule x (value_of a)) → score_of rule e ≡ Some x
score_is rule e x value best =
    elim (score_of rule e) as (λ r. score_of rule e ≡ r → r ≡ Some x) [
      | None ↦ λ none. absurd (score_some rule e value.0 value.1 value.2 none)
      | Some y ↦ λ is.
          let found = score_reached rule e y is in
          let better : IsNoWorse rule y x = subst (λ (z : ℤ). IsNoWorse rule y z) value.3 (score_best rule e y value.0 value.1 is value.2) in
          let worse : IsNoWorse rule x y = subst (λ (z : ℤ). IsNoWorse rule x z) found.3 (best found.0 found.1 found.2) in
          ap (λ (z : ℤ). Some z) (IsNoWorse-both rule y x better worse)
    ] refl

-- ---- an entry whose additions the site has all seen

pub record IsSeen (v : List ℕ) (e : Entry) : Type 0 where
  pub wide : length e ≡ SITES
  pub known : (s : ℕ) (a : Addition) → addition_at e s ≡ Some a → has v s a.n ≡ true
  pub sums : (s : ℕ) (a : Addition) → addition_at e s ≡ Some a → length a.sums ≡ SITES

module _ (rule : Rule) (v : List ℕ) (e : Entry) (seen : IsSeen v e) (t n : ℕ) (here : t < SITES) where
  nothing_left : (s : ℕ) (o : Option Addition) (a : Addition) → addition_at e s ≡ o → without v s o ≡ Some a → ⊥
  nothing_left s None a is left = none-some a left
  nothing_left s (Some b) a is left = none-some a (sym (cond-true _ None (Some b) (seen.known s b is)) ∙ left)

  score_dropped : score_of rule (entry_after Drop t n v e) ≡ None
  score_dropped = score_none rule _ (λ s a is. nothing_left s (addition_at e s) a refl (at_stands (λ r. after_act Drop t n v r (addition_at e r)) s a is).1)

  abbrev fresh : ℤ → Addition
  fresh score = record { n = n; score = score; sums = by_site (λ _. pos 0) }

  value_fresh : (score : ℤ) → value_of (fresh score) ≡ score
  value_fresh score = let none = total_zeros (range_with_len 0 SITES) in omega (arith, ints)

  abbrev put_at : ℤ → ℕ → Option Addition
  put_at score s = after_act (Put score) t n v s (addition_at e s)

  put_is : (score : ℤ) (s : ℕ) (a : Addition) → put_at score s ≡ Some a → fresh score ≡ a
  put_is score s a is = elim (cases_eq t s) [
    | inl same ↦ same_Some _ _ (sym (cond-true _ (Some (fresh score)) (without v s (addition_at e s)) (eq-eqb t s same)) ∙ is)
    | inr other ↦ absurd (nothing_left s (addition_at e s) a refl (sym (cond-false _ (Some (fresh score)) (without v s (addition_at e s)) (ne_eqb t s other)) ∙ is))
  ]

  score_put : (score : ℤ) → score_of rule (entry_after (Put score) t n v e) ≡ Some score
  score_put score =
      let stands : addition_at (entry_after (Put score) t n v e) t ≡ Some (fresh score)
      = by_site-at (put_at score) t None here ∙ cond-true _ (Some (fresh score)) (without v t (addition_at e t)) (eq-eqb t t refl) in
      score_is rule _ score (t, fresh score, stands, value_fresh score) (λ s a is.
      let same = put_is score s a (at_stands (put_at score) s a is).1 in
      subst (λ (z : ℤ). IsNoWorse rule score z) (sym (value_fresh score) ∙ ap value_of same) (IsNoWorse-itself rule score))

  value_bumped : (s : ℕ) (i : ℤ) (a : Addition) → addition_at e s ≡ Some a → value_of (bumped v s t i a) ≡ value_of a +ℤ i
  value_bumped s i a is =
      let sums = total_more a t i (seen.sums s a is) here in
      ap value_of (cond-true (has v s a.n) (record { n = a.n; score = a.score; sums = by_site (with_more (sum_at a) t i) }) a (seen.known s a is)) ∙ (omega (arith, ints))

  abbrev bump_at : ℤ → ℕ → Option Addition
  bump_at i s = after_act (Bump i) t n v s (addition_at e s)

  bumped_from : (i : ℤ) (s : ℕ) (o : Option Addition) (a : Addition) → bumped_if v s t i o ≡ Some a → (b : Addition) × (o ≡ Some b) × (bumped v s t i b ≡ a)
  bumped_from i s None a is = absurd (none-some a is)
  bumped_from i s (Some b) a is = (b, refl, same_Some _ _ is)

  inside : (s : ℕ) (a : Addition) → addition_at e s ≡ Some a → s < SITES
  inside s a is = elim (cases_lt s SITES) [
    | inl below ↦ below
    | inr past ↦ absurd (none-some a (sym (get_or_past e s None (omega (arith, seen.wide, past))) ∙ is))
  ]

  no_worse_raised : (r : Rule) (x y i : ℤ) → IsNoWorse r x y → IsNoWorse r (x +ℤ i) (y +ℤ i)
  no_worse_raised Greatest x y i h = omega (arith, ints)
  no_worse_raised Least x y i h = omega (arith, ints)

  score_bumped : (i : ℤ) (old : Option ℤ) → score_of rule e ≡ old → score_of rule (entry_after (Bump i) t n v e) ≡ option_map (λ x. x +ℤ i) old
  score_bumped i None none = score_none rule _ (λ s a is.
      let from = bumped_from i s (addition_at e s) a (at_stands (bump_at i) s a is).1 in
      score_some rule e s from.0 from.1 none)
  score_bumped i (Some x) is =
      let value = score_reached rule e x is in
      let s = value.0 in
      let a = value.1 in
      let stands : addition_at (entry_after (Bump i) t n v e) s ≡ Some (bumped v s t i a)
      = by_site-at (bump_at i) s None (inside s a value.2) ∙ ap (bumped_if v s t i) value.2 in
      score_is rule _ (x +ℤ i) (s, bumped v s t i a, stands, value_bumped s i a value.2 ∙ ap (λ z. z +ℤ i) value.3) (λ r b there.
      let from = bumped_from i r (addition_at e r) b (at_stands (bump_at i) r b there).1 in
      subst (λ (z : ℤ). IsNoWorse rule (x +ℤ i) z) (sym (value_bumped r i from.0 from.1) ∙ ap value_of from.2)
      (no_worse_raised rule x (value_of from.0) i (score_best rule e x r from.0 is from.1)))

  pub score_acted : (act : Act) → score_of rule (entry_after act t n v e) ≡ acted act (score_of rule e)
  score_acted (Put score) = score_put score
  score_acted (Bump i) = score_bumped i (score_of rule e) refl
  score_acted Drop = score_dropped
