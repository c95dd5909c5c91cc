-- What an entry keeps where its additions of older dots are left out.

use Rattle.std.proofs.Common.{Bool, List, None, Option, Some, ap, cond, eqb-true, false, refl, subst, sym, true, ℕ, ℤ, ◌==◌, ◌∙◌, ◌≡◌}
use Rattle.std.specs.Prelude.{pos, ◌+ℤ◌}
use Rattle.zq_model.proofs.Sites.{by_site-at, by_site-same}
use Rattle.zq_model.specs.Entry.{Addition, after_act, bumped, bumped_if, sum_at, without}
use Rattle.zq_model.specs.Image.{Entry, entry_after}
use Rattle.zq_model.specs.Operation.{Act, Bump, Drop, Put, has}
use Rattle.zq_model.specs.Sets.{by_site}
use Rattle.zq_stage.specs.Rows.{newer_than}

-- what two vectors leave does not depend on which is first
turned_at : (u v : List ℕ) (s : ℕ) (a : Addition) (b c : Bool) → has u s a.n ≡ b → has v s a.n ≡ c →
    without u s (cond c None (Some a)) ≡ without v s (cond b None (Some a))
turned_at u v s a true true hu hv = refl
turned_at u v s a true false hu hv = ap (λ x. cond x None (Some a)) hu
turned_at u v s a false true hu hv = sym (ap (λ x. cond x None (Some a)) hv)
turned_at u v s a false false hu hv = ap (λ x. cond x None (Some a)) hu ∙ sym (ap (λ x. cond x None (Some a)) hv)

without_turned : (u v : List ℕ) (s : ℕ) (x : Option Addition) → without u s (without v s x) ≡ without v s (without u s x)
without_turned u v s None = refl
without_turned u v s (Some a) = turned_at u v s a (has u s a.n) (has v s a.n) refl refl

-- a Bump keeps the counter
bumped_n : (seen : List ℕ) (s t : ℕ) (i : ℤ) (a : Addition) → (bumped seen s t i a).n ≡ a.n
bumped_n seen s t i a =
    let raised : Addition = record { n = a.n; score = a.score; sums = by_site (λ r. cond (r == t) (sum_at a r +ℤ i) (sum_at a r)) } in
    elim (has seen s a.n) as (λ b. (cond b raised a).n ≡ a.n) [ true ↦ refl | false ↦ refl ]

without_bumped : (v seen : List ℕ) (s t : ℕ) (i : ℤ) (x : Option Addition) → without v s (bumped_if seen s t i x) ≡ bumped_if seen s t i (without v s x)
without_bumped v seen s t i None = refl
without_bumped v seen s t i (Some a) =
    ap (λ n. cond (has v s n) None (Some (bumped seen s t i a))) (bumped_n seen s t i a)
    ∙ elim (has v s a.n) as (λ b. cond b None (Some (bumped seen s t i a)) ≡ bumped_if seen s t i (cond b None (Some a))) [ true ↦ refl | false ↦ refl ]

-- an act whose dot the vector has not does the same to what is newer
newer_act : (v : List ℕ) (act : Act) (t n : ℕ) (seen : List ℕ) (s : ℕ) (x : Option Addition) → has v t n ≡ false →
    without v s (after_act act t n seen s x) ≡ after_act act t n seen s (without v s x)
newer_act v (Put score) t n seen s x lacks =
    let put : Option Addition = Some (record { n = n; score = score; sums = by_site (λ _. pos 0) }) in
    elim (t == s) as (λ b. (t == s) ≡ b → without v s (cond b put (without seen s x)) ≡ cond b put (without seen s (without v s x))) [
      | true ↦ λ same.
          let new : has v s n ≡ false = subst (λ r. has v r n ≡ false) (eqb-true t s same) lacks in
          ap (λ b. cond b None put) new
      | false ↦ λ _. without_turned v seen s x
    ] refl
newer_act v (Bump i) t n seen s x lacks = without_bumped v seen s t i x
newer_act v Drop t n seen s x lacks = without_turned v seen s x

-- so has an entry
pub newer_entry : (v : List ℕ) (act : Act) (t n : ℕ) (seen : List ℕ) (e : Entry) → has v t n ≡ false →
    newer_than v (entry_after act t n seen e) ≡ entry_after act t n seen (newer_than v e)
newer_entry v act t n seen e lacks = by_site-same _ _ (λ s below.
    ap (without v s) (by_site-at _ s None below)
    ∙ newer_act v act t n seen s _ lacks
    ∙ ap (after_act act t n seen s) (sym (by_site-at _ s None below)))
