-- Maps of one length, of which one lies within the other, are one.
use denote.Enum.Bare.{sameb}
use Rattle.zq_dots.specs.Rule.{rule_of}
use Rattle.zq_dots.specs.contracts.rule.Rule.{the_type}
use Rattle.zq_dots.specs.declared.rule.Rule.{Rule}
use Rattle.zq_dots.specs.declared.rule.Rule.TheVariants.{High, Low}
use Rattle.std.proofs.Common.{ap, arith, refl, sym, true≢false, ◌∙◌}
use Rattle.std.proofs.lemmas.Bool.{and_parts}
use Rattle.std.proofs.lemmas.Cmp.{eq_by_cmp_equiv, nat_list_cmp_total}
use Rattle.std.proofs.lemmas.List.{length-map}
use Rattle.std.proofs.lemmas.Map.Steps.{length-le_from_keys}
use Rattle.std.specs.FinMap.{contains_key-keys, entries, entries_sorted, get, get-entries, is_sorted, keys, len, len-entries}
use Rattle.std.specs.FinMap.Entries.{below_all, find}
use Rattle.std.specs.List.{AllByRecursion, IsDistinct, list_any}
use Rattle.std.specs.Map.{lookup}
use Rattle.std.specs.Ordering.{eq_by_cmp, is_eq, is_lt}
use Rattle.std.specs.Prelude.{Bool, IsSome, List, None, Some, [], cond, false, is_some, length, map, not, true, ℕ, ◌||◌, ◌∷◌, ◌≡◌, ◌≤◌}
use Rattle.std.specs.declared.cmp.Ordering.{Ordering}
use Rattle.std.specs.declared.cmp.Ordering.TheVariants.{Equal, Greater, Less}
use Rattle.zq_model.proofs.Maps.{same_key}
use Rattle.zq_model.proofs.Rising.{is_true}
use Rattle.zq_model.specs.Image.{Entry}
use Rattle.zq_posheap.proofs.Entries.{bytes_antisymmetric}
use Rattle.zq_queue.proofs.Helds.{same_at_each}
use Rattle.zq_queue.specs.Entries.{Entries, bytes_cmp}

-- ---- rules

-- rules that the code finds no different are one in the model
pub same_rules : (a b : Rule) (differ : Bool) → differ ≡ not (sameb the_type a b) → differ ≡ false → rule_of a ≡ rule_of b
same_rules High High differ is e = refl
same_rules High Low differ is e = absurd (true≢false (sym is ∙ e))
same_rules Low High differ is e = absurd (true≢false (sym is ∙ e))
same_rules Low Low differ is e = refl

-- ---- the keys of a map are apart

not_tied : (r : Ordering) → is_lt r ≡ true → is_eq r ≡ false
not_tied Less below = refl
not_tied Equal below = sym below
not_tied Greater below = refl

abbrev bytes_eq : List ℕ → List ℕ → Bool
bytes_eq = eq_by_cmp bytes_cmp

module _ {X : Type 0} where
  apart_from_all : (k : List ℕ) (es : List (List ℕ × X)) → below_all bytes_cmp k es ≡ true → AllByRecursion (λ y. bytes_eq k y ≡ false) (map (λ e. e.0) es)
  apart_from_all k [] below = tt
  apart_from_all k (e ∷ es) below =
      let parts = and_parts (is_lt (bytes_cmp k e.0)) (below_all bytes_cmp k es) below in
      (not_tied (bytes_cmp k e.0) parts.0, apart_from_all k es parts.1)

  sorted_apart : (es : List (List ℕ × X)) → is_sorted bytes_cmp es ≡ true → IsDistinct bytes_eq (map (λ e. e.0) es)
  unfolding IsDistinct
  sorted_apart [] sorted = tt
  sorted_apart (e ∷ es) sorted =
      let parts = and_parts (below_all bytes_cmp e.0 es) (is_sorted bytes_cmp es) sorted in
      (apart_from_all e.0 es parts.0, sorted_apart es parts.1)

  find_lookup : (es : List (List ℕ × X)) (q : List ℕ) → lookup (bytes_eq q) es ≡ find bytes_cmp q es
  find_lookup [] q = refl
  find_lookup (e ∷ es) q = ap (cond (bytes_eq q e.0) (Some e.1)) (find_lookup es q)

none_pass : (p : List ℕ → Bool) (xs : List (List ℕ)) → list_any p xs ≡ false → AllByRecursion (λ y. p y ≡ false) xs
none_pass p [] none = tt
none_pass p (x ∷ xs) none = by (p x) (list_any p xs) none (none_pass p xs)
  where
    by : (a b : Bool) → (a || b) ≡ false → (b ≡ false → AllByRecursion (λ y. p y ≡ false) xs) → (a ≡ false) × AllByRecursion (λ y. p y ≡ false) xs
    by true b e rest = absurd (true≢false e)
    by false b e rest = (refl, rest e)

with_first : (q : List ℕ) (ks : List (List ℕ)) → list_any (bytes_eq q) ks ≡ false → IsDistinct bytes_eq ks → IsDistinct bytes_eq (q ∷ ks)
unfolding IsDistinct
with_first q ks none apart = (none_pass (bytes_eq q) ks none, apart)

-- maps of one length, of which one lies within the other, are one
module _ (a b : Entries) (long : len a ≡ len b) (within : (q : List ℕ) (x : Entry) → get a q ≡ Some x → get b q ≡ Some x) where
  standing : (k : List ℕ) → list_any (bytes_eq k) (keys a) ≡ true → is_some (get b k) ≡ true
  standing k among =
      elim (get a k) as (λ o. get a k ≡ o → is_some o ≡ true → is_some (get b k) ≡ true) [
        | None ↦ λ _ some. absurd (true≢false (sym some))
        | Some x ↦ λ got _. ap is_some (within k x got)
      ] refl (contains_key-keys a k ∙ among)

  -- a member of the second alone is one too many
  too_many : (q : List ℕ) (y : Entry) → get a q ≡ None → get b q ≡ Some y → ⊥
  too_many q y none some =
      let fits : length (q ∷ keys a) ≤ length (entries b)
      = length-le_from_keys (eq_by_cmp_equiv nat_list_cmp_total) (q ∷ keys a) (entries b)
      (with_first q (keys a) (sym (contains_key-keys a q) ∙ ap is_some none) (sorted_apart (entries a) (is_true _ (entries_sorted a))))
      (λ k among. stands k among) in
      omega (arith, fits, long, len-entries a, len-entries b, length-map (entries a) (λ e. e.0))
    where
      stands : (k : List ℕ) → list_any (bytes_eq k) (q ∷ keys a) ≡ true → IsSome (lookup (bytes_eq k) (entries b))
      stands k among =
          ap is_some (find_lookup (entries b) k ∙ sym (get-entries b k))
          ∙ (elim (bytes_eq k q) as (λ c. bytes_eq k q ≡ c → (c || list_any (bytes_eq k) (keys a)) ≡ true → is_some (get b k) ≡ true) [
            | true ↦ λ tied _. ap is_some (ap (get b) (same_key bytes_antisymmetric k q tied) ∙ some)
            | false ↦ λ _ rest. standing k rest
          ] refl among)

  pub one_map : a ≡ b
  one_map = same_at_each a b (λ q.
      elim (get a q) as (λ o. get a q ≡ o → o ≡ get b q) [
        | Some x ↦ λ got. sym (within q x got)
        | None ↦ λ none. (elim (get b q) as (λ o. get b q ≡ o → None ≡ o) [ None ↦ λ _. refl | Some y ↦ λ some. absurd (too_many q y none some) ] refl)
      ] refl)
