-- What a write at the index of a key makes of a map.

use Rattle.std.proofs.Common.{List, None, Some, [], ap, false, is_some, refl, subst, sym, ℕ, ◌∙◌, ◌∷◌, ◌≡◌}
use Rattle.std.proofs.lemmas.Option.{same_Some, slice_get-map}
use Rattle.std.specs.Map.{keys_of, lookup, values_of}
use Rattle.std.specs.Prelude.{option_map, slice_get, suc, zero}
use Rattle.indexmap.proofs.CallerLemmas.{keys-with_value_at, updates-with_value_at}
use Rattle.indexmap.specs.IndexMap.{IndexMap, IsUnique, Updates, set_value_at, with_value_at}
use Rattle.zq_posheap.proofs.Entries.{has_text, none_of, same_key_laws}
use Rattle.zq_posheap.specs.Order.{same_key}

-- what stands at an index, by the name under which it is lent on
pub lent_at : {X : Type 0} (pairs : List (List ℕ × X)) (i : ℕ) (k : List ℕ) {x y : X} → slice_get pairs i ≡ Some (k, x) → y ≡ x → slice_get pairs i ≡ Some (k, y)
lent_at pairs i k at same = at ∙ ap (λ z. Some (k, z)) (sym same)

-- what stands at an index, written there, changes nothing
pub rewritten_at : {X : Type 0} (pairs : List (List ℕ × X)) (i : ℕ) (k : List ℕ) (x : X) → slice_get pairs i ≡ Some (k, x) → set_value_at pairs i x ≡ pairs
rewritten_at [] i k x at = refl
rewritten_at (e ∷ pairs) zero k x at = ap (λ (y : List ℕ × _). (e.0, y.1) ∷ pairs) (sym (same_Some e (k, x) at))
rewritten_at (e ∷ pairs) (suc i) k x at = ap (λ rest. e ∷ rest) (rewritten_at pairs i k x at)

module _ {X S : Type 0} (m : IndexMap (List ℕ) X S) (i : ℕ) (key k : List ℕ) (x : X) (there : slice_get (keys_of m.entries) i ≡ Some key) (at : slice_get m.entries i ≡ Some (k, x)) where
  -- the key there is the one that was found
  pub key_is : k ≡ key
  key_is = same_Some k key (sym (slice_get-map (λ e. e.0) m.entries i ∙ ap (option_map (λ e. e.0)) at) ∙ there)

  -- what was found for the key
  pub value_is : slice_get (values_of m.entries) i ≡ lookup (has_text key) m.entries → Some x ≡ lookup (has_text key) m.entries
  value_is is = sym (slice_get-map (λ e. e.1) m.entries i ∙ ap (option_map (λ e. e.1)) at) ∙ is

  -- a value written there is the key's, and other keys keep theirs
  pub updates_at : IsUnique same_key m → (w : X) → Updates same_key m (with_value_at m i w) key (Some w)
  updates_at unique w = subst (λ q. Updates same_key m (with_value_at m i w) q (Some w)) key_is (updates-with_value_at m i w same_key_laws unique k x at)

-- after a write at an index the key that was found there still is there
pub there_after : {X S : Type 0} (m : IndexMap (List ℕ) X S) (i : ℕ) (key : List ℕ) (w : X) → slice_get (keys_of m.entries) i ≡ Some key → slice_get (keys_of (with_value_at m i w).entries) i ≡ Some key
there_after m i key w there = ap (λ ks. slice_get ks i) (keys-with_value_at m i w) ∙ there

-- nothing was found for a key
pub none_is : {X : Type 0} (pairs : List (List ℕ × X)) (key : List ℕ) → false ≡ is_some (lookup (has_text key) pairs) → None ≡ lookup (has_text key) pairs
none_is pairs key absent = sym (none_of (lookup (has_text key) pairs) absent)
