-- Maps of the code, read at keys.

use Rattle.std.proofs.Common.{List, Option, Some, [], ap, cond, false, refl, sym, true, ℕ, ◌∙◌, ◌∷◌, ◌≡◌}
use Rattle.std.proofs.lemmas.Map.Lookups.{exact_bytes}
use Rattle.std.proofs.lemmas.Map.Steps.{set_value_same}
use Rattle.std.proofs.lemmas.Map.Text.{is_eq-slice_cmp}
use Rattle.std.specs.Cmp.Lexicographic.{pointwise, same_text}
use Rattle.std.specs.FinMap.{find}
use Rattle.std.specs.Map.{AreApart, IsKeyTest, KeepsOthers, lookup, set_value}
use Rattle.std.specs.Ordering.{eq_by_cmp}
use Rattle.std.specs.Prelude.{nat_eq}
use Rattle.zq_model.proofs.Maps as maps
use Rattle.zq_posheap.proofs.Entries.{has_text}
use Rattle.zq_posheap.specs.Order.{same_key}
use Rattle.zq_queue.specs.Entries.{bytes_cmp}
use Rattle.zq_shard.specs.Queues.{HasAt}

pub found : {X : Type 0} (pairs : List (List ℕ × X)) (q : List ℕ) → find bytes_cmp q pairs ≡ lookup (has_text q) pairs
found [] q = refl
found (e ∷ pairs) q = λ k. cond (is_eq-slice_cmp q e.0 k) (Some e.1) (found pairs q k)

is_test : (q : List ℕ) → IsKeyTest same_key (has_text q)
is_test q x y e = ap (λ bytes. pointwise nat_eq bytes y) (same_text q x (sym e))

apart : (k q : List ℕ) → eq_by_cmp bytes_cmp q k ≡ false → AreApart (has_text k) (has_text q)
apart k q e x here = ap (pointwise nat_eq q) (sym (same_text k x (sym here))) ∙ sym (is_eq-slice_cmp q k) ∙ e

-- after a change at a key the map has the new value there, and the old ones elsewhere
pub updated : {X : Type 0} (k : List ℕ) (w : Option X) (old new : List (List ℕ × X)) → lookup (has_text k) new ≡ w →
    KeepsOthers same_key (has_text k) old new → HasAt k w old new
unfolding KeepsOthers
updated k w old new is others q =
    elim (eq_by_cmp bytes_cmp q k) as (λ b. eq_by_cmp bytes_cmp q k ≡ b → find bytes_cmp q new ≡ cond b w (find bytes_cmp q old)) [
      | true ↦ λ e. ap (λ bytes. find bytes_cmp bytes new) (maps.same_key exact_bytes q k e) ∙ found new k ∙ is
      | false ↦ λ e. found new q ∙ others (has_text q) (is_test q) (apart k q e) ∙ sym (found old q)
    ] refl

-- no change
pub others_same : {X : Type 0} (k : List ℕ) (pairs : List (List ℕ × X)) → KeepsOthers same_key (has_text k) pairs pairs
unfolding KeepsOthers
others_same k pairs other is_query away = refl

-- what was found, written back
pub written_back : {X : Type 0} (k : List ℕ) (w : X) (pairs : List (List ℕ × X)) → lookup (has_text k) pairs ≡ Some w → set_value (has_text k) pairs w ≡ pairs
written_back k w pairs is = set_value_same (has_text k) pairs w is
