-- What the places of members say.
use Rattle.std.specs.Prelude.{List, Some, [], get_or, length, slice_get, ℕ, ◌<◌, ◌≡◌}
use Rattle.std.proofs.Common.{ap, arith, sym, ◌∙◌}
use Rattle.std.proofs.lemmas.List.{length-map}
use Rattle.std.proofs.lemmas.Option.{get_or_from_slice_get}
use Rattle.std.specs.FinMap.{get}
use Rattle.std.specs.Map.{keys_of}
use Rattle.std.proofs.lemmas.Map.Entries.{lookup_from_place}
use Rattle.indexmap.specs.IndexMap.{IndexMap, IsUnique}
use Rattle.zq_posheap.proofs.Entries.{same_key_laws, seen_in, seen_is}
use Rattle.zq_posheap.proofs.Scored.{text_there}
use Rattle.zq_posheap.specs.Moves.{shown}
use Rattle.zq_posheap.specs.Order.{same_key}
use Rattle.zq_posheap.specs.declared.heap.ScoredValue.{ScoredValue}

-- as many places as entries
pub place_within : {W : Type 0} (es : List (List ℕ × W)) (i : ℕ) → i < length (keys_of es) → i < length es
place_within es i within = omega (arith, within, length-map es (λ e. e.0))

pub within_place : {W : Type 0} (es : List (List ℕ × W)) (i : ℕ) → i < length es → i < length (keys_of es)
within_place es i within = omega (arith, within, length-map es (λ e. e.0))

-- the member at its place
pub member_there : {W : Type 0} (es : List (List ℕ × W)) (i : ℕ) (member : List ℕ) → slice_get (keys_of es) i ≡ Some member → get_or (keys_of es) i [] ≡ member
member_there es i member at = get_or_from_slice_get (keys_of es) i member [] at

-- what is seen of the member at a place
pub seen_there : {V S : Type 0} (m : IndexMap (List ℕ) (ScoredValue V) S) (i : ℕ) (e : List ℕ × ScoredValue V) → IsUnique same_key m → slice_get m.entries i ≡ Some e →
    get (seen_in shown m.entries) (get_or (keys_of m.entries) i []) ≡ Some (shown e.1)
seen_there m i e unique at =
    ap (get (seen_in shown m.entries)) (sym (text_there m.entries i e.0 e.1 at))
    ∙ seen_is shown m.entries e.0 e.1 (sym (lookup_from_place same_key_laws m.entries i e.0 e.1 unique at))
