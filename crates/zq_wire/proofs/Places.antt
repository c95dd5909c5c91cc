-- The place of a frame in the code's list.
use Rattle.std.proofs.Common.{◌≡◌, ℕ, zero, suc, ◌+◌, ◌<◌, Bool, true, false, List, [], ◌∷◌, length, map, get_or, Some, None, refl, sym, ap, ◌∙◌, arith}
use Rattle.std.specs.Prelude.{◌||◌, cond, position, slice_set}
use Rattle.std.specs.List.{position_from}
use Rattle.std.proofs.lemmas.List.Quantifiers.{position-Some}
use Rattle.std.proofs.lemmas.Iterator.Adapters.{position_from-zero}
use Rattle.zq_wire.specs.declared.topic.Topic.{Topic}
use Rattle.zq_wire.specs.declared.parcel.Parcel.{Parcel}
use Rattle.zq_wire.specs.Outbox.{parcel_of, put_in, waits}
use Rattle.zq_wire.specs.Topic.{same_topic}

abbrev is_about : Topic → Parcel → Bool
is_about topic p = same_topic p.topic topic

-- what stands at the first place of a topic is replaced
set_first : (topic : Topic) (new : Parcel) (parcels : List Parcel) (i : ℕ) → new.topic ≡ topic → i < length parcels → is_about topic (get_or parcels i new) ≡ true
    → ((k : ℕ) → k < i → is_about topic (get_or parcels k new) ≡ false) → map parcel_of (slice_set parcels i new) ≡ put_in topic new.frame.items (map parcel_of parcels)
set_first topic new [] i is within at before = absurd (omega arith)
set_first topic new (p ∷ parcels) zero is within at before = rw at (ap (λ topic. (topic, new.frame.items) ∷ map parcel_of parcels) is)
set_first topic new (p ∷ parcels) (suc i) is within at before =
    let apart : is_about topic p ≡ false = before 0 (omega arith) in
    rw apart (ap (λ rest. parcel_of p ∷ rest) (set_first topic new parcels i is (omega arith) at (λ k below. before (suc k) (omega arith))))

pub placed : (topic : Topic) (new : Parcel) (parcels : List Parcel) (i : ℕ) → new.topic ≡ topic → position (is_about topic) parcels ≡ Some i
    → map parcel_of (slice_set parcels i new) ≡ put_in topic new.frame.items (map parcel_of parcels)
placed topic new parcels i is found =
    let at = position-Some (is_about topic) parcels i new found in
    set_first topic new parcels i is at.0 at.1 at.2

none_from : (topic : Topic) (parcels : List Parcel) (i : ℕ) → position_from (is_about topic) i parcels ≡ None → waits topic (map parcel_of parcels) ≡ false
none_from topic [] i none = refl
none_from topic (p ∷ parcels) i none =
    let goes : Bool → Type 0 = λ b. cond b (Some i) (position_from (is_about topic) (i + 1) parcels) ≡ None → (b || waits topic (map parcel_of parcels)) ≡ false in
    let cases : (b : Bool) → goes b = λ b. elim b as goes [ true ↦ λ some. absurd cc | false ↦ λ later. none_from topic parcels (i + 1) later ] in
    cases (is_about topic p) none

pub absent : (topic : Topic) (parcels : List Parcel) → position (is_about topic) parcels ≡ None → waits topic (map parcel_of parcels) ≡ false
absent topic parcels none = none_from topic parcels 0 (sym (position_from-zero (is_about topic) parcels) ∙ none)
