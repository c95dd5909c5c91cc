-- Where memory is refused among members and keys.

use Rattle.std.proofs.Common.{Err, List, Ok, Option, Result, inr, refl, subst, ℕ, ◌<◌, ◌≡◌}
use Rattle.std.specs.Prelude.{IsOk}
use Rattle.zq_merge.proofs.BuiltStates.{AreKeysTo, AreMembersTo}
use Rattle.zq_merge.proofs.Repeated.{refused_next}
use Rattle.zq_merge.specs.Fields.{additions_at, last_key, last_member, later_key_at, later_member_at, member_at, placed_member_at}
use Rattle.zq_merge.specs.Frame.{Frame}
use Rattle.zq_merge.specs.Keys.{KeyRows, MemberRow}
use Rattle.zq_merge.specs.Reading.{Read, ◌>>=◌}
use Rattle.zq_merge.specs.Refused.{IsInKey, IsInMember, IsInSomeKeys, IsInSomeMembers}
use Rattle.zq_merge.specs.Spelling.{key_bytes, member_bytes}
use Rattle.zq_merge.specs.declared.fault.StateFault.{StateFault}
use Rattle.zq_merge.specs.declared.version.Version.{Version}
use Rattle.zq_shard.specs.Shard.{HeapImage}

first_is_read : {X Y : Type 0} (r : Result X StateFault) (next : X → Result Y StateFault) (y : Y) → (r >>= next) ≡ Ok y → IsOk r
first_is_read (Ok x) next y is = refl
first_is_read (Err fault) next y is = absurd cc

placed_in : (v : Version) (whole : ℕ) (frame : Frame) (key : List ℕ) (before : Option (List ℕ)) (bytes : List ℕ) (y : MemberRow × List ℕ) (r : Read (List ℕ)) → placed_member_at frame.heap key before bytes ≡ r
    → (r >>= λ member. additions_at v whole frame.vector member.1 >>= λ additions. Ok (record { member = member.0; additions = additions.0 }, additions.1)) ≡ Ok y → IsInMember v whole frame key before bytes
placed_in v whole frame key before bytes y (Ok (member, rest)) placed is =
    record {
      found = member;
      rest = rest;
      reads = placed;
      there = inr (first_is_read (additions_at v whole frame.vector rest) (λ additions. Ok (record { member = member; additions = additions.0 }, additions.1)) y is);
    }
placed_in v whole frame key before bytes y (Err fault) placed is = absurd cc

-- memory is refused for a member that is read
pub member_in : (v : Version) (whole : ℕ) (frame : Frame) (key : List ℕ) (before : Option (List ℕ)) (bytes rest : List ℕ) (m : MemberRow) → member_at v whole frame key before bytes ≡ Ok (m, rest) → IsInMember v whole frame key before bytes
unfolding member_at
member_in v whole frame key before bytes rest m is = placed_in v whole frame key before bytes (m, rest) (placed_member_at frame.heap key before bytes) refl is

-- memory is refused in the member that is read next
pub members_refused : (v : Version) (whole : ℕ) (frame : Frame) (keys : List KeyRows) (key : List ℕ) (count i : ℕ) (all bytes : List ℕ) (last : Option (List ℕ)) (members : List MemberRow) (s : HeapImage) → i < count → IsInMember v whole frame key last bytes → AreMembersTo v whole frame keys key count i all bytes last members s → IsInSomeMembers v whole frame key count all
members_refused v whole frame keys key count i all bytes last members s below here to =
    refused_next (later_member_at v whole frame key) (member_bytes v) (λ before rest. IsInMember v whole frame key (last_member before) rest) count i all bytes members below
    (subst (λ l. IsInMember v whole frame key l bytes) to.last_is here) to.read

-- memory is refused in the key that is read next
pub keys_refused : (v : Version) (whole : ℕ) (frame : Frame) (count i : ℕ) (all bytes : List ℕ) (last : Option (List ℕ)) (keys : List KeyRows) (s : HeapImage) → i < count → IsInKey v whole frame last bytes → AreKeysTo v whole frame count i all bytes last keys s → IsInSomeKeys v whole frame count all
keys_refused v whole frame count i all bytes last keys s below here to =
    refused_next (later_key_at v whole frame) (key_bytes v) (λ before rest. IsInKey v whole frame (last_key before) rest) count i all bytes keys below
    (subst (λ l. IsInKey v whole frame l bytes) to.last_is here) to.read
