-- Operations that are looked at one after the other.

use Rattle.std.proofs.Common.{ap, append_assoc, append-nil, arith, Err, length, List, None, Ok, Option, refl, Some, subst, sym, [], ℕ, ◌++◌, ◌<◌, ◌∙◌, ◌∷◌, ◌≡◌}
use Rattle.std.proofs.lemmas.List.{length-append}
use Rattle.std.proofs.lemmas.List.Elements.{All-head, All-tail}
use Rattle.std.specs.List.{All, flat_map}
use Rattle.std.specs.Prelude.{Bool, IfOk, IfSome, Result, false}
use Rattle.std.specs.declared.alloc.AllocError.{AllocError}
use Rattle.zq_batch.specs.Batch.{AreBatch}
use Rattle.zq_delta.proofs.Again.{found_again, same_again}
use Rattle.zq_delta.specs.Fields.{fields_at}
use Rattle.zq_delta.specs.Reading.{fault_of, found_at, op_at}
use Rattle.zq_delta.specs.Spelling.{fields, op_spelling}
use Rattle.zq_delta.specs.declared.version.Version.TheVariants.{Two}
use Rattle.zq_dots.specs.Placed.{IsRanged, Placed}
use Rattle.zq_fields.specs.Fields.{byte_field}
use Rattle.zq_fields.specs.declared.fault.PartFault.{PartFault}

not_found : (rest : List ℕ) (fault : PartFault) → fields_at Two (length (2 ∷ rest)) rest ≡ Err fault → found_at (2 ∷ rest) ≡ Err (fault_of fault)
unfolding op_at
not_found rest fault e = rw e refl

-- where the fields are not read the bytes begin with no operation
pub fields_fail : (bytes rest : List ℕ) (fault : PartFault) → bytes ≡ 2 ∷ rest → fields_at Two (length bytes) rest ≡ Err fault → (o : Placed) (left : List ℕ) → IsRanged o → bytes ≡ op_spelling Two o ++ left → ⊥
fields_fail bytes rest fault first e o left ranged is =
    let at_rest : fields_at Two (length (2 ∷ rest)) rest ≡ Err fault = subst (λ b. fields_at Two (length b) rest ≡ Err fault) first e in
    let read : found_at bytes ≡ Ok (o, length (op_spelling Two o)) = ap found_at is ∙ found_again Two o left ranged (ranged.site, tt) in
    let fails : found_at bytes ≡ Err (fault_of fault) = ap found_at first ∙ not_found rest fault at_rest in
    cc

-- the version is another one
pub other_version : (bytes rest : List ℕ) (b : ℕ) → bytes ≡ b ∷ rest → (b ≡ 2 → ⊥) → (o : Placed) (left : List ℕ) → bytes ≡ op_spelling Two o ++ left → ⊥
other_version bytes rest b first other o left is =
    let both : b ∷ rest ≡ 2 ∷ (fields Two o ++ left) = sym first ∙ is in
    let two : b ≡ 2 = cc in
    other two

-- there is no byte
pub no_version : (bytes : List ℕ) → byte_field bytes ≡ None → (o : Placed) (left : List ℕ) → bytes ≡ op_spelling Two o ++ left → ⊥
no_version bytes none o left is =
    let some : byte_field bytes ≡ Some (2, fields Two o ++ left) = ap byte_field is in
    cc

-- what is left of the operations, behind those that were looked at
pub record AreLookedTo (views ops : List Placed) (bytes : List ℕ) : Type 0 where
  pub left : List Placed
  pub whole : ops ≡ views ++ left
  pub bytes_are : bytes ≡ flat_map (op_spelling Two) left
  pub ranged : All IsRanged left

pub looked_none : (ops : List Placed) (bytes : List ℕ) → All IsRanged ops → bytes ≡ flat_map (op_spelling Two) ops → AreLookedTo [] ops bytes
looked_none ops bytes ranged is = record { left = ops; whole = refl; bytes_are = is; ranged = ranged }

looked_by : (views left ops : List Placed) (v : Placed) (b0 b1 : List ℕ) → ops ≡ views ++ left → length views < length ops → b0 ≡ flat_map (op_spelling Two) left → All IsRanged left → b0 ≡ op_spelling Two v ++ b1 → IsRanged v → AreLookedTo (views ++ v ∷ []) ops b1
looked_by views [] ops v b0 b1 whole more bytes_are ranged is sound = absurd (omega (arith, ap length whole, length-append views []))
looked_by views (o ∷ left) ops v b0 b1 whole more bytes_are ranged is sound =
    let first = All-head IsRanged o left ranged in
    let same = same_again Two Two o v (flat_map (op_spelling Two) left) b1 first (first.site, tt) sound (sound.site, tt) (sym bytes_are ∙ is) in
    let here : o ≡ v = same.1.0 in
    record {
      left = left;
      whole = whole ∙ (ap (λ x. views ++ x ∷ left) here ∙ sym (append_assoc views (v ∷ []) left));
      bytes_are = sym same.1.1;
      ranged = All-tail IsRanged o left ranged;
    }

pub looked_more : (views ops : List Placed) (v : Placed) (b0 b1 : List ℕ) → AreLookedTo views ops b0 → length views < length ops → b0 ≡ op_spelling Two v ++ b1 → IsRanged v → AreLookedTo (views ++ v ∷ []) ops b1
looked_more views ops v b0 b1 l more is sound = looked_by views l.left ops v b0 b1 l.whole more l.bytes_are l.ranged is sound

there_by : (views left ops : List Placed) (bytes : List ℕ) → ops ≡ views ++ left → length views < length ops → bytes ≡ flat_map (op_spelling Two) left → All IsRanged left → ((o : Placed) (rest : List ℕ) → IsRanged o → bytes ≡ op_spelling Two o ++ rest → ⊥) → ⊥
there_by views [] ops bytes whole more bytes_are ranged none = absurd (omega (arith, ap length whole, length-append views []))
there_by views (o ∷ left) ops bytes whole more bytes_are ranged none = none o (flat_map (op_spelling Two) left) (All-head IsRanged o left ranged) bytes_are

-- one more is there
pub looked_there : (views ops : List Placed) (bytes : List ℕ) → AreLookedTo views ops bytes → length views < length ops → ((o : Placed) (rest : List ℕ) → IsRanged o → bytes ≡ op_spelling Two o ++ rest → ⊥) → ⊥
looked_there views ops bytes l more none = there_by views l.left ops bytes l.whole more l.bytes_are l.ranged none

all_by : (views left ops : List Placed) → ops ≡ views ++ left → length views ≡ length ops → views ≡ ops
all_by views [] ops whole all = sym (whole ∙ append-nil views)
all_by views (o ∷ left) ops whole all = absurd (omega (arith, ap length whole, length-append views (o ∷ left)))

-- all were looked at
pub looked_all : (views ops : List Placed) (bytes : List ℕ) → AreLookedTo views ops bytes → length views ≡ length ops → views ≡ ops
looked_all views ops bytes l all = all_by views l.left ops l.whole all

-- operations that are looked at have no spelling together where those that were looked at have none
pub other_ops : (r : Result Bool AllocError) (read views : List Placed) (count : ℕ) (spelled : List ℕ) → read ≡ views → IfOk r (λ is. is ≡ false → (heaps heap : ℕ) → AreBatch heaps heap read → ⊥) → ((ops : List Placed) → All IsRanged ops → length ops ≡ count → spelled ≡ flat_map (op_spelling Two) ops → views ≡ ops) → IfOk r (λ is. is ≡ false → (ops : List Placed) → All IsRanged ops → length ops ≡ count → spelled ≡ flat_map (op_spelling Two) ops → (heaps : ℕ) → (heap : ℕ) → AreBatch heaps heap ops → ⊥)
other_ops (Err e) read views count spelled is other same = tt
other_ops (Ok b) read views count spelled is other same = λ fails ops ranged size spells heaps heap are.
    other fails heaps heap (subst (AreBatch heaps heap) (sym (is ∙ same ops ranged size spells)) are)

pub if_some : {X : Type 0} (P : X → Type 0) (r : Option X) (x : X) → r ≡ Some x → IfSome r P → P x
if_some P r x is holds = subst (λ o. IfSome o P) is holds
