-- The bytes of the keys and members of records.

use Rattle.std.proofs.Common.{List, [], ap, arith, drop, drop-cons, get_or, length, max, min, refl, suc, sym, true, ℕ, ◌+◌, ◌++◌, ◌<◌, ◌∙◌, ◌∷◌, ◌≡◌, ◌≤◌}
use Rattle.std.proofs.lemmas.Bool.Decides.{nat_tests}
use Rattle.std.proofs.lemmas.List.Sums.{sum_by-append}
use Rattle.std.specs.Prelude.{if◌then◌else◌, nat_le}
use Rattle.zq_model.specs.Books as book
use Rattle.zq_model.specs.Reach.{bytes_in, bytes_of, cut_to_bytes}
use Rattle.zq_journal.specs.Records.{bytes_kept, bytes_kept_in, change_of, cut_kept, placed_in, records_over, vector_past, whole, written_in}
use Rattle.zq_journal.specs.declared.records.Change as code_change
use Rattle.zq_journal.specs.declared.records.Change.TheVariants as kept
use Rattle.zq_journal.specs.declared.records.Record as code

-- those of a record's operation
pub bytes_whole : (h K : ℕ) (v : List ℕ) (what : code_change.Change) →
    length (placed_in (whole h K v what)).operation.key + length (placed_in (whole h K v what)).operation.member ≡ bytes_kept what
bytes_whole h K v (kept.Made own) = refl
bytes_whole h K v (kept.Took op) = refl

bytes_written : (h K : ℕ) (v : List ℕ) (stamp : ℕ) (what : code_change.Change) →
    bytes_of (record { stamp = stamp; change = change_of (whole h K v what) }) ≡ bytes_kept what
bytes_written h K v stamp (kept.Made own) = refl
bytes_written h K v stamp (kept.Took op) = refl

-- those of records are those of the book's
pub bytes_in-written : (h K : ℕ) (v : List ℕ) (records : List code.Record) → bytes_in (written_in (records_over h K v records)) ≡ bytes_kept_in records
bytes_in-written h K v [] = refl
bytes_in-written h K v (r ∷ records) =
    let rest : List book.Record = written_in (records_over h K (vector_past v (whole h K v r.what)) records) in
    let first : book.Record = record { stamp = r.stamp; change = change_of (whole h K v r.what) } in
    omega (arith, sum_by-append bytes_of (first ∷ []) rest, bytes_written h K v r.stamp r.what, bytes_in-written h K (vector_past v (whole h K v r.what)) records)

-- and as many of the oldest go
pub cut_to_bytes-written : (most h K : ℕ) (v : List ℕ) (records : List code.Record) → cut_to_bytes most (written_in (records_over h K v records)) ≡ cut_kept most records
cut_to_bytes-written most h K v [] = refl
cut_to_bytes-written most h K v (r ∷ records) =
    ap (λ n. if nat_le n most then 0 else suc (cut_to_bytes most (written_in (records_over h K (vector_past v (whole h K v r.what)) records)))) (bytes_in-written h K v (r ∷ records))
    ∙ ap (λ n. if nat_le (bytes_kept_in (r ∷ records)) most then 0 else suc n) (cut_to_bytes-written most h K (vector_past v (whole h K v r.what)) records)

pub first_of : (records : List code.Record) (i : ℕ) (r : code.Record) → i < length records → r ≡ get_or records i r → drop i records ≡ r ∷ drop (i + 1) records
first_of records i r below is =
    let more : suc i ≡ i + 1 = omega arith in
    drop-cons records i r below ∙ ap (λ k. get_or records i r ∷ drop k records) more ∙ ap (λ x. x ∷ drop (i + 1) records) (sym is)

-- all of them are kept where they have few bytes
pub none_cut : (most : ℕ) (records : List code.Record) → bytes_kept_in records ≤ most → cut_kept most records ≡ 0
none_cut most [] light = refl
none_cut most (r ∷ records) light =
    let test : nat_le (bytes_kept_in (r ∷ records)) most ≡ true = grind (arith, nat_tests) in
    ap (λ b. if b then 0 else suc (cut_kept most records)) test

-- one record more
pub bytes_more : (records : List code.Record) (r : code.Record) → bytes_kept_in (records ++ r ∷ []) ≡ bytes_kept_in records + bytes_kept r.what
bytes_more [] r = omega arith
bytes_more (q ∷ records) r = omega (arith, bytes_more records r)

-- a cut that takes no more than all looks for what is heavy among those alone that may go
pub cut_once : (n most long heavy : ℕ) → min most (max long heavy) ≤ n → min (max long (min (min n most) heavy)) (min n most) ≡ min most (max long heavy)
cut_once n most long heavy within = omega arith
