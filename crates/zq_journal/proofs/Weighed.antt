-- How many bytes the keys and members of a book's records have at most.

use Rattle.std.proofs.Common.{List, Option, arith, length, refl, subst, sym, ℕ, ◌*◌, ◌^◌, ◌+◌, ◌≡◌, ◌≤◌}
use Rattle.std.proofs.lemmas.List.Elements.{All-map, All-weaker}
use Rattle.std.proofs.lemmas.List.Sums.{sum_by-le}
use Rattle.std.proofs.lemmas.Nat.{mul-le}
use Rattle.std.specs.List.{All}
use Rattle.zq_journal.proofs.Missing.{operation_is}
use Rattle.zq_journal.proofs.Weights.{bytes_in-written}
use Rattle.zq_journal.specs.Books.{LAST_STAMP}
use Rattle.zq_journal.specs.Records.{IsRecord, Record, bytes_kept_in, leaf_of, leaves_of, records_in, written_in}
use Rattle.zq_journal.specs.Standing.{IsStanding}
use Rattle.zq_journal.specs.declared.records.Record as code
use Rattle.zq_model.specs.Books as book
use Rattle.zq_model.specs.Limits.{TailLimits}
use Rattle.zq_model.specs.Operation.{LONGEST, Operation}
use Rattle.zq_model.specs.Reach.{bytes_of}
use Rattle.zq_model.specs.Undoing.{Leaf}
use Rattle.zq_shard.specs.Shard.{HeapImage}

-- a record's key and member are no longer than each may be
record_bytes : (h K : ℕ) (r : Record) → IsRecord h K r → bytes_of (leaf_of r).written ≤ 2 * LONGEST
record_bytes h K r is =
    subst (λ (o : Operation). length o.key + length o.member ≤ 2 * LONGEST) (sym (operation_is r.what)) (omega (arith, is.op.sound.key, is.op.sound.member))

module _ (s : HeapImage) (base : List ℕ) (tail : List code.Record) (limits : TailLimits) (handed : Option ℕ) (stamp count : ℕ) (is : IsStanding s base (records_in s base tail) limits handed stamp count) where
  each_bytes : All (λ (r : book.Record). bytes_of r ≤ 2 * LONGEST) (written_in (records_in s base tail))
  each_bytes =
      let P : book.Record → Type 0 = λ r. bytes_of r ≤ 2 * LONGEST in
      All-map P (λ (l : Leaf). l.written) (leaves_of (records_in s base tail))
      (All-map (λ (l : Leaf). P l.written) leaf_of (records_in s base tail)
      (All-weaker (IsRecord s.heap s.heaps) (λ r. P (leaf_of r).written) (λ r own. record_bytes s.heap s.heaps r own) (records_in s base tail) is.each))

  pub bytes_bounded : bytes_kept_in tail ≤ 2 ^ 83
  unfolding LAST_STAMP
  bytes_bounded =
      let all = written_in (records_in s base tail) in
      let sum = sum_by-le bytes_of (2 * LONGEST) all each_bytes in
      let few : length all ≤ LAST_STAMP = omega (arith, is.book.count, is.last_count) in
      let most = mul-le (length all) (2 * LONGEST) LAST_STAMP (2 * LONGEST) few (omega arith) in
      let bound : LAST_STAMP * (2 * LONGEST) ≡ 2 ^ 83 = refl in
      let same = bytes_in-written s.heap s.heaps base tail in
      omega (arith, sum, most, bound, same)
