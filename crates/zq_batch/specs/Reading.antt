-- Reading a batch, with the first fault that is met.

use Rattle.std.specs.Prelude.{Err, List, Ok, Result, [], length, suc, zero, ℕ, ◌+◌, ◌++◌, ◌∷◌}
use Rattle.zq_batch.specs.Batch.{MOST_OPS}
use Rattle.zq_batch.specs.Fields.{op_at}
use Rattle.zq_batch.specs.Spelling.{KIND}
use Rattle.zq_batch.specs.Varint.{varint_in}
use Rattle.zq_batch.specs.declared.fault.BatchFault.{BatchFault}
use Rattle.zq_batch.specs.declared.fault.BatchFault.TheVariants as batch
use Rattle.zq_dots.specs.Placed.{Placed}
use Rattle.zq_fields.specs.Reading.{Read, byte_in, heap_at, ◌>>=◌}
use Rattle.zq_fields.specs.declared.fault.PartFault.{PartFault}
use Rattle.zq_fields.specs.declared.fault.PartFault.TheVariants.{Field, Length, Score, Short}
use Rattle.zq_fields.specs.declared.heap_no.HeapNo.{HeapNo}

-- the heap, and the number of operations, behind the kind
unfoldable pub front_at : List ℕ → Read (HeapNo × ℕ)
front_at bytes = do
  kind ← byte_in (length bytes) KIND (KIND + 1) bytes
  heap ← heap_at (length bytes) kind.1
  count ← varint_in (length bytes) 1 MOST_OPS heap.1
  Ok ((heap.0, count.0), count.1)

-- k operations behind these
unfoldable pub each_at : ℕ → HeapNo → ℕ → List Placed → List ℕ → Read (List Placed)
each_at whole heap zero ops bytes = Ok (ops, bytes)
each_at whole heap (suc k) ops bytes = do
  o ← op_at whole heap ops bytes
  each_at whole heap k (ops ++ o.0 ∷ []) o.1

-- what the bytes begin with
unfoldable pub ops_at : List ℕ → Read (List Placed)
ops_at bytes = do
  front ← front_at bytes
  each_at (length bytes) front.0.0 front.0.1 [] front.1

-- The fault of a part is the batch's. It has the fault of a length and of a score by its place.
abbrev pub fault_of : PartFault → BatchFault
fault_of Short = batch.Short
fault_of (Field place) = batch.Field place
fault_of Length = batch.Short
fault_of Score = batch.Short

-- nothing follows
abbrev pub end_at : List Placed × List ℕ → Result (List Placed) BatchFault
end_at (ops, []) = Ok ops
end_at (ops, b ∷ bytes) = Err batch.Rest

abbrev pub whole_of : Result (List Placed × List ℕ) PartFault → Result (List Placed) BatchFault
whole_of (Ok x) = end_at x
whole_of (Err fault) = Err (fault_of fault)

-- the operations that the bytes are
abbrev pub batch_at : List ℕ → Result (List Placed) BatchFault
batch_at bytes = whole_of (ops_at bytes)
