-- Operations that are read and written one after the other.

use Rattle.std.proofs.Common.{ap, append_assoc, append-nil, arith, drop, Err, get_or, inl, inr, length, List, None, Ok, Option, refl, Some, subst, suc, sym, take, [], ℕ, ◌+◌, ◌++◌, ◌-◌, ◌<◌, ◌∙◌, ◌∷◌, ◌≡◌, ◌≤◌}
use Rattle.std.proofs.Math.ListN.{set}
use Rattle.std.proofs.lemmas.List.{get_or-set_same, length_push, take-append-drop, take_more}
use Rattle.std.proofs.lemmas.List.Elements.{All-head, All-nil, All-push, All-tail}
use Rattle.std.specs.List.{All}
use Rattle.std.specs.Prelude.{Bool, IfOk, IfSome, IsOk, MatchResult, Result, Vec, true}
use Rattle.std.specs.declared.alloc.AllocError.{AllocError}
use Rattle.std.specs.declared.alloc.Global.{Global}
use Rattle.zq_batch.specs.Answer.{Answers}
use Rattle.zq_dots.specs.declared.op.Op.{Op}
use Rattle.zq_batch.proofs.OpsAgain.{latest_has, op_again}
use Rattle.zq_batch.proofs.Varints.{varint_again}
use Rattle.zq_batch.specs.Batch.{AreBatch, IsOfHeap, MOST_OPS}
use Rattle.zq_batch.specs.Before.{AreNext, IsNext, base_from, is_of, last_of, top_from}
use Rattle.zq_batch.specs.Fields.{op_at}
use Rattle.zq_batch.specs.Reading.{batch_at, each_at, end_at, fault_of, front_at, ops_at, whole_of}
use Rattle.zq_batch.specs.Spelling.{KIND, batch_bytes, each_bytes, op_bytes}
use Rattle.zq_batch.specs.Varint.{varint}
use Rattle.zq_batch.specs.declared.fault.BatchFault.{BatchFault}
use Rattle.zq_batch.specs.declared.fault.BatchFault.TheVariants as batch
use Rattle.zq_dots.specs.Placed.{IsRanged, Placed}
use Rattle.zq_fields.proofs.PartsAgain.{byte_in_again, heap_read}
use Rattle.zq_fields.specs.declared.fault.PartFault.{PartFault}
use Rattle.zq_fields.specs.declared.heap_no.HeapNo.{HeapNo}
use Rattle.zq_model.specs.Sets.{IsHeaps, SITES}

-- ---- one more

each_end : (whole : ℕ) (heap : HeapNo) (ops : List Placed) (bytes : List ℕ) → each_at whole heap 0 ops bytes ≡ Ok (ops, bytes)
unfolding each_at
each_end whole heap ops bytes = refl

each_more : (whole k : ℕ) (heap : HeapNo) (ops : List Placed) (o : Placed) (bytes rest : List ℕ) → op_at whole heap ops bytes ≡ Ok (o, rest) → each_at whole heap (suc k) ops bytes ≡ each_at whole heap k (ops ++ o ∷ []) rest
unfolding each_at
each_more whole k heap ops o bytes rest e = rw e refl

each_fails : (whole k : ℕ) (heap : HeapNo) (ops : List Placed) (bytes : List ℕ) (fault : PartFault) → op_at whole heap ops bytes ≡ Err fault → each_at whole heap (suc k) ops bytes ≡ Err fault
unfolding each_at
each_fails whole k heap ops bytes fault e = rw e refl

each_none : (before : List Placed) → each_bytes before [] ≡ []
unfolding each_bytes
each_none before = refl

each_front : (before ops : List Placed) (o : Placed) → each_bytes before (o ∷ ops) ≡ op_bytes before o ++ each_bytes (before ++ o ∷ []) ops
unfolding each_bytes
each_front before ops o = refl

pub each_push : (before ops : List Placed) (o : Placed) → each_bytes before (ops ++ o ∷ []) ≡ each_bytes before ops ++ op_bytes (before ++ ops) o
each_push before [] o =
    each_front before [] o ∙ (ap (λ x. op_bytes before o ++ x) (each_none (before ++ o ∷ [])) ∙ (append-nil (op_bytes before o)
    ∙ (ap (λ b. op_bytes b o) (sym (append-nil before)) ∙ ap (λ x. x ++ op_bytes (before ++ []) o) (sym (each_none before)))))
each_push before (p ∷ ops) o =
    let first = op_bytes before p in
    let later = each_bytes (before ++ p ∷ []) ops in
    each_front before (ops ++ o ∷ []) p
    ∙ (ap (λ x. first ++ x) (each_push (before ++ p ∷ []) ops o ∙ ap (λ b. later ++ op_bytes b o) (append_assoc before (p ∷ []) ops))
    ∙ (sym (append_assoc first later (op_bytes (before ++ p ∷ ops) o)) ∙ ap (λ x. x ++ op_bytes (before ++ p ∷ ops) o) (sym (each_front before ops p))))

pub next_push : (before ops : List Placed) (o : Placed) → AreNext before ops → IsNext (before ++ ops) o → AreNext before (ops ++ o ∷ [])
next_push before [] o are is = (subst (λ b. IsNext b o) (append-nil before) is, tt)
next_push before (p ∷ ops) o are is = (are.0, next_push (before ++ p ∷ []) ops o are.1 (subst (λ b. IsNext b o) (sym (append_assoc before (p ∷ []) ops)) is))

-- each is the next behind those before it
pub next_at : (before ops later : List Placed) (o : Placed) → AreNext before (ops ++ o ∷ later) → IsNext (before ++ ops) o
next_at before [] later o are = subst (λ b. IsNext b o) (sym (append-nil before)) are.0
next_at before (p ∷ ops) later o are = subst (λ b. IsNext b o) (append_assoc before (p ∷ []) ops) (next_at (before ++ p ∷ []) ops later o are.1)

-- ---- reading

-- i are read: all is where reading began, and bytes what is left
pub record AreReadTo (whole : ℕ) (heap : HeapNo) (i : ℕ) (all bytes : List ℕ) (ops : List Placed) : Type 0 where
  pub reads : (k : ℕ) → each_at whole heap (i + k) [] all ≡ each_at whole heap k ops bytes
  pub found : all ≡ each_bytes [] ops ++ bytes
  pub size : length ops ≡ i
  pub next : AreNext [] ops
  pub of_heap : All (IsOfHeap heap.heaps heap.heap) ops

pub read_start : (whole : ℕ) (heap : HeapNo) (all : List ℕ) → AreReadTo whole heap 0 all all []
read_start whole heap all = record {
  reads = λ k. let same : 0 + k ≡ k = omega arith in ap (λ n. each_at whole heap n [] all) same;
  found = ap (λ x. x ++ all) (sym (each_none []));
  size = refl;
  next = tt;
  of_heap = All-nil (IsOfHeap heap.heaps heap.heap);
}

pub read_more : (whole i : ℕ) (heap : HeapNo) (all bytes rest : List ℕ) (ops : List Placed) (o : Placed) → op_at whole heap ops bytes ≡ Ok (o, rest) → bytes ≡ op_bytes ops o ++ rest → IsNext ops o → IsOfHeap heap.heaps heap.heap o → AreReadTo whole heap i all bytes ops → AreReadTo whole heap (i + 1) all rest (ops ++ o ∷ [])
read_more whole i heap all bytes rest ops o e is next of_heap r = record {
  reads = λ k. let same : (i + 1) + k ≡ i + suc k = omega arith in
      ap (λ n. each_at whole heap n [] all) same ∙ (r.reads (suc k) ∙ each_more whole k heap ops o bytes rest e);
  found = r.found ∙ (ap (λ x. each_bytes [] ops ++ x) is ∙ (sym (append_assoc (each_bytes [] ops) (op_bytes ops o) rest) ∙ ap (λ x. x ++ rest) (sym (each_push [] ops o))));
  size = length_push ops o ∙ ap (λ n. n + 1) r.size;
  next = next_push [] ops o r.next next;
  of_heap = All-push (IsOfHeap heap.heaps heap.heap) ops o r.of_heap of_heap;
}

pub read_fails : (whole count i : ℕ) (heap : HeapNo) (all bytes : List ℕ) (ops : List Placed) (fault : PartFault) → i < count → op_at whole heap ops bytes ≡ Err fault → AreReadTo whole heap i all bytes ops → each_at whole heap count [] all ≡ Err fault
read_fails whole count i heap all bytes ops fault below e r =
    let left = count - (i + 1) in
    let same : count ≡ i + suc left = omega arith in
    ap (λ n. each_at whole heap n [] all) same ∙ (r.reads (suc left) ∙ each_fails whole left heap ops bytes fault e)

pub read_done : (whole count i : ℕ) (heap : HeapNo) (all bytes : List ℕ) (ops : List Placed) → count ≤ i → i ≤ count → AreReadTo whole heap i all bytes ops → each_at whole heap count [] all ≡ Ok (ops, bytes)
read_done whole count i heap all bytes ops past within r =
    let same : count ≡ i + 0 = omega arith in
    ap (λ n. each_at whole heap n [] all) same ∙ (r.reads 0 ∙ each_end whole heap ops bytes)

-- ---- what was written is read again

each_again : (whole : ℕ) (heap : HeapNo) (before ops : List Placed) (rest : List ℕ) → All IsRanged before → All IsRanged ops → All (IsOfHeap heap.heaps heap.heap) ops → AreNext before ops → each_at whole heap (length ops) before (each_bytes before ops ++ rest) ≡ Ok (before ++ ops, rest)
each_again whole heap before [] rest ranged sound of_heap next =
    ap (λ x. each_at whole heap 0 before (x ++ rest)) (each_none before) ∙ (each_end whole heap before rest ∙ ap (λ ops. Ok (ops, rest)) (sym (append-nil before)))
each_again whole heap before (o ∷ ops) rest ranged sound of_heap next =
    let later = each_bytes (before ++ o ∷ []) ops ++ rest in
    let first = All-head IsRanged o ops sound in
    let spelled : each_bytes before (o ∷ ops) ++ rest ≡ op_bytes before o ++ later = ap (λ x. x ++ rest) (each_front before ops o) ∙ append_assoc (op_bytes before o) (each_bytes (before ++ o ∷ []) ops) rest in
    ap (each_at whole heap (suc (length ops)) before) spelled
    ∙ (each_more whole (length ops) heap before o (op_bytes before o ++ later) later (op_again whole heap before o later ranged first (All-head (IsOfHeap heap.heaps heap.heap) o ops of_heap) next.0)
    ∙ (each_again whole heap (before ++ o ∷ []) ops rest (All-push IsRanged before o ranged first) (All-tail IsRanged o ops sound) (All-tail (IsOfHeap heap.heaps heap.heap) o ops of_heap) next.1
    ∙ ap (λ x. Ok (x, rest)) (append_assoc before (o ∷ []) ops)))

front_again : (h : HeapNo) (n : ℕ) (rest : List ℕ) → IsHeaps h.heaps → h.heap < h.heaps → 1 ≤ n → n ≤ MOST_OPS → front_at (KIND ∷ h.heaps ∷ h.heap ∷ (varint n ++ rest)) ≡ Ok ((h, n), rest)
unfolding front_at
front_again h n rest heaps heap some few =
    let whole = length (KIND ∷ h.heaps ∷ h.heap ∷ (varint n ++ rest)) in
    rw (byte_in_again whole KIND (KIND + 1) KIND (h.heaps ∷ h.heap ∷ (varint n ++ rest)) (omega arith) (omega arith), heap_read whole h (varint n ++ rest) heaps heap, varint_again whole 1 MOST_OPS n rest some few (omega arith)) refl

-- the heaps of operations that are in range
heaps_of : (heaps heap : ℕ) (ops : List Placed) → 1 ≤ length ops → All IsRanged ops → All (IsOfHeap heaps heap) ops → IsHeaps heaps × (heap < heaps)
heaps_of heaps heap [] some sound of_heap = absurd (omega arith)
heaps_of heaps heap (o ∷ ops) some sound of_heap =
    let first = All-head IsRanged o ops sound in
    let is = All-head (IsOfHeap heaps heap) o ops of_heap in
    let same_heaps = is.0 in
    let same_heap = is.1 in
    let below = first.heap in
    (subst IsHeaps is.0 first.heaps, omega arith)

ops_of : (h : HeapNo) (n : ℕ) (ops : List Placed) (b0 b1 b2 : List ℕ) → front_at b0 ≡ Ok ((h, n), b1) → each_at (length b0) h n [] b1 ≡ Ok (ops, b2) → ops_at b0 ≡ Ok (ops, b2)
unfolding ops_at
ops_of h n ops b0 b1 b2 front each = rw (front, each) refl

pub ops_again : (heaps heap : ℕ) (ops : List Placed) (rest : List ℕ) → All IsRanged ops → AreBatch heaps heap ops → ops_at (batch_bytes heaps heap ops ++ rest) ≡ Ok (ops, rest)
unfolding batch_bytes
ops_again heaps heap ops rest sound are =
    let h : HeapNo = record { heap = heap; heaps = heaps } in
    let b1 = each_bytes [] ops ++ rest in
    let b0 = KIND ∷ heaps ∷ heap ∷ (varint (length ops) ++ b1) in
    let ranges = heaps_of heaps heap ops are.some sound are.of_heap in
    ap (λ x. ops_at (KIND ∷ heaps ∷ heap ∷ x)) (append_assoc (varint (length ops)) (each_bytes [] ops) rest)
    ∙ ops_of h (length ops) ops b0 b1 rest (front_again h (length ops) b1 ranges.0 ranges.1 are.some are.few) (each_again (length b0) h [] ops rest (All-nil IsRanged) sound are.of_heap are.next)

pub batch_again : (heaps heap : ℕ) (ops : List Placed) → All IsRanged ops → AreBatch heaps heap ops → batch_at (batch_bytes heaps heap ops) ≡ Ok ops
batch_again heaps heap ops sound are =
    ap whole_of (ap ops_at (sym (append-nil (batch_bytes heaps heap ops))) ∙ ops_again heaps heap ops [] sound are)

pub same_again : (g h g2 h2 : ℕ) (a b : List Placed) (x y : List ℕ) → All IsRanged a → AreBatch g h a → All IsRanged b → AreBatch g2 h2 b → batch_bytes g h a ++ x ≡ batch_bytes g2 h2 b ++ y → (a ≡ b) × (x ≡ y)
same_again g h g2 h2 a b x y sa ia sb ib same =
    let p : List Placed × List ℕ = (a, x) in
    let q : List Placed × List ℕ = (b, y) in
    let both : ◌≡◌ {A = Result (List Placed × List ℕ) PartFault} (Ok p) (Ok q) = sym (ops_again g h a x sa ia) ∙ (ap ops_at same ∙ ops_again g2 h2 b y sb ib) in
    let pair : p ≡ q = cc in
    (λ i. (pair i).0, λ i. (pair i).1)

-- ---- counters

gap_by : (s m : ℕ) (r : Option Placed) → s < SITES → IfSome r IsRanged → get_or (base_from s r) s 0 ≤ m → m ≤ top_from r → IfSome r (λ p. m + 1 ≡ p.operation.n + 1)
gap_by s m None below ranged less most = tt
gap_by s m (Some p) below ranged less most =
    let wide = ranged.seen.wide in
    let here : get_or (set p.operation.seen s p.operation.n) s 0 ≡ p.operation.n = get_or-set_same p.operation.seen s p.operation.n 0 (omega arith) in
    omega arith

next_of_some : (n m : ℕ) (r : Option Placed) → n ≡ m + 1 → IfSome r (λ p. m + 1 ≡ p.operation.n + 1) → IfSome r (λ p. n ≡ p.operation.n + 1)
next_of_some n m None is next = tt
next_of_some n m (Some p) is next = is ∙ next

pub no_gap : (before ops : List Placed) (o : Placed) → All IsRanged before → IsRanged o → AreNext [] (before ++ o ∷ ops) → IfSome (last_of o.operation.site before) (λ p. o.operation.n ≡ p.operation.n + 1)
no_gap before ops o ranged sound are =
    let s = o.operation.site in
    let m = get_or o.operation.seen s 0 in
    let next : IsNext before o = next_at [] before ops o are in
    next_of_some o.operation.n m (last_of s before) sound.next (gap_by s m (last_of s before) sound.site (latest_has IsRanged (is_of s) before ranged) (next.rises s) next.own)

-- ---- the answer of reading

pub front_fails : (bytes : List ℕ) (fault : PartFault) → front_at bytes ≡ Err fault → batch_at bytes ≡ Err (fault_of fault)
unfolding ops_at
front_fails bytes fault e = rw e refl

pub each_fault : (bytes b1 : List ℕ) (h : HeapNo) (n : ℕ) (fault : PartFault) → front_at bytes ≡ Ok ((h, n), b1) → each_at (length bytes) h n [] b1 ≡ Err fault → batch_at bytes ≡ Err (fault_of fault)
unfolding ops_at
each_fault bytes b1 h n fault front e = rw (front, e) refl

pub whole_is : (bytes b1 b2 : List ℕ) (h : HeapNo) (n : ℕ) (ops : List Placed) → front_at bytes ≡ Ok ((h, n), b1) → each_at (length bytes) h n [] b1 ≡ Ok (ops, b2) → batch_at bytes ≡ end_at (ops, b2)
whole_is bytes b1 b2 h n ops front each = ap whole_of (ops_of h n ops bytes b1 b2 front each)

pub front_there : (bytes b1 : List ℕ) (h : HeapNo) (n : ℕ) → front_at bytes ≡ Ok ((h, n), b1) → IsOk (front_at bytes)
front_there bytes b1 h n e = subst IsOk (sym e) refl

-- ---- writing

pub each_written : (old out new : List ℕ) (views : List Placed) (v : Placed) (i : ℕ) → i < length views → v ≡ get_or views i v → out ≡ old ++ each_bytes [] (take i views) → new ≡ out ++ op_bytes (take i views) v → new ≡ old ++ each_bytes [] (take (i + 1) views)
each_written old out new views v i below is had more =
    let taken : take (i + 1) views ≡ take i views ++ v ∷ [] = take_more views i v below ∙ ap (λ x. take i views ++ x ∷ []) (sym is) in
    more ∙ (ap (λ x. x ++ op_bytes (take i views) v) had ∙ (append_assoc old (each_bytes [] (take i views)) (op_bytes (take i views) v)
    ∙ ap (λ x. old ++ x) (sym (each_push [] (take i views) v) ∙ ap (each_bytes []) (sym taken))))

pub next_written : (views : List Placed) (v : Placed) (i : ℕ) → i < length views → v ≡ get_or views i v → AreNext [] (take i views) → IsNext (take i views) v → AreNext [] (take (i + 1) views)
next_written views v i below is are next =
    let taken : take (i + 1) views ≡ take i views ++ v ∷ [] = take_more views i v below ∙ ap (λ x. take i views ++ x ∷ []) (sym is) in
    subst (AreNext []) (sym taken) (next_push [] (take i views) v are next)

-- one of all is the next behind those before it
pub next_in : (views : List Placed) (v : Placed) (i : ℕ) → i < length views → v ≡ get_or views i v → AreNext [] views → IsNext (take i views) v
next_in views v i below is are =
    let taken : take (i + 1) views ≡ take i views ++ v ∷ [] = take_more views i v below ∙ ap (λ x. take i views ++ x ∷ []) (sym is) in
    let all : views ≡ take i views ++ v ∷ drop (i + 1) views = sym (take-append-drop (i + 1) views) ∙ (ap (λ x. x ++ drop (i + 1) views) taken ∙ append_assoc (take i views) (v ∷ []) (drop (i + 1) views)) in
    next_at [] (take i views) (drop (i + 1) views) v (subst (AreNext []) all are)

-- ---- what the code has at its end

-- what was read is a batch, and the bytes are its spelling
pub batch_found : (h : HeapNo) (n : ℕ) (ops views : List Placed) (bytes b1 b2 : List ℕ) → bytes ≡ KIND ∷ h.heaps ∷ h.heap ∷ (varint n ++ b1) → b1 ≡ each_bytes [] views ++ b2 → b2 ≡ [] → length views ≡ n → 1 ≤ n → n ≤ MOST_OPS → AreNext [] views → All (IsOfHeap h.heaps h.heap) views → ops ≡ views → (heaps : ℕ) × (heap : ℕ) × AreBatch heaps heap ops × (bytes ≡ batch_bytes heaps heap ops)
unfolding batch_bytes
batch_found h n ops views bytes b1 b2 first each end count some few next of_heap same =
    let are : AreBatch h.heaps h.heap views = record { some = omega arith; few = omega arith; of_heap = of_heap; next = next } in
    let all : b1 ≡ each_bytes [] views = each ∙ (ap (λ x. each_bytes [] views ++ x) end ∙ append-nil (each_bytes [] views)) in
    (h.heaps, h.heap, subst (AreBatch h.heaps h.heap) (sym same) are, first ∙ ((λ i. KIND ∷ h.heaps ∷ h.heap ∷ (varint (sym count i) ++ all i)) ∙ ap (λ x. KIND ∷ h.heaps ∷ h.heap ∷ (varint (length x) ++ each_bytes [] x)) (sym same)))

-- where reading gives operations, they are the answer, or there was no memory
pub value_or_no_memory : (bytes : List ℕ) (r : Result (Vec Op Global) BatchFault) (read : Result (List Placed) BatchFault) (ops : List Placed) → Answers bytes (λ v. v.items) r read → read ≡ Ok ops → MatchResult r (λ v. v.items ≡ ops) (λ fault. fault ≡ batch.NoMemory)
value_or_no_memory bytes (Ok x) read ops answers is = cc
value_or_no_memory bytes (Err fault) read ops (inl none) is = none.0
value_or_no_memory bytes (Err fault) read ops (inr e) is = absurd (cc)

-- the bytes of operations behind those that stood there
pub batch_written : (r : Result Bool AllocError) (old a b new : List ℕ) (views : List Placed) (h : HeapNo) → a ≡ old ++ KIND ∷ h.heaps ∷ h.heap ∷ [] → b ≡ a ++ varint (length views) → IfOk r (λ is. is ≡ true → new ≡ b ++ each_bytes [] views) → IfOk r (λ is. is ≡ true → AreNext [] views) → 1 ≤ length views → length views ≤ MOST_OPS → All (IsOfHeap h.heaps h.heap) views → IfOk r (λ is. is ≡ true → (heaps : ℕ) × (heap : ℕ) × AreBatch heaps heap views × (new ≡ old ++ batch_bytes heaps heap views))
unfolding batch_bytes
batch_written (Err e) old a b new views h first second each next some few of_heap = tt
batch_written (Ok is) old a b new views h first second each next some few of_heap = λ holds.
    (let all : new ≡ old ++ (KIND ∷ h.heaps ∷ h.heap ∷ (varint (length views) ++ each_bytes [] views)) =
    each holds ∙ (ap (λ x. x ++ each_bytes [] views) (second ∙ ap (λ x. x ++ varint (length views)) first)
    ∙ (append_assoc (old ++ KIND ∷ h.heaps ∷ h.heap ∷ []) (varint (length views)) (each_bytes [] views) ∙ append_assoc old (KIND ∷ h.heaps ∷ h.heap ∷ []) (varint (length views) ++ each_bytes [] views))) in
    (h.heaps, h.heap, record { some = some; few = few; of_heap = of_heap; next = next holds }, all))

pub none_written : (old : List ℕ) → old ≡ old ++ each_bytes [] []
none_written old = sym (append-nil old) ∙ ap (λ x. old ++ x) (sym (each_none []))
