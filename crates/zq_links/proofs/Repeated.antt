-- Operations that are read one after the other.

use Rattle.std.proofs.Common.{ap, arith, inl, inr, length, List, Err, Ok, refl, subst, suc, sym, [], ℕ, ◌+◌, ◌++◌, ◌-◌, ◌<◌, ◌≤◌, ◌∙◌, ◌∷◌, ◌≡◌}
use Rattle.std.specs.Prelude.{IsOk, Result}
use Rattle.std.proofs.lemmas.List.{length_push}
use Rattle.zq_dots.specs.Placed.{Placed}
use Rattle.zq_links.proofs.Taken.{more_taken, none_taken}
use Rattle.zq_links.specs.Answer.{IsOfMemoryAmong, IsOfMemoryFor}
use Rattle.zq_links.specs.Ops.{AreEachSpelled, IsOpSpelled}
use Rattle.zq_links.specs.Reading.{more_ops_at, op_in}
use Rattle.zq_links.specs.declared.frame_fault.FrameFault.{FrameFault}
use Rattle.zq_links.specs.declared.frame_fault.FrameFault.TheVariants.{NoMemory}

pub ops_none : (ops : List Placed) (bytes : List ℕ) → more_ops_at 0 ops bytes ≡ Ok (ops, bytes)
unfolding more_ops_at
ops_none ops bytes = refl

pub ops_more : (k : ℕ) (ops : List Placed) (o : Placed) (bytes rest : List ℕ) → op_in (length ops) bytes ≡ Ok (o, rest) → more_ops_at (suc k) ops bytes ≡ more_ops_at k (ops ++ o ∷ []) rest
unfolding more_ops_at
ops_more k ops o bytes rest e = rw e refl

ops_fail : (k : ℕ) (ops : List Placed) (bytes : List ℕ) (fault : FrameFault) → op_in (length ops) bytes ≡ Err fault → more_ops_at (suc k) ops bytes ≡ Err fault
unfolding more_ops_at
ops_fail k ops bytes fault e = rw e refl

-- i are read: all is where reading began, and bytes what is left
pub record AreReadTo (i : ℕ) (all bytes : List ℕ) (ops : List Placed) : Type 0 where
  pub reads : (k : ℕ) → more_ops_at (i + k) [] all ≡ more_ops_at k ops bytes
  pub found : AreEachSpelled ops all bytes
  pub size : length ops ≡ i

pub read_start : (all : List ℕ) → AreReadTo 0 all all []
read_start all = record {
  reads = λ k. let same : 0 + k ≡ k = omega arith in ap (λ n. more_ops_at n [] all) same;
  found = none_taken all;
  size = refl;
}

pub read_more : (i : ℕ) (all bytes rest : List ℕ) (ops : List Placed) (o : Placed) → op_in i bytes ≡ Ok (o, rest) → IsOpSpelled o bytes rest → AreReadTo i all bytes ops → AreReadTo (i + 1) all rest (ops ++ o ∷ [])
read_more i all bytes rest ops o e is r = record {
  reads = λ k. let same : (i + 1) + k ≡ i + suc k = omega arith in
      ap (λ n. more_ops_at n [] all) same ∙ (r.reads (suc k) ∙ ops_more k ops o bytes rest (ap (λ n. op_in n bytes) r.size ∙ e));
  found = more_taken ops o all bytes rest r.found is;
  size = length_push ops o ∙ ap (λ n. n + 1) r.size;
}

pub read_fails : (count i : ℕ) (all bytes : List ℕ) (ops : List Placed) (fault : FrameFault) → i < count → op_in i bytes ≡ Err fault → AreReadTo i all bytes ops → more_ops_at count [] all ≡ Err fault
read_fails count i all bytes ops fault below e r =
    let left = count - (i + 1) in
    let same : count ≡ i + suc left = omega arith in
    ap (λ n. more_ops_at n [] all) same ∙ (r.reads (suc left) ∙ ops_fail left ops bytes fault (ap (λ n. op_in n bytes) r.size ∙ e))

pub read_done : (count i : ℕ) (all bytes : List ℕ) (ops : List Placed) → count ≤ i → i ≤ count → AreReadTo i all bytes ops → more_ops_at count [] all ≡ Ok (ops, bytes)
read_done count i all bytes ops past within r =
    let same : count ≡ i + 0 = omega arith in
    ap (λ n. more_ops_at n [] all) same ∙ (r.reads 0 ∙ ops_none ops bytes)

-- the next one is there, and so all up to it are
pub read_there : (i : ℕ) (all bytes : List ℕ) (ops : List Placed) (o : Placed) (rest : List ℕ) → op_in i bytes ≡ Ok (o, rest) → AreReadTo i all bytes ops → IsOk (more_ops_at (suc i) [] all)
read_there i all bytes ops o rest e r =
    let same : suc i ≡ i + suc 0 = omega arith in
    let is : more_ops_at (suc i) [] all ≡ Ok (ops ++ o ∷ [], rest) =
    ap (λ n. more_ops_at n [] all) same ∙ (r.reads (suc 0) ∙ (ops_more 0 ops o bytes rest (ap (λ n. op_in n bytes) r.size ∙ e) ∙ ops_none (ops ++ o ∷ []) rest)) in
    subst IsOk (sym is) refl

there_by : (i : ℕ) (all bytes : List ℕ) (ops : List Placed) (r : Result (Placed × List ℕ) FrameFault) → op_in i bytes ≡ r → IsOk r → AreReadTo i all bytes ops → IsOk (more_ops_at (suc i) [] all)
there_by i all bytes ops (Ok x) e there r = read_there i all bytes ops x.0 x.1 e r
there_by i all bytes ops (Err fault) e there r = absurd (cc)

-- there was no memory for it
pub no_memory_at : (count i : ℕ) (all bytes : List ℕ) (ops : List Placed) (fault : FrameFault) → i < count → IsOfMemoryFor i bytes fault → AreReadTo i all bytes ops → IsOfMemoryAmong count all fault
no_memory_at count i all bytes ops fault below none r = (i, below, there_by i all bytes ops (op_in i bytes) refl none.1 r, inr none.0)

-- there was none for its place
pub no_place_at : (count i : ℕ) (all bytes : List ℕ) (ops : List Placed) (o : Placed) (rest : List ℕ) → i < count → op_in i bytes ≡ Ok (o, rest) → AreReadTo i all bytes ops → IsOfMemoryAmong count all NoMemory
no_place_at count i all bytes ops o rest below e r = (i, below, read_there i all bytes ops o rest e r, inl refl)
