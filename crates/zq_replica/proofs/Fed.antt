-- Operations that what comes of a heap takes, one after the other.

use Rattle.std.proofs.Common.{List, [], ap, length, refl, subst, sym, take, ℕ, ⊎_elim, ◌+◌, ◌++◌, ◌<◌, ◌∷◌, ◌∙◌, ◌≡◌, ◌≤◌}
use Rattle.std.proofs.lemmas.Bool.{cases_eq, true≢false}
use Rattle.std.proofs.lemmas.List.{take_all, take_more}
use Rattle.std.specs.Prelude.{IsErrOf, Ok, is_ok, slice_index_or, ◌≢◌}
use Rattle.zq_dots.specs.Placed.{Placed}
use Rattle.zq_model.specs.Heaps.{heap_of}
use Rattle.zq_model.specs.Image.{image_taken}
use Rattle.zq_model.specs.Sets as sets
use Rattle.zq_model.specs.Sets.{taken_of}
use Rattle.zq_replica.specs.Gathered.{AreFed, IsNextOp, fed_by}
use Rattle.zq_shard.specs.Shard.{HeapImage, IsOfHeap}
use Rattle.zq_shard.specs.declared.taken.Taken.{Taken}
use Rattle.zq_stage.specs.Piece.{Staged, holding}
use Rattle.zq_stage.specs.declared.faults.TakeFault.{TakeFault}
use Rattle.zq_transfer.specs.Transfer.{Received}

-- two numbers that are not apart are equal
not_apart : (a b : ℕ) → ((a ≡ b → ⊥) → ⊥) → a ≡ b
not_apart a b close = ⊎_elim (λ same. same) (λ apart. absurd (close apart)) (cases_eq a b)

-- an operation that is not of another heap is of this one
of_heap : (s : HeapImage) (o : Placed) → ((IsOfHeap s o → ⊥) → ⊥) → IsOfHeap s o
of_heap s o close = record {
  heap = not_apart o.operation.heap s.heap (λ apart. close (λ of. apart of.heap));
  heaps = not_apart o.heaps s.heaps (λ apart. close (λ of. apart of.heaps));
  placed = not_apart (heap_of o.operation.key o.operation.member s.heaps) s.heap
      (λ apart. close (λ of. apart of.placed));
}

-- what was taken was not refused
pub no_fault : (taken : Taken) (fault : TakeFault) → IsErrOf (Ok taken) fault → ⊥
no_fault taken fault is = true≢false (ap is_ok is)

-- a stage in the place of another, at the same spot
fed_is : (r s : Received) (t : Staged) → s.staged ≡ t → s.spot ≡ r.spot →
    s ≡ record r { staged = t }
fed_is r s t staged spot = λ i. record { staged = staged i; spot = spot i }

-- one is taken
pub fed_once : (o : Placed) (r s : Received) → ((IsOfHeap r.staged.held o → ⊥) → ⊥) →
    (IsOfHeap r.staged.held o
    × (taken_of r.staged.held.image.vector o.operation ≡ sets.Early) → ⊥) →
    s.staged ≡ holding (image_taken o.operation r.staged.held.image) r.staged →
    s.spot ≡ r.spot → AreFed (o ∷ []) r s
fed_once o r s close gap staged spot =
    let of = of_heap r.staged.held o close in
    ((of, λ early. gap (of, early)), fed_is r s (holding (image_taken o.operation r.staged.held.image) r.staged) staged spot)

-- one more is taken
fed_more : (ops : List Placed) (o : Placed) (first mid last : Received) → AreFed ops first mid →
    AreFed (o ∷ []) mid last → AreFed (ops ++ o ∷ []) first last
fed_more [] o first mid last was now = subst (λ (r : Received). AreFed (o ∷ []) r last) was now
fed_more (x ∷ ops) o first mid last was now =
    (was.0, fed_more ops o (fed_by x first) mid last was.1 now)

pub fed_on : (ops : List Placed) (i : ℕ) (o : Placed) (first mid last : Received) →
    i < length ops → o ≡ slice_index_or ops i o → AreFed (take i ops) first mid →
    AreFed (o ∷ []) mid last → AreFed (take (i + 1) ops) first last
fed_on ops i o first mid last less is was now =
    let more : take (i + 1) ops ≡ take i ops ++ o ∷ [] = take_more ops i o less ∙ ap (λ p. take i ops ++ p ∷ []) (sym is) in
    subst (λ (xs : List Placed). AreFed xs first last) (sym more) (fed_more (take i ops) o first mid last was now)

-- all are taken
pub fed_all : (ops : List Placed) (i : ℕ) (first last : Received) → length ops ≤ i →
    AreFed (take i ops) first last → AreFed ops first last
fed_all ops i first last most fed =
    subst (λ (xs : List Placed). AreFed xs first last) (take_all i ops most) fed
