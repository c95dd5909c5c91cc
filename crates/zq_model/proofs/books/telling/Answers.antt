use Rattle.std.proofs.Common.{sym, ◌∙◌, ◌≡◌, ap}
use Rattle.std.specs.Prelude.{ℕ, List, true, ◌++◌}
use Rattle.zq_model.specs.Books.{Book, IsBook, operations_of}
use Rattle.zq_model.proofs.NewRecords.{records_are_new, records_of_heap, replay_is}
use Rattle.zq_model.proofs.TailSets.{new_is_tail, tail_closed, tail_replayed}
use Rattle.zq_model.proofs.Worlds.{world_left, world_swapped}
use Rattle.zq_model.proofs.CatchingUp.{Catches, peer_catches_up}
use Rattle.zq_model.proofs.JoinImages.{join-union}
use Rattle.zq_model.specs.Image.{image_of, join}
use Rattle.zq_model.specs.Operation.{Operation}
use Rattle.zq_model.specs.Sets.{IsClosed, IsWorld, covers, vector_of}
use Rattle.zq_model.specs.Tail.{IsTail, image_after_all, lacking, tail_set}
use Rattle.zq_model.proofs.books.telling.Goals as goal

-- the operations of a book's tail are a tail over the set of its base
tail_is : (K : ℕ) (b : Book) (S : List Operation) → IsBook b → IsWorld K (tail_set S (operations_of b.tail)) → IsClosed S → b.base ≡ image_of S b.heap → IsTail b.heap S (operations_of b.tail)
tail_is K b S is world closed base =
    new_is_tail K b.heap S (operations_of b.tail) world closed (records_of_heap b.heaps b.heap b.tail b.base is.steps)
    (rw (sym base) (records_are_new b.heaps b.heap b.tail b.base is.steps))

state_is : (K : ℕ) (b : Book) (S : List Operation) → IsBook b → IsWorld K (tail_set S (operations_of b.tail)) → IsClosed S → b.base ≡ image_of S b.heap → b.state ≡ image_of (tail_set S (operations_of b.tail)) b.heap
state_is K b S is world closed base =
    sym is.replay ∙ replay_is b.tail b.base ∙ ap (image_after_all (operations_of b.tail)) base ∙ tail_replayed K b.heap S (operations_of b.tail) world closed (tail_is K b S is world closed base)

pub returns-clause-state : goal.returns-clause-state
returns-clause-state c = state_is

-- what a peer takes, and where it leads
told : (K : ℕ) (b : Book) (S T : List Operation) → IsBook b → IsWorld K (tail_set S (operations_of b.tail) ++ T) → IsClosed S → IsClosed T → b.base ≡ image_of S b.heap →
    covers (vector_of T b.heap) b.base.vector ≡ true →
    Catches b.heap T (tail_set S (operations_of b.tail)) (lacking (vector_of T b.heap) (operations_of b.tail)) (image_of T b.heap)
told K b S T is world first second base covered =
    let whole = world_left K (tail_set S (operations_of b.tail)) T world in
    peer_catches_up K b.heap S T (operations_of b.tail) world first second (tail_is K b S is whole first base)
    (ap (λ a. covers (vector_of T b.heap) a.vector) (sym base) ∙ covered)

pub returns-clause-new : goal.returns-clause-new
returns-clause-new c = λ K b S T is world first second base covered. (told K b S T is world first second base covered).0

pub returns-clause-merges : goal.returns-clause-merges
returns-clause-merges c = λ K b S T is world first second base covered.
    let after = tail_set S (operations_of b.tail) in
    let whole = world_left K after T world in
    (told K b S T is world first second base covered).1
    ∙ sym (join-union K T after b.heap (world_swapped K after T world) second (tail_closed K b.heap S (operations_of b.tail) whole first (tail_is K b S is whole first base)))
    ∙ ap (join (image_of T b.heap)) (sym (state_is K b S is whole first base))
