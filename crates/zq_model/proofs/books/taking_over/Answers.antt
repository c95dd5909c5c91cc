use Rattle.std.proofs.Common.{ap, sym, ◌∙◌}
use Rattle.std.specs.Prelude.{List, [], true, ℕ, ◌++◌, ◌+◌, ◌≡◌}
use Rattle.zq_model.proofs.CatchingUp.{peer_catches_up}
use Rattle.zq_model.proofs.JoinImages.{join-union}
use Rattle.zq_model.proofs.Same.{image_of-same}
use Rattle.zq_model.proofs.Worlds.{union_turned, world_swapped}
use Rattle.zq_model.specs.Books.{Book, taken_over}
use Rattle.zq_model.specs.Image.{Image, image_of, join}
use Rattle.zq_model.specs.Operation.{Operation}
use Rattle.zq_model.specs.Sets.{IsClosed, IsWorld, covers, vector_of}
use Rattle.zq_model.proofs.books.taking_over.Goals as goal

-- a peer that lacks nothing of a set catches up with it over no tail
has_all : (K : ℕ) (b : Book) (S T : List Operation) → IsWorld K (S ++ T) → IsClosed S → IsClosed T → b.state ≡ image_of S b.heap →
    covers (image_of T b.heap).vector b.state.vector ≡ true → image_of T b.heap ≡ image_of (S ++ T) b.heap
has_all K b S T world first second state covered =
    (peer_catches_up K b.heap S T [] world first second (tt {0}) (ap (λ (a : Image). covers (vector_of T b.heap) a.vector) (sym state) ∙ covered)).1
    ∙ sym (image_of-same K (S ++ T) (T ++ S) b.heap (union_turned S T) world)

pub returns-clause-union : goal.returns-clause-union
returns-clause-union c = has_all

pub returns-clause-merges : goal.returns-clause-merges
returns-clause-merges c = λ K b stamp S T world first second state covered.
    let joined : image_of T b.heap ≡ join b.state (image_of T b.heap) =
    has_all K b S T world first second state covered
    ∙ sym (join-union K S T b.heap world first second)
    ∙ ap (λ a. join a (image_of T b.heap)) (sym state) in
    ap (λ (a : Image). record {
      heap = b.heap;
      heaps = b.heaps;
      rule = b.rule;
      base = a;
      state = a;
      tail = [];
      stamp = stamp;
      count = b.count + 1;
      limits = b.limits;
      handed = b.handed;
    }) joined
