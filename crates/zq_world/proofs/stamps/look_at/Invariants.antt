use Rattle.std.proofs.Common.{Some, ℕ, ◌<◌, ◌≡◌, ◌≤◌}
use Rattle.std.specs.Prelude.{slice_get}
use Rattle.zq_model.specs.Books.{Book}
use Rattle.zq_model.specs.Sets.{IsCounters}
use Rattle.zq_semantics.specs.Run.{LAST_COUNT}
use Rattle.zq_world.proofs.stamps.look_at.Given as goal

abbrev pub invariant-loop-book : goal.invariant-loop-book
invariant-loop-book l = (place : ℕ) (book : Book) → place < l.book-index → slice_get l.books place ≡ Some book → IsCounters book.state.vector × (book.count ≤ LAST_COUNT)
