use Rattle.std.proofs.Common.{Some, drop, length, ◌<◌, ◌≡◌, ◌∷◌, []}
use Rattle.std.specs.Prelude.{slice_get}
use Rattle.zq_commands.specs.VecBooks.{rule_in}
use Rattle.zq_model.specs.Books.{Book}
use Rattle.zq_model.specs.Lent.{queues_of}
use Rattle.zq_world.proofs.near.least_of.Given as goal

abbrev pub invariant-loop-place : goal.invariant-loop-place
invariant-loop-place l = record {
  within : l.place < length l.books.items;
  inside : l.near < length l.books.items;
  first : (near : Book) → slice_get l.books.items l.near ≡ Some near →
      slice_get (queues_of (rule_in l.books.items) (near ∷ []) l.key) 0 ≡ slice_get (queues_of (rule_in l.books.items) (drop l.place l.books.items) l.key) 0;
}

abbrev pub decreases-loop-place : goal.decreases-loop-place
decreases-loop-place l = l.place
