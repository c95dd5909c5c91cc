use Rattle.std.proofs.Common.{map, subst}
use Rattle.std.proofs.lemmas.List.{drop_all}
use Rattle.zq_model.specs.Books.{Book}
use Rattle.zq_model.specs.Sets.{IsIn}
use Rattle.zq_commands.proofs.vec_books.place_of.Goals as goal

pub unreachable-requires : goal.unreachable-requires
unreachable-requires c =
    absurd (subst (λ books. IsIn c.args.heap (map (λ (book : Book). book.heap) books)) (drop_all c.loop-place.place c.args.books.now c.loop-place-test.false) c.loop-place.invariant)
