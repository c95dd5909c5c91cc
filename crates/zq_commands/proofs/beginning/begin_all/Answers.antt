use Rattle.std.proofs.Common.{List, Some, [], ap, arith, drop, get_or, length, map, refl, set, suc, sym, take, zero, ℕ, ◌++◌, ◌<◌, ◌∙◌, ◌∷◌, ◌≡◌}
use Rattle.std.proofs.lemmas.List.Edits.{map_over_more}
use Rattle.std.specs.Prelude.{slice_get}
use Rattle.zq_commands.specs.Beginning.{begun}
use Rattle.zq_commands.proofs.beginning.begin_all.Goals as goal

-- the next element is as it was
next_is : {X : Type 0} (f : X → X) (xs : List X) (i : ℕ) (d : X) → i < length xs → slice_get xs i ≡ Some (get_or (map f (take i xs) ++ drop i xs) i d)
next_is f [] i d inside = absurd (omega (arith, inside))
next_is f (x ∷ xs) zero d inside = refl
next_is f (x ∷ xs) (suc i) d inside = next_is f xs i d (omega (arith, inside))

pub begin_in-requires-clause-stamp : goal.begin_in-requires-clause-stamp
begin_in-requires-clause-stamp c =
    let i = c.loop-book.book-index in
    let x = c.book-item.result in
    c.requires.below i (get_or c.loop-book.books i x)
    (next_is (begun c.args.stamp) c.args.books.now i x c.loop-book-test.true ∙ ap (λ books. Some (get_or books i x)) (sym c.loop-book.invariant))

pub loop-book-preserved : goal.loop-book-preserved
loop-book-preserved c =
    let i = c.loop-book.book-index in
    let x = c.book-item.result in
    ap (λ b. set c.loop-book.books i b) c.begin_in.ensures
    ∙ map_over_more (begun c.args.stamp) c.args.books.now c.loop-book.books i (get_or c.loop-book.books i x) c.loop-book-test.true c.loop-book.invariant
    (ap (λ d. get_or c.loop-book.books i d) c.book-item.is)
