use Rattle.std.proofs.Common.{ap, arith, length, refl, subst, sym, ◌∙◌, ◌≡◌}
use Rattle.zq_commands.specs.Lending.{IsLending, Lending}
use Rattle.zq_commands.proofs.indexing.index_all.Goals as goal

pub loop-place-init : goal.loop-place-init
loop-place-init g c = record { same = refl; keeps = g.met.B.Books.keeps_itself _ }

pub index-requires-clause-lent : goal.index-requires-clause-lent
index-requires-clause-lent g c = subst IsLending (sym c.loop-place.invariant.same) c.requires

pub index-requires-clause-inside : goal.index-requires-clause-inside
index-requires-clause-inside g c =
    let same : length (g.B.Books.lent c.loop-place.books).books ≡ length (g.B.Books.lent c.args.books.now).books = ap (λ (l : Lending). length l.books) c.loop-place.invariant.same in
    omega (arith, same, c.loop-place-test.true, c.len-place-end.ensures.number)

pub loop-place-preserved : goal.loop-place-preserved
loop-place-preserved g c = record {
  same = c.index.ensures.same ∙ c.loop-place.invariant.same;
  keeps = g.met.B.Books.keeps_through _ _ _ c.loop-place.invariant.keeps c.index.ensures.keeps;
}
