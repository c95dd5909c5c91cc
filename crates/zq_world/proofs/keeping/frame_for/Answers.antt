use Rattle.std.proofs.Common.{List, Ok, ap, arith, length, refl, sym, ◌∙◌}
use Rattle.std.proofs.lemmas.Option.{slice_get_read}
use Rattle.std.specs.Prelude.{slice_get}
use Rattle.zq_model.specs.Books.{Book}
use Rattle.zq_world.proofs.keeping.frame_for.Goals as goal

pub returns-clause-some : goal.returns-clause-some
returns-clause-some c =
    let sites = c.args.sites.now in
    let books = c.deref.result.now in
    let site = slice_get_read sites (length sites) c.in-Merge.from c.in-Some.books.now refl c.in-Some.ensures.lookup.3.0 c.in-Some.ensures.lookup.1 in
    let book = slice_get_read books (length books) c.in-Merge.heap c.in-Some-get.book.now refl c.in-Some-get.ensures.lookup.3.0 c.in-Some-get.ensures.lookup.1 in
    rw c.in-Merge.is (
      omega (arith, c.if-moment-at.false),
      (
        c.in-Some.books.now,
        (
          c.in-Some-get.book.now,
          site,
          ap (λ (xs : List Book). slice_get xs c.in-Merge.heap) (sym c.deref.ensures.value) ∙ book,
          c.in_ok-frame.ensures.again ∙ ap (λ s. Ok s) c.shard.ensures.same,
        ),
      ),
    )
