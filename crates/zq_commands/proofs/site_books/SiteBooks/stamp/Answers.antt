use Rattle.std.proofs.Common.{List, ap, arith, length, subst, ◌∙◌}
use Rattle.std.specs.Prelude.{slice_get}
use Rattle.zq_model.specs.Books.{Book}
use Rattle.zq_journal.specs.Books.{LAST_STAMP}
use Rattle.zq_model.specs.Sets.{IsIn}
use Rattle.zq_model.proofs.Read.{placed_in}
use Rattle.zq_commands.proofs.site_books.SiteBooks.stamp.Goals as goal

pub greatest_stamp-requires : goal.greatest_stamp-requires
greatest_stamp-requires c = let long = ap length c.deref.ensures.value in omega (arith, long, c.self.invariant.number.0)

pub returns-clause-dated : goal.returns-clause-dated
unfolding LAST_STAMP
returns-clause-dated c = (
  c.greatest_stamp.ensures.bounded,
  λ book here.
      let at = placed_in book c.args.self.now here in
      c.greatest_stamp.ensures.above at.0 book (ap (λ (xs : List Book). slice_get xs at.0) (c.deref.ensures.value ∙ c.self.view_is) ∙ at.1),
)

pub returns-clause-greatest : goal.returns-clause-greatest
returns-clause-greatest c =
    let it = c.greatest_stamp.ensures.among in
    (it.0, subst (IsIn it.0) (c.deref.ensures.value ∙ c.self.view_is) it.1, it.2)
