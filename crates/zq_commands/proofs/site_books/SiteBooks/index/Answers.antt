use Rattle.std.proofs.Common.{ap, set, subst, sym, ◌∙◌}
use Rattle.std.proofs.lemmas.List.{set-get_or}
use Rattle.zq_commands.specs.SiteBooks.{AreOfSite}
use Rattle.zq_commands.proofs.site_books.SiteBooks.index.Goals as goal

pub invariant_of-self : goal.invariant_of-self
invariant_of-self c =
    let books = c.self.inside.books.items in
    let same = ap (set books c.args.heap) (c.index.ensures ∙ c.index_mut.ensures.value) ∙ set-get_or books c.args.heap c.index_mut.result.now in
    subst AreOfSite (sym same) c.self.invariant

pub returns-then-place-len : goal.returns-then-place-len
returns-then-place-len c =
    let books = c.self.inside.books.items in
    ap (set books c.args.heap) (c.index.ensures ∙ c.index_mut.ensures.value) ∙ set-get_or books c.args.heap c.index_mut.result.now ∙ c.self.view_is
