use Rattle.std.proofs.Common.{ap, arith, length, subst, ◌∙◌}
use Rattle.std.proofs.lemmas.Option.{slice_get_read, slice_get_within}
use Rattle.std.specs.Prelude.{Some, refl, slice_get, ℕ, ◌<◌, ◌≡◌, ◌≤◌}
use Rattle.zq_dots.specs.Rule.{rule_of}
use Rattle.zq_model.specs.Books.{Book}
use Rattle.zq_shard.specs.Shard.{HeapImage}
use Rattle.zq_spread.proofs.Settled.{made}
use Rattle.zq_spread.proofs.site.Site.of_books.Goals as goal
use Rattle.zq_spread.specs.SiteBuilders.{AreSettled}
use Rattle.zq_spread.specs.Makers.{IsInBounds}

pub returns-clause-made : goal.returns-clause-made
returns-clause-made c =
    let books = c.args.books.items in
    let slots = c.build-slots.result.0 in
    let passes = c.build-slots.result.1.items in
    let builder = c.in-Ok.ensures in
    let settled : AreSettled (length books) c.args.passes c.rule-rule.result books slots.items passes =
    subst (λ r. AreSettled (length books) c.args.passes r books slots.items passes) builder.rule_is
    (subst (λ n. AreSettled (length books) n c.in-Ok.builder.rule books slots.items passes) builder.settled.passes_are c.build-slots.ensures) in
    let bounds : IsInBounds c.len.result c.args.passes = c.are_in_bounds.ensures.0 c.if-not-are_in_bounds.false in
    let some : 1 ≤ c.args.passes = bounds.2 in
    let ruled : (h : ℕ) (book : Book) → slice_get books h ≡ Some book → rule_of c.rule-rule.result ≡ book.rule =
    λ h book at.
    let low = slice_get_within books h book at in
    let within : 0 < length books = omega (arith, low) in
    let first : slice_get books 0 ≡ Some c.index.result.now = slice_get_read books (length books) 0 c.index.result.now refl within c.index.ensures in
    c.rule-rule.ensures ∙ ap (λ (s : HeapImage). s.rule) c.shard.ensures.same ∙ c.requires.books.rule 0 h c.index.result.now book first at in
    made c.args.number c.args.passes books _ passes refl some ruled settled
