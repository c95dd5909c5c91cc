use Rattle.std.proofs.Common.{[], ap, ◌∙◌, ◌∷◌}
use Rattle.zq_commands.proofs.Sections.{none_ahead}
use Rattle.zq_commands.specs.Sections.{is_entered}
use Rattle.zq_model.specs.Lent.{queues_of}
use Rattle.zq_semantics.specs.Ranges.{is_above_limit, is_below_limit}
use Rattle.zq_commands.proofs.places.count_ahead.Goals as goal

pub returns-in-Highest : goal.returns-in-Highest
returns-in-Highest g c = λ book at.
    let section = c.args.section.now in
    none_ahead c.args.is_turned section.min section.max (queues_of (g.B.Books.lent c.args.books.now).rule (book ∷ []) c.args.key.now)
    (λ pair. ap (λ t. is_entered t section.min section.max pair) c.if-is_turned.true ∙ ap (λ limit. is_below_limit section.max.is_out limit pair.0) c.in-Highest.is)

pub returns-in-Lowest : goal.returns-in-Lowest
returns-in-Lowest g c = λ book at.
    let section = c.args.section.now in
    none_ahead c.args.is_turned section.min section.max (queues_of (g.B.Books.lent c.args.books.now).rule (book ∷ []) c.args.key.now)
    (λ pair. ap (λ t. is_entered t section.min section.max pair) c.if-is_turned.false ∙ ap (λ limit. is_above_limit section.min.is_out limit pair.0) c.in-Lowest.is)
