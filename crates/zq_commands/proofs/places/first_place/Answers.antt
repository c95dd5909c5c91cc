use Rattle.std.proofs.Common.{[], ap, max, option_map, sym, ◌∙◌, ◌∷◌}
use Rattle.std.specs.Prelude.{count_by, not}
use Rattle.zq_commands.proofs.ReadFrom.{count_until}
use Rattle.zq_commands.specs.FirstPairs.{lent_pair}
use Rattle.zq_commands.specs.Sections.{is_entered}
use Rattle.zq_commands.specs.Starts.{is_reached}
use Rattle.zq_model.specs.Lent.{queues_of}
use Rattle.zq_commands.proofs.places.first_place.Goals as goal

pub returns : goal.returns
returns g c = λ book at.
    let section = c.args.section.now in
    let t = c.args.is_turned in
    let q = queues_of (g.B.Books.lent c.args.books.now).rule (book ∷ []) c.args.key.now in
    c.max.ensures
    ∙ ap (λ n. max n c.count_to.result) (c.count_ahead-ahead.ensures book at)
    ∙ ap (λ n. max (count_by (λ pair. not (is_entered t section.min section.max pair)) q) n) (c.count_to.ensures book at)
    ∙ count_until t section.min section.max (lent_pair c.in-Some.pair) q
    ∙ sym (ap (λ first. count_by (λ pair. not (is_reached t (option_map lent_pair first) section.min section.max pair)) q) c.in-Some.is)
