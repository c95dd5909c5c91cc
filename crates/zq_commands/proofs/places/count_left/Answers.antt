use Rattle.std.proofs.Common.{[], ap, option_map, sym, ◌-◌, ◌∙◌, ◌∷◌}
use Rattle.std.specs.Prelude.{count_by, not}
use Rattle.zq_commands.proofs.ReadFrom.{count_early, none_left}
use Rattle.zq_commands.specs.FirstPairs.{lent_pair}
use Rattle.zq_commands.specs.Sections.{is_entered}
use Rattle.zq_commands.specs.Starts.{is_left}
use Rattle.zq_commands.specs.Weaving.{goes_before}
use Rattle.zq_model.specs.Lent.{queues_of}
use Rattle.zq_commands.proofs.places.count_left.Goals as goal

pub returns-in_default : goal.returns-in_default
returns-in_default g c = λ book at.
    let section = c.args.section.now in
    let q = queues_of (g.B.Books.lent c.args.books.now).rule (book ∷ []) c.args.key.now in
    none_left c.args.is_turned section.min section.max q ∙ sym (ap (λ first. count_by (is_left c.args.is_turned (option_map lent_pair first) section.min section.max) q) c.in_default.is)

pub returns : goal.returns
returns g c = λ book at.
    let section = c.args.section.now in
    let t = c.args.is_turned in
    let q = queues_of (g.B.Books.lent c.args.books.now).rule (book ∷ []) c.args.key.now in
    let ahead = count_by (λ pair. not (is_entered t section.min section.max pair)) q in
    c.saturating_sub.ensures
    ∙ ap (λ n. n - c.count_ahead.result) (c.count_to-before.ensures book at)
    ∙ ap (λ n. count_by (λ other. goes_before t other (lent_pair c.in-Some.pair)) q - n) (c.count_ahead.ensures book at)
    ∙ count_early t section.min section.max (lent_pair c.in-Some.pair) q
    ∙ sym (ap (λ first. count_by (is_left t (option_map lent_pair first) section.min section.max) q) c.in-Some.is)
