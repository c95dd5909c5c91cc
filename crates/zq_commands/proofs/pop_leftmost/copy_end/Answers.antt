use Rattle.std.proofs.Common.{ap, sym, ◌∙◌}
use Rattle.std.specs.Option.{option_map}
use Rattle.zq_commands.proofs.Ended.{end_home, end_there}
use Rattle.zq_commands.specs.FirstPairs.{lent_pair}
use Rattle.zq_commands.specs.Lending.{queues_in}
use Rattle.zq_commands.proofs.pop_leftmost.copy_end.Goals as goal

pub copy_pair-requires-clause-home : goal.copy_pair-requires-clause-home
copy_pair-requires-clause-home g c =
    end_home c.args.is_turned (g.B.Books.lent c.args.books.now) c.requires.lent c.args.key.now (lent_pair c.in-Ok-Some.pair)
    (sym c.in-Ok-Some.ensures ∙ ap (option_map lent_pair) c.in-Ok-Some.field-0-is)

pub unreachable-requires : goal.unreachable-requires
unreachable-requires g c =
    end_there c.args.is_turned (queues_in (g.B.Books.lent c.args.books.now) c.args.key.now) c.requires.there
    (sym c.in-Ok-None.ensures ∙ ap (option_map lent_pair) c.in-Ok-None.field-0-is)
