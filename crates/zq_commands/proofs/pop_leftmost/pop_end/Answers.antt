use Rattle.std.proofs.Common.{subst, sym}
use Rattle.zq_commands.proofs.Ended.{end_short, memory_kept}
use Rattle.zq_words.specs.Limits.{IsShort}
use Rattle.zq_commands.proofs.pop_leftmost.pop_end.Goals as goal

pub drop_end-requires-clause-home : goal.drop_end-requires-clause-home
drop_end-requires-clause-home g c = c.in-Ok.ensures.end.2.home

pub drop_end-requires-clause-member : goal.drop_end-requires-clause-member
drop_end-requires-clause-member g c =
    let end = c.in-Ok.ensures.end in
    subst IsShort (sym end.2.member) (end_short c.args.is_turned (g.B.Books.lent c.args.books.now) c.requires.lent c.args.key.now end.0 end.1)

pub drop_end-requires-clause-parts : goal.drop_end-requires-clause-parts
drop_end-requires-clause-parts g c = c.in-Ok.ensures.end.2.writable

pub returns-in-Ok-clause-ran : goal.returns-in-Ok-clause-ran
returns-in-Ok-clause-ran g c = c.drop_end.ensures.ran c.args.is_turned c.in-Ok.ensures.end

pub returns-in-Err-clause-ran : goal.returns-in-Err-clause-ran
returns-in-Err-clause-ran g c =
    memory_kept c.args.call.now.site c.args.call.now.stamp c.args.is_turned (g.B.Books.lent c.args.books.now) c.args.key.now c.requires.there _ _ c.of_cut.ensures.bytes c.of_cut.ensures.short
