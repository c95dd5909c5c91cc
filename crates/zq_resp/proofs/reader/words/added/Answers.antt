use Rattle.std.proofs.Common.{arith}
use Rattle.zq_resp.proofs.Sequences.{added_last, added_more}
use Rattle.zq_resp.proofs.reader.words.added.Goals as goal

pub returns-then-after-eq0-clause-ok : goal.returns-then-after-eq0-clause-ok
returns-then-after-eq0-clause-ok c =
    added_last c.args.found c.push.new.self c.args.word c.args.after c.in_ok-push.ensures.items (omega arith) c.requires.count c.requires.each c.requires.is

pub returns-clause-ok : goal.returns-clause-ok
returns-clause-ok c =
    added_more c.args.found c.push.new.self c.args.word c.args.after c.in_ok-push.ensures.items (omega arith) c.requires.count c.requires.each c.requires.is
