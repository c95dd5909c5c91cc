use Rattle.std.proofs.Common.{inr}
use Rattle.zq_replica.proofs.Gathers.{fed_between, standing_between, standing_by}
use Rattle.zq_replica.proofs.replica.Replica.gather_ops.Goals as goal

pub returns-in-Ok-clause-gathers : goal.returns-in-Ok-clause-gathers
returns-in-Ok-clause-gathers c =
    fed_between c.args.ops.now c.args.self.now c.note_dots.new.self c.feed.new.self
    c.wait_on.new.self c.note_dots.ensures c.in-Ok.ensures.fed c.wait_on.ensures

pub returns-in-Ok-clause-standing : goal.returns-in-Ok-clause-standing
returns-in-Ok-clause-standing c =
    standing_between c.args.self.now c.note_dots.new.self c.feed.new.self c.wait_on.new.self
    c.note_dots.ensures c.feed.ensures.standing
    (standing_by c.feed.new.self c.wait_on.new.self c.wait_on.ensures)

pub returns-in-Err-clause-gathers : goal.returns-in-Err-clause-gathers
returns-in-Err-clause-gathers c = inr c.give_up.ensures.none

pub returns-in-Err-clause-standing : goal.returns-in-Err-clause-standing
returns-in-Err-clause-standing c =
    standing_between c.args.self.now c.note_dots.new.self c.feed.new.self c.give_up.new.self
    c.note_dots.ensures c.feed.ensures.standing c.give_up.ensures.standing
