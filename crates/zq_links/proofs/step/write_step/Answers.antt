use Rattle.zq_links.proofs.StepsAgain.{step_written}
use Rattle.zq_links.proofs.step.write_step.Goals as goal

pub returns-clause-written : goal.returns-clause-written
returns-clause-written c =
    step_written c.args.life c.args.number c.args.next.now c.args.out.now.items _ _ _
    c.in_ok-write_u64.ensures.written c.in_ok-write_u32.ensures.written
    c.in_ok-write_spot.ensures.written
