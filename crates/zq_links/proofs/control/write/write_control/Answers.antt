use Rattle.zq_links.proofs.ControlAgain.{written_again}
use Rattle.zq_links.specs.Control.{control_of}
use Rattle.zq_links.proofs.control.write.write_control.Goals as goal

pub returns-clause-again : goal.returns-clause-again
returns-clause-again c =
    written_again (control_of c.args.control.now) c.new-out.result.items c.append.new.out.items
    c.new-out.ensures.items c.in_ok-append.ensures.written c.in_ok-append.ensures.sound
