use Rattle.std.proofs.Common.{ap, ◌∙◌}
use Rattle.zq_links.proofs.Answered.{value_is_read}
use Rattle.zq_links.proofs.ControlAgain.{control_again}
use Rattle.zq_links.specs.Control.{control_of}
use Rattle.zq_links.specs.ControlReading.{control_at}
use Rattle.zq_links.proofs.control.read.read_control.Goals as goal

pub returns-clause-only : goal.returns-clause-only
returns-clause-only c control sound is =
    value_is_read control_of c.read_whole.result (control_at c.args.bytes.now) control
    c.read_whole.ensures.exact (ap control_at is ∙ control_again control sound)
