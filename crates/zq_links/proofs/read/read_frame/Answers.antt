use Rattle.std.proofs.Common.{ap, ◌∙◌}
use Rattle.zq_links.proofs.Again.{frame_again}
use Rattle.zq_links.proofs.Answered.{value_or_no_memory}
use Rattle.zq_links.specs.Answer.{IsOfMemory}
use Rattle.zq_links.specs.Frame.{frame_of}
use Rattle.zq_links.specs.Reading.{frame_at}
use Rattle.zq_links.specs.Spelling.{value_of}
use Rattle.zq_links.proofs.read.read_frame.Goals as goal

pub returns-clause-only : goal.returns-clause-only
returns-clause-only c s sound has is =
    value_or_no_memory (IsOfMemory c.args.bytes.now) frame_of c.read_whole.result (frame_at c.args.bytes.now) (value_of s) c.read_whole.ensures.exact (ap frame_at is ∙ frame_again s sound has)
