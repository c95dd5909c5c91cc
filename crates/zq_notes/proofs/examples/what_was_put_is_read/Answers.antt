use Rattle.zq_notes.proofs.PutAndRead.{idle, other, thread}
use Rattle.zq_notes.proofs.examples.what_was_put_is_read.Goals as goal

pub returns : goal.returns
returns c = record { thread = thread c.naming.ensures.score; other = other c.naming.ensures.score; idle = idle c.naming.ensures.score }
