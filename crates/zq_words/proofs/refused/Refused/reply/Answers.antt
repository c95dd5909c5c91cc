use Rattle.std.proofs.Common.{◌∙◌, refl}
use Rattle.std.specs.Fmt.{digits}
use Rattle.zq_resp.proofs.Replies.{error_bytes}
use Rattle.zq_words.proofs.refused.Refused.reply.Goals as goal

pub returns-in-NoMemory-clause-bytes : goal.returns-in-NoMemory-clause-bytes
unfolding digits
returns-in-NoMemory-clause-bytes c = error_bytes _ _ ∙ rw c.in-NoMemory.is refl
