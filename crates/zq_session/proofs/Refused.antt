-- What is written for a request that does not run.

use Rattle.std.proofs.Common.{false, inr, refl, subst, sym, true, ◌∙◌, ◌∷◌, ◌≡◌}
use Rattle.std.specs.Fmt.{digits}
use Rattle.std.specs.Prelude.{Err, Ok, codes}
use Rattle.zq_semantics.specs.Replies.{bytes_of}
use Rattle.zq_semantics.specs.Run.{Memory, cut_error}
use Rattle.zq_resp.specs.Reply.{line}
use Rattle.zq_session.specs.Passing.{Passed, PassesReading}
use Rattle.zq_session.specs.Refusals.{IsRefusalOf}
use Rattle.zq_words.specs.Command.{Reading}
use Rattle.zq_words.specs.Refused.{refused_text}
use Rattle.zq_words.specs.Shown.{IsRefusal}
use Rattle.zq_words.specs.Words.{Word}
use Rattle.zq_words.specs.declared.refused.Refused.{Refused}
use Rattle.zq_words.specs.declared.refused.Refused.TheVariants.{Bound, Flags, Negative, NoMemory, OnePair, Score, Syntax, Unknown, Whole, Words}

no_memory : 45 ∷ line (codes "OOM after 0") ≡ bytes_of (cut_error 0 Memory)
unfolding digits
no_memory = refl

differ : false ≡ true → ⊥
differ e = cc

-- the text of a refusal is what is written for the request that was refused
pub refusal_read : (why : Refused) (reading : Reading) (bytes : Word) → IsRefusal why reading → bytes ≡ 45 ∷ line (refused_text why) → IsRefusalOf reading bytes
refusal_read Unknown reading bytes is says = subst (λ r. IsRefusalOf r bytes) (sym is) says
refusal_read Words reading bytes is says = subst (λ r. IsRefusalOf r bytes) (sym is) says
refusal_read Syntax reading bytes is says = subst (λ r. IsRefusalOf r bytes) (sym is) says
refusal_read Flags reading bytes is says = subst (λ r. IsRefusalOf r bytes) (sym is) says
refusal_read OnePair reading bytes is says = subst (λ r. IsRefusalOf r bytes) (sym is) says
refusal_read Score reading bytes is says = subst (λ r. IsRefusalOf r bytes) (sym is) says
refusal_read Whole reading bytes is says = subst (λ r. IsRefusalOf r bytes) (sym is) says
refusal_read Negative reading bytes is says = subst (λ r. IsRefusalOf r bytes) (sym is) says
refusal_read Bound reading bytes is says = subst (λ r. IsRefusalOf r bytes) (sym is) says
refusal_read NoMemory (Ok command) bytes is says = (is, says ∙ no_memory)
refusal_read NoMemory (Err why) bytes is says = absurd (differ is)

-- a refused request changes nothing of a server of a site
pub refusal_passes : (reading : Reading) (s : Passed) (bytes : Word) → IsRefusalOf reading bytes → PassesReading s reading s bytes
refusal_passes (Ok command) s bytes is = inr (refl, is)
refusal_passes (Err refused) s bytes is = (refl, is)
