-- How a server of a site answers which takes further requests on keys too, by one pass of it.

use Rattle.std.specs.Prelude.{Bool, Err, List, None, Ok, Some, [], false, true, ◌∷◌, ◌≡◌, ◌⊎◌}
use Rattle.zq_dialect.specs.Further.{Finding, call_of}
use Rattle.zq_resp.specs.Reply.{line, reply_bytes}
use Rattle.zq_resp.specs.declared.reply.Reply.{Reply}
use Rattle.zq_semantics.specs.Procedures.{procedure}
use Rattle.zq_session.specs.Passing.{AnswersByCall, Passed}
use Rattle.zq_spread.specs.Dispatch.{IsTurnedAway, all_heaps}
use Rattle.zq_spread.specs.Each.{AreCalled}
use Rattle.zq_spread.specs.declared.pass.Pass.{Pass}
use Rattle.zq_spread.specs.declared.site.Site.{Site}
use Rattle.zq_words.specs.Calls.{Call}
use Rattle.zq_words.specs.Refused.{refused_text}
use Rattle.zq_words.specs.Words.{Word}

-- what a site is asked alone is one call of it in all heaps, in which its procedure runs; or it is
-- turned away, as a command in all heaps is
abbrev pub IsAsked : Site → Call → Word → Pass → Pass → Type 0
IsAsked site call reply before after =
    AreCalled site (procedure call ∷ []) (reply ∷ []) before after (all_heaps site)
    ⊎ IsTurnedAway (all_heaps site) reply before after

-- the server asks its site, and takes no words of its draws
pub record IsAskedOf (old : Passed) (call : Call) (new : Passed) (reply : Word) : Type 0 where
  pub site : new.site ≡ old.site
  pub asked : IsAsked old.site call reply old.pass new.pass
  pub draws : new.draws ≡ old.draws

-- a further request is such a call, or it is refused for the first reason and changes nothing; any
-- other request is answered by the call of a command
abbrev pub AnswersFinding : Passed → Finding → List Word → Reply → Passed → Type 0
AnswersFinding old (Ok (Some call)) words reply new = IsAskedOf old call new (reply_bytes reply)
AnswersFinding old (Ok None) words reply new = AnswersByCall old words reply new
AnswersFinding old (Err why) words reply new = (new ≡ old)
    × (reply_bytes reply ≡ 45 ∷ line (refused_text why))

-- the site, the pass and the draws before, the request's words, the reply, and the same after
abbrev pub AnswersFurther : Passed → List Word → Reply → Passed → Type 0
AnswersFurther old words reply new = AnswersFinding old (call_of words) words reply new

-- where further requests are taken, and where they are not
abbrev pub AnswersAs : Bool → Passed → List Word → Reply → Passed → Type 0
AnswersAs true old words reply new = AnswersFurther old words reply new
AnswersAs false old words reply new = AnswersByCall old words reply new
