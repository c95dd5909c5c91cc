-- How several requests that a server of a site answered as one stand in the site's history.

use Rattle.std.specs.Prelude.{List, None, Option, Some, map, ℕ, ◌≡◌}
use Rattle.zq_notes.specs.Calls.{Call as Called, IsNoteOf}
use Rattle.zq_notes.specs.Notes.{Answer, Asked, RepliedEach, RepliedIf, ToRunEach, ToRunWatched}
use Rattle.zq_resp.specs.Reply.{reply_bytes}
use Rattle.zq_session.specs.FurtherCalls.{StaysOn}
use Rattle.zq_session.specs.Passing.{Passed}
use Rattle.zq_session.specs.Transacting.{calls_in, woven}
use Rattle.zq_session.specs.declared.queued.Queued.{Queued}
use Rattle.zq_session.specs.declared.queued.Transacted.{Transacted}
use Rattle.zq_session.specs.declared.queued.Transacted.TheVariants.{Ran, Touched, TurnedAway}
use Rattle.zq_spread.specs.Dispatch.{IsTurnedAway, all_heaps}
use Rattle.zq_spread.specs.Watches.{Watch}
use Rattle.zq_words.specs.Calls.{Call}
use Rattle.zq_words.specs.Words.{Word}

-- what the site was asked, and what it answered where the calls ran
abbrev pub to_run : Option Watch → List Call → Asked
to_run None calls = ToRunEach calls
to_run (Some watch) calls = ToRunWatched watch calls

abbrev pub replied : Option Watch → List Word → Answer
replied None said = RepliedEach said
replied (Some watch) said = RepliedIf (Some said)

-- the site was asked this, and answered that, by this call
pub record IsTransactionOf (old : Passed) (question : Asked) (answer : Answer) (new : Passed)
    (c : Called) : Type 0 where
  pub on : StaysOn old new
  pub before : c.before ≡ old.pass
  pub after : c.after ≡ new.pass
  pub is : IsNoteOf old.site c.before c.after c.note
  pub asked : c.note.asked ≡ question
  pub answered : c.note.answer ≡ answer

-- a call of the site by the pass p, which leaves its note
pub record StandsAsOne (p : ℕ) (old : Passed) (question : Asked) (answer : Answer) (new : Passed) :
    Type 0
  where
    pub call : Called
    pub by_pass : call.note.pass ≡ p
    pub is : IsTransactionOf old question answer new call

-- what was queued ran as one call, and each reply has its place; or nothing was done, since
-- something that is watched was changed, which is a call too; or it was turned away before it held
-- all heaps, and left no note
abbrev pub StandsEnded : ℕ → Passed → List Queued → Option Watch → Transacted → Passed → Type 0
StandsEnded p old queue watch (Ran replies) new = (said : List Word)
    × (map reply_bytes replies.items ≡ woven queue said)
    × StandsAsOne p old (to_run watch (calls_in queue)) (replied watch said) new
StandsEnded p old queue None Touched new = ⊥
StandsEnded p old queue (Some watch) Touched new =
    StandsAsOne p old (ToRunWatched watch (calls_in queue)) (RepliedIf None) new
StandsEnded p old queue watch (TurnedAway reply) new = StaysOn old new
    × IsTurnedAway (all_heaps old.site) (reply_bytes reply) old.pass new.pass
