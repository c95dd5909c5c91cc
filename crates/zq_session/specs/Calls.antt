-- How the requests of a server of a site stand in the site's history.

use Rattle.std.specs.Prelude.{List, Ok, ℕ, ◌++◌, ◌∷◌, ◌≡◌}
use Rattle.zq_model.specs.Moves.{Queues}
use Rattle.zq_notes.specs.Calls.{Call, HeldNone, IsNoteOf}
use Rattle.zq_notes.specs.Notes.{Replied, ToRun}
use Rattle.zq_notes.specs.Readings.{IsOrShort, is_list}
use Rattle.zq_notes.specs.Sites.{Event}
use Rattle.zq_resp.specs.Reply.{reply_bytes}
use Rattle.zq_resp.specs.declared.reply.Reply.{Reply}
use Rattle.zq_semantics.specs.Reading.{answer_over}
use Rattle.zq_session.specs.Passing.{Passed, draws_after, words_for}
use Rattle.zq_session.specs.Refusals.{IsRefusalOf}
use Rattle.zq_words.specs.Command.{Command, Reading, command_of}
use Rattle.zq_words.specs.Words.{Word}

-- the server after a command: it serves the same site, and its draws go on
pub record GoesOn (old : Passed) (command : Command) (new : Passed) : Type 0 where
  pub site : new.site ≡ old.site
  pub draws : new.draws ≡ draws_after command old.draws

-- the command was run, and answered with these bytes, by this call of the site
pub record IsCallOf (old : Passed) (command : Command) (bytes : Word) (new : Passed)
    (c : Call) : Type 0 where
  pub on : GoesOn old command new
  pub before : c.before ≡ old.pass
  pub after : c.after ≡ new.pass
  pub is : IsNoteOf old.site c.before c.after c.note
  pub asked : c.note.asked ≡ ToRun command (words_for command old.draws).0
      (words_for command old.draws).1
  pub answer : c.note.answer ≡ Replied bytes

-- a request is a call of the site by the pass p, which leaves its note; or a command that left
-- none, and the server goes on; or it was refused, and then nothing has changed
pub data Stands (p : ℕ) (old : Passed) (reading : Reading) (bytes : Word) (new : Passed) : Type 0
  where
    noted : (command : Command) → reading ≡ Ok command → (c : Call) → c.note.pass ≡ p →
        IsCallOf old command bytes new c → Stands p old reading bytes new
    unheld : (command : Command) → reading ≡ Ok command → GoesOn old command new →
        HeldNone old.site command (words_for command old.draws).0
        (words_for command old.draws).1 bytes old.pass new.pass → Stands p old reading bytes new
    refused : new ≡ old → IsRefusalOf reading bytes → Stands p old reading bytes new

-- the words of a request, and the reply to it
abbrev pub StandsBy : ℕ → Passed → List Word → Reply → Passed → Type 0
StandsBy p old words reply new = Stands p old (command_of words) (reply_bytes reply) new

-- a request that was asked among the calls of linked sites: its event, what came before, its
-- command, the server before and after, and the bytes of the reply
pub record Asking : Type 0 where
  pub before : List Event
  pub event : Event
  pub after : List Event
  pub command : Command
  pub old : Passed
  pub new : Passed
  pub bytes : Word

pub record IsAskingOf (events : List Event) (words : List Word) (a : Asking) : Type 0 where
  pub at : events ≡ a.before ++ a.event ∷ a.after
  pub read : command_of words ≡ Ok a.command
  pub call : IsCallOf a.old a.command a.bytes a.new a.event.call

-- the answer that these queues give to the words, or that there is no memory for it, where it is a
-- list with something in it
abbrev pub IsAnsweredBy : Queues → List Word → Word → Type 0
IsAnsweredBy queues words bytes =
    IsOrShort (is_list queues (command_of words)) (answer_over queues (command_of words)) bytes

-- both are
abbrev pub AreAnsweredBy : Queues → List Word → Word → Word → Type 0
AreAnsweredBy queues words one other = IsAnsweredBy queues words one
    × IsAnsweredBy queues words other
