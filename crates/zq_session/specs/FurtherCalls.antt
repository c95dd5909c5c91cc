-- How the further requests of a server of a site stand in the site's history, and what they answer.

use Rattle.std.specs.Prelude.{Bool, Err, List, None, Ok, Some, [], false, map, true, ℕ, ◌++◌, ◌∷◌, ◌≡◌}
use Rattle.zq_dialect.specs.Further.{Finding, call_of}
use Rattle.zq_model.specs.Moves.{Move, Queues}
use Rattle.zq_model.specs.Operation.{Operation}
use Rattle.zq_model.specs.Rule.{Rule}
use Rattle.zq_model.specs.Sets.{vector_of}
use Rattle.zq_model.specs.Books.{Step}
use Rattle.zq_notes.specs.Calls.{Call as Called, IsNoteOf}
use Rattle.zq_notes.specs.Notes.{RepliedEach, ToRunEach}
use Rattle.zq_notes.specs.Readings.{IsOrShort, IsProcedureOver, moved_in}
use Rattle.zq_notes.specs.Sites.{Event}
use Rattle.zq_resp.specs.Reply.{line, reply_bytes}
use Rattle.zq_resp.specs.declared.reply.Reply.{Reply}
use Rattle.zq_semantics.specs.Procedures.{answered_over, procedure}
use Rattle.zq_semantics.specs.Reading.{heaps_in, queues_over}
use Rattle.zq_session.specs.Calls.{Stands}
use Rattle.zq_session.specs.Passing.{Passed}
use Rattle.zq_spread.specs.Dispatch.{IsTurnedAway, all_heaps}
use Rattle.zq_words.specs.Calls.{Call, Exist, Scores, TypeOf}
use Rattle.zq_words.specs.Command.{command_of}
use Rattle.zq_words.specs.Refused.{refused_text}
use Rattle.zq_words.specs.Words.{Word}

-- the server after a further request: it serves the same site, and its draws stay
pub record StaysOn (old new : Passed) : Type 0 where
  pub site : new.site ≡ old.site
  pub draws : new.draws ≡ old.draws

-- the request was run, and answered with these bytes, by this call of the site
pub record IsFurtherCallOf (old : Passed) (call : Call) (bytes : Word) (new : Passed)
    (c : Called) : Type 0 where
  pub on : StaysOn old new
  pub before : c.before ≡ old.pass
  pub after : c.after ≡ new.pass
  pub is : IsNoteOf old.site c.before c.after c.note
  pub asked : c.note.asked ≡ ToRunEach (call ∷ [])
  pub answer : c.note.answer ≡ RepliedEach (bytes ∷ [])

-- a further request is a call of the site by the pass p, which leaves its note; or it was turned
-- away before it held all heaps, and left none
pub data StandsAsked (p : ℕ) (old : Passed) (call : Call) (bytes : Word) (new : Passed) : Type 0
  where
    asked : (c : Called) → c.note.pass ≡ p → IsFurtherCallOf old call bytes new c →
        StandsAsked p old call bytes new
    away : StaysOn old new → IsTurnedAway (all_heaps old.site) bytes old.pass new.pass →
        StandsAsked p old call bytes new

-- so it is of each request: a further one that is refused changes nothing, and any other stands as
-- one of a server that takes no further ones
abbrev pub StandsFinding : ℕ → Passed → Finding → List Word → Word → Passed → Type 0
StandsFinding p old (Ok (Some call)) words bytes new = StandsAsked p old call bytes new
StandsFinding p old (Ok None) words bytes new = Stands p old (command_of words) bytes new
StandsFinding p old (Err why) words bytes new = (new ≡ old)
    × (bytes ≡ 45 ∷ line (refused_text why))

-- the words of a request, and the reply to it
abbrev pub StandsFurther : ℕ → Passed → List Word → Reply → Passed → Type 0
StandsFurther p old words reply new =
    StandsFinding p old (call_of words) words (reply_bytes reply) new

-- what a further request of a site of this number came to, read off the operations that the site
-- had: the moves and the reply of its procedure over the queues of all heaps, or of a cut of it;
-- and its steps in each heap are those of the moves
abbrev pub IsAskedOff : Rule → ℕ → ℕ → List Operation → Call → ℕ → List ℕ → Word →
    List (List Step) → Type 0
IsAskedOff rule K site S call stamp heaps bytes steps = (moves : List Move)
    × IsProcedureOver (queues_over rule S (heaps_in K)) (procedure call) moves bytes
    × (heaps ≡ heaps_in K)
    × (steps ≡ map (λ h. moved_in K site stamp h moves (vector_of S h)) heaps)

-- whether it only reads
abbrev pub is_inquiry : Call → Bool
is_inquiry (Scores key members) = true
is_inquiry (Exist keys) = true
is_inquiry (TypeOf key) = true
is_inquiry call = false

-- whether its reply takes memory
abbrev pub takes_reply : Call → Bool
takes_reply (Scores key members) = true
takes_reply call = false

-- the answer that these queues give to it; to ZMSCORE, or that there is no memory for it
abbrev pub IsToldOver : Queues → Call → Word → Type 0
IsToldOver queues call bytes =
    IsOrShort (takes_reply call) (answered_over queues (procedure call)) bytes

-- a further request that was asked among the calls of linked sites: its event, what came before,
-- the server before and after, and the bytes of the reply
pub record Inquiry : Type 0 where
  pub before : List Event
  pub event : Event
  pub after : List Event
  pub old : Passed
  pub new : Passed
  pub bytes : Word

pub record IsInquiryOf (events : List Event) (call : Call) (a : Inquiry) : Type 0 where
  pub at : events ≡ a.before ++ a.event ∷ a.after
  pub is : IsFurtherCallOf a.old call a.bytes a.new a.event.call

-- both are told what these queues answer
abbrev pub AreToldOver : Queues → Call → Word → Word → Type 0
AreToldOver queues call one other = IsToldOver queues call one × IsToldOver queues call other
