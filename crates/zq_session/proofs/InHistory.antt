-- The requests of a server of a site, in the site's history.

use Rattle.std.proofs.Common.{inl, inr, refl, subst, sym}
use Rattle.std.specs.Prelude.{Err, List, Ok, [], ℕ, ◌∷◌, ◌≡◌, ◌⊎◌}
use Rattle.zq_model.specs.Operation.{Operation}
use Rattle.zq_model.specs.Rule.{Rule}
use Rattle.zq_notes.specs.Calls.{HasNote, HeldNone}
use Rattle.zq_notes.specs.Notes.{Note, Replied, ToRun}
use Rattle.zq_notes.specs.Readings.{IsAnswerOf, IsOrShort, IsReadOff, is_list}
use Rattle.zq_semantics.specs.Plan.{plan_of}
use Rattle.zq_semantics.specs.Replies.{bytes_of}
use Rattle.zq_semantics.specs.Reading.{answer_of, answer_over, heaps_in, queues_over}
use Rattle.zq_resp.specs.Reply.{reply_bytes}
use Rattle.zq_resp.specs.Stream.{Requests}
use Rattle.zq_resp.specs.declared.reply.Reply.{Reply}
use Rattle.zq_session.specs.Calls.{GoesOn, Stands, StandsBy, noted, refused, unheld}
use Rattle.zq_session.specs.Passing.{AnswersByCall, Passed, PassesReading, words_for}
use Rattle.zq_session.specs.Session.{Runs}
use Rattle.zq_spread.specs.Dispatch.{IsCalled}
use Rattle.zq_spread.specs.declared.pass.Pass.{Pass}
use Rattle.zq_spread.specs.declared.site.Site.{Site}
use Rattle.zq_words.specs.Command.{Command, Reading, command_of}
use Rattle.zq_words.specs.Words.{Word}

-- each call of a command leaves a note, or held no heap
abbrev pub AreNoted : Type 0
AreNoted =
    (site : Site) (p : ℕ) (before after : Pass) (command : Command) (w1 w2 : ℕ) (reply : Word) → IsCalled site command w1 w2 reply before after →
    HasNote site p before after (ToRun command w1 w2) (Replied reply) ⊎ HeldNone site command w1 w2 reply before after

module _ (leaves : AreNoted) (p : ℕ) (old new : Passed) (bytes : Word) where
  called : (command : Command) → GoesOn old command new → HasNote old.site p old.pass new.pass (ToRun command (words_for command old.draws).0 (words_for command old.draws).1) (Replied bytes) ⊎
      HeldNone old.site command (words_for command old.draws).0 (words_for command old.draws).1 bytes old.pass new.pass → Stands p old (Ok command) bytes new
  called command on (inl has) =
      noted command refl (record { before = old.pass; after = new.pass; note = has.0 }) has.2
      (record { on = on; before = refl; after = refl; is = has.1; asked = has.3; answer = has.4 })
  called command on (inr held) = unheld command refl on held

  pub stands : (reading : Reading) → PassesReading old reading new bytes → Stands p old reading bytes new
  stands (Ok command) (inl passed) =
      called command (record { site = passed.site; draws = passed.draws }) (leaves old.site p old.pass new.pass command (words_for command old.draws).0 (words_for command old.draws).1 bytes passed.called)
  stands (Ok command) (inr is) = refused is.0 is.1
  stands (Err why) is = refused is.0 is.1

-- so is each request of a session
pub all_stand : (leaves : AreNoted) (p : ℕ) (old new : Passed) (requests : Requests) (answers : List Reply) → Runs AnswersByCall old requests answers new → Runs (StandsBy p) old requests answers new
all_stand leaves p old new [] [] is = is
all_stand leaves p old new [] (reply ∷ answers) is = absurd is
all_stand leaves p old new (words ∷ requests) [] is = absurd is
all_stand leaves p old new (words ∷ requests) (reply ∷ answers) is =
    (is.0, stands leaves p old is.0 (reply_bytes reply) (command_of words) is.1, all_stand leaves p is.0 new requests answers is.2)

-- what is read off a set, of a command and its reply
pub run_off : (rule : Rule) (K site : ℕ) (S : List Operation) (w1 w2 : ℕ) (command : Command) (bytes : Word) (n : Note) → n.asked ≡ ToRun command w1 w2 → n.answer ≡ Replied bytes → IsReadOff rule K site S n →
    IsAnswerOf rule K site S (ToRun command w1 w2) n.stamp n.heaps (Replied bytes) n.steps
run_off rule K site S w1 w2 command bytes n asked answer is =
    subst (λ a. IsAnswerOf rule K site S (ToRun command w1 w2) n.stamp n.heaps a n.steps) answer (subst (λ q. IsAnswerOf rule K site S q n.stamp n.heaps n.answer n.steps) asked is)

-- the answer of a set to words that are a command
pub answered_so : (rule : Rule) (K : ℕ) (S : List Operation) (words : List Word) (command : Command) (bytes : Word) → command_of words ≡ Ok command →
    IsOrShort (is_list (queues_over rule S (heaps_in K)) (Ok command)) (bytes_of (plan_of command (queues_over rule S (heaps_in K))).reply) bytes →
    IsOrShort (is_list (queues_over rule S (heaps_in K)) (command_of words)) (answer_of rule K S words) bytes
answered_so rule K S words command bytes read is =
    subst (λ r. IsOrShort (is_list (queues_over rule S (heaps_in K)) r) (answer_over (queues_over rule S (heaps_in K)) r) bytes) (sym read) is
