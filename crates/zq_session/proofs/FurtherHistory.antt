-- The further requests of a server of a site, in the site's history.

use Rattle.std.proofs.Common.{ap, append-nil, arith, false, inl, inr, refl, subst, true, ◌∙◌}
use Rattle.std.specs.Prelude.{Err, List, None, Ok, Some, [], map, take, ℕ, ◌++◌, ◌∷◌, ◌≡◌}
use Rattle.zq_dialect.specs.Further.{Finding, call_of}
use Rattle.zq_dots.specs.Rule.{rule_of}
use Rattle.zq_model.specs.Moves.{Move, Queues}
use Rattle.zq_model.specs.Operation.{Operation}
use Rattle.zq_model.specs.Rule.{Rule}
use Rattle.zq_model.specs.Sets.{vector_of}
use Rattle.zq_notes.specs.Calls.{HasNote}
use Rattle.zq_notes.specs.Does.{Does}
use Rattle.zq_notes.specs.Notes.{Note, RepliedEach, ToRunEach}
use Rattle.zq_notes.specs.Readings.{IsAnswerOf, IsProcedureOver, IsReadOff, all_of, moved_in, part_of}
use Rattle.zq_resp.specs.Reply.{reply_bytes}
use Rattle.zq_resp.specs.Stream.{Requests}
use Rattle.zq_resp.specs.declared.reply.Reply.{Reply}
use Rattle.zq_semantics.specs.Procedures.{procedure}
use Rattle.zq_semantics.specs.Replies.{bytes_of}
use Rattle.zq_semantics.specs.Run.{Memory, Number, cut_error}
use Rattle.zq_session.proofs.InHistory.{AreNoted, stands}
use Rattle.zq_session.specs.Calling.{AnswersFinding, AnswersFurther, IsAsked, IsAskedOf}
use Rattle.zq_session.specs.FurtherCalls.{IsAskedOff, IsToldOver, StandsAsked, StandsFinding, StandsFurther, asked, away, is_inquiry}
use Rattle.zq_session.specs.Passing.{Passed}
use Rattle.zq_session.specs.Session.{Runs}
use Rattle.zq_spread.specs.Calls.{IsCall, heaps_of}
use Rattle.zq_spread.specs.Dispatch.{all_heaps}
use Rattle.zq_spread.specs.Each.{AreCalled}
use Rattle.zq_spread.specs.declared.pass.Pass.{Pass}
use Rattle.zq_spread.specs.declared.site.Site.{Site}
use Rattle.zq_words.specs.Calls.{Call, Exist, Plain, PopLast, PopLeftmost, RemoveRange, Scores, TypeOf}
use Rattle.zq_words.specs.Command.{command_of}
use Rattle.zq_words.specs.Words.{Word}

differ : false ≡ true → ⊥
differ e = cc

each_noted : (site : Site) (p : ℕ) (before after : Pass) (call : Call) (bytes : Word) →
    AreCalled site (procedure call ∷ []) (bytes ∷ []) before after (all_heaps site) →
    HasNote site p before after (ToRunEach (call ∷ [])) (RepliedEach (bytes ∷ []))
each_noted site p before after call bytes is =
    let c = is.0 in
    let noted : IsCall (Does (rule_of site.rule) (heaps_of site) site.number after.stamp (ToRunEach (call ∷ [])) (all_heaps site) (RepliedEach (bytes ∷ []))) before after (all_heaps site) = record {
      found = c.found;
      left = c.left;
      steps = c.steps;
      next = c.next;
      worked = c.worked;
      others = c.others;
      done = (refl, c.done);
    } in (
      record {
        pass = p;
        stamp = after.stamp;
        heaps = all_heaps site;
        asked = ToRunEach (call ∷ []);
        answer = RepliedEach (bytes ∷ []);
        steps = c.steps;
      },
      record { call = noted; stamp = refl; steps = refl },
      refl,
      refl,
      refl,
    )

module _ (leaves : AreNoted) (p : ℕ) (old new : Passed) (reply : Reply) where
  asked_stands : (call : Call) → IsAskedOf old call new (reply_bytes reply) → StandsAsked p old call (reply_bytes reply) new
  asked_stands call is = by is.asked
    where
      by : IsAsked old.site call (reply_bytes reply) old.pass new.pass → StandsAsked p old call (reply_bytes reply) new
      by (inl called) =
          let has = each_noted old.site p old.pass new.pass call (reply_bytes reply) called in
          asked (record { before = old.pass; after = new.pass; note = has.0 }) has.2
          (record {
            on = record { site = is.site; draws = is.draws };
            before = refl;
            after = refl;
            is = has.1;
            asked = has.3;
            answer = has.4;
          })
      by (inr turned) = away (record { site = is.site; draws = is.draws }) turned

  pub further_stands : (found : Finding) (words : List Word) → AnswersFinding old found words reply new → StandsFinding p old found words (reply_bytes reply) new
  further_stands (Ok (Some call)) words is = asked_stands call is
  further_stands (Ok None) words is = stands leaves p old new (reply_bytes reply) (command_of words) is
  further_stands (Err why) words is = is

-- so is each request of a session
pub all_stand_further : (leaves : AreNoted) (p : ℕ) (old new : Passed) (requests : Requests) (answers : List Reply) → Runs AnswersFurther old requests answers new → Runs (StandsFurther p) old requests answers new
all_stand_further leaves p old new [] [] is = is
all_stand_further leaves p old new [] (reply ∷ answers) is = absurd is
all_stand_further leaves p old new (words ∷ requests) [] is = absurd is
all_stand_further leaves p old new (words ∷ requests) (reply ∷ answers) is =
    (is.0, further_stands leaves p old is.0 reply (call_of words) words is.1, all_stand_further leaves p is.0 new requests answers is.2)

-- ---- read off a set

read_off : (rule : Rule) (K site : ℕ) (S : List Operation) (call : Call) (bytes : Word) (n : Note) → n.asked ≡ ToRunEach (call ∷ []) → n.answer ≡ RepliedEach (bytes ∷ []) → IsReadOff rule K site S n →
    IsAnswerOf rule K site S (ToRunEach (call ∷ [])) n.stamp n.heaps (RepliedEach (bytes ∷ [])) n.steps
read_off rule K site S call bytes n is_asked is_answer is =
    subst (λ a. IsAnswerOf rule K site S (ToRunEach (call ∷ [])) n.stamp n.heaps a n.steps) is_answer (subst (λ q. IsAnswerOf rule K site S q n.stamp n.heaps n.answer n.steps) is_asked is)

pub asked_off : (rule : Rule) (K site : ℕ) (S : List Operation) (call : Call) (bytes : Word) (n : Note) → n.asked ≡ ToRunEach (call ∷ []) → n.answer ≡ RepliedEach (bytes ∷ []) → IsReadOff rule K site S n →
    IsAskedOff rule K site S call n.stamp n.heaps bytes n.steps
asked_off rule K site S call bytes n is_asked is_answer is =
    let off = read_off rule K site S call bytes n is_asked is_answer is in
    let runs = off.1 in
    let moves : off.0 ≡ runs.0 = runs.2 ∙ ap (λ (later : List Move). runs.0 ++ later) runs.4 ∙ append-nil runs.0 in
    (runs.0, runs.3, off.2, subst (λ (moves : List Move). n.steps ≡ map (λ h. moved_in K site n.stamp h moves (vector_of S h)) n.heaps) moves off.3)

none_made : (moves : List Move) (k : ℕ) → k ≡ 0 → moves ≡ take k [] → moves ≡ []
none_made moves k zero is = is ∙ ap (λ n. take n []) zero

-- what only reads makes nothing, and is told what the queues answer
pub told : (queues : Queues) (call : Call) (moves : List Move) (bytes : Word) → is_inquiry call ≡ true → IsProcedureOver queues (procedure call) moves bytes → (moves ≡ []) × IsToldOver queues call bytes
told queues (Plain command) moves bytes e is = absurd (differ e)
told queues (Scores key members) moves bytes e (all_of made says) = (made, inl says)
told queues (Scores key members) moves bytes e (part_of k Number cut made says) = absurd (omega (arith, cut))
told queues (Scores key members) moves bytes e (part_of k Memory cut made says) =
    let zero : k ≡ 0 = omega (arith, cut.0) in
    (none_made moves k zero made, inr (refl, says ∙ ap (λ n. bytes_of (cut_error n Memory)) zero))
told queues (Exist keys) moves bytes e (all_of made says) = (made, inl says)
told queues (Exist keys) moves bytes e (part_of k Number cut made says) = absurd (omega (arith, cut))
told queues (Exist keys) moves bytes e (part_of k Memory (few, inl long) made says) = absurd (differ long)
told queues (Exist keys) moves bytes e (part_of k Memory (few, inr many) made says) = absurd (omega (arith, many))
told queues (TypeOf key) moves bytes e (all_of made says) = (made, inl says)
told queues (TypeOf key) moves bytes e (part_of k Number cut made says) = absurd (omega (arith, cut))
told queues (TypeOf key) moves bytes e (part_of k Memory (few, inl long) made says) = absurd (differ long)
told queues (TypeOf key) moves bytes e (part_of k Memory (few, inr many) made says) = absurd (omega (arith, many))
told queues (PopLast key count) moves bytes e is = absurd (differ e)
told queues (RemoveRange key range) moves bytes e is = absurd (differ e)
told queues (PopLeftmost keys is_turned) moves bytes e is = absurd (differ e)
