-- Several requests that were answered as one, in the site's history.

use Rattle.std.proofs.Common.{refl, subst}
use Rattle.std.specs.Prelude.{List, None, Option, Some, map, ℕ, ◌≡◌}
use Rattle.zq_dots.specs.Rule.{rule_of}
use Rattle.zq_model.specs.Operation.{Operation}
use Rattle.zq_model.specs.Rule.{Rule}
use Rattle.zq_notes.specs.Calls.{HasNote}
use Rattle.zq_notes.specs.Does.{Does}
use Rattle.zq_notes.specs.Notes.{Answer, Asked, Note, RepliedEach, RepliedIf, ToRunEach, ToRunWatched}
use Rattle.zq_notes.specs.Readings.{IsAnswerOf, IsReadOff}
use Rattle.zq_semantics.specs.Procedures.{procedure}
use Rattle.zq_session.specs.Passing.{Passed}
use Rattle.zq_session.specs.Transacting.{ComesOf, RunTogether, TransactsBy, calls_in}
use Rattle.zq_session.specs.Transactions.{StandsAsOne, StandsEnded, replied, to_run}
use Rattle.zq_session.specs.declared.queued.Queued.{Queued}
use Rattle.zq_session.specs.declared.queued.Transacted.{Transacted}
use Rattle.zq_session.specs.declared.queued.Transacted.TheVariants.{Ran, Touched, TurnedAway}
use Rattle.zq_spread.specs.Calls.{IsCall, heaps_of}
use Rattle.zq_spread.specs.Dispatch.{all_heaps}
use Rattle.zq_spread.specs.Each.{AreCalled}
use Rattle.zq_spread.specs.Watches.{Watch}
use Rattle.zq_spread.specs.Watching.{AreWatched}
use Rattle.zq_spread.specs.declared.pass.Pass.{Pass}
use Rattle.zq_spread.specs.declared.site.Site.{Site}
use Rattle.zq_words.specs.Calls.{Call}
use Rattle.zq_words.specs.Words.{Word}

module _ (site : Site) (p : ℕ) (before after : Pass) (calls : List Call) where
  each_noted : (said : List Word) → AreCalled site (map procedure calls) said before after (all_heaps site) → HasNote site p before after (ToRunEach calls) (RepliedEach said)
  each_noted said is =
      let c = is.0 in
      let noted : IsCall (Does (rule_of site.rule) (heaps_of site) site.number after.stamp (ToRunEach calls) (all_heaps site) (RepliedEach said)) before after (all_heaps site) = record {
        found = c.found;
        left = c.left;
        steps = c.steps;
        next = c.next;
        worked = c.worked;
        others = c.others;
        done = (refl, c.done);
      } in (
        record { pass = p; stamp = after.stamp; heaps = all_heaps site; asked = ToRunEach calls; answer = RepliedEach said; steps = c.steps },
        record { call = noted; stamp = refl; steps = refl },
        refl,
        refl,
        refl,
      )

  watched_noted : (watch : Watch) (said : Option (List Word)) → AreWatched site watch (map procedure calls) said before after (all_heaps site) →
      HasNote site p before after (ToRunWatched watch calls) (RepliedIf said)
  watched_noted watch said is =
      let c = is.0 in
      let noted : IsCall (Does (rule_of site.rule) (heaps_of site) site.number after.stamp (ToRunWatched watch calls) (all_heaps site) (RepliedIf said)) before after (all_heaps site) = record {
        found = c.found;
        left = c.left;
        steps = c.steps;
        next = c.next;
        worked = c.worked;
        others = c.others;
        done = (refl, c.done);
      } in (
        record { pass = p; stamp = after.stamp; heaps = all_heaps site; asked = ToRunWatched watch calls; answer = RepliedIf said; steps = c.steps },
        record { call = noted; stamp = refl; steps = refl },
        refl,
        refl,
        refl,
      )

module _ (p : ℕ) (old new : Passed) (queue : List Queued) (site : new.site ≡ old.site) (draws : new.draws ≡ old.draws) where
  as_one : (question : Asked) (answer : Answer) → HasNote old.site p old.pass new.pass question answer → StandsAsOne p old question answer new
  as_one question answer has = record {
    call = record { before = old.pass; after = new.pass; note = has.0 };
    by_pass = has.2;
    is = record {
      on = record { site = site; draws = draws };
      before = refl;
      after = refl;
      is = has.1;
      asked = has.3;
      answered = has.4;
    };
  }

  ran : (watch : Option Watch) (said : List Word) → RunTogether old.site watch (calls_in queue) said old.pass new.pass →
      StandsAsOne p old (to_run watch (calls_in queue)) (replied watch said) new
  ran None said is = as_one (ToRunEach (calls_in queue)) (RepliedEach said) (each_noted old.site p old.pass new.pass (calls_in queue) said is)
  ran (Some watch) said is = as_one (ToRunWatched watch (calls_in queue)) (RepliedIf (Some said)) (watched_noted old.site p old.pass new.pass (calls_in queue) watch (Some said) is)

  pub ended : (watch : Option Watch) (come : Transacted) → ComesOf old.site queue watch come old.pass new.pass → StandsEnded p old queue watch come new
  ended watch (Ran replies) is = (is.0, is.2, ran watch is.0 is.1)
  ended None Touched is = absurd is
  ended (Some watch) Touched is = as_one (ToRunWatched watch (calls_in queue)) (RepliedIf None) (watched_noted old.site p old.pass new.pass (calls_in queue) watch None is)
  ended watch (TurnedAway reply) is = (record { site = site; draws = draws }, is)

pub transacted_stands : (p : ℕ) (old new : Passed) (queue : List Queued) (watch : Option Watch) (come : Transacted) → TransactsBy old queue watch come new → StandsEnded p old queue watch come new
transacted_stands p old new queue watch come is = ended p old new queue is.site is.draws watch come is.comes

-- what a note of this question and this answer says is read off a set
pub read_off : (rule : Rule) (K site : ℕ) (S : List Operation) (question : Asked) (answer : Answer) (n : Note) → n.asked ≡ question → n.answer ≡ answer → IsReadOff rule K site S n →
    IsAnswerOf rule K site S question n.stamp n.heaps answer n.steps
read_off rule K site S question answer n is_asked is_answer is =
    subst (λ a. IsAnswerOf rule K site S question n.stamp n.heaps a n.steps) is_answer (subst (λ q. IsAnswerOf rule K site S q n.stamp n.heaps n.answer n.steps) is_asked is)
