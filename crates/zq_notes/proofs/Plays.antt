-- The calls of running sites are a run of a world.

use Rattle.std.proofs.Common.{ap, arith, refl, subst, suc, sym, zero, ◌∙◌}
use Rattle.std.proofs.lemmas.List.{append-nil, append_assoc, length-append, take_all}
use Rattle.std.specs.Prelude.{List, None, [], length, take, ℕ, ◌+◌, ◌++◌, ◌∷◌, ◌≡◌, ◌≤◌}
use Rattle.zq_model.specs.Limits.{TailLimits}
use Rattle.zq_model.specs.Operation.{Operation}
use Rattle.zq_model.specs.Rule.{Rule}
use Rattle.zq_model.specs.Sets.{AreSame}
use Rattle.zq_notes.proofs.Alike.{HasMoment, IsAlike, same_self, take_front}
use Rattle.zq_notes.proofs.PlayedCalls.{IsOne, one_call}
use Rattle.zq_notes.proofs.PlayedTakes.{all_events, none_missing, runs_on}
use Rattle.zq_notes.proofs.ReadOff.{AreScoresMeant}
use Rattle.zq_notes.specs.Played.{ArePlayed, IsPlay, events_in}
use Rattle.zq_notes.specs.Sites.{AreEventsOf, Event, has_at, made_of}
use Rattle.zq_notes.specs.Uncut.{AreRunnable}
use Rattle.zq_semantics.specs.Events as runs
use Rattle.zq_semantics.specs.Events.{Run}
use Rattle.zq_semantics.specs.Runs.{AreEvents, missing_from, run, run_on, start}
use Rattle.zq_spread.specs.declared.site.Site.{Site}

-- the rest of the calls, in a run that stands as the sites do before them
pub record IsRest (rule : Rule) (K count : ℕ) (W : List Operation) (before rest : List Event) (r : Run) (plays : List (List runs.Event)) : Type 0 where
  pub calls : ArePlayed rule K r rest plays
  pub there : (i : ℕ) → missing_from rule K count i (events_in plays) r ≡ None
  pub each : AreEvents (events_in plays)
  pub alike : (k : ℕ) → k ≤ length rest → IsAlike W (before ++ take k rest) (run_on rule K (events_in (take k plays)) r)

started : (W : List Operation) → IsAlike W [] start
started W = record {
  sets = λ s. same_self [];
  made = same_self [];
  stamps = λ s h. omega arith;
  counts = λ s h. omega arith;
  past = λ k few. first k;
}
  where
    first : (k : ℕ) → HasMoment W start (take k [])
    first zero = record { moment = 0; there = omega arith; sets = λ s. same_self [] }
    first (suc k) = record { moment = 0; there = omega arith; sets = λ s. same_self [] }

-- no call is left
ended : (rule : Rule) (K count : ℕ) (W : List Operation) (before : List Event) (r : Run) → IsAlike W before r → IsRest rule K count W before [] r []
ended rule K count W before r alike = record {
  calls = tt;
  there = λ i. refl;
  each = tt;
  alike = λ k few. none k;
}
  where
    none : (k : ℕ) → IsAlike W (before ++ take k []) (run_on rule K (events_in (take k [])) r)
    none zero = subst (λ l. IsAlike W l r) (sym (append-nil before)) alike
    none (suc k) = subst (λ l. IsAlike W l r) (sym (append-nil before)) alike

-- one call more in front
module _ (rule : Rule) (K count : ℕ) (W : List Operation) (before : List Event) (e : Event) (rest : List Event) (r : Run) (alike : IsAlike W before r) where
  first_of : IsAlike W (before ++ []) r
  first_of = subst (λ l. IsAlike W l r) (sym (append-nil before)) alike

  further : (k : ℕ) (q : Run) → IsAlike W ((before ++ e ∷ []) ++ take k rest) q → IsAlike W (before ++ e ∷ take k rest) q
  further k q stands = subst (λ l. IsAlike W l q) (append_assoc before (e ∷ []) (take k rest)) stands

  longer : IsOne rule K count W before e r →
      ((q : Run) → IsAlike W (before ++ e ∷ []) q → (more : List (List runs.Event)) × IsRest rule K count W (before ++ e ∷ []) rest q more) →
      (more : List (List runs.Event)) × IsRest rule K count W before (e ∷ rest) r more
  longer one on =
      let next : Run = run_on rule K one.events r in
      let more = on next one.alike in
      let is = more.1 in (
        one.events ∷ more.0,
        record {
          calls = (one.played, is.calls);
          there = none_missing rule K count one.events (events_in more.0) r one.possible is.there;
          each = all_events one.events (events_in more.0) one.each is.each;
          alike = each_of more.0 is.alike;
        },
      )
    where
      each_of : (more : List (List runs.Event)) → ((k : ℕ) → k ≤ length rest → IsAlike W ((before ++ e ∷ []) ++ take k rest) (run_on rule K (events_in (take k more)) (run_on rule K one.events r))) →
          (k : ℕ) → k ≤ length (e ∷ rest) → IsAlike W (before ++ take k (e ∷ rest)) (run_on rule K (events_in (take k (one.events ∷ more))) r)
      each_of more alike_on zero few = first_of
      each_of more alike_on (suc k) few =
          further k (run_on rule K (one.events ++ events_in (take k more)) r)
          (subst (IsAlike W ((before ++ e ∷ []) ++ take k rest)) (sym (runs_on rule K one.events (events_in (take k more)) r)) (alike_on k (omega (arith, few))))

module _ (limits : ℕ → TailLimits) (rule : Rule) (K count : ℕ) (two : 2 ≤ K) (meant : AreScoresMeant) (sites : ℕ → Site) (events : List Event) (are : AreEventsOf limits rule K sites events) (runnable : AreRunnable limits rule K count events) where
  abbrev W : List Operation
  W = made_of events

  play_on : (before rest : List Event) → events ≡ before ++ rest → (r : Run) → IsAlike W before r → (plays : List (List runs.Event)) × IsRest rule K count W before rest r plays
  play_on before [] is r alike = ([], ended rule K count W before r alike)
  play_on before (e ∷ rest) is r alike =
      longer rule K count W before e rest r alike (one_call limits rule K count two meant sites events are runnable before e rest is r alike)
      (λ q stands. play_on (before ++ e ∷ []) rest (is ∙ sym (append_assoc before (e ∷ []) rest)) q stands)

  pub plays : (played : List (List runs.Event)) × IsPlay rule K count events played
  plays =
      let all = play_on [] events refl start (started W) in
      let is = all.1 in
      let most = runnable.most in (
        all.0,
        record {
          playable = record { heaps = (omega (arith, two), most); few = runnable.few; each = is.each; there = is.there 0 };
          calls = is.calls;
          made = made_all all.0 (is.alike (length events) (omega arith)) is.calls;
          sets = λ before after split s.
              let shorter : length events ≡ length before + length after = ap length split ∙ length-append before after in
              let at = is.alike (length before) (omega (arith, shorter)) in
              subst (λ l. AreSame ((run rule K (events_in (take (length before) all.0))).now.sets s) (has_at W s l)) (ap (take (length before)) split ∙ take_front before after) (at.sets s);
        },
      )
    where
      -- as many as the calls
      as_long : (calls : List Event) (r : Run) (played : List (List runs.Event)) → ArePlayed rule K r calls played → length played ≡ length calls
      as_long [] r [] are = refl
      as_long [] r (p ∷ played) are = absurd are
      as_long (e ∷ calls) r [] are = absurd are
      as_long (e ∷ calls) r (events ∷ played) are = ap suc (as_long calls (run_on rule K events r) played are.1)

      made_all : (played : List (List runs.Event)) → IsAlike W (take (length events) events) (run_on rule K (events_in (take (length events) played)) start) → ArePlayed rule K start events played →
          AreSame (run rule K (events_in played)).now.made (made_of events)
      made_all played at calls =
          let same : take (length events) played ≡ played = take_all (length events) played (let long = as_long events start played calls in omega (arith, long)) in
          subst (λ l. AreSame (run rule K (events_in l)).now.made (made_of events)) same
          (subst (λ l. AreSame (run rule K (events_in (take (length events) played))).now.made (made_of l)) (take_all (length events) events (omega arith)) at.made)
