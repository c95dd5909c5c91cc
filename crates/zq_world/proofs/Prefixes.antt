-- A run with one event more.

use Rattle.std.proofs.Common.{List, None, Option, Some, [], ap, arith, false, length, refl, sym, true, ℕ, ◌++◌, ◌+◌, ◌<◌, ◌∙◌, ◌∷◌, ◌≡◌}
use Rattle.std.proofs.lemmas.Bool.{cond-false, cond-true}
use Rattle.std.proofs.lemmas.List.{length_push}
use Rattle.std.proofs.lemmas.Option.{none-some}
use Rattle.std.specs.Prelude.{if◌then◌else◌}
use Rattle.zq_model.specs.Rule.{Rule}
use Rattle.zq_posheap.proofs.Lists.{slice_get-append_left}
use Rattle.zq_semantics.specs.Events.{Event, Run, is_possible, set_at, set_in, state_after}
use Rattle.zq_semantics.specs.Runs.{AreEvents, IsEvent, IsPlayable, after_event, missing_from, run, run_on, start}
use Rattle.zq_semantics.specs.State.{Sets}

module _ (rule : Rule) (K : ℕ) where
  run_on-append : (xs ys : List Event) (r : Run) → run_on rule K (xs ++ ys) r ≡ run_on rule K ys (run_on rule K xs r)
  run_on-append [] ys r = refl
  run_on-append (e ∷ xs) ys r = run_on-append xs ys (after_event rule K r e)

  pub run_next : (events : List Event) (e : Event) → run rule K (events ++ e ∷ []) ≡ after_event rule K (run rule K events) e
  run_next events e = run_on-append events (e ∷ []) start

  past_length : (xs : List Event) (r : Run) → length (run_on rule K xs r).past ≡ length r.past + length xs
  past_length [] r = omega arith
  past_length (e ∷ xs) r =
      let rest = past_length xs (after_event rule K r e) in
      let longer = length_push r.past (state_after rule K r e).sets in
      omega (arith, rest, longer)

  -- the moments of a run are one more than its events
  pub moments_of : (events : List Event) → length (run rule K events).past ≡ length events + 1
  moments_of events = let long = past_length events start in omega (arith, long)

  -- what the sites had before stays what they had
  pub set_stays : (events : List Event) (e : Event) (moment site : ℕ) → moment < length (run rule K events).past →
      set_at (run rule K (events ++ e ∷ [])) moment site ≡ set_at (run rule K events) moment site
  set_stays events e moment site before =
      ap (λ (r : Run). set_at r moment site) (run_next events e)
      ∙ ap (λ (sets : Option Sets). set_in sets site) (slice_get-append_left (run rule K events).past ((state_after rule K (run rule K events) e).sets ∷ []) moment before)

  module _ (sites : ℕ) where
    missing_next : (i : ℕ) (xs : List Event) (e : Event) (r : Run) → missing_from rule K sites i xs r ≡ None → is_possible K sites (run_on rule K xs r) e ≡ true →
        missing_from rule K sites i (xs ++ e ∷ []) r ≡ None
    missing_next i [] e r none possible = cond-true (is_possible K sites r e) None (Some i) possible
    missing_next i (x ∷ xs) e r none possible =
        elim (is_possible K sites r x) as (λ b. (if b then missing_from rule K sites (i + 1) xs (after_event rule K r x) else Some i) ≡ None →
        (if b then missing_from rule K sites (i + 1) (xs ++ e ∷ []) (after_event rule K r x) else Some i) ≡ None) [
          | true ↦ λ rest. missing_next (i + 1) xs e (after_event rule K r x) rest possible
          | false ↦ λ some. absurd (none-some i (sym some))
        ] none

    -- the first event that is not possible is the first that is missing
    missing_here : (i : ℕ) (xs : List Event) (e : Event) (ys : List Event) (r : Run) → missing_from rule K sites i xs r ≡ None → is_possible K sites (run_on rule K xs r) e ≡ false →
        missing_from rule K sites i (xs ++ e ∷ ys) r ≡ Some (i + length xs)
    missing_here i [] e ys r none away = cond-false (is_possible K sites r e) (missing_from rule K sites (i + 1) ys (after_event rule K r e)) (Some i) away ∙ ap (λ n. Some n) (omega arith)
    missing_here i (x ∷ xs) e ys r none away =
        elim (is_possible K sites r x) as (λ b. (if b then missing_from rule K sites (i + 1) xs (after_event rule K r x) else Some i) ≡ None →
        (if b then missing_from rule K sites (i + 1) (xs ++ e ∷ ys) (after_event rule K r x) else Some i) ≡ Some (i + length (x ∷ xs))) [
          | true ↦ λ rest. missing_here (i + 1) xs e ys (after_event rule K r x) rest away ∙ ap (λ n. Some n) (omega arith)
          | false ↦ λ some. absurd (none-some i (sym some))
        ] none

    pub missing_at : (xs : List Event) (e : Event) (ys : List Event) → missing_from rule K sites 0 xs start ≡ None → is_possible K sites (run rule K xs) e ≡ false →
        missing_from rule K sites 0 (xs ++ e ∷ ys) start ≡ Some (length xs)
    missing_at xs e ys none away = missing_here 0 xs e ys start none away ∙ ap (λ n. Some n) (omega arith)

    events_next : (xs : List Event) (e : Event) → AreEvents xs → IsEvent e → AreEvents (xs ++ e ∷ [])
    events_next [] e are is = (is, tt)
    events_next (x ∷ xs) e are is = (are.0, events_next xs e are.1 is)

    pub playable_next : (events : List Event) (e : Event) → IsPlayable rule K sites events → IsEvent e → is_possible K sites (run rule K events) e ≡ true →
        IsPlayable rule K sites (events ++ e ∷ [])
    playable_next events e are is possible = record {
      heaps = are.heaps;
      few = are.few;
      each = events_next events e are.each is;
      there = missing_next 0 events e start are.there possible;
    }
