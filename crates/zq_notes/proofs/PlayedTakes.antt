-- A list of operations that a site takes in turn is as many events of the run of a world.

use Rattle.std.proofs.Common.{ap, arith, inl, inr, lt-ltb, refl, subst, sym, take_all, ◌∙◌}
use Rattle.std.proofs.lemmas.Bool.{and_from, or_from}
use Rattle.std.proofs.lemmas.List.{length-append, length_push}
use Rattle.std.specs.Prelude.{List, None, Option, Some, [], false, if◌then◌else◌, length, slice_get, take, true, ℕ, ◌+◌, ◌++◌, ◌<◌, ◌∷◌, ◌≡◌, ◌≤◌}
use Rattle.zq_dots.specs.Placed.{Placed}
use Rattle.zq_journal.specs.Books.{steps_when}
use Rattle.zq_model.specs.Image.{Image}
use Rattle.zq_model.specs.Operation.{Operation}
use Rattle.zq_model.specs.Rule.{Rule}
use Rattle.zq_model.specs.Sets as sets
use Rattle.zq_model.specs.Sets.{AreSame, IsIn, IsWorld, taken_of, vector_of}
use Rattle.zq_notes.proofs.Alike.{HasMoment, IsAlike, get_left, get_pushed, place_of, same_self, same_through}
use Rattle.zq_notes.proofs.RunMoves.{apart_is, counts_with, here_is, next_within, not_full, not_worn, numbers_with}
use Rattle.zq_notes.proofs.TakenInTurn.{IsSetOf, in_turn, set_next}
use Rattle.zq_notes.specs.Gathered.{gathered_in}
use Rattle.zq_notes.specs.Played.{AreTakes}
use Rattle.zq_notes.specs.Sites.{Event, has_at, made_of}
use Rattle.zq_notes.specs.Uncut.{steps_of}
use Rattle.zq_semantics.specs.Events as runs
use Rattle.zq_semantics.specs.Events.{Run, Take, after_take, after_taken, answer_taken, answer_to, answer_to_take, is_blocked, is_possible, judged, set_at, set_in, state_after}
use Rattle.zq_semantics.specs.Run.{LAST_COUNT}
use Rattle.zq_semantics.specs.Runs.{AreEvents, after_event, missing_from, run_on}
use Rattle.zq_semantics.specs.State.{Sets, State, counted, next_stamp}
use Rattle.zq_shard.specs.Shard.{HeapImage}
use Rattle.zq_spread.specs.Batches.{AreTaken, heap_after, judged_at, steps_of_all}

-- ---- lists of events

-- what each of these events names is there
abbrev pub ArePossible : Rule → ℕ → ℕ → Run → List runs.Event → Type 0
ArePossible rule K count r [] = Unit {0}
ArePossible rule K count r (p ∷ events) = (is_possible K count r p ≡ true) × ArePossible rule K count (after_event rule K r p) events

pub runs_on : (rule : Rule) (K : ℕ) (xs ys : List runs.Event) (r : Run) → run_on rule K (xs ++ ys) r ≡ run_on rule K ys (run_on rule K xs r)
runs_on rule K [] ys r = refl
runs_on rule K (p ∷ xs) ys r = runs_on rule K xs ys (after_event rule K r p)

pub none_missing : (rule : Rule) (K count : ℕ) (xs ys : List runs.Event) (r : Run) → ArePossible rule K count r xs → ((j : ℕ) → missing_from rule K count j ys (run_on rule K xs r) ≡ None) →
    (i : ℕ) → missing_from rule K count i (xs ++ ys) r ≡ None
none_missing rule K count [] ys r are more i = more i
none_missing rule K count (p ∷ xs) ys r are more i =
    ap (λ b. if b then missing_from rule K count (i + 1) (xs ++ ys) (after_event rule K r p) else Some i) are.0
    ∙ none_missing rule K count xs ys (after_event rule K r p) are.1 more (i + 1)

pub all_events : (xs ys : List runs.Event) → AreEvents xs → AreEvents ys → AreEvents (xs ++ ys)
all_events [] ys first more = more
all_events (p ∷ xs) ys first more = (first.0, all_events xs ys first.1 more)

module _ (rule : Rule) (K count : ℕ) (W : List Operation) (world : IsWorld K W) (before : List Event) (r : Run) (alike : IsAlike W before r) (s h stamp : ℕ) (below : s < count)
    (inside : (o : Operation) → IsIn o (made_of before) → IsIn o W) where
  -- the run in the midst of the call: the site has this set, and so many steps were made
  pub record IsMid (T : List Operation) (c : ℕ) (q : Run) : Type 0 where
    pub here : q.now.sets s ≡ T
    pub others : (t : ℕ) → (t ≡ s → ⊥) → q.now.sets t ≡ r.now.sets t
    pub made : q.now.made ≡ r.now.made
    pub stamps : (a b : ℕ) → q.now.stamps a b ≤ steps_of before + c
    pub counts : (a b : ℕ) → q.now.counts a b ≤ steps_of before + c
    pub earlier : (k : ℕ) → k ≤ length before → HasMoment W q (take k before)
    pub moment : ℕ
    pub there : moment < length q.past
    pub at : (t : ℕ) → AreSame (set_at q moment t) (q.now.sets t)

  pub mid_first : IsMid (r.now.sets s) 0 r
  mid_first =
      let last = alike.past (length before) (omega arith) in
      record {
        here = refl;
        others = λ t apart. refl;
        made = refl;
        stamps = λ a b. let low = alike.stamps a b in omega (arith, low);
        counts = λ a b. let low = alike.counts a b in omega (arith, low);
        earlier = alike.past;
        moment = last.moment;
        there = last.there;
        at = λ t. same_through _ (has_at W t before) _ (subst (λ p. AreSame (set_at r last.moment t) (has_at W t p)) (take_all (length before) before (omega arith)) (last.sets t))
            (record { forth = (alike.sets t).back; back = (alike.sets t).forth });
      }

  -- ---- one event

  -- the state after one event more
  record IsStep (T : List Operation) (c : ℕ) (q : Run) (st : State) : Type 0 where
    here : st.sets s ≡ T
    others : (t : ℕ) → (t ≡ s → ⊥) → st.sets t ≡ q.now.sets t
    made : st.made ≡ q.now.made
    stamps : (a b : ℕ) → st.stamps a b ≤ steps_of before + c
    counts : (a b : ℕ) → st.counts a b ≤ steps_of before + c

  mid_next : (T U : List Operation) (c d : ℕ) (q : Run) (p : runs.Event) → IsMid T c q → IsStep U d q (state_after rule K q p) → IsMid U d (after_event rule K q p)
  mid_next T U c d q p mid step =
      let longer = length_push q.past (state_after rule K q p).sets in
      record {
        here = step.here;
        others = λ t apart. step.others t apart ∙ mid.others t apart;
        made = step.made ∙ mid.made;
        stamps = step.stamps;
        counts = step.counts;
        earlier = λ k few.
            let was = mid.earlier k few in
            let low = was.there in
            record {
              moment = was.moment;
              there = omega (arith, low, longer);
              sets = λ t. subst (λ X. AreSame X (has_at W t (take k before))) (sym (ap (λ (o : Option Sets). set_in o t) (get_left q.past ((state_after rule K q p).sets ∷ []) was.moment low))) (was.sets t);
            };
        moment = length q.past;
        there = omega (arith, longer);
        at = λ t. subst (λ X. AreSame X ((state_after rule K q p).sets t)) (sym (ap (λ (o : Option Sets). set_in o t) (get_pushed q.past (state_after rule K q p).sets))) (same_self ((state_after rule K q p).sets t));
      }

  -- no number that it needs is at its last value
  module _ (T : List Operation) (c : ℕ) (q : Run) (mid : IsMid T c q) (low : steps_of before + c < LAST_COUNT) where
    unblocked : (k : ℕ) → is_blocked K q.now s k ≡ false
    unblocked k = or_from _ _ (not_worn K q.now s (steps_of before + c) mid.stamps low) (not_full q.now s k (steps_of before + c) mid.counts low)

    says_all : (o : Operation) (t : sets.Taken) → answer_taken K q.now s o t ≡ Some t
    says_all o sets.New = ap (λ b. if b then None else Some sets.New) (unblocked o.heap)
    says_all o sets.Known = ap (λ b. if b then None else Some sets.Known) (not_worn K q.now s (steps_of before + c) mid.stamps low)
    says_all o sets.Early = ap (λ b. if b then None else Some sets.Early) (not_worn K q.now s (steps_of before + c) mid.stamps low)

    stays : IsStep T (c + 0) q q.now
    stays = record {
      here = mid.here;
      others = λ t apart. refl;
      made = refl;
      stamps = λ a b. let high = mid.stamps a b in omega (arith, high);
      counts = λ a b. let high = mid.counts a b in omega (arith, high);
    }

    grows : (o : Operation) → IsStep (o ∷ T) (c + 1) q (counted q.now s o.heap (next_stamp K q.now s) q.now.made (o ∷ q.now.sets s))
    grows o = record {
      here = here_is q.now.sets s (o ∷ q.now.sets s) ∙ ap (λ l. o ∷ l) mid.here;
      others = λ t apart. apart_is q.now.sets s (o ∷ q.now.sets s) t apart;
      made = refl;
      stamps = numbers_with q.now.stamps s o.heap (next_stamp K q.now s) (steps_of before + (c + 1)) (λ a b. let high = mid.stamps a b in omega (arith, high))
          (let high = next_within K q.now s (steps_of before + c) mid.stamps in omega (arith, high));
      counts = λ a b. let high = counts_with q.now.counts s o.heap (steps_of before + c) mid.counts a b in omega (arith, high);
    }

    taken_step : (o : Operation) (t : sets.Taken) → IsStep (gathered_in W h (steps_when t stamp o) T) (c + length (steps_when t stamp o)) q (after_taken K q.now s o t)
    taken_step o sets.New =
        subst (IsStep (o ∷ T) (c + 1) q)
        (sym (ap (λ b. if b then q.now else counted q.now s o.heap (next_stamp K q.now s) q.now.made (o ∷ q.now.sets s)) (unblocked o.heap))) (grows o)
    taken_step o sets.Known = stays
    taken_step o sets.Early = stays

  -- ---- all

  pub record IsTakenRun (ops : List Placed) (T : List Operation) (x : HeapImage) (c : ℕ) (q : Run) : Type 0 where
    pub events : List runs.Event
    pub takes : AreTakes rule K q s ops events
    pub possible : ArePossible rule K count q events
    pub each : AreEvents events
    pub mid : IsMid (gathered_in W h (steps_of_all stamp ops x) T) (c + length (steps_of_all stamp ops x)) (run_on rule K events q)

  pub taken_run : (ops : List Placed) (T : List Operation) (x : HeapImage) (c : ℕ) (q : Run) → IsMid T c q → IsSetOf K W world h T x → AreTaken ops x → ((p : Placed) → IsIn p ops → IsIn p.operation (made_of before)) →
      steps_of before + (c + length (steps_of_all stamp ops x)) < LAST_COUNT → IsTakenRun ops T x c q
  taken_run [] T x c q mid set are sent low = record {
    events = [];
    takes = tt;
    possible = tt;
    each = tt;
    mid = subst (λ d. IsMid T d q) (omega arith) mid;
  }
  taken_run (p ∷ ops) T x c q mid set are sent low =
      let o : Operation = p.operation in
      let first = steps_when (judged_at x p) stamp o in
      let rest = steps_of_all stamp ops (heap_after p x) in
      let long : length (first ++ rest) ≡ length first + length rest = length-append first rest in
      let here : IsIn o (made_of before) = sent p (inl refl) in
      let place = place_of o r.now.made (alike.made.back o here) in
      let get : slice_get q.now.made place.0 ≡ Some o = ap (λ l. slice_get l place.0) mid.made ∙ place.1 in
      let placed : place.0 < length q.now.made = (let inner = place.2 in let same = ap length mid.made in omega (arith, inner, same)) in
      let at : o.heap ≡ h = are.0.heap ∙ set.heap in
      let judges : judged q.now s o ≡ judged_at x p =
      ap (λ S. taken_of (vector_of S o.heap) o) mid.here ∙ ap (λ k. taken_of (vector_of T k) o) at ∙ ap (λ (a : Image). taken_of a.vector o) set.image in
      let few : steps_of before + c < LAST_COUNT = omega (arith, low) in
      let p_event : runs.Event = Take s place.0 in
      let now : state_after rule K q p_event ≡ after_taken K q.now s o (judged_at x p) = ap (after_take K q.now s) get ∙ ap (after_taken K q.now s o) judges in
      let says : answer_to rule K q p_event ≡ runs.Handed (Some (judged_at x p)) =
      ap runs.Handed (ap (answer_to_take K q.now s) get ∙ ap (answer_taken K q.now s o) judges ∙ says_all T c q mid few o (judged_at x p)) in
      let U : List Operation = gathered_in W h first T in
      let step : IsStep U (c + length first) q (state_after rule K q p_event) = subst (IsStep U (c + length first) q) (sym now) (taken_step T c q mid few o (judged_at x p)) in
      let next : IsMid U (c + length first) (after_event rule K q p_event) = mid_next T U c (c + length first) q p_event mid step in
      let more = taken_run ops U (heap_after p x) (c + length first) (after_event rule K q p_event) next
      (set_next K W world h stamp T x p set are.0 (λ new. inside o here)) are.2 (λ y i. sent y (inr i)) (omega (arith, low, long)) in
      record {
        events = p_event ∷ more.events;
        takes = (refl, get, (judged_at x p, are.1, says), more.takes);
        possible = (and_from _ _ (lt-ltb _ _ below) (lt-ltb _ _ placed), more.possible);
        each = (tt, more.each);
        mid =
            subst (λ d. IsMid (gathered_in W h (first ++ rest) T) d (run_on rule K more.events (after_event rule K q p_event))) (omega (arith, long))
            (subst (λ X. IsMid X (c + length first + length rest) (run_on rule K more.events (after_event rule K q p_event))) (sym (in_turn W h first rest T)) more.mid);
      }
