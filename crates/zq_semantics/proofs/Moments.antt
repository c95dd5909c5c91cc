-- What the sites had after some of the events, what they keep, and what their vectors tell of what was made.

use Rattle.std.proofs.Common.{Err, List, None, Ok, Option, Some, [], ap, arith, false, inl, inr, length, refl, subst, suc, true, zero, ℕ, ◌++◌, ◌+◌, ◌<◌, ◌∙◌, ◌∷◌, ◌≡◌, ◌≤◌}
use Rattle.std.proofs.lemmas.List.{length_push}
use Rattle.std.specs.Prelude.{if◌then◌else◌, slice_get, take}
use Rattle.zq_model.proofs.Dots.{counter_positive, has_from, last_above}
use Rattle.zq_model.proofs.Membership.{in_left}
use Rattle.zq_model.proofs.Taken.{known_here}
use Rattle.zq_model.proofs.Worlds.{vector_is, world_part}
use Rattle.zq_model.specs.Operation.{Operation, has}
use Rattle.zq_model.specs.Rule.{Rule}
use Rattle.zq_model.specs.Sets.{AreSame, Early, IsIn, IsWorld, Known, New, Taken, in_heap, last, vector_of}
use Rattle.zq_model.proofs.Lists.{in_filter, in_filter_from}
use Rattle.zq_model.specs.Moves.{Move}
use Rattle.zq_semantics.specs.Plan.{plan_of}
use Rattle.zq_semantics.proofs.Kept.{IsKept, at_each, world_of}
use Rattle.zq_semantics.proofs.KeptRuns.{either_done}
use Rattle.zq_semantics.specs.Doing.{done, is_ping, queues_for}
use Rattle.zq_semantics.specs.Events.{Do, Event, Merge, Run, Take, after_taken, after_take, is_blocked, judged, set_at, set_in, state_after}
use Rattle.zq_semantics.specs.Runs.{after_event, known_by, run_on, start}
use Rattle.zq_semantics.specs.State.{Sets, State, after_move, after_moves, counted, home_of, is_worn, next_stamp, operation_by, standing}
use Rattle.zq_words.specs.Command.{command_of}

slice_get_left : {X : Type 0} (xs ys : List X) (i : ℕ) → i < length xs → slice_get (xs ++ ys) i ≡ slice_get xs i
slice_get_left [] ys i inside = absurd (omega arith)
slice_get_left (x ∷ xs) ys zero inside = refl
slice_get_left (x ∷ xs) ys (suc i) inside = slice_get_left xs ys i (omega arith)

slice_get_pushed : {X : Type 0} (xs : List X) (y : X) → slice_get (xs ++ y ∷ []) (length xs) ≡ Some y
slice_get_pushed [] y = refl
slice_get_pushed (x ∷ xs) y = slice_get_pushed xs y

-- ---- moments

module _ (rule : Rule) (K : ℕ) where
  -- further events leave what was
  past_stays : (events : List Event) (r : Run) (i : ℕ) → i < length r.past → slice_get (run_on rule K events r).past i ≡ slice_get r.past i
  past_stays [] r i inside = refl
  past_stays (e ∷ events) r i inside =
      let longer = length_push r.past (state_after rule K r e).sets in
      past_stays events (after_event rule K r e) i (omega (arith, longer, inside)) ∙ slice_get_left r.past ((state_after rule K r e).sets ∷ []) i inside

  -- what the sites have after some of the events stands in the past of all of them
  past_at : (events : List Event) (j : ℕ) (r : Run) (front : List Sets) (i : ℕ) → r.past ≡ front ++ r.now.sets ∷ [] → i ≡ length front + j → j ≤ length events →
      slice_get (run_on rule K events r).past i ≡ Some (run_on rule K (take j events) r).now.sets
  past_at events zero r front i is place few =
      let longer : length r.past ≡ length front + 1 = ap length is ∙ length_push front r.now.sets in
      let here : i ≡ length front = omega (arith, place) in
      past_stays events r i (omega (arith, longer, here))
      ∙ ap (λ (past : List Sets). slice_get past i) is
      ∙ ap (slice_get (front ++ r.now.sets ∷ [])) here
      ∙ slice_get_pushed front r.now.sets
  past_at [] (suc j) r front i is place few = absurd (omega (arith, few))
  past_at (e ∷ events) (suc j) r front i is place few =
      let longer : length r.past ≡ length front + 1 = ap length is ∙ length_push front r.now.sets in
      past_at events j (after_event rule K r e) r.past i refl (omega (arith, longer, place)) (omega (arith, few))

  pub moments_are : (events : List Event) (moment site : ℕ) → moment ≤ length events → set_at (run_on rule K events start) moment site ≡ (run_on rule K (take moment events) start).now.sets site
  moments_are events moment site few =
      ap (λ (sets : Option Sets). set_in sets site) (past_at events moment start [] moment refl (omega arith) few)

  -- ---- what a site has it keeps

  module _ (site : ℕ) (o : Operation) where
    abbrev IsThere : State → Type 0
    IsThere st = IsIn o (st.sets site)

    counted_stays : (st : State) (changed heap stamp : ℕ) (made S : List Operation) → ((p : Operation) → IsIn p (st.sets changed) → IsIn p S) → IsThere st → IsThere (counted st changed heap stamp made S)
    counted_stays st changed heap stamp made S more i = at_each (λ s T. IsIn o (st.sets s) → IsIn o T) st.sets changed S (λ s j. j) (more o) site i

    moves_stay : (by stamp : ℕ) (moves : List Move) (st : State) → IsThere st → IsThere (after_moves K by stamp moves st)
    moves_stay by stamp [] st i = i
    moves_stay by stamp (move ∷ moves) st i =
        let next = operation_by st by (home_of K move) move in
        moves_stay by stamp moves (after_move K by stamp move st) (counted_stays st by (home_of K move) stamp (st.made ++ next ∷ []) (next ∷ st.sets by) (λ p j. inr j) i)

    taken_stays : (st : State) (to : ℕ) (p : Operation) (taken : Taken) → IsThere st → IsThere (after_taken K st to p taken)
    taken_stays st to p New i =
        elim (is_blocked K st to p.heap) as (λ b. IsThere (if b then st else counted st to p.heap (next_stamp K st to) st.made (p ∷ st.sets to))) [
          | true ↦ i
          | false ↦ counted_stays st to p.heap (next_stamp K st to) st.made (p ∷ st.sets to) (λ q j. inr j) i
        ]
    taken_stays st to p Known i = i
    taken_stays st to p Early i = i

    event_stays : (r : Run) (e : Event) → IsThere r.now → IsThere (state_after rule K r e)
    event_stays r (Do by words w1 w2) i =
        elim (command_of words) as (λ c. IsThere (done rule K by w1 w2 r.now c).now) [
          | Err refused ↦ i
          | Ok command ↦
              let moves = (plan_of command (queues_for rule K (r.now.sets by) w1 w2 command)).moves in
              either_done IsThere (is_ping command) _ _ i (either_done IsThere (is_worn K r.now by) _ _ i
              (moves_stay by (next_stamp K r.now by) (take (standing K by (next_stamp K r.now by) moves r.now) moves) r.now i))
        ]
    event_stays r (Take to op) i =
        elim (slice_get r.now.made op) as (λ p. IsThere (after_take K r.now to p)) [
          | None ↦ i
          | Some p ↦ taken_stays r.now to p (judged r.now to p) i
        ]
    event_stays r (Merge to from heap moment) i =
        let S = r.now.sets to ++ in_heap heap (set_at r moment from) in
        elim (is_blocked K r.now to heap) as (λ b. IsThere (if b then r.now else counted r.now to heap (next_stamp K r.now to) r.now.made S)) [
          | true ↦ i
          | false ↦ counted_stays r.now to heap (next_stamp K r.now to) r.now.made S (λ p j. in_left p (r.now.sets to) (in_heap heap (set_at r moment from)) j) i
        ]

    run_stays : (more : List Event) (r : Run) → IsThere r.now → IsThere (run_on rule K more r).now
    run_stays [] r i = i
    run_stays (e ∷ more) r i = run_stays more (after_event rule K r e) (event_stays r e i)

    pub stays : (events more : List Event) (r : Run) → IsThere (run_on rule K events r).now → IsThere (run_on rule K (events ++ more) r).now
    stays [] more r i = run_stays more r i
    stays (e ∷ events) more r i = stays events more (after_event rule K r e) i

-- ---- what the vectors tell

module _ (K : ℕ) (past : List Sets) (st : State) (kept : IsKept K past st) (site : ℕ) where
  abbrev its : List Operation
  its = st.sets site

  its_world : IsWorld K its
  its_world = world_of K past st kept site

  pub known_are : AreSame (known_by (vector_of its) st.made) its
  known_are = record {
    forth = λ o i.
        let found = in_filter_from (λ (p : Operation). has (vector_of its p.heap) p.site p.n) st.made o i in
        let together : IsWorld K (o ∷ its) = world_part K (o ∷ its) st.made (λ p j. elim j [ inl e ↦ subst (λ x. IsIn x st.made) e found.0 | inr there ↦ kept.now.within site p there ]) kept.world in
        known_here K its o (vector_of its o.heap) together (kept.now.closed site) (vector_is K its o.heap its_world) found.1;
    back = λ o i.
        let inside : o.n ≤ last its o.heap o.site = last_above its o.heap o.site o i refl refl in
        let is = (vector_is K its o.heap its_world).counter o.site in
        in_filter (λ (p : Operation). has (vector_of its p.heap) p.site p.n) st.made o (kept.now.within site o i)
        (has_from (vector_of its o.heap) o.site o.n (counter_positive K its o its_world i) (omega (arith, inside, is)));
  }
