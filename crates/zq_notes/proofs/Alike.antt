-- Running sites beside the run of a world: that they stand alike, and that they do after a call.

use Rattle.std.proofs.Common.{ap, arith, inl, inr, refl, subst, suc, sym, zero, ◌∙◌}
use Rattle.std.proofs.lemmas.Bool.{cases_eq, cases_lt}
use Rattle.std.proofs.lemmas.List.{append-nil, length_push, take-append-le, take_all}
use Rattle.std.specs.Prelude.{List, Option, Some, [], length, slice_get, take, ℕ, ◌+◌, ◌++◌, ◌<◌, ◌∷◌, ◌≡◌, ◌≤◌}
use Rattle.zq_model.specs.Operation.{Operation}
use Rattle.zq_model.specs.Rule.{Rule}
use Rattle.zq_model.specs.Sets.{AreSame, IsClosed, IsIn}
use Rattle.zq_notes.proofs.OfSites.{gathered-append, made_from-append, notes_apart, notes_at-append, notes_here}
use Rattle.zq_notes.specs.Gathered.{gathered, gathered_by}
use Rattle.zq_notes.specs.Sites.{Event, has_at, made_in_all, made_of, notes_at}
use Rattle.zq_notes.specs.Uncut.{steps_in, steps_of}
use Rattle.zq_semantics.specs.Events as runs
use Rattle.zq_semantics.specs.Events.{Run, set_at, set_in, state_after}
use Rattle.zq_semantics.specs.Runs.{after_event}
use Rattle.zq_semantics.specs.State.{Sets, State}

-- ---- sets

pub same_self : (S : List Operation) → AreSame S S
same_self S = record { forth = λ o i. i; back = λ o i. i }

pub same_through : (S T U : List Operation) → AreSame S T → AreSame T U → AreSame S U
same_through S T U first second = record { forth = λ o i. second.forth o (first.forth o i); back = λ o i. first.back o (second.back o i) }

pub same_by : (S T U : List Operation) → AreSame S T → T ≡ U → AreSame S U
same_by S T U same is = subst (AreSame S) is same

pub closed_same : (S T : List Operation) → AreSame S T → IsClosed T → IsClosed S
closed_same S T same closed = record {
  before = λ o i s n known.
      let dot = closed.before o (same.forth o i) s n known in
      (dot.0, same.back dot.0 dot.1, dot.2, dot.3, dot.4);
}

-- ---- places in lists

pub place_of : {X : Type 0} (x : X) (xs : List X) → IsIn x xs → (i : ℕ) × (slice_get xs i ≡ Some x) × (i < length xs)
place_of x [] i = absurd i
place_of x (y ∷ xs) (inl e) = (0, ap Some e, omega arith)
place_of x (y ∷ xs) (inr i) = let rest = place_of x xs i in let below = rest.2 in (suc rest.0, rest.1, omega (arith, below))

pub get_left : {X : Type 0} (xs ys : List X) (i : ℕ) → i < length xs → slice_get (xs ++ ys) i ≡ slice_get xs i
get_left [] ys i inside = absurd (omega (arith, inside))
get_left (x ∷ xs) ys zero inside = refl
get_left (x ∷ xs) ys (suc i) inside = get_left xs ys i (omega (arith, inside))

pub get_pushed : {X : Type 0} (xs : List X) (y : X) → slice_get (xs ++ y ∷ []) (length xs) ≡ Some y
get_pushed [] y = refl
get_pushed (x ∷ xs) y = get_pushed xs y

pub take_front : {X : Type 0} (xs ys : List X) → take (length xs) (xs ++ ys) ≡ xs
take_front [] ys = refl
take_front (x ∷ xs) ys = ap (λ l. x ∷ l) (take_front xs ys)

-- ---- steps and events

pub steps_of-append : (xs ys : List Event) → steps_of (xs ++ ys) ≡ steps_of xs + steps_of ys
steps_of-append [] ys = omega arith
steps_of-append (e ∷ xs) ys = let rest = steps_of-append xs ys in omega (arith, rest)

steps_next : (before : List Event) (e : Event) → steps_of (before ++ e ∷ []) ≡ steps_of before + steps_in e.call.note.steps
steps_next before e = let is = steps_of-append before (e ∷ []) in omega (arith, is)

module _ (W : List Operation) where
  has_here : (before : List Event) (e : Event) → has_at W e.site (before ++ e ∷ []) ≡ gathered_by W e.call.note.heaps e.call.note.steps (has_at W e.site before)
  has_here before e =
      ap (λ notes. gathered W notes []) (notes_at-append e.site before (e ∷ []) ∙ ap (λ l. notes_at e.site before ++ l) (notes_here e.site e [] refl))
      ∙ gathered-append W (notes_at e.site before) (e.call.note ∷ []) []

  has_apart : (t : ℕ) (before : List Event) (e : Event) → (e.site ≡ t → ⊥) → has_at W t (before ++ e ∷ []) ≡ has_at W t before
  has_apart t before e apart =
      ap (λ notes. gathered W notes []) (notes_at-append t before (e ∷ []) ∙ ap (λ l. notes_at t before ++ l) (notes_apart t e [] apart) ∙ append-nil (notes_at t before))

  -- ---- the run and the sites

  -- what the sites had after these events stands in the run's past
  pub record HasMoment (r : Run) (past : List Event) : Type 0 where
    pub moment : ℕ
    pub there : moment < length r.past
    pub sets : (s : ℕ) → AreSame (set_at r moment s) (has_at W s past)

  -- the run stands as the sites do after these events
  pub record IsAlike (before : List Event) (r : Run) : Type 0 where
    pub sets : (s : ℕ) → AreSame (r.now.sets s) (has_at W s before)
    pub made : AreSame r.now.made (made_of before)
    pub stamps : (s h : ℕ) → r.now.stamps s h ≤ steps_of before
    pub counts : (s h : ℕ) → r.now.counts s h ≤ steps_of before
    pub past : (k : ℕ) → k ≤ length before → HasMoment r (take k before)

  -- the state is the one after the event's call
  pub record IsNext (before : List Event) (e : Event) (st now : State) : Type 0 where
    pub here : AreSame (now.sets e.site) (gathered_by W e.call.note.heaps e.call.note.steps (has_at W e.site before))
    pub others : (t : ℕ) → (t ≡ e.site → ⊥) → now.sets t ≡ st.sets t
    pub made : AreSame now.made (made_in_all e.call.note.steps (made_of before))
    pub stamps : (s h : ℕ) → now.stamps s h ≤ steps_of before + steps_in e.call.note.steps
    pub counts : (s h : ℕ) → now.counts s h ≤ steps_of before + steps_in e.call.note.steps

  module _ (before : List Event) (e : Event) (r : Run) (alike : IsAlike before r) (now : State) (next : IsNext before e r.now now) where
    pub sets_next : (t : ℕ) → AreSame (now.sets t) (has_at W t (before ++ e ∷ []))
    sets_next t = elim (cases_eq e.site t) [
      | inl same ↦ subst (λ s. AreSame (now.sets s) (has_at W s (before ++ e ∷ []))) same
          (same_by (now.sets e.site) _ _ next.here (sym (has_here before e)))
      | inr apart ↦ same_by (now.sets t) (has_at W t before) _ (subst (λ T. AreSame T (has_at W t before)) (sym (next.others t (λ is. apart (sym is)))) (alike.sets t)) (sym (has_apart t before e apart))
    ]

    made_next : AreSame now.made (made_of (before ++ e ∷ []))
    made_next = same_by now.made _ _ next.made (sym (made_from-append before (e ∷ []) []))

    -- with the same past, and as long as that has the moments before, the run stands so after the call
    pub stands : (now_too : Run) → now_too.now ≡ now → ((k : ℕ) → k ≤ length before → HasMoment now_too (take k before)) → HasMoment now_too (before ++ e ∷ []) → IsAlike (before ++ e ∷ []) now_too
    stands after is earlier last = record {
      sets = λ t. subst (λ (st : State). AreSame (st.sets t) (has_at W t (before ++ e ∷ []))) (sym is) (sets_next t);
      made = subst (λ (st : State). AreSame st.made (made_of (before ++ e ∷ []))) (sym is) made_next;
      stamps = λ s h. subst (λ (st : State). st.stamps s h ≤ steps_of (before ++ e ∷ [])) (sym is) (let low = next.stamps s h in let sum = steps_next before e in omega (arith, low, sum));
      counts = λ s h. subst (λ (st : State). st.counts s h ≤ steps_of (before ++ e ∷ [])) (sym is) (let low = next.counts s h in let sum = steps_next before e in omega (arith, low, sum));
      past = λ k few. elim (cases_lt (length before) k) [
        | inl above ↦ subst (HasMoment after) (sym (take_all k (before ++ e ∷ []) (let longer = length_push before e in omega (arith, above, longer)))) last
        | inr below ↦ subst (HasMoment after) (sym (take-append-le k before (e ∷ []) below)) (earlier k below)
      ];
    }

    -- an event of the run
    pub after_one : (p : runs.Event) (rule : Rule) (K : ℕ) → state_after rule K r p ≡ now → IsAlike (before ++ e ∷ []) (after_event rule K r p)
    after_one p rule K is = stands (after_event rule K r p) is earlier last
      where
        kept : (moment s : ℕ) → moment < length r.past → set_at (after_event rule K r p) moment s ≡ set_at r moment s
        kept moment s inside = ap (λ (o : Option Sets). set_in o s) (get_left r.past ((state_after rule K r p).sets ∷ []) moment inside)

        earlier : (k : ℕ) → k ≤ length before → HasMoment (after_event rule K r p) (take k before)
        earlier k few =
            let at = alike.past k few in
            let inside = at.there in
            let longer = length_push r.past (state_after rule K r p).sets in
            record {
              moment = at.moment;
              there = omega (arith, inside, longer);
              sets = λ s. subst (λ T. AreSame T (has_at W s (take k before))) (sym (kept at.moment s inside)) (at.sets s);
            }

        last : HasMoment (after_event rule K r p) (before ++ e ∷ [])
        last =
            let longer = length_push r.past (state_after rule K r p).sets in
            record {
              moment = length r.past;
              there = omega (arith, longer);
              sets = λ s. subst (λ T. AreSame T (has_at W s (before ++ e ∷ [])))
                  (sym (ap (λ (o : Option Sets). set_in o s) (get_pushed r.past (state_after rule K r p).sets) ∙ ap (λ (st : State). st.sets s) is)) (sets_next s);
            }

    -- a call that is no event
    pub after_none : r.now ≡ now → IsAlike (before ++ e ∷ []) r
    after_none is = stands r is (alike.past) last
      where
        at : HasMoment r (take (length before) before)
        at = alike.past (length before) (omega arith)

        last : HasMoment r (before ++ e ∷ [])
        last = record {
          moment = at.moment;
          there = at.there;
          sets = λ s. same_through _ (r.now.sets s) _
              (same_through _ (has_at W s before) _ (subst (λ p. AreSame (set_at r at.moment s) (has_at W s p)) (take_all (length before) before (omega arith)) (at.sets s)) (record { forth = (alike.sets s).back; back = (alike.sets s).forth }))
              (subst (λ (st : State). AreSame (st.sets s) (has_at W s (before ++ e ∷ []))) (sym is) (sets_next s));
        }
