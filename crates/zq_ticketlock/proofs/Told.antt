-- What a seat can tell from a step that it made.
use Rattle.std.proofs.Common.{◌≡◌, ℕ, ◌<◌, ◌==◌, ◌++◌, true, Option, Some, None, List, [], ◌∷◌, refl, sym, ap, subst, ◌∙◌, eq-eqb}
use Rattle.std.specs.Prelude.{IfSome, IsSome, MatchBool}
use Rattle.std.proofs.lemmas.Bool.Decides.{when_true}
use Rattle.atomic_table.specs.Table.{Step, rest}
use Rattle.zq_ticketlock.specs.declared.turns.Entry.{Entry}
use Rattle.zq_ticketlock.specs.declared.view.View.TheVariants.{Vacant, Idle, Met, Holding}
use Rattle.zq_ticketlock.specs.Seats.{entry, turn, turns_of}
use Rattle.zq_ticketlock.specs.Views.{Sat, is_idle, is_waiting, is_holding, seen_by, ticket_of, turns_by, turns_with}
use Rattle.zq_ticketlock.specs.Steps.{Arrived, Tried, Takes, FollowsSeen, FollowsBoth, Released, met, reaching}
use Rattle.zq_ticketlock.proofs.Stages.{idle_seat, waiting_seat, holding_seat}

-- a value was seen, and it has this property
pub seen_some : {T : Type 0} (P : T → Type 0) (o : Option T) → IsSome o → IfSome o P → (x : T) × (o ≡ Some x) × P x
seen_some P (Some x) some is = (x, refl, is)
seen_some P None some is = absurd (cc)

found_it : (found n : ℕ) (P Q : Type 0) → found ≡ n → MatchBool (found == n) P Q → P
found_it found n P Q same told = when_true P Q (eq-eqb found n same) told

-- the seat of a vacant lock with a value put into its slot
pub value_in : {T : Type 0} (n : ℕ) (x : T) (me after : Sat T) → me ≡ (Vacant n true, (0, None) ∷ []) → after ≡ (me.0, (0, Some x) ∷ rest me.1)
    → after ≡ (Vacant n true, (0, Some x) ∷ [])
value_in {T} n x me after out is = is ∙ ap (λ (m : Sat T). let p : Sat T = (m.0, (0, Some x) ∷ rest m.1) in p) out

-- the turns of a holder that has put a value home: one more, of the value that it was given and this one
pub turn_more : {T : Type 0} (n : ℕ) (y : T) (me : Sat T) → is_holding n me ≡ true → (turns : List (Entry T)) → turns ≡ turns_with y me.0
    → IfSome (seen_by me.0) (λ x. turns ≡ record { ticket = n; turn = record { given = x; home = y } } ∷ turns_by me.0)
turn_more {T} n y me holding turns is =
    subst (λ (m : Sat T). turns ≡ turns_with y m.0 → IfSome (seen_by m.0) (λ x. turns ≡ record { ticket = n; turn = record { given = x; home = y } } ∷ turns_by m.0)) (sym (holding_seat n me holding).2) (λ same. same) is

-- without its ticket
pub turn_only : {T : Type 0} (n : ℕ) (y : T) (me : Sat T) → is_holding n me ≡ true → (turns : List (Entry T)) → IfSome (seen_by me.0) (λ x. turns ≡ entry n x y ∷ turns_by me.0)
    → IfSome (seen_by me.0) (λ x. turns_of turns ≡ turn x y ∷ turns_of (turns_by me.0))
turn_only {T} n y me holding turns is =
    subst (λ (m : Sat T). IfSome (seen_by m.0) (λ x. turns ≡ entry n x y ∷ turns_by m.0) → IfSome (seen_by m.0) (λ x. turns_of turns ≡ turn x y ∷ turns_of (turns_by m.0))) (sym (holding_seat n me holding).2)
    (λ same. ap turns_of same) is

module _ {T : Type 0} (holds : T → Type 0) (follows : T → T → Type 0) where
  -- a slot that is out alone stands first
  pub only_slot : (o : Option T) (slots : List (ℕ × Option T)) → slots ≡ (0, o) ∷ [] → slots ≡ (0, o) ∷ rest slots
  only_slot o slots is = is ∙ ap (λ (l : List (ℕ × Option T)). (0, o) ∷ rest l) (sym is)

  -- a look that finds the seat's ticket served has taken the value out
  pub arrived : (st : Step (Option T)) (n found : ℕ) (me after : Sat T) → is_waiting n me ≡ true → found ≡ n → Arrived follows holds st me found after → Takes follows holds n (seen_by me.0) (turns_by me.0) after
  arrived st n found me after waiting same told =
      let is = waiting_seat n me waiting in
      let number : ticket_of me.0 ≡ n = ap (λ (m : Sat T). ticket_of m.0) is.2 in
      subst (λ (k : ℕ). Takes follows holds k (seen_by me.0) (turns_by me.0) after) number
      (found_it found (ticket_of me.0) (Takes follows holds (ticket_of me.0) (seen_by me.0) (turns_by me.0) after) (after ≡ me) (same ∙ sym number) told)

  -- a try that finds the ticket next has taken the value out
  pub tried : (st : Step (Option T)) (found : ℕ) (me after : Sat T) → found ≡ st.first → Tried follows holds st me found after → Takes follows holds st.first (seen_by me.0) (turns_by me.0) after
  tried st found me after same told = found_it found st.first (Takes follows holds st.first (seen_by me.0) (turns_by me.0) after) ((after ≡ (reaching found me.0, me.1)) × (st.first < found)) same told

  -- a holder's seat with a value put back into its slot
  pub filled : (n : ℕ) (y : T) (me after : Sat T) (holding : is_holding n me ≡ true) → after ≡ (me.0, (0, Some y) ∷ rest me.1)
      → after ≡ (Holding n (holding_seat n me holding).0 (holding_seat n me holding).1, (0, Some y) ∷ [])
  filled n y me after holding is =
      let was = (holding_seat n me holding).2 in is ∙ ap (λ (m : Sat T). let p : Sat T = (m.0, (0, Some y) ∷ rest m.1) in p) was

  -- a release by a holder whose value is back in its slot
  pub released : (st : Step (Option T)) (n found : ℕ) (y : T) (me mid after : Sat T) → is_holding n me ≡ true → mid ≡ (me.0, (0, Some y) ∷ rest me.1) → Released st mid found after
      → after ≡ (Idle st.first st.first y (turns_with y me.0), [])
  released st n found y me mid after holding is told =
      told y (ap (λ (m : Sat T). m.1) (filled n y me mid holding is)) ∙ ap (λ (m : Sat T). let p : Sat T = (Idle st.first st.first y (turns_with y m.0), []) in p) is

  -- what follows all that a holder was given follows the value with which it began
  pub follows_given : (n : ℕ) (y : T) (me : Sat T) (holding : is_holding n me ≡ true) → FollowsSeen follows y (seen_by me.0) → follows y (holding_seat n me holding).0
  follows_given n y me holding follow = subst (λ (m : Sat T). FollowsSeen follows y (seen_by m.0)) (holding_seat n me holding).2 follow

  -- the view of two idle seats that were joined
  pub met_view : (me second after : Sat T) (idle : is_idle me ≡ true) (also : is_idle second ≡ true) → after ≡ (met me.0 second.0, me.1)
      → after ≡ (Met (idle_seat me idle).0 (idle_seat me idle).2 (idle_seat second also).2 ((idle_seat me idle).3 ++ (idle_seat second also).3), [])
  met_view me second after idle also is =
      let first = idle_seat me idle in
      let other = idle_seat second also in
      is ∙ ((λ i. (met (first.4 i).0 (other.4 i).0, (first.4 i).1)))

  -- what follows both values of a joined view follows what each seat had seen
  pub follows_each : (x : T) (me second : Sat T) (idle : is_idle me ≡ true) (also : is_idle second ≡ true) → FollowsBoth follows x (met me.0 second.0)
      → FollowsSeen follows x (seen_by me.0) × FollowsSeen follows x (seen_by second.0)
  follows_each x me second idle also both =
      let first = idle_seat me idle in
      let other = idle_seat second also in
      let each = subst (λ (m : Sat T × Sat T). FollowsBoth follows x (met m.0.0 m.1.0)) (λ i. (first.4 i, other.4 i)) both in
      (subst (λ (m : Sat T). FollowsSeen follows x (seen_by m.0)) (sym first.4) each.0, subst (λ (m : Sat T). FollowsSeen follows x (seen_by m.0)) (sym other.4) each.1)

  -- what follows a value that follows all that was seen also follows it
  pub follows_later : ((x y z : T) → follows x y → follows y z → follows x z) → (x y : T) (seen : Option T) → follows x y → FollowsSeen follows y seen → FollowsSeen follows x seen
  follows_later transitive x y None later follow = follow
  follows_later transitive x y (Some z) later follow = transitive x y z later follow
