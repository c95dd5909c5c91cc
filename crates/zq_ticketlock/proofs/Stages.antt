-- What the tests of a seat's stage say of its view and of the slots that it has out.
use Rattle.std.proofs.Common.{◌≡◌, ℕ, ◌==◌, ◌&&◌, Bool, true, false, Option, Some, None, List, [], ◌∷◌, refl, ap}
use Rattle.std.specs.Prelude.{is_none}
use Rattle.std.proofs.lemmas.Bool.{eqb-true}
use Rattle.zq_ticketlock.specs.declared.turns.Entry.{Entry}
use Rattle.zq_ticketlock.specs.declared.view.View.{View}
use Rattle.zq_ticketlock.specs.declared.view.View.TheVariants.{Vacant, Idle, Met, Waiting, Holding, Spent}
use Rattle.zq_ticketlock.specs.Views.{Sat, nothing_out, value_out, vacant_view, idle_view, waiting_view, holding_view, is_vacant, is_idle, is_waiting, is_holding}

and_true : (a b : Bool) → (a && b) ≡ true → (a ≡ true) × (b ≡ true)
and_true true b e = (refl, e)
and_true false b e = absurd (cc)

module _ {T : Type 0} where
  nothing_is : (slots : List (ℕ × Option T)) → nothing_out slots ≡ true → slots ≡ []
  nothing_is [] e = refl
  nothing_is (slot ∷ slots) e = absurd (cc)

  none_is : (o : Option T) → is_none o ≡ true → o ≡ None
  none_is None e = refl
  none_is (Some x) e = absurd (cc)

  value_is : (slots : List (ℕ × Option T)) → value_out slots ≡ true → slots ≡ (0, None) ∷ []
  value_is [] e = absurd (cc)
  value_is (slot ∷ slots) e =
      let first = and_true ((slot.0 == 0) && is_none slot.1) (nothing_out slots) e in
      let both = and_true (slot.0 == 0) (is_none slot.1) first.0 in
      let place : slot.0 ≡ 0 = eqb-true slot.0 0 both.0 in
      let empty : slot.1 ≡ None = none_is slot.1 both.1 in
      let rest : slots ≡ [] = nothing_is slots first.1 in λ i. (place i, empty i) ∷ rest i

  vacant_is : (v : View T) → vacant_view v ≡ true → (n : ℕ) × (v ≡ Vacant n false)
  vacant_is (Vacant n false) e = (n, refl)
  vacant_is (Vacant n true) e = absurd (cc)
  vacant_is (Idle low reached x turns) e = absurd (cc)
  vacant_is (Met low x y turns) e = absurd (cc)
  vacant_is (Waiting n x turns) e = absurd (cc)
  vacant_is (Holding n x turns) e = absurd (cc)
  vacant_is Spent e = absurd (cc)

  idle_is : (v : View T) → idle_view v ≡ true → (low : ℕ) × (reached : ℕ) × (x : T) × (turns : List (Entry T)) × (v ≡ Idle low reached x turns)
  idle_is (Vacant n out) e = absurd (cc)
  idle_is (Idle low reached x turns) e = (low, reached, x, turns, refl)
  idle_is (Met low x y turns) e = absurd (cc)
  idle_is (Waiting n x turns) e = absurd (cc)
  idle_is (Holding n x turns) e = absurd (cc)
  idle_is Spent e = absurd (cc)

  waiting_is : (k : ℕ) (v : View T) → waiting_view k v ≡ true → (x : T) × (turns : List (Entry T)) × (v ≡ Waiting k x turns)
  waiting_is k (Vacant n out) e = absurd (cc)
  waiting_is k (Idle low reached x turns) e = absurd (cc)
  waiting_is k (Met low x y turns) e = absurd (cc)
  waiting_is k (Waiting n x turns) e = (x, turns, ap (λ (m : ℕ). Waiting m x turns) (eqb-true n k e))
  waiting_is k (Holding n x turns) e = absurd (cc)
  waiting_is k Spent e = absurd (cc)

  holding_is : (k : ℕ) (v : View T) → holding_view k v ≡ true → (x : T) × (turns : List (Entry T)) × (v ≡ Holding k x turns)
  holding_is k (Vacant n out) e = absurd (cc)
  holding_is k (Idle low reached x turns) e = absurd (cc)
  holding_is k (Met low x y turns) e = absurd (cc)
  holding_is k (Waiting n x turns) e = absurd (cc)
  holding_is k (Holding n x turns) e = (x, turns, ap (λ (m : ℕ). Holding m x turns) (eqb-true n k e))
  holding_is k Spent e = absurd (cc)

  pub vacant_seat : (me : Sat T) → is_vacant me ≡ true → (n : ℕ) × (me ≡ (Vacant n false, []))
  vacant_seat me e =
      let parts = and_true (vacant_view me.0) (nothing_out me.1) e in
      let view = vacant_is me.0 parts.0 in
      let slots = nothing_is me.1 parts.1 in (view.0, λ i. (view.1 i, slots i))

  pub idle_seat : (me : Sat T) → is_idle me ≡ true → (low : ℕ) × (reached : ℕ) × (x : T) × (turns : List (Entry T)) × (me ≡ (Idle low reached x turns, []))
  idle_seat me e =
      let parts = and_true (idle_view me.0) (nothing_out me.1) e in
      let view = idle_is me.0 parts.0 in
      let slots = nothing_is me.1 parts.1 in (view.0, view.1, view.2, view.3, λ i. (view.4 i, slots i))

  pub waiting_seat : (k : ℕ) (me : Sat T) → is_waiting k me ≡ true → (x : T) × (turns : List (Entry T)) × (me ≡ (Waiting k x turns, []))
  waiting_seat k me e =
      let parts = and_true (waiting_view k me.0) (nothing_out me.1) e in
      let view = waiting_is k me.0 parts.0 in
      let slots = nothing_is me.1 parts.1 in (view.0, view.1, λ i. (view.2 i, slots i))

  pub holding_seat : (k : ℕ) (me : Sat T) → is_holding k me ≡ true → (x : T) × (turns : List (Entry T)) × (me ≡ (Holding k x turns, (0, None) ∷ []))
  holding_seat k me e =
      let parts = and_true (holding_view k me.0) (value_out me.1) e in
      let view = holding_is k me.0 parts.0 in
      let slots = value_is me.1 parts.1 in (view.0, view.1, λ i. (view.2 i, slots i))
