-- Where a lock stands, before a step and after it.
use Rattle.std.proofs.Common.{◌≡◌, ℕ, zero, suc, ◌<◌, ◌≤◌, ◌≢◌, Bool, true, Option, List, [], ◌∷◌, set, inl, inr, refl, sym, ap, subst, ◌∙◌, ⊎_elim, arith}
use mathlib.Core.Option as maybe
use mathlib.Core.Option.{some-injective, some-ne-none}
use lib.ListN.{get_elem?}
use Rattle.atomic_table.specs.Table.{State, Act, Valid, stepped, carried_after, Allows}
use Rattle.atomic_table.proofs.Lists.{at_set}
use Rattle.std.specs.Prelude.{slice_index}
use Rattle.zq_ticketlock.specs.declared.view.View.{View}
use Rattle.zq_ticketlock.specs.declared.view.View.TheVariants.{Vacant, Idle, Met, Waiting, Holding, Spent}
use Rattle.zq_ticketlock.specs.Views.{Sat}
use Rattle.zq_ticketlock.specs.Order.{Standing, slot, Knows, Stands, IsKept, IsRuled}

module _ {T : Type 0} where
  pub at_changed : (views : List (View T)) (seat : ℕ) (v w : View T) → get_elem? views seat ≡ maybe.some v → get_elem? (set views seat w) seat ≡ maybe.some w
  at_changed [] seat v w at = absurd (some-ne-none v (sym at))
  at_changed (x ∷ xs) zero v w at = refl
  at_changed (x ∷ xs) (suc seat) v w at = at_changed xs seat v w at

  -- where there is one view, it is that of the first seat
  pub only_view : (v w : View T) (seat : ℕ) → get_elem? (v ∷ []) seat ≡ maybe.some w → (seat ≡ 0) × (v ≡ w)
  only_view v w zero here = (refl, some-injective v w here)
  only_view v w (suc seat) here = absurd (some-ne-none w (sym here))

  -- the views of one seat are one view
  pub one_view : (views : List (View T)) (seat other : ℕ) (v w : View T) → get_elem? views seat ≡ maybe.some v → get_elem? views other ≡ maybe.some w → seat ≡ other → v ≡ w
  one_view views seat other v w here there same = some-injective v w (sym here ∙ ap (get_elem? views) same ∙ there)

  -- the table that stands there
  abbrev pub table : Standing T → List (View T) → State (Option T) (View T)
  table at views = record { words = at.serving ∷ at.next ∷ []; homes = slot at.out at.value ∷ []; views = views }

module _ {T : Type 0} (holds : T → Type 0) (follows : T → T → Type 0) where
  abbrev Rule : State (Option T) (View T) → Type 0
  Rule = IsKept holds follows

  pub kept : (at : Standing T) (views : List (View T)) → Stands holds follows at views → Rule (table at views)
  kept at views stands = record { at = at; words = refl; homes = refl; stands = stands }

  pub table_is : (s : State (Option T) (View T)) (k : Rule s) → s ≡ table k.at s.views
  table_is s k = λ i. record { words = k.words i; homes = k.homes i; views = s.views }

  -- What a seat may do by a step that leaves this number in the word: it gets a view, and keeps, takes or gives a value,
  -- so that the rule is kept, and what is told of the seat after is so.
  abbrev pub Moves : Standing T → List (View T) → ℕ → List (ℕ × Option T) → ℕ → ℕ → (Sat T → Type 0) → Type 0
  Moves at views seat out word number told =
      (w : View T) × (a : Act (Option T)) × Valid (slot at.out at.value ∷ []) out a
      × Rule (stepped (table at views) word number seat out w a) × told (w, carried_after out a)

  -- a step that no vacant lock's seat makes is allowed where a seat may make it wherever the lock stands
  pub allowed : (slots seat : ℕ) (me known : Sat T) (word : ℕ) (f : ℕ → ℕ) (then : Sat T → ℕ → Sat T → Type 0) → me ≡ known
      → ((n : ℕ) (out : Bool) → known.0 ≡ Vacant n out → ⊥)
      → ((at : Standing T) (views : List (View T)) → Stands holds follows at views → get_elem? views seat ≡ maybe.some known.0
      → let found = slice_index (at.serving ∷ at.next ∷ []) word in Moves at views seat known.1 word (f found) (then known found))
      → Allows (IsRuled holds follows) slots seat me word f (then me)
  allowed slots seat me known word f then is stands wherever = subst (λ (m : Sat T). Allows (IsRuled holds follows) slots seat m word f (then m)) (sym is) there
    where
      there : Allows (IsRuled holds follows) slots seat known word f (then known)
      there s (inl k) len here fits =
          let one : Vacant k.ticket k.out ≡ known.0 = (only_view (Vacant k.ticket k.out) known.0 seat (subst (λ (l : List (View T)). get_elem? l seat ≡ maybe.some known.0) k.views here)).1 in
          absurd (stands k.ticket k.out (sym one))
      there s (inr k) len here fits =
          let P : State (Option T) (View T) → Type 0 = λ t.
          get_elem? t.views seat ≡ maybe.some known.0
          → (w : View T) × (a : Act (Option T)) × Valid t.homes known.1 a × IsRuled holds follows (stepped t word (f (slice_index t.words word)) seat known.1 w a)
          × then known (slice_index t.words word) (w, carried_after known.1 a) in
          subst P (sym (table_is s k)) (λ same. let m = wherever k.at s.views k.stands same in (m.0, m.1, m.2, inr m.3, m.4)) here

  -- what each seat knows, where one has a new view
  pub knows_each : (before after : Standing T) (views : List (View T)) (seat : ℕ) (w : View T)
      → ((other : ℕ) (v : View T) → get_elem? views other ≡ maybe.some v → Knows holds follows before other v)
      → Knows holds follows after seat w
      → ((other : ℕ) → other ≢ seat → (v : View T) → Knows holds follows before other v → Knows holds follows after other v)
      → (other : ℕ) (v : View T) → get_elem? (set views seat w) other ≡ maybe.some v → Knows holds follows after other v
  knows_each before after views seat w knows mine others other v there =
      ⊎_elim
      (λ (t : (other ≡ seat) × (w ≡ v)). subst (λ (p : ℕ × View T). Knows holds follows after p.0 p.1) (λ i. (sym t.0 i, t.1 i)) mine)
      (λ (t : (other ≢ seat) × (get_elem? views other ≡ maybe.some v)). others other t.0 v (knows other v t.1))
      (at_set views seat other w v there)

  -- what each other seat knows stays true where the value and `serving` stay, and `next` and the owners only grow
  pub still_knows : (before after : Standing T) → after.value ≡ before.value → after.serving ≡ before.serving → before.next ≤ after.next
      → ((n : ℕ) → n < before.next → after.owner n ≡ before.owner n)
      → (before.out ≡ true → after.out ≡ true)
      → (other : ℕ) (v : View T) → Knows holds follows before other v → Knows holds follows after other v
  still_knows before after value serving next owner out other (Vacant n empty) k = absurd k
  still_knows before after value serving next owner out other (Idle low reached x turns) k =
      let low_is = k.0 in let reached_is = k.1 in (omega arith, omega arith, subst (λ (y : T). follows y x) (sym value) k.2)
  still_knows before after value serving next owner out other (Met low x y turns) k =
      let low_is = k.0 in (omega arith, subst (λ (z : T). follows z x) (sym value) k.1, subst (λ (z : T). follows z y) (sym value) k.2)
  still_knows before after value serving next owner out other (Waiting n x turns) k =
      let from = k.0 in let below = k.1 in (omega arith, omega arith, owner n k.1 ∙ k.2, subst (λ (y : T). follows y x) (sym value) k.3)
  still_knows before after value serving next owner out other (Holding n x turns) k =
      let below = k.1 in (k.0 ∙ sym serving, omega arith, owner n k.1 ∙ k.2, out k.3, value ∙ k.4)
  still_knows before after value serving next owner out other Spent k = tt
