-- A lock that has no value yet, and its first value.
use Rattle.std.proofs.Common.{◌≡◌, ℕ, zero, suc, ◌≤◌, Bool, true, false, Option, Some, None, List, [], ◌∷◌, inl, inr, refl, sym, ap, subst, ◌∙◌, arith}
use mathlib.Core.Option as maybe
use mathlib.Core.Option.{some-injective, some-ne-none}
use lib.ListN.{get_elem?}
use Rattle.std.specs.Prelude.{slice_index}
use Rattle.atomic_table.specs.Table.{State, Act, Valid, Allows, carried_after, gives, opening, step, stepped, takes}
use Rattle.zq_ticketlock.specs.declared.view.View.{View}
use Rattle.zq_ticketlock.specs.declared.view.View.TheVariants.{Vacant, Idle}
use Rattle.zq_ticketlock.specs.Log.{AreLogged, Log}
use Rattle.zq_ticketlock.specs.Views.{Sat, turns_by}
use Rattle.zq_ticketlock.specs.Order.{Standing, Knows, IsKept, IsRuled, IsVacant, hollow}
use Rattle.zq_ticketlock.specs.Steps.{Emptied, Filled}
use Rattle.zq_ticketlock.proofs.Standings.{kept, only_view}

module _ {T : Type 0} where
  -- a vacant lock's only view is of its first seat
  pub vacant_here : (s : State (Option T) (View T)) (k : IsVacant s) (seat : ℕ) (v : View T) → get_elem? s.views seat ≡ maybe.some v → Vacant k.ticket k.out ≡ v
  vacant_here s k seat v here = (only_view (Vacant k.ticket k.out) v seat (subst (λ (l : List (View T)). get_elem? l seat ≡ maybe.some v) k.views here)).1

  vacant_seat_is : (s : State (Option T) (View T)) (k : IsVacant s) (seat : ℕ) (v : View T) → get_elem? s.views seat ≡ maybe.some v → seat ≡ 0
  vacant_seat_is s k seat v here = (only_view (Vacant k.ticket k.out) v seat (subst (λ (l : List (View T)). get_elem? l seat ≡ maybe.some v) k.views here)).0

  -- the table of a vacant lock
  abbrev hollow_table : ℕ → Bool → State (Option T) (View T)
  hollow_table n out = record { words = n ∷ n ∷ []; homes = hollow out ∷ []; views = Vacant n out ∷ [] }

  hollow_is : (s : State (Option T) (View T)) (k : IsVacant s) (n : ℕ) (out : Bool) (v : View T) → v ≡ Vacant n out → Vacant k.ticket k.out ≡ v → s ≡ hollow_table n out
  hollow_is s k n out v is here =
      let same : Vacant k.ticket k.out ≡ Vacant n out = here ∙ is in
      let ticket : k.ticket ≡ n = cc in
      let empty : k.out ≡ out = cc in
      let whole : s ≡ hollow_table k.ticket k.out = λ i. record { words = k.words i; homes = k.homes i; views = k.views i } in
      whole ∙ (λ i. hollow_table (ticket i) (empty i))

module _ {T : Type 0} (holds : T → Type 0) (follows : T → T → Type 0) where
  abbrev Rule : State (Option T) (View T) → Type 0
  Rule = IsRuled holds follows

  pub opens : (n : ℕ) → Rule (opening (n ∷ n ∷ []) (None ∷ []) (Vacant n false))
  opens n = inl (record { ticket = n; out = false; words = refl; homes = refl; views = refl })

  -- a step of a vacant lock's seat is allowed where it may be made on the table of such a lock
  allowed_vacant : (slots seat n : ℕ) (out : Bool) (me : Sat T) (carried : List (ℕ × Option T)) (then : Sat T → ℕ → Sat T → Type 0) → me ≡ (Vacant n out, carried)
      → ((w : View T) × (a : Act (Option T)) × Valid (hollow out ∷ []) carried a × Rule (stepped (hollow_table n out) 0 n 0 carried w a) × then (Vacant n out, carried) n (w, carried_after carried a))
      → Allows Rule slots seat me 0 (λ k. k) (then me)
  allowed_vacant slots seat n out me carried then is step_is = subst (λ (m : Sat T). Allows Rule slots seat m 0 (λ k. k) (then m)) (sym is) there
    where
      there : Allows Rule slots seat (Vacant n out, carried) 0 (λ k. k) (then (Vacant n out, carried))
      there s (inl k) len here fits =
          let P : State (Option T) (View T) → ℕ → Type 0 = λ t place.
          (w : View T) × (a : Act (Option T)) × Valid t.homes carried a × Rule (stepped t 0 (slice_index t.words 0) place carried w a) × then (Vacant n out, carried) (slice_index t.words 0) (w, carried_after carried a) in
          let table = hollow_is s k n out (Vacant n out) refl (vacant_here s k seat (Vacant n out) here) in
          let first = vacant_seat_is s k seat (Vacant n out) here in
          subst (λ t. P t seat) (sym table) (subst (P (hollow_table n out)) (sym first) step_is)
      there s (inr k) len here fits = absurd (k.stands.knows seat (Vacant n out) here)

  -- the seat of a vacant lock may take the empty slot out
  pub empties : (slots seat n : ℕ) (me : Sat T) → me ≡ (Vacant n false, []) → Allows Rule slots seat me 0 (λ k. k) (Emptied (step slots 0 0 0 maybe.none) me)
  empties slots seat n me is =
      allowed_vacant slots seat n false me [] (Emptied (step slots 0 0 0 maybe.none)) is
      (Vacant n true, takes 0 None, refl, inl (record { ticket = n; out = true; words = refl; homes = refl; views = refl }), refl)

  -- the lock stands where one seat has seen the value
  stands_first : (x : T) (n : ℕ) → holds x → ((z : T) → follows z z) → IsKept holds follows (record { words = n ∷ n ∷ []; homes = maybe.some (Some x) ∷ []; views = Idle n n x [] ∷ [] })
  stands_first x n sound reflexive =
      let log : Log T = record { first = n; at = λ _. record { given = x; home = x } } in
      let at : Standing T = record { value = x; out = false; owner = λ _. 0; serving = n; next = n; turns = []; log = log } in
      kept holds follows at (Idle n n x [] ∷ []) (record {
        order = omega arith;
        sound = sound;
        held = λ out. absurd (let p : false ≡ true = out in cc);
        knows = first at (omega arith) (omega arith) (reflexive x);
        logged = none;
        chain = record { next = λ k from below. absurd (omega arith); last = λ k from is. absurd (omega arith) };
        opened = omega arith;
      })
    where
      none : (seat : ℕ) (v : View T) → get_elem? (Idle n n x [] ∷ []) seat ≡ maybe.some v → AreLogged (record { first = n; at = λ _. record { given = x; home = x } }) n (turns_by v)
      none seat v here = subst (λ (u : View T). AreLogged (record { first = n; at = λ _. record { given = x; home = x } }) n (turns_by u)) (only_view (Idle n n x []) v seat here).1 tt

      first : (at : Standing T) → n ≤ at.serving → n ≤ at.next → follows at.value x → (seat : ℕ) (v : View T) → get_elem? (Idle n n x [] ∷ []) seat ≡ maybe.some v → Knows holds follows at seat v
      first at low come known zero v here = subst (Knows holds follows at 0) (some-injective (Idle n n x []) v here) (low, come, known)
      first at low come known (suc seat) v here = absurd (some-ne-none v (sym here))

  -- and may put a value home
  pub fills : (slots seat n : ℕ) (x : T) (me : Sat T) → me ≡ (Vacant n true, (0, Some x) ∷ []) → holds x → ((z : T) → follows z z)
      → Allows Rule slots seat me 0 (λ k. k) (Filled (step slots 0 0 0 maybe.none) me)
  fills slots seat n x me is sound reflexive =
      allowed_vacant slots seat n true me ((0, Some x) ∷ []) (Filled (step slots 0 0 0 maybe.none)) is
      (Idle n n x [], gives, tt, inr (stands_first x n sound reflexive), λ y same. ap (λ (u : T). let p : Sat T = (Idle n n u [], []) in p) (let e : Some x ≡ Some y = ap head_of same in cc))
    where
      head_of : List (ℕ × Option T) → Option T
      head_of [] = None
      head_of (p ∷ ps) = p.1
