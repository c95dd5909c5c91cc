-- The rule of a ticket lock. Word 0 is `serving`, the ticket that is served, and word 1 is `next`,
-- the ticket that is drawn next. Slot 0 is the value's.
use Rattle.std.specs.Prelude.{◌≡◌, ℕ, ◌<◌, ◌≤◌, ◌⊎◌, Bool, true, false, Option, Some, None, List, [], ◌∷◌}
use mathlib.Core.Option as maybe
use lib.ListN.{get_elem?}
use Rattle.atomic_table.specs.Table.{State}
use Rattle.zq_ticketlock.specs.declared.turns.Entry.{Entry}
use Rattle.zq_ticketlock.specs.Log.{AreLogged, IsChain, Log}
use Rattle.zq_ticketlock.specs.Views.{turns_by}
use Rattle.zq_ticketlock.specs.declared.view.View.{View}
use Rattle.zq_ticketlock.specs.declared.view.View.TheVariants.{Vacant, Idle, Met, Waiting, Holding, Spent}

-- Where a lock stands: the value at home, or the one with which the holder began; whether somebody
-- holds it; which seat drew each ticket; the two words; the turns that the holder has had; the log
-- of all turns
pub record Standing (T : Type 0) : Type 0 where
  pub value : T
  pub out : Bool
  pub owner : ℕ → ℕ
  pub serving : ℕ
  pub next : ℕ
  pub turns : List (Entry T)
  pub log : Log T

-- the value's slot: at home exactly where nobody holds it
abbrev pub slot : {T : Type 0} → Bool → T → maybe.Option (Option T)
slot true value = maybe.none
slot false value = maybe.some (Some value)

-- the slot of a vacant lock: its seat has it out, or it is at home and empty
abbrev pub hollow : {T : Type 0} → Bool → maybe.Option (Option T)
hollow true = maybe.none
hollow false = maybe.some None

-- the lock has no value yet, and one seat
pub record IsVacant {T : Type 0} (s : State (Option T) (View T)) : Type 0 where
  pub ticket : ℕ
  pub out : Bool
  pub words : s.words ≡ ticket ∷ ticket ∷ []
  pub homes : s.homes ≡ hollow out ∷ []
  pub views : s.views ≡ Vacant ticket out ∷ []

module _ {T : Type 0} (holds : T → Type 0) (follows : T → T → Type 0) where
  -- What a seat's view says is so. No two seats have one ticket, since each ticket has one owner
  abbrev pub Knows : Standing T → ℕ → View T → Type 0
  Knows at seat (Vacant n out) = ⊥
  Knows at seat (Idle low reached x turns) = (low ≤ at.serving) × (reached ≤ at.next)
      × follows at.value x
  Knows at seat (Met low x y turns) = (low ≤ at.serving) × follows at.value x × follows at.value y
  Knows at seat (Waiting n x turns) = (at.serving ≤ n) × (n < at.next) × (at.owner n ≡ seat)
      × follows at.value x
  Knows at seat (Holding n x turns) =
      (n ≡ at.serving) × (n < at.next) × (at.owner n ≡ seat) × (at.out ≡ true) × (at.value ≡ x)
  Knows at seat Spent = Unit {0}

  pub record Stands (at : Standing T) (views : List (View T)) : Type 0 where
    pub order : at.serving ≤ at.next
    pub sound : holds at.value
    pub held : at.out ≡ true → get_elem? views (at.owner at.serving)
        ≡ maybe.some (Holding at.serving at.value at.turns)
    pub knows : (seat : ℕ) (view : View T) → get_elem? views seat ≡ maybe.some view →
        Knows at seat view
    pub logged : (seat : ℕ) (view : View T) → get_elem? views seat ≡ maybe.some view →
        AreLogged at.log at.serving (turns_by view)
    pub chain : IsChain at.log at.serving at.value
    pub opened : at.log.first ≤ at.serving

  pub record IsKept (s : State (Option T) (View T)) : Type 0 where
    pub at : Standing T
    pub words : s.words ≡ at.serving ∷ at.next ∷ []
    pub homes : s.homes ≡ slot at.out at.value ∷ []
    pub stands : Stands at s.views

  -- the rule: the lock is vacant, or it stands
  abbrev pub IsRuled : State (Option T) (View T) → Type 0
  IsRuled s = IsVacant s ⊎ IsKept s
