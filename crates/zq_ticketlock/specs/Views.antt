-- Views: what a seat knows of its lock, in stages.
use Rattle.std.specs.Prelude.{ℕ, ◌==◌, ◌&&◌, Bool, true, false, not, Option, Some, None, is_none, List, [], ◌∷◌}
use Rattle.atomic_table.specs.Table.{Me}
use Rattle.zq_ticketlock.specs.declared.turns.Entry.{Entry}
use Rattle.zq_ticketlock.specs.declared.view.View.{View}
use Rattle.zq_ticketlock.specs.declared.view.View.TheVariants.{Vacant, Idle, Met, Waiting, Holding}

-- a seat's view, and the slots that it has out
abbrev pub Sat : Type 0 → Type 0
Sat T = Me (Option T) (View T)

module _ {T : Type 0} where
  -- the value that was seen last, where it is one
  abbrev pub seen_by : View T → Option T
  seen_by (Idle low reached x turns) = Some x
  seen_by (Waiting n x turns) = Some x
  seen_by (Holding n x turns) = Some x
  seen_by _ = None

  -- the holds of the seat that have ended, the latest first, each by its ticket
  abbrev pub turns_by : View T → List (Entry T)
  turns_by (Idle low reached x turns) = turns
  turns_by (Met low x y turns) = turns
  turns_by (Waiting n x turns) = turns
  turns_by (Holding n x turns) = turns
  turns_by _ = []

  -- and once it has put this value home
  abbrev pub turns_with : T → View T → List (Entry T)
  turns_with y (Holding n x turns) = record { ticket = n; turn = record { given = x; home = y } }
      ∷ turns
  turns_with y view = turns_by view

  -- the number that an idle seat has last read in `serving`
  abbrev pub low_of : View T → ℕ
  low_of (Idle low reached x turns) = low
  low_of _ = 0

  -- the number to which an idle seat knows that `next` has come
  abbrev pub reached_of : View T → ℕ
  reached_of (Idle low reached x turns) = reached
  reached_of _ = 0

  -- the ticket with which a vacant lock opens
  abbrev pub first_of : View T → ℕ
  first_of (Vacant n out) = n
  first_of _ = 0

  -- the ticket of a seat that waits
  abbrev pub ticket_of : View T → ℕ
  ticket_of (Waiting n x turns) = n
  ticket_of _ = 0

  abbrev pub nothing_out : List (ℕ × Option T) → Bool
  nothing_out [] = true
  nothing_out (slot ∷ slots) = false

  -- the value's slot alone is out, and the value was moved out of it
  abbrev pub value_out : List (ℕ × Option T) → Bool
  value_out [] = false
  value_out (slot ∷ slots) = (slot.0 == 0) && is_none slot.1 && nothing_out slots

  abbrev pub vacant_view : View T → Bool
  vacant_view (Vacant n out) = not out
  vacant_view _ = false

  abbrev pub idle_view : View T → Bool
  idle_view (Idle low reached x turns) = true
  idle_view _ = false

  abbrev pub waiting_view : ℕ → View T → Bool
  waiting_view k (Waiting n x turns) = n == k
  waiting_view k _ = false

  abbrev pub holding_view : ℕ → View T → Bool
  holding_view k (Holding n x turns) = n == k
  holding_view k _ = false

  -- the seat is that of a vacant lock, whose slot is at home
  abbrev pub is_vacant : Sat T → Bool
  is_vacant me = vacant_view me.0 && nothing_out me.1

  -- the seat neither waits nor holds
  abbrev pub is_idle : Sat T → Bool
  is_idle me = idle_view me.0 && nothing_out me.1

  -- the seat waits with ticket k
  abbrev pub is_waiting : ℕ → Sat T → Bool
  is_waiting k me = waiting_view k me.0 && nothing_out me.1

  -- the seat holds by ticket k, with the value moved out of its slot
  abbrev pub is_holding : ℕ → Sat T → Bool
  is_holding k me = holding_view k me.0 && value_out me.1
