-- What clauses say of a lock, its seats, and a value that is held.
use Rattle.std.specs.Prelude.{◌≡◌, ℕ, List, Option, Some, map}
use Rattle.atomic_table.specs.Seated.{TableId}
use Rattle.zq_ticketlock.specs.declared.seat.Seat.{Seat}
use Rattle.zq_ticketlock.specs.declared.seat.Ticket.{Ticket}
use Rattle.zq_ticketlock.specs.declared.held.Held.{Held}
use Rattle.zq_ticketlock.specs.declared.lock.TicketLock.{TicketLock}
use Rattle.zq_ticketlock.specs.declared.turns.Entry.{Entry}
use Rattle.zq_ticketlock.specs.declared.turns.Turn.{Turn}
use Rattle.zq_ticketlock.specs.declared.vacant.Vacant.{Vacant}
use Rattle.zq_ticketlock.specs.Views.{first_of, seen_by, low_of, reached_of, turns_by}

module _ {T : Type 0} where
  -- which lock a seat is of
  abbrev pub lock_of : Seat T → TableId
  lock_of seat = seat.place.table_id

  -- the value that the seat has seen last, which it always has
  abbrev pub seen : Seat T → Option T
  seen seat = seen_by seat.place.me.0

  -- what was given and what was put home at each of these holds
  abbrev pub turns_of : List (Entry T) → List (Turn T)
  turns_of entries = map (λ e. e.turn) entries

  -- the holds of the seat, and of those from which it was split or joined, the latest first, each
  -- by its ticket
  abbrev pub logged : Seat T → List (Entry T)
  logged seat = turns_by seat.place.me.0

  -- the holds of the seat, and of those from which it was split or joined, the latest first: what
  -- was given and what was put home at each
  abbrev pub turns : Seat T → List (Turn T)
  turns seat = turns_of (logged seat)

  -- a hold that was given the one value and put the other home
  abbrev pub turn : T → T → Turn T
  turn given home = record { given = given; home = home }

  -- the same hold, by a ticket
  abbrev pub entry : ℕ → T → T → Entry T
  entry ticket given home = record { ticket = ticket; turn = turn given home }

  -- the seat has seen a value with this property
  abbrev pub HasSeen : Seat T → (T → Type 0) → Type 0
  HasSeen seat P = (x : T) × (seen seat ≡ Some x) × P x

  -- the ticket that the seat last found to be served
  abbrev pub served : Seat T → ℕ
  served seat = low_of seat.place.me.0

  -- the ticket to which the seat knows that drawing has come: all before it are drawn
  abbrev pub reached : Seat T → ℕ
  reached seat = reached_of seat.place.me.0

  abbrev pub ticket_lock : Ticket T → TableId
  ticket_lock ticket = ticket.place.table_id

  abbrev pub ticket_seen : Ticket T → Option T
  ticket_seen ticket = seen_by ticket.place.me.0

  abbrev pub ticket_logged : Ticket T → List (Entry T)
  ticket_logged ticket = turns_by ticket.place.me.0

  abbrev pub ticket_turns : Ticket T → List (Turn T)
  ticket_turns ticket = turns_of (ticket_logged ticket)

  -- which lock a value is held of
  abbrev pub held_lock : Held T → TableId
  held_lock held = held.place.table_id

  -- the value as it was given, which it always was
  abbrev pub given : Held T → Option T
  given held = seen_by held.place.me.0

  -- the holds before this one of the seat by which it is held
  abbrev pub held_logged : Held T → List (Entry T)
  held_logged held = turns_by held.place.me.0

  abbrev pub held_turns : Held T → List (Turn T)
  held_turns held = turns_of (held_logged held)

  -- the value as it is now
  abbrev pub value_of : Held T → T
  value_of held = held.value

  -- which lock it is
  abbrev pub id_of : TicketLock T → TableId
  id_of lock = lock.table.shared.table_id

  -- the first ticket of a lock that has no value yet
  abbrev pub opens_at : Vacant T → ℕ
  opens_at vacant = first_of vacant.place.me.0
