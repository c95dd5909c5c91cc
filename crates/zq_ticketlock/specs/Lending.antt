-- What a held value ends as, where a `&mut` to it is lent.
use Rattle.std.specs.Borrow.{Lends, Fml, RattleType, MutBor}
use Rattle.zq_ticketlock.specs.declared.held.Held.{Held}
use Rattle.zq_ticketlock.specs.contracts.held.Held.{the_row}

-- the same, with this value in place of the one that is held
abbrev pub with_value : {T : Type 0} → Held T → T → Held T
with_value held x = record { place = held.place; ticket = held.ticket; value = x; holding = held.holding; in_range = held.in_range }

-- once the borrow ends, the value is the one last written through it, and nothing else has changed
abbrev pub lends_value : (T : RattleType) → MutBor (Held T.Denot) → MutBor T.Denot → Fml
lends_value T held lent = Lends (the_row T) T held lent (with_value held.now)
