use Rattle.std.proofs.Common.{ap, refl, subst, sym, ◌∙◌}
use Rattle.std.proofs.lemmas.Option.{same_Some, slice_get_read}
use Rattle.std.specs.Prelude.{IfSome, Some, [], length, slice_get, ℕ, ◌∷◌, ◌≡◌}
use Rattle.zq_spread.proofs.ManyHeaps.{seats_of}
use Rattle.zq_spread.proofs.Refused.{refused_in}
use Rattle.zq_spread.proofs.Seats.{stopped}
use Rattle.zq_spread.proofs.site.Site.try_begin_in.Goals as goal
use Rattle.zq_spread.specs.Passes.{IsSeenLater, seen_at}
use Rattle.zq_spread.specs.HeapSlots.{IsBegun, IsOf}
use Rattle.zq_spread.specs.Turns.{IsLeftAsGiven, turns_at}
use Rattle.zq_spread.specs.Worn.{IsUnbegun}
use Rattle.zq_spread.specs.declared.pass.Pass.{Pass}
use Rattle.zq_spread.specs.declared.heap_slot.HeapSlot.{HeapSlot}
use Rattle.zq_ticketlock.specs.Seats.{given, id_of, logged, reached, seen, served, value_of}

pub take_seat-seat-requires-clause-seats : goal.take_seat-seat-requires-clause-seats
take_seat-seat-requires-clause-seats c = seats_of c.args.self.now (c.args.heap ∷ []) c.args.pass.now c.requires.pass

pub try_begin-requires-clause-lock : goal.try_begin-requires-clause-lock
try_begin-requires-clause-lock c =
    (c.take_seat-seat.ensures.seat c.index.result.now (slice_get_read c.args.self.now.slots.items (length c.args.self.now.slots.items) c.args.heap c.index.result.now refl c.requires.heap c.index.ensures)).0

pub try_begin-requires-clause-seen : goal.try_begin-requires-clause-seen
try_begin-requires-clause-seen c =
    (c.take_seat-seat.ensures.seat c.index.result.now (slice_get_read c.args.self.now.slots.items (length c.args.self.now.slots.items) c.args.heap c.index.result.now refl c.requires.heap c.index.ensures)).1

pub returns-in-Ok-clause-lock : goal.returns-in-Ok-clause-lock
returns-in-Ok-clause-lock c = λ slot at.
    let here : slice_get c.args.self.now.slots.items c.args.heap ≡ Some c.index.result.now = slice_get_read c.args.self.now.slots.items (length c.args.self.now.slots.items) c.args.heap c.index.result.now refl c.requires.heap c.index.ensures in
    let one : c.index.result.now ≡ slot = same_Some c.index.result.now slot (sym here ∙ at) in
    c.in-Ok.ensures.lock ∙ ap (λ (r : HeapSlot). id_of r.lock) one

pub returns-in-Ok-clause-begun : goal.returns-in-Ok-clause-begun
returns-in-Ok-clause-begun c = λ slot at.
    let here : slice_get c.args.self.now.slots.items c.args.heap ≡ Some c.index.result.now = slice_get_read c.args.self.now.slots.items (length c.args.self.now.slots.items) c.args.heap c.index.result.now refl c.requires.heap c.index.ensures in
    let one : c.index.result.now ≡ slot = same_Some c.index.result.now slot (sym here ∙ at) in
    let old : Pass = c.args.pass.now in
    subst (λ r. IfSome (given c.in-Ok.begun.0) (IsBegun r (seen_at old c.args.heap) old.stamp c.in-Ok.begun.1 (value_of c.in-Ok.begun.0))) one
    (subst (λ o. IfSome (given c.in-Ok.begun.0) (IsBegun c.index.result.now o old.stamp c.in-Ok.begun.1 (value_of c.in-Ok.begun.0))) c.take_seat-seat.ensures.seen
    (subst (λ n. IfSome (given c.in-Ok.begun.0) (IsBegun c.index.result.now (seen c.take_seat-seat.result) n c.in-Ok.begun.1 (value_of c.in-Ok.begun.0))) c.take_seat-seat.ensures.stays.stamp c.in-Ok.ensures.begun))

pub returns-in-Ok-clause-turns : goal.returns-in-Ok-clause-turns
returns-in-Ok-clause-turns c = c.in-Ok.ensures.turns ∙ c.take_seat-seat.ensures.turns

pub returns-in-Ok-clause-others : goal.returns-in-Ok-clause-others
returns-in-Ok-clause-others c = λ k other. (c.take_seat-seat.ensures.stays.others k other, c.take_seat-seat.ensures.stays.turns k other)

pub put_seat-requires-clause-seat : goal.put_seat-requires-clause-seat
put_seat-requires-clause-seat c = λ slot at.
    let here : slice_get c.args.self.now.slots.items c.args.heap ≡ Some c.index.result.now = slice_get_read c.args.self.now.slots.items (length c.args.self.now.slots.items) c.args.heap c.index.result.now refl c.requires.heap c.index.ensures in
    let one : c.index.result.now ≡ slot = same_Some c.index.result.now slot (sym here ∙ at) in
    (c.in-Err.ensures.refused.0 ∙ ap (λ (r : HeapSlot). id_of r.lock) one, subst (λ (r : HeapSlot). IfSome (seen c.in-Err.seat) (IsOf r)) one c.in-Err.ensures.refused.1)

pub returns-in-Err-clause-refused : goal.returns-in-Err-clause-refused
returns-in-Err-clause-refused c =
    let old : Pass = c.args.pass.now in
    let new : Pass = c.put_seat.new.pass in
    let later : IsSeenLater (seen_at new c.args.heap) (seen_at old c.args.heap) =
    subst (λ o. IsSeenLater o (seen_at old c.args.heap)) (sym c.put_seat.ensures.seen) (subst (λ o. IsSeenLater (seen c.in-Err.seat) o) c.take_seat-seat.ensures.seen c.in-Err.ensures.refused.2) in
    let left : IsLeftAsGiven (turns_at new c.args.heap) (turns_at old c.args.heap) =
    subst (λ l. IsLeftAsGiven l (turns_at old c.args.heap)) (sym c.put_seat.ensures.turns) (subst (λ l. IsLeftAsGiven (logged c.in-Err.seat) l) c.take_seat-seat.ensures.turns c.in-Err.ensures.left) in
    let others : (k : ℕ) → (k ≡ c.args.heap → ⊥) → (seen_at new k ≡ seen_at old k) × (turns_at new k ≡ turns_at old k) = λ k other.
    (c.put_seat.ensures.stays.others k other ∙ c.take_seat-seat.ensures.stays.others k other, c.put_seat.ensures.stays.turns k other ∙ c.take_seat-seat.ensures.stays.turns k other) in
    let why : IsUnbegun c.in-Err.fault old.stamp (served c.in-Err.seat) (reached c.in-Err.seat) (seen c.in-Err.seat) =
    subst (λ n. IsUnbegun c.in-Err.fault n (served c.in-Err.seat) (reached c.in-Err.seat) (seen c.in-Err.seat)) c.take_seat-seat.ensures.stays.stamp c.in-Err.ensures.why in (
      c.put_seat.ensures.pass (c.take_seat-seat.ensures.pass c.requires.pass),
      refused_in c.in-Err.fault old new c.args.heap (served c.in-Err.seat) (reached c.in-Err.seat) (seen c.in-Err.seat)
          (stopped old new c.args.heap (λ k. c.put_seat.ensures.stays.steps k ∙ c.take_seat-seat.ensures.stays.steps k) (c.put_seat.ensures.stays.stamp ∙ c.take_seat-seat.ensures.stays.stamp) later left others)
          c.put_seat.ensures.served c.put_seat.ensures.reached c.put_seat.ensures.seen why,
    )

pub returns-in-Ok-clause-pass : goal.returns-in-Ok-clause-pass
returns-in-Ok-clause-pass c = c.take_seat-seat.ensures.pass c.requires.pass

pub put_seat-requires-clause-number : goal.put_seat-requires-clause-number
put_seat-requires-clause-number c = c.take_seat-seat.ensures.outside.number ∙ c.requires.pass.seats
