use Rattle.std.proofs.Common.{ap, arith, length, subst, sym, take, ◌+◌, ◌++◌, ◌∙◌, ◌∷◌, ◌≡◌, []}
use Rattle.std.proofs.lemmas.List.{length_push, take_more}
use Rattle.zq_session.proofs.Woven.{calls_more, few_more, places_more}
use Rattle.zq_session.proofs.transacting.read_program.Goals as goal
use Rattle.zq_session.specs.Places.{ArePlacesOf}
use Rattle.zq_session.specs.Transacting.{calls_in, place_of, with_call}

pub loop-queued-preserved : goal.loop-queued-preserved
loop-queued-preserved c =
    let at = c.loop-queued in
    let queue = c.args.queue.now in
    let q = c.queued-item.result in
    let front = take at.queued-index queue in
    let taken : take (at.queued-index + 1) queue ≡ front ++ q ∷ [] =
    take_more queue at.queued-index q c.loop-queued-test.true ∙ ap (λ item. front ++ item ∷ []) (sym c.queued-item.is) in
    let put = c.push_reserved.ensures.items in
    let long = ap length put ∙ length_push at.places.items c.in_ok-place.place in
    let more = few_more (place_of q) at.calls.items c.read_place.new.calls.items c.in_ok-place.ensures.calls in
    record {
      called = c.in_ok-place.ensures.calls ∙ ap (λ calls. calls ++ with_call (place_of q) []) at.invariant.called ∙ sym (ap calls_in taken ∙ calls_more front q);
      limits = c.in_ok-place.ensures.limits at.invariant.limits;
      placed = subst (ArePlacesOf c.push_reserved.new.self.items) (sym taken)
          (subst (λ places. ArePlacesOf places (front ++ q ∷ [])) (sym put) (places_more at.places.items front c.in_ok-place.place q at.invariant.placed c.in_ok-place.ensures.place));
      number = omega (arith, long, at.invariant.number);
      few = omega (arith, more, at.invariant.few);
      room = omega (arith, at.invariant.room, c.push_reserved.ensures.capacity);
      space = omega (arith, at.invariant.space, c.in_ok-place.ensures.room);
    }
