use Rattle.std.proofs.Common.{ap, arith, subst, sym}
use Rattle.std.proofs.lemmas.Option.{slice_get-get_or}
use Rattle.std.specs.Prelude.{slice_set}
use Rattle.zq_loop.proofs.Living.{rests_taken}
use Rattle.zq_loop.proofs.places.take_out.Goals as goal
use Rattle.zq_loop.specs.Life.{Rests, was_in}

pub returns-clause-rests : goal.returns-clause-rests
returns-clause-rests g c =
    let clients = c.args.clients.now in
    let place = c.args.place in
    subst (λ n. Rests clients (slice_set clients place n)) (sym c.take.ensures.after) (rests_taken clients place)

pub returns-clause-taken : goal.returns-clause-taken
returns-clause-taken g c =
    let clients = c.args.clients.now in
    let place = c.args.place in
    cc (c.take.ensures.value, c.index-clients-place.is, ap was_in (slice_get-get_or clients place c.index-clients-place.result (omega (arith, c.if-place-clients.false))))

pub returns-clause-gone : goal.returns-clause-gone
returns-clause-gone g c = ap (λ n. slice_set c.args.clients.now c.args.place n) c.take.ensures.after
