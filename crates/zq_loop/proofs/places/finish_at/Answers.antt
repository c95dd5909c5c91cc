use Rattle.std.proofs.Common.{◌∙◌, ◌≡◌, Some, ap, arith}
use Rattle.std.proofs.lemmas.Option.{slice_get-get_or}
use Rattle.std.specs.Prelude.{slice_get}
use Rattle.zq_loop.proofs.Living.{rests-set}
use Rattle.zq_loop.proofs.places.finish_at.Goals as goal

pub returns-then-not-client : goal.returns-then-not-client
returns-then-not-client g c =
    let clients = c.args.clients.now in
    let place = c.args.place in
    let there : slice_get clients place ≡ Some (Some c.in-Some.client) =
    slice_get-get_or clients place c.index-clients-place.result (omega (arith, c.if-place-clients.false)) ∙ ap Some c.in-Some.is in
    rests-set clients place c.in-Some.client _ there (record { socket = c.finish.ensures.socket; connection = c.finish.ensures.connection; own = c.finish.ensures.own })

pub returns-else-not-client : goal.returns-else-not-client
returns-else-not-client g c =
    let clients = c.args.clients.now in
    let place = c.args.place in
    let there : slice_get clients place ≡ Some (Some c.in-Some.client) =
    slice_get-get_or clients place c.index-clients-place.result (omega (arith, c.if-place-clients.false)) ∙ ap Some c.in-Some.is in
    rests-set clients place c.in-Some.client _ there (record { socket = c.finish.ensures.socket; connection = c.finish.ensures.connection; own = c.finish.ensures.own })
