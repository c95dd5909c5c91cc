use Rattle.std.proofs.Common.{◌∙◌, ◌≡◌, Some, ap, arith, refl}
use Rattle.std.proofs.lemmas.Option.{slice_get-get_or}
use Rattle.std.specs.Prelude.{slice_get}
use Rattle.zq_loop.proofs.Living.{rests-set}
use Rattle.zq_loop.proofs.places.look_at.Goals as goal

pub returns-in-Some : goal.returns-in-Some
returns-in-Some g c =
    let clients = c.args.clients.now in
    let place = c.args.place in
    let there : slice_get clients place ≡ Some (Some c.in-Some.client) =
    slice_get-get_or clients place c.index-clients-place.result (omega (arith, c.if-place-clients.false)) ∙ ap Some c.in-Some.is in
    rests-set clients place c.in-Some.client _ there (record { socket = refl; connection = refl; own = refl })
