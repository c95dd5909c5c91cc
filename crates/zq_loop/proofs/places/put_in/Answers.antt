use Rattle.std.proofs.Common.{◌∙◌, ◌≡◌, None, Some, ap, arith}
use Rattle.std.proofs.lemmas.Option.{slice_get-get_or}
use Rattle.std.specs.Prelude.{slice_get}
use Rattle.zq_loop.proofs.Living.{rests-put}
use Rattle.zq_loop.proofs.places.put_in.Goals as goal

pub returns : goal.returns
returns g c =
    let clients = c.args.clients.now in
    let place = c.args.place in
    let none : slice_get clients place ≡ Some None =
    slice_get-get_or clients place c.index-clients-place.result (omega (arith, c.if-place-clients.false)) ∙ ap Some c.in_default.is in
    rests-put clients place _ none c.requires.connection c.requires.own
