use Rattle.std.proofs.Common.{ap, arith, length, refl, rules, ◌++◌, ◌∙◌, ◌∷◌, ◌≡◌, []}
use Rattle.std.proofs.lemmas.Option.{slice_get_read}
use Rattle.std.specs.Vec.{vec_len}
use Rattle.zq_world.proofs.Wanteds.{with_none, with_pushed}
use Rattle.zq_world.proofs.wanted.want.Goals as goal

pub returns-in_ok-reserve-clause-with_it : goal.returns-in_ok-reserve-clause-with_it
returns-in_ok-reserve-clause-with_it c =
    let wanted = c.args.wanted.now.items in
    let old = c.index_mut-places.result.now in
    let many : vec_len c.args.wanted.now ≡ length wanted = search rules in
    let here = slice_get_read wanted (length wanted) c.args.moment old refl (omega (arith, c.if-moment-len.true, c.len.ensures, many)) c.index_mut-places.ensures.value in
    with_pushed wanted c.args.moment c.args.place old c.push_reserved.new.self here (c.push_reserved.ensures.items ∙ ap (λ ps. ps ++ c.args.place ∷ []) c.in_ok-reserve.ensures.items)

pub returns-else-moment-len-clause-with_it : goal.returns-else-moment-len-clause-with_it
returns-else-moment-len-clause-with_it c =
    let wanted = c.args.wanted.now.items in
    let many : vec_len c.args.wanted.now ≡ length wanted = search rules in
    with_none wanted c.args.moment c.args.place (omega (arith, c.if-moment-len.false, c.len.ensures, many))
