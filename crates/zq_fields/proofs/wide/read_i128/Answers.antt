use Rattle.std.proofs.Common.{ap, of_z, rules, to_z, ◌<◌, ◌^◌, ◌≡◌, ◌∙◌}
use Rattle.std.specs.Int.{w128}
use Rattle.std.proofs.lemmas.Int.{of_z-to_z, to_z-of_z}
use Rattle.zq_fields.proofs.wide.read_i128.Goals as goal

pub returns-clause-found : goal.returns-clause-found
returns-clause-found c =
    let small : c.in_ok-bits.bits < 2 ^ 128 = search rules in
    let same : of_z w128 (to_z w128 (of_z w128 c.cast_signed.result)) ≡ c.in_ok-bits.bits =
    ap (of_z w128) (to_z-of_z w128 c.cast_signed.result (record { sfits = c.cast_signed.type_inv })) ∙ (ap (of_z w128) c.cast_signed.ensures ∙ of_z-to_z w128 c.in_ok-bits.bits small)
    in rw same c.in_ok-bits.ensures.found
