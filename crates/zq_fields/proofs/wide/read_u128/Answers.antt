use Rattle.zq_fields.proofs.Halves.{found_16}
use Rattle.zq_fields.proofs.wide.read_u128.Goals as goal

pub returns-clause-found : goal.returns-clause-found
returns-clause-found c =
    let split = c.in_ok-number.ensures in
    found_16 c.args.bytes.now c.in_ok-number.number.now c.in_ok-number.rest.now c.from_be_bytes.result c.type_inv.bytes (record { front_is = split.cases.0; rest_is = split.cases.1; long = split.cases.2 }) c.from_be_bytes.ensures
