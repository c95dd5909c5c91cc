use Rattle.zq_tally.specs.Words.{id_of}
use Rattle.zq_tally.proofs.Lists.{first_and_others}
use Rattle.zq_tally.proofs.tally.Tally.tally.Goals as goal

pub tally_with-requires-clause-own : goal.tally_with-requires-clause-own
tally_with-requires-clause-own c =
    let parts = first_and_others (id_of c.args.self.now) c.args.counts.now c.in-Some.others.now c.in-Some.first.now c.in-Some.ensures.cases.0 c.requires.own.1 in
    (c.requires.own.0, parts.0, parts.1)
