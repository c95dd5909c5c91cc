use Rattle.std.proofs.Common.{ap, arith, ◌∙◌}
use Rattle.zq_ranked.proofs.Joined.{joined_same, joined_split, length_at}
use Rattle.zq_ranked.specs.Shape.{joined}
use Rattle.zq_ranked.proofs.fork.Fork.divide.Goals as goal

pub split-requires-clause-fits : goal.split-requires-clause-fits
split-requires-clause-fits c =
    omega (arith, length_at c.args.self.now.children.items c.args.place c.index_mut.result.now c.requires.within (rw c.reserve.ensures.items at c.index_mut.ensures.value), c.requires.fits)

pub returns-in_default-clause-pairs : goal.returns-in_default-clause-pairs
returns-in_default-clause-pairs c =
    rw c.reserve.ensures.items (joined_same c.args.self.now.children.items c.args.place c.index_mut.result.now c.split.new.self c.requires.within (rw c.reserve.ensures.items at c.index_mut.ensures.value) c.in_default.ensures.stays)

pub returns-clause-pairs : goal.returns-clause-pairs
returns-clause-pairs c =
    ap joined c.in-Ok.ensures.items ∙ rw c.reserve.ensures.items (joined_split c.args.self.now.children.items c.args.place c.index_mut.result.now c.split.new.self c.in-Some.upper c.requires.within (rw c.reserve.ensures.items at c.index_mut.ensures.value) c.in-Some.ensures.pairs)
