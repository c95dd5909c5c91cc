use Rattle.std.proofs.Common.{refl}
use Rattle.zq_model.specs.Sets.{SITES}
use Rattle.zq_dots.proofs.Counters.{no_counters}
use Rattle.zq_dots.proofs.vector.Vector.new.Goals as goal

pub invariant_of-result : goal.invariant_of-result
unfolding SITES
invariant_of-result c = no_counters

pub returns : goal.returns
unfolding SITES
returns c = refl
