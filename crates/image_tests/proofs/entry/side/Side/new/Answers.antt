use Rattle.zq_model.proofs.Sites.{length-by_site}
use Rattle.zq_model.specs.Sets.{by_site}
use Rattle.zq_entry.proofs.Callers.{within-none}
use Rattle.image_tests.proofs.entry.side.Side.new.Goals as goal

pub invariant_of-result : goal.invariant_of-result
invariant_of-result c = rw (c.new-2.ensures, c.new.ensures) (length-by_site (λ _. 0), within-none (by_site (λ _. 0)))
