use Rattle.std.proofs.Common.{subst, ◌<◌}
use Rattle.zq_model.specs.Sets.{SITES}
use Rattle.zq_keeper.proofs.entries.ranged.Goals as goal

pub returns : goal.returns
returns c = record {
  site = subst (λ n. n < SITES) c.value-site.ensures.same c.value-site.ensures.below;
  heaps = c.requires.heaps;
  folder = c.numbered.ensures.folder;
  some = c.requires.some;
  number = c.numbered.ensures.number;
}
