use Rattle.std.proofs.Common.{refl}
use Rattle.zq_model.specs.Heaps.{fnv1a64, heap_of}
use Rattle.zq_model.specs.Rule.{Greatest, Least}
use Rattle.zq_model.specs.Sets.{LAST, SITES}
use Rattle.zq_model.specs.Cases.{drop_and_put}
use Rattle.zq_model.proofs.ExampleTests.{Holds-from_test}
use Rattle.zq_model.proofs.examples.drop_spares_an_unseen_put.Goals as goal

pub returns : goal.returns
unfolding SITES LAST heap_of fnv1a64
returns c = record {
  greatest = Holds-from_test Greatest drop_and_put refl refl;
  least = Holds-from_test Least drop_and_put refl refl;
}
