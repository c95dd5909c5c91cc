use Rattle.std.proofs.Common.{refl}
use Rattle.zq_model.specs.Heaps.{fnv1a64, heap_of}
use Rattle.zq_model.specs.Rule.{Greatest, Least}
use Rattle.zq_model.specs.Sets.{LAST, SITES}
use Rattle.zq_model.specs.Cases.{second_puts}
use Rattle.zq_model.proofs.ExampleTests.{Holds-from_test}
use Rattle.zq_model.proofs.examples.a_put_replaces_what_it_had_seen.Goals as goal

pub returns : goal.returns
unfolding SITES LAST heap_of fnv1a64
returns c = record {
  greatest = Holds-from_test Greatest second_puts refl refl;
  least = Holds-from_test Least second_puts refl refl;
}
