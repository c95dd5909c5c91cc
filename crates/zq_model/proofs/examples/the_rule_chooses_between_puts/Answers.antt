use Rattle.std.proofs.Common.{refl}
use Rattle.std.specs.Prelude.{neg_ℤ, pos}
use Rattle.zq_model.specs.Heaps.{fnv1a64, heap_of}
use Rattle.zq_model.specs.Rule.{Greatest, Least}
use Rattle.zq_model.specs.Sets.{LAST, SITES}
use Rattle.zq_model.specs.Cases.{puts_apart}
use Rattle.zq_model.proofs.ExampleTests.{Holds-from_test}
use Rattle.zq_model.proofs.examples.the_rule_chooses_between_puts.Goals as goal

pub returns : goal.returns
unfolding SITES LAST heap_of fnv1a64
returns c = record {
  greatest = Holds-from_test Greatest (puts_apart (pos 9) (pos 3)) refl refl;
  least = Holds-from_test Least (puts_apart (pos 5) (neg_ℤ (pos 1))) refl refl;
}
