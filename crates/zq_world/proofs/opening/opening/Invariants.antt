use Rattle.std.proofs.Common.{Some, Vec, length, ℕ, ◌≡◌}
use Rattle.std.specs.Prelude.{slice_get}
use Rattle.std.specs.declared.alloc.Global.{Global}
use Rattle.zq_dots.specs.Rule.{rule_of}
use Rattle.zq_model.specs.Books.{Book}
use Rattle.zq_semantics.specs.Books.{AreBooksOf}
use Rattle.zq_semantics.specs.Runs as runs
use Rattle.zq_world.proofs.opening.opening.Given as goal

abbrev pub invariant-loop-site : goal.invariant-loop-site
invariant-loop-site l = record {
  number : length l.all.items ≡ l._site;
  each : (site : ℕ) (its : Vec Book Global) → slice_get l.all.items site ≡ Some its → (s : ℕ) → AreBooksOf (rule_of l.rule) l.heaps runs.opening s its.items;
}
