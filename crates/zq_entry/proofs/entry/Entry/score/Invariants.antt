use Rattle.std.proofs.Common.{drop, map, ◌≡◌, ◌*◌, ◌+◌}
use Rattle.std.specs.Prelude.{IfSome}
use Rattle.zq_dots.specs.Rule.{rule_of}
use Rattle.zq_model.specs.Operation.{IsWithin, MOST}
use Rattle.zq_model.specs.Score.{value_of}
use Rattle.zq_model.specs.Sets.{SITES}
use Rattle.zq_entry.specs.Sums.{MOST_SUM}
use Rattle.zq_entry.proofs.EntryLemmas.{best, combined}
use Rattle.zq_entry.proofs.entry.Entry.score.Given as goal

abbrev pub invariant-loop-place : goal.invariant-loop-place
invariant-loop-place l = record {
  value : combined (rule_of l.rule) l.best (best (rule_of l.rule) (map (λ p. value_of p.1) (drop l.place l.self-inside.additions))) ≡ best (rule_of l.rule) (map (λ p. value_of p.1) l.self-inside.additions);
  within : IfSome l.best (IsWithin (MOST + SITES * MOST_SUM));
}
