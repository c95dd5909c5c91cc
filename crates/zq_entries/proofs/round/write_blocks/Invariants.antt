use Rattle.std.proofs.Common.{take, ◌++◌, ◌≡◌}
use Rattle.std.specs.List.{flat_map}
use Rattle.zq_entries.specs.Spelling.{block}
use Rattle.zq_entries.proofs.round.write_blocks.Given as goal

abbrev pub invariant-loop-batch : goal.invariant-loop-batch
invariant-loop-batch l = l.out.items ≡ l.initial.out.items ++ flat_map (λ b. block b.items) (take l.batch-index l.batches)
