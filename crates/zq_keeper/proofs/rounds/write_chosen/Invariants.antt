use Rattle.std.proofs.Common.{map, take, ◌≡◌}
use Rattle.std.specs.Prelude.{All}
use Rattle.zq_entries.specs.Together.{batch_of}
use Rattle.zq_keeper.specs.Operations.{IsShort, chosen}
use Rattle.zq_keeper.proofs.rounds.write_chosen.Given as goal

abbrev pub invariant-loop-batch : goal.invariant-loop-batch
invariant-loop-batch l = record {
  written : map (λ b. b.items) l.written.items
      ≡ map batch_of (chosen l.parts (take l.batch-index l.batches));
  short : All IsShort (chosen l.parts (take l.batch-index l.batches));
}
