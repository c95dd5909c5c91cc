use Rattle.std.proofs.Common.{length, take, [], ◌++◌, ◌≡◌}
use Rattle.zq_batch.specs.Before.{AreNext}
use Rattle.zq_batch.specs.Spelling.{each_bytes}
use Rattle.zq_batch.proofs.views.write_each.Given as goal

abbrev pub invariant-loop-number : goal.invariant-loop-number
invariant-loop-number l = record {
  written : l.out.items ≡ l.initial.out.items ++ each_bytes [] (take l.number l.views);
  next : AreNext [] (take l.number l.views);
  kept : take (length l.initial.out.items) l.out.items ≡ l.initial.out.items;
}
