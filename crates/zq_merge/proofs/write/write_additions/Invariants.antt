use Rattle.std.proofs.Common.{take, ◌++◌, ◌≡◌}
use Rattle.std.specs.List.{flat_map}
use Rattle.zq_entry.specs.Placed.{placed_of}
use Rattle.zq_merge.specs.Spelling.{addition_bytes}
use Rattle.zq_merge.specs.declared.version.Version.TheVariants.{Three}
use Rattle.zq_merge.proofs.write.write_additions.Given as goal

abbrev pub invariant-loop-place : goal.invariant-loop-place
invariant-loop-place l = l.out.items ≡ l.initial.out.items ++ flat_map (addition_bytes Three) (take l.place (placed_of l.entry))
