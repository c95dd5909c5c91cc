use Rattle.std.proofs.Common.{◌++◌, ◌≡◌}
use Rattle.std.specs.String.{string_bytes}
use Rattle.zq_metrics.specs.Page as wanted
use Rattle.zq_metrics.proofs.page.write_commands.Given as goal

abbrev pub invariant-loop-place : goal.invariant-loop-place
invariant-loop-place l = string_bytes l.out ≡ string_bytes l.initial.out ++ wanted.commands_before l.metric l.values l.place
