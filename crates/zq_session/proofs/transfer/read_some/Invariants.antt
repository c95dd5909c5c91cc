use Rattle.std.proofs.Common.{length, ◌≡◌}
use Rattle.std.specs.Io.KnownBytes.{Keeps}
use Rattle.zq_session.proofs.transfer.read_some.Given as goal

abbrev pub invariant-loop-try : goal.invariant-loop-try
invariant-loop-try g l = Keeps (g.R.Read.remaining l.initial.reader) (g.R.Read.remaining l.reader) × (length l.buffer ≡ length l.initial.buffer)
