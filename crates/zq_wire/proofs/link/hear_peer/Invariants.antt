use Rattle.std.specs.Io.KnownBytes.{Consumes}
use Rattle.std.specs.Prelude.{List, ℕ, ◌++◌, ◌≡◌}
use Rattle.zq_wire.proofs.Paid.{WasOwed}
use Rattle.zq_wire.proofs.link.hear_peer.Given as goal

abbrev pub invariant-loop : goal.invariant-loop
invariant-loop g l = record {
  read : (piece : List ℕ) × Consumes (g.R.Read.remaining l.initial.reader) (g.R.Read.remaining l.reader) piece
      × (l.heard.items ≡ l.initial.heard.items ++ piece);
  owed : WasOwed l.side l.said (g.W.Write.contents l.initial.writer) (g.W.Write.contents l.writer) l.heard.items l.owed;
}
