use Rattle.std.proofs.Common.{◌≡◌, ℕ, List, Some, []}
use Rattle.zq_session.specs.Steps.{Step, reads}
use Rattle.zq_session.proofs.Conversations.{IsUnderWay}
use Rattle.zq_session.proofs.stream.serve_all.Given as goal

abbrev pub invariant-loop-read : goal.invariant-loop-read
invariant-loop-read g l =
    (steps : List Step) × (had : List ℕ) × (l.input ≡ Some had)
    × IsUnderWay g.E.Ends.does g.A.Answers.answers (l.initial.reader, l.initial.writer) l.initial.answerer (l.reader, l.writer) l.answerer steps had
    × (reads steps ≡ l._read)
    × (l.out.items ≡ [])
