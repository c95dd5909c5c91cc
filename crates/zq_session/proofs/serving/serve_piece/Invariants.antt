use Rattle.std.proofs.Common.{◌-◌, ◌≡◌, ◌≤◌, ◌<◌, List, Some, length, take, ℕ}
use Rattle.zq_session.proofs.Turns.{IsTurned}
use Rattle.zq_session.specs.Gathering.{held}
use Rattle.zq_session.specs.Steps.{FULL}
use Rattle.zq_session.specs.declared.serving.Served.TheVariants.{More}
use Rattle.zq_session.proofs.serving.serve_piece.Given as goal

abbrev pub invariant-loop-at : goal.invariant-loop-at
invariant-loop-at g l = record {
  within : l.at ≤ length l.piece;
  few : length l.out.items < FULL;
  served : (had : List ℕ) → l.initial.input ≡ Some had →
      IsTurned g.E.Ends.does g.A.Answers.answers l.initial.answerer l.answerer (held (l.initial.reader, l.initial.writer) l.initial.out.items) (held (l.reader, l.writer) l.out.items)
      had (take l.at l.piece) l.input More;
}

abbrev pub decreases-loop-at : goal.decreases-loop-at
decreases-loop-at g l = length l.piece - l.at
