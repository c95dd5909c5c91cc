use Rattle.std.proofs.Common.{inl}
use Rattle.zq_journal.proofs.start.Start.of.Goals as goal

pub returns-then-is_old-clause-seen : goal.returns-then-is_old-clause-seen
returns-then-is_old-clause-seen c = λ h K. inl (c.from_oldest.ensures.seen h K)

pub returns-then-is_old-clause-lacked : goal.returns-then-is_old-clause-lacked
returns-then-is_old-clause-lacked c = λ h K counted covered. c.from_oldest.ensures.lacked h K
