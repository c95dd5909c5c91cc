use Rattle.std.proofs.Common.{inl}
use Rattle.zq_links.proofs.Same.{has_newest, newest_value}
use Rattle.zq_links.specs.Frame.{OfOps}
use Rattle.zq_links.specs.Spelling.{newest}
use Rattle.zq_links.proofs.batch.by_differences.Goals as goal

pub returns-in-None : goal.returns-in-None
returns-in-None c = λ ops ranged few is. inl (newest (OfOps ops), has_newest (OfOps ops) (ranged, few), newest_value (OfOps ops), is)
