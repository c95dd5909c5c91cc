use Rattle.std.proofs.Common.{length, map}
use Rattle.zq_serve.proofs.ThreadLists.{AreComingFor}
use Rattle.zq_serve.proofs.threads.threads_of.Given as goal
use Rattle.zq_serve.specs.SiteThreads.{served_lent}

abbrev pub invariant-loop-site : goal.invariant-loop-site
invariant-loop-site l = AreComingFor l.settings.workers (length l.settings.ports) (map served_lent l.initial.site-iterator.s.now) l.threads l.site-iterator.s.now l.ports.s.now l.links.rest.now
