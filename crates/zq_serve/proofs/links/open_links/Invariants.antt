use Rattle.std.proofs.Common.{map, take, ◌≡◌}
use Rattle.zq_serve.proofs.links.open_links.Given as goal
use Rattle.zq_serve.specs.SiteThreads.{all_others, others_at, served_lent}

abbrev pub invariant-loop-site : goal.invariant-loop-site
invariant-loop-site l = others_at l.links.items ≡ all_others l.count (map served_lent (take l.site-index l.sites))
