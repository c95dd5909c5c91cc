use Rattle.std.proofs.Common.{arith, get_or, subst, sym, ◌≡◌}
use Rattle.std.specs.Prelude.{max}
use Rattle.zq_model.proofs.Sites.{by_site_from}
use Rattle.zq_model.specs.Image.{join_vector}
use Rattle.zq_model.specs.Sets.{IsCounters}
use Rattle.zq_dots.proofs.Counters.{joined_counters, sites_is}
use Rattle.zq_dots.proofs.vector.Vector.join_with.Goals as goal

-- after the loop each site's counter is the greater of the two
joined : (c : goal.After-loop-site) → c.loop-site.self-inside.counters ≡ join_vector c.self.inside.counters c.other.inside.counters
joined c =
    by_site_from (λ t. max (get_or c.self.inside.counters t 0) (get_or c.other.inside.counters t 0)) _ 0 c.loop-site.invariant.wide (λ t h. c.loop-site.invariant.joined t (omega (arith, sites_is)))

pub invariant_of-self : goal.invariant_of-self
invariant_of-self c = subst IsCounters (sym (joined c)) (joined_counters c.self.inside.counters c.other.inside.counters c.self.invariant c.other.invariant)

pub returns : goal.returns
returns c = rw (← c.self.view_is, ← c.other.view_is) (joined c)
