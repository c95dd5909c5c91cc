use Rattle.std.proofs.Common.{false, get_or, length, not, ℕ, ◌&&◌, ◌<◌, ◌≡◌}
use Rattle.std.specs.List.{list_all}
use Rattle.zq_model.specs.Sets.{SITES}
use Rattle.zq_follow.specs.SiteSet.{has_site}
use Rattle.zq_follow.proofs.heard.unheard_of.Given as goal

abbrev pub invariant-loop-number : goal.invariant-loop-number
invariant-loop-number l = record {
  wide : length l.held ≡ SITES;
  done : (t : ℕ) → t < l.number → get_or l.held t false ≡ (has_site l.peers t && not (list_all (λ of_heap. has_site of_heap t) l.heard));
}
