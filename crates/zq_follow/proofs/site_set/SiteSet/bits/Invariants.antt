use Rattle.std.proofs.Common.{false, get_or, ℕ, ◌<◌, ◌≡◌, ◌≤◌}
use Rattle.std.specs.Int.{bit_at}
use Rattle.zq_follow.specs.SiteSet.{bit_of}
use Rattle.zq_follow.proofs.site_set.SiteSet.bits.Given as goal

abbrev pub invariant-loop-site : goal.invariant-loop-site
invariant-loop-site l = record {
  done : (t : ℕ) → t < l.site → bit_at l.bits t ≡ bit_of (get_or l.self-inside.held t false);
  rest : (t : ℕ) → l.site ≤ t → bit_at l.bits t ≡ 0;
}
