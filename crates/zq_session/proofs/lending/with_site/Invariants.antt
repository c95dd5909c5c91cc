use Rattle.std.proofs.Common.{All, length, ◌++◌, ◌≡◌}
use Rattle.std.specs.Prelude.{replicate}
use Rattle.std.specs.Vec.Iter.{into_iter_items}
use Rattle.zq_session.proofs.lending.with_site.Given as goal
use Rattle.zq_session.specs.LentSites.{sites_of}
use Rattle.zq_spread.specs.Passes.{IsPassOf}

abbrev pub invariant-loop-pass : goal.invariant-loop-pass
invariant-loop-pass l =
    All (IsPassOf l.site) (into_iter_items l.pass-iterator)
    × (sites_of l.own.items ++ replicate (length (into_iter_items l.pass-iterator)) l.site ≡ replicate (length (into_iter_items l.initial.pass-iterator)) l.site)
