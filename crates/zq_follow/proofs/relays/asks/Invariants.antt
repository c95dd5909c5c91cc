use Rattle.std.proofs.Common.{map, take, ◌≡◌}
use Rattle.zq_follow.specs.Routes.{Reach, asked_by}
use Rattle.zq_follow.proofs.relays.asks.Given as goal

abbrev pub invariant-loop-peer : goal.invariant-loop-peer
invariant-loop-peer l =
    l.asked.items ≡ map (λ (r : Reach). let x : Reach = (r.0, asked_by l.own l.linked l.chosen r.0) in x) (take l.peer-index l.reaches)
