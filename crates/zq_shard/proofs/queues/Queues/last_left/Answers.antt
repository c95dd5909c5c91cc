use Rattle.std.proofs.Common.{ap, arith, sym, ◌∙◌, ◌≡◌}
use Rattle.std.proofs.lemmas.List.{length-map}
use Rattle.std.specs.Prelude.{length, min, ◌+◌}
use Rattle.zq_shard.proofs.Pieces.{last_down}
use Rattle.zq_shard.specs.Listed.{lent_place}
use Rattle.zq_shard.specs.Queues.{Keyed}
use Rattle.zq_shard.proofs.queues.Queues.last_left.Goals as goal

pub returns-clause-last : goal.returns-clause-last
returns-clause-last c =
    let order = c.args.self.now.order in
    let keys : length order ≡ c.len.result
    = ap (λ (s : Keyed). length s.order) (sym c.self.view_is) ∙ length-map c.self.inside.queues.entries (λ e. (e.0, e.1.places)) ∙ sym c.len.ensures.len in
    let number : c.in_ok-key.key + 1 ≡ min c.args.spot.key (length order) = omega (arith, c.in_ok-key.ensures, c.min.ensures, keys) in
    last_down lent_place order c.args.spot c.in_ok-key.key 18446744073709551615 c.last_of-2.result c.in_default.ensures.nothing number (omega arith) c.last_of-2.ensures.last c.last_of-2.ensures.key
    c.last_of-2.ensures.small
