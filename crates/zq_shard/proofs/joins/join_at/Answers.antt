use Rattle.std.proofs.Common.{[], subst}
use Rattle.zq_queue.specs.Queued.{Queued}
use Rattle.zq_shard.proofs.Outcomes.{ok_map}
use Rattle.zq_shard.proofs.SameQueues.{has_without, listed_at}
use Rattle.zq_shard.specs.Queues.{HasAt, unless_empty, without_places_in}
use Rattle.zq_shard.proofs.joins.join_at.Goals as goal

pub returns-clause-joined : goal.returns-clause-joined
returns-clause-joined c =
    let old = without_places_in c.args.merged.now.entries in
    let new = without_places_in c.add.new.queues.entries in
    let rule = c.in_ok-joined.ensures.rule in
    let entries = c.in_ok-joined.ensures.joined in
    ok_map c.add.result c.add.ensures.added (λ added.
    subst (λ (q : Queued). HasAt c.args.key.now (unless_empty q) old new) (λ i. record { rule = rule i; entries = entries i; places = [] })
    (has_without c.args.key.now c.in_ok-joined.joined c.args.merged.now.entries c.add.new.queues.entries added))

pub returns-clause-listed : goal.returns-clause-listed
returns-clause-listed c =
    ok_map c.add.result c.add.ensures.added (λ added.
    listed_at c.args.key.now c.in_ok-joined.joined c.args.merged.now.entries c.add.new.queues.entries added c.add.ensures.listed)
