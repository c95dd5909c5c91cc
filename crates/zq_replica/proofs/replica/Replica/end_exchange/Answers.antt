use Rattle.zq_replica.proofs.Asked.{asked_again}
use Rattle.zq_replica.proofs.Tried.{settled_by}
use Rattle.zq_replica.proofs.replica.Replica.end_exchange.Goals as goal

pub returns-in_err-vector-clause-settled : goal.returns-in_err-vector-clause-settled
returns-in_err-vector-clause-settled g c =
    let shown = c.vector.ensures in
    let settled = c.settle_all-settled in
    settled_by settled.result c.args.node.now settled.new.self c.vector.new.self settled.ensures.home
    settled.ensures.work settled.ensures.stopped
    (record { home = shown.home; parked = shown.parked; took_nothing = shown.took_nothing })

pub returns-in_err-acknowledge-clause-settled : goal.returns-in_err-acknowledge-clause-settled
returns-in_err-acknowledge-clause-settled g c =
    let shown = c.vector.ensures in
    let settled = c.settle_all-settled in
    settled_by settled.result c.args.node.now settled.new.self c.acknowledge.new.node settled.ensures.home
    settled.ensures.work settled.ensures.stopped
    (asked_again settled.new.self c.vector.new.self c.acknowledge.new.node
    (record { home = shown.home; parked = shown.parked; took_nothing = shown.took_nothing }) c.acknowledge.ensures.shows)

pub returns-in_err-caught-clause-settled : goal.returns-in_err-caught-clause-settled
returns-in_err-caught-clause-settled g c =
    let shown = c.vector.ensures in
    let settled = c.settle_all-settled in
    settled_by settled.result c.args.node.now settled.new.self c.caught.new.node settled.ensures.home
    settled.ensures.work settled.ensures.stopped
    (asked_again settled.new.self c.acknowledge.new.node c.caught.new.node
    (asked_again settled.new.self c.vector.new.self c.acknowledge.new.node
    (record { home = shown.home; parked = shown.parked; took_nothing = shown.took_nothing }) c.acknowledge.ensures.shows) c.caught.ensures.shows)

pub returns-clause-settled : goal.returns-clause-settled
returns-clause-settled g c =
    let shown = c.vector.ensures in
    let settled = c.settle_all-settled in
    settled_by settled.result c.args.node.now settled.new.self c.caught.new.node settled.ensures.home
    settled.ensures.work settled.ensures.stopped
    (asked_again settled.new.self c.acknowledge.new.node c.caught.new.node
    (asked_again settled.new.self c.vector.new.self c.acknowledge.new.node
    (record { home = shown.home; parked = shown.parked; took_nothing = shown.took_nothing }) c.acknowledge.ensures.shows) c.caught.ensures.shows)
