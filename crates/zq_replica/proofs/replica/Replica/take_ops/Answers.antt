use Rattle.std.proofs.Common.{inr}
use Rattle.zq_replica.proofs.Asked.{asked_again, heard_between, ops_heard}
use Rattle.zq_replica.proofs.replica.Replica.take_ops.Goals as goal

pub returns-in_err-after-clause-given : goal.returns-in_err-after-clause-given
returns-in_err-after-clause-given g c = λ frame of.
    let earlier = c.vector.ensures in
    let later = c.vector-2.ensures in
    inr (heard_between frame c.args.node.now c.vector.new.self
    c.hear_ops-heard.new.self c.vector-2.new.self
    (record { home = earlier.home; parked = earlier.parked; took_nothing = earlier.took_nothing })
    (ops_heard frame c.args.ops.now c.vector.new.self c.hear_ops-heard.new.self
    c.hear_ops-heard.result of c.hear_ops-heard.ensures.heard c.hear_ops-heard.ensures.stopped)
    (record { home = later.home; parked = later.parked; took_nothing = later.took_nothing }))

pub returns-in_err-acknowledge-clause-given : goal.returns-in_err-acknowledge-clause-given
returns-in_err-acknowledge-clause-given g c = λ frame of.
    let earlier = c.vector.ensures in
    let later = c.vector-2.ensures in
    inr (heard_between frame c.args.node.now c.vector.new.self
    c.hear_ops-heard.new.self c.acknowledge.new.node
    (record { home = earlier.home; parked = earlier.parked; took_nothing = earlier.took_nothing })
    (ops_heard frame c.args.ops.now c.vector.new.self c.hear_ops-heard.new.self
    c.hear_ops-heard.result of c.hear_ops-heard.ensures.heard c.hear_ops-heard.ensures.stopped)
    (asked_again c.hear_ops-heard.new.self c.vector-2.new.self c.acknowledge.new.node
    (record { home = later.home; parked = later.parked; took_nothing = later.took_nothing })
    c.acknowledge.ensures.shows))

pub returns-in_err-caught-clause-given : goal.returns-in_err-caught-clause-given
returns-in_err-caught-clause-given g c = λ frame of.
    let earlier = c.vector.ensures in
    let later = c.vector-2.ensures in
    inr (heard_between frame c.args.node.now c.vector.new.self
    c.hear_ops-heard.new.self c.caught.new.node
    (record { home = earlier.home; parked = earlier.parked; took_nothing = earlier.took_nothing })
    (ops_heard frame c.args.ops.now c.vector.new.self c.hear_ops-heard.new.self
    c.hear_ops-heard.result of c.hear_ops-heard.ensures.heard c.hear_ops-heard.ensures.stopped)
    (asked_again c.hear_ops-heard.new.self c.vector-2.new.self c.caught.new.node
    (record { home = later.home; parked = later.parked; took_nothing = later.took_nothing })
    (asked_again c.vector-2.new.self c.acknowledge.new.node c.caught.new.node
    c.acknowledge.ensures.shows c.caught.ensures.shows)))

pub returns-in_err-heard-clause-given : goal.returns-in_err-heard-clause-given
returns-in_err-heard-clause-given g c = λ frame of.
    let earlier = c.vector.ensures in
    let later = c.vector-2.ensures in
    inr (heard_between frame c.args.node.now c.vector.new.self
    c.hear_ops-heard.new.self c.caught.new.node
    (record { home = earlier.home; parked = earlier.parked; took_nothing = earlier.took_nothing })
    (ops_heard frame c.args.ops.now c.vector.new.self c.hear_ops-heard.new.self
    c.hear_ops-heard.result of c.hear_ops-heard.ensures.heard c.hear_ops-heard.ensures.stopped)
    (asked_again c.hear_ops-heard.new.self c.vector-2.new.self c.caught.new.node
    (record { home = later.home; parked = later.parked; took_nothing = later.took_nothing })
    (asked_again c.vector-2.new.self c.acknowledge.new.node c.caught.new.node
    c.acknowledge.ensures.shows c.caught.ensures.shows)))

pub returns-clause-given : goal.returns-clause-given
returns-clause-given g c = λ frame of.
    let earlier = c.vector.ensures in
    let later = c.vector-2.ensures in
    inr (heard_between frame c.args.node.now c.vector.new.self
    c.hear_ops-heard.new.self c.caught.new.node
    (record { home = earlier.home; parked = earlier.parked; took_nothing = earlier.took_nothing })
    (ops_heard frame c.args.ops.now c.vector.new.self c.hear_ops-heard.new.self
    c.hear_ops-heard.result of c.hear_ops-heard.ensures.heard c.hear_ops-heard.ensures.stopped)
    (asked_again c.hear_ops-heard.new.self c.vector-2.new.self c.caught.new.node
    (record { home = later.home; parked = later.parked; took_nothing = later.took_nothing })
    (asked_again c.vector-2.new.self c.acknowledge.new.node c.caught.new.node
    c.acknowledge.ensures.shows c.caught.ensures.shows)))
