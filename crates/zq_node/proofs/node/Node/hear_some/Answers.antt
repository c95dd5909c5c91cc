use Rattle.std.proofs.Common.{ap, arith, drop, drop-set-lt, refl, subst, sym, ◌++◌, ◌<◌, ◌∙◌, ◌≡◌}
use Rattle.std.specs.Prelude.{[], length, take}
use Rattle.zq_dots.specs.Placed.{Placed}
use Rattle.zq_model.proofs.MeantQueues.{heap_in_range}
use Rattle.zq_node.proofs.Batched.{batch_within, early_site, first_parked, heard_batch, heard_on, idle_batch, off_before, settle_stopped, stopped_first, take_first, wrong_first}
use Rattle.zq_node.proofs.Nodes.{none_in, worked_more}
use Rattle.zq_node.proofs.Parts.{first_is, front_back, front_same}
use Rattle.zq_node.proofs.Told.{if_err}
use Rattle.zq_node.proofs.node.Node.hear_some.Goals as goal
use Rattle.zq_node.specs.Batches.{IsPutOff, IsStopBefore, WasStoppedIn}
use Rattle.zq_node.specs.declared.faults.NodeFault.TheVariants as node
use Rattle.zq_node.specs.declared.node.Node.{Node}
use Rattle.zq_spread.specs.Calls.{IsOfSite, heaps_of}

pub returns-then-heap-self-clause-stopped : goal.returns-then-heap-self-clause-stopped
returns-then-heap-self-clause-stopped g c =
    let old = c.args.self.now in
    let site = old.home.site.now in
    let first = c.requires.first.0 in
    let ops = c.args.ops.now in
    let heap_is : c.heap-heap.result ≡ first.operation.heap = c.heap-heap.ensures.same ∙ ap (λ (p : Placed). p.operation.heap) (first_is ops ops first c.requires.first.1 _ refl c.requires.first.2) in
    stopped_first ops old old node.WrongHeap refl (λ h. refl)
    (subst (λ l. IsStopBefore site l node.WrongHeap) (sym c.requires.first.2) (λ of.
    let below = heap_in_range first.operation.key first.operation.member first.heaps (omega (arith, of.heaps, site.some)) in
    omega (arith, below, of.placed, of.heaps, heap_is, c.if-heap-self.true, c.requires.node.home.heaps)))

pub returns-in_err-taken-clause-stopped : goal.returns-in_err-taken-clause-stopped
returns-in_err-taken-clause-stopped g c =
    let old = c.args.self.now in
    let site = old.home.site.now in
    let ops = c.args.ops.now in
    let mid : Node = record { home = old.home; pass = c.take_all.new.pass; parked = old.parked } in
    if_err (WasStoppedIn ops old mid) c.from_residual.result node.Worn c.from_residual.ensures.1
    (stopped_first ops old mid node.Worn refl c.in_err-taken.ensures.refused.0.steps (subst (λ l. IsStopBefore site l node.Worn) (sym c.requires.first.2) tt))

pub put_off-requires-clause-early : goal.put_off-requires-clause-early
put_off-requires-clause-early g c = λ early.
    let old = c.args.self.now in
    let site = old.home.site.now in
    let ops = c.args.ops.now in
    let first = c.requires.first.0 in
    let m = c.min-most.result in
    let mid : Node = record { home = old.home; pass = c.take_all.new.pass; parked = old.parked } in
    let below : c.heap-heap.result < heaps_of site = omega (arith, c.if-heap-self.false, c.requires.node.home.heaps) in
    let others = c.requires.first.1 in
    let long = ap length c.requires.first.2 in
    let more = take_first m ops first others c.requires.first.2 (omega (arith, c.min-most.ensures, long)) in
    let same : c.take_all.new.ops ++ drop m ops ≡ ops = front_same ops c.take_all.new.ops m c.in_ok-taken.taken.taken c.if-taken-eq0.true c.in_ok-taken.ensures.left in
    subst (IsOfSite site) (sym (first_is ops (c.take_all.new.ops ++ drop m ops) first others _ same c.requires.first.2))
    (early_site site old.pass c.take_all.new.pass c.heap-heap.result (take m ops) c.in_ok-taken.taken c.take_all.ensures.pass below c.in_ok-taken.ensures.called first more.0 more.1 c.if-taken-eq0.true early)

pub put_off-requires-clause-within : goal.put_off-requires-clause-within
put_off-requires-clause-within g c =
    let site = c.args.self.now.home.site.now in
    let ops = c.args.ops.now in
    let first = c.requires.first.0 in
    let m = c.min-most.result in
    let below : c.heap-heap.result < heaps_of site = omega (arith, c.if-heap-self.false, c.requires.node.home.heaps) in
    let heap_is : c.heap-heap.result ≡ first.operation.heap = c.heap-heap.ensures.same ∙ ap (λ (p : Placed). p.operation.heap) (first_is ops ops first c.requires.first.1 _ refl c.requires.first.2) in
    let same : c.take_all.new.ops ++ drop m ops ≡ ops = front_same ops c.take_all.new.ops m c.in_ok-taken.taken.taken c.if-taken-eq0.true c.in_ok-taken.ensures.left in
    subst (λ (p : Placed). p.operation.heap < heaps_of site) (sym (first_is ops (c.take_all.new.ops ++ drop m ops) first c.requires.first.1 _ same c.requires.first.2)) (subst (λ h. h < heaps_of site) heap_is below)

pub returns-in_err-put_off-clause-stopped : goal.returns-in_err-put_off-clause-stopped
returns-in_err-put_off-clause-stopped g c =
    let old = c.args.self.now in
    let site = old.home.site.now in
    let ops = c.args.ops.now in
    let first = c.requires.first.0 in
    let m = c.min-most.result in
    let mid : Node = record { home = old.home; pass = c.take_all.new.pass; parked = old.parked } in
    let below : c.heap-heap.result < heaps_of site = omega (arith, c.if-heap-self.false, c.requires.node.home.heaps) in
    let others = c.requires.first.1 in
    let long = ap length c.requires.first.2 in
    let more = take_first m ops first others c.requires.first.2 (omega (arith, c.min-most.ensures, long)) in
    let heap_is : c.heap-heap.result ≡ first.operation.heap = c.heap-heap.ensures.same ∙ ap (λ (p : Placed). p.operation.heap) (first_is ops ops first c.requires.first.1 _ refl c.requires.first.2) in
    let why = c.in_err-put_off.field-0.0 in
    let none = idle_batch old.pass c.take_all.new.pass c.heap-heap.result (take m ops) c.in_ok-taken.taken c.if-taken-eq0.true c.in_ok-taken.ensures.called in
    let stop = off_before site first others c.in_ok-taken.taken.end why c.in_err-put_off.ensures.why
    (wrong_first site old.pass c.take_all.new.pass c.heap-heap.result (take m ops) c.in_ok-taken.taken c.take_all.ensures.pass below c.in_ok-taken.ensures.called first more.0 more.1 c.if-taken-eq0.true (sym heap_is)) in
    let stopped : WasStoppedIn ops old mid why = stopped_first ops old mid why refl none (subst (λ l. IsStopBefore site l why) (sym c.requires.first.2) stop) in
    if_err (WasStoppedIn ops old c.put_off.new.self) c.from_residual-in_err-put_off.result why c.from_residual-in_err-put_off.ensures.1
    (subst (λ n. WasStoppedIn ops old n why) (sym c.in_err-put_off.ensures.refused) stopped)

pub returns-then-taken-eq0-clause-heard : goal.returns-then-taken-eq0-clause-heard
returns-then-taken-eq0-clause-heard g c =
    let old = c.args.self.now in
    let site = old.home.site.now in
    let ops = c.args.ops.now in
    let first = c.requires.first.0 in
    let m = c.min-most.result in
    let mid : Node = record { home = old.home; pass = c.take_all.new.pass; parked = old.parked } in
    let below : c.heap-heap.result < heaps_of site = omega (arith, c.if-heap-self.false, c.requires.node.home.heaps) in
    let others = c.requires.first.1 in
    let long = ap length c.requires.first.2 in
    let more = take_first m ops first others c.requires.first.2 (omega (arith, c.min-most.ensures, long)) in
    let same : c.take_all.new.ops ++ drop m ops ≡ ops = front_same ops c.take_all.new.ops m c.in_ok-taken.taken.taken c.if-taken-eq0.true c.in_ok-taken.ensures.left in
    let put : IsPutOff c.in_ok-taken.taken.end first mid c.put_off.new.self =
    subst (λ (p : Placed). IsPutOff c.in_ok-taken.taken.end p mid c.put_off.new.self) (first_is ops (c.take_all.new.ops ++ drop m ops) first others _ same c.requires.first.2) c.in_ok-put_off.ensures.put in
    first_parked old mid c.put_off.new.self c.heap-heap.result m ops first others more.0 c.in_ok-taken.taken refl refl c.take_all.ensures.pass below c.in_ok-taken.ensures.called c.requires.first.2 more.1
    c.if-taken-eq0.true c.put_off.ensures.pass put

pub returns-then-taken-eq0-clause-left : goal.returns-then-taken-eq0-clause-left
returns-then-taken-eq0-clause-left g c =
    let ops = c.args.ops.now in
    let m = c.min-most.result in
    let same : c.take_all.new.ops ++ drop m ops ≡ ops = front_same ops c.take_all.new.ops m c.in_ok-taken.taken.taken c.if-taken-eq0.true c.in_ok-taken.ensures.left in
    drop-set-lt 1 (c.take_all.new.ops ++ drop m ops) 0 c.put_off.new.op (omega arith) ∙ ap (drop 1) same

pub returns-in_err-settle-clause-stopped : goal.returns-in_err-settle-clause-stopped
returns-in_err-settle-clause-stopped g c =
    let old = c.args.self.now in
    let site = old.home.site.now in
    let ops = c.args.ops.now in
    let first = c.requires.first.0 in
    let m = c.min-most.result in
    let mid : Node = record { home = old.home; pass = c.take_all.new.pass; parked = old.parked } in
    let below : c.heap-heap.result < heaps_of site = omega (arith, c.if-heap-self.false, c.requires.node.home.heaps) in
    let why = c.in_err-settle.field-0.0 in
    let some = heard_batch old mid c.heap-heap.result m ops c.in_ok-taken.taken refl c.take_all.ensures.pass below c.in_ok-taken.ensures.called in
    if_err (WasStoppedIn ops old c.settle.new.self) c.from_residual-in_err-settle.result why c.from_residual-in_err-settle.ensures.1
    (settle_stopped ops c.in_ok-taken.taken.taken old mid c.settle.new.self why some.0 c.in_err-settle.ensures.stopped c.in_err-settle.ensures.fault)

pub returns-in_ok-settle-clause-most : goal.returns-in_ok-settle-clause-most
returns-in_ok-settle-clause-most g c =
    let old = c.args.self.now in
    let site = old.home.site.now in
    let ops = c.args.ops.now in
    let first = c.requires.first.0 in
    let m = c.min-most.result in
    let mid : Node = record { home = old.home; pass = c.take_all.new.pass; parked = old.parked } in
    let below : c.heap-heap.result < heaps_of site = omega (arith, c.if-heap-self.false, c.requires.node.home.heaps) in
    (heard_batch old mid c.heap-heap.result m ops c.in_ok-taken.taken refl c.take_all.ensures.pass below c.in_ok-taken.ensures.called).1

pub returns-in_ok-settle-clause-heard : goal.returns-in_ok-settle-clause-heard
returns-in_ok-settle-clause-heard g c =
    let old = c.args.self.now in
    let site = old.home.site.now in
    let ops = c.args.ops.now in
    let first = c.requires.first.0 in
    let m = c.min-most.result in
    let mid : Node = record { home = old.home; pass = c.take_all.new.pass; parked = old.parked } in
    let below : c.heap-heap.result < heaps_of site = omega (arith, c.if-heap-self.false, c.requires.node.home.heaps) in
    let some = heard_batch old mid c.heap-heap.result m ops c.in_ok-taken.taken refl c.take_all.ensures.pass below c.in_ok-taken.ensures.called in
    heard_on ops (take c.in_ok-taken.taken.taken ops) old mid c.settle.new.self refl some.0 (worked_more [] ops mid c.settle.new.self (none_in ops) c.in_ok-settle.ensures.work)

pub returns-else-taken-gt0-clause-most : goal.returns-else-taken-gt0-clause-most
returns-else-taken-gt0-clause-most g c =
    let old = c.args.self.now in
    let site = old.home.site.now in
    let ops = c.args.ops.now in
    let first = c.requires.first.0 in
    let m = c.min-most.result in
    let mid : Node = record { home = old.home; pass = c.take_all.new.pass; parked = old.parked } in
    let below : c.heap-heap.result < heaps_of site = omega (arith, c.if-heap-self.false, c.requires.node.home.heaps) in
    (heard_batch old mid c.heap-heap.result m ops c.in_ok-taken.taken refl c.take_all.ensures.pass below c.in_ok-taken.ensures.called).1

pub returns-else-taken-gt0-clause-heard : goal.returns-else-taken-gt0-clause-heard
returns-else-taken-gt0-clause-heard g c =
    let old = c.args.self.now in
    let site = old.home.site.now in
    let ops = c.args.ops.now in
    let first = c.requires.first.0 in
    let m = c.min-most.result in
    let mid : Node = record { home = old.home; pass = c.take_all.new.pass; parked = old.parked } in
    let below : c.heap-heap.result < heaps_of site = omega (arith, c.if-heap-self.false, c.requires.node.home.heaps) in
    (heard_batch old mid c.heap-heap.result m ops c.in_ok-taken.taken refl c.take_all.ensures.pass below c.in_ok-taken.ensures.called).0

pub returns-in_ok-settle-clause-left : goal.returns-in_ok-settle-clause-left
returns-in_ok-settle-clause-left g c =
    let old = c.args.self.now in
    let ops = c.args.ops.now in
    let m = c.min-most.result in
    let mid : Node = record { home = old.home; pass = c.take_all.new.pass; parked = old.parked } in
    front_back ops c.take_all.new.ops m c.in_ok-taken.taken.taken (batch_within old mid c.heap-heap.result m ops c.in_ok-taken.taken c.in_ok-taken.ensures.called) c.take_all.auto.ops c.in_ok-taken.ensures.left

pub returns-else-taken-gt0-clause-left : goal.returns-else-taken-gt0-clause-left
returns-else-taken-gt0-clause-left g c =
    let old = c.args.self.now in
    let ops = c.args.ops.now in
    let m = c.min-most.result in
    let mid : Node = record { home = old.home; pass = c.take_all.new.pass; parked = old.parked } in
    front_back ops c.take_all.new.ops m c.in_ok-taken.taken.taken (batch_within old mid c.heap-heap.result m ops c.in_ok-taken.taken c.in_ok-taken.ensures.called) c.take_all.auto.ops c.in_ok-taken.ensures.left
