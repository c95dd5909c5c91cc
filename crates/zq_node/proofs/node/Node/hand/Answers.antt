use Rattle.std.proofs.Common.{ap, arith}
use Rattle.zq_model.proofs.MeantQueues.{heap_in_range}
use Rattle.zq_node.proofs.Called.{IsTakeOf, short_take, stop_take, take_called, take_stopped, unheard_take, worn_take}
use Rattle.zq_node.proofs.node.Node.hand.Goals as goal
use Rattle.zq_node.specs.declared.node.Node.{Node}
use Rattle.zq_spread.specs.declared.pass.Pass.{Pass}

pub returns-in-Ok-clause-called : goal.returns-in-Ok-clause-called
returns-in-Ok-clause-called g c =
    let site = c.args.self.now.home.site.now in
    let said : IsTakeOf site c.args.self.now.pass c.take.new.pass c.args.op.now c.take.result = record { wrong_heap = c.take.ensures.wrong_heap; unlocked = c.take.ensures.unlocked; called = c.take.ensures.called } in
    take_called site c.args.self.now.pass c.take.new.pass c.args.op.now c.take.result c.in-Ok.taken c.in-Ok.is said

pub returns-in-Ok-clause-within : goal.returns-in-Ok-clause-within
returns-in-Ok-clause-within g c =
    let site = c.args.self.now.home.site.now in
    let said : IsTakeOf site c.args.self.now.pass c.take.new.pass c.args.op.now c.take.result = record { wrong_heap = c.take.ensures.wrong_heap; unlocked = c.take.ensures.unlocked; called = c.take.ensures.called } in
    let of = (take_called site c.args.self.now.pass c.take.new.pass c.args.op.now c.take.result c.in-Ok.taken c.in-Ok.is said).0 in
    let op = c.args.op.now in
    let below = heap_in_range op.operation.key op.operation.member op.heaps (omega (arith, of.heaps, site.some)) in
    omega (arith, below, of.placed, of.heaps)

pub returns-in-Err-clause-stopped : goal.returns-in-Err-clause-stopped
returns-in-Err-clause-stopped g c =
    let site = c.args.self.now.home.site.now in
    let said : IsTakeOf site c.args.self.now.pass c.take.new.pass c.args.op.now c.take.result = record { wrong_heap = c.take.ensures.wrong_heap; unlocked = c.take.ensures.unlocked; called = c.take.ensures.called } in
    take_stopped site c.args.self.now.pass c.take.new.pass c.args.op.now c.take.result c.in-Err.fault c.in-Err.is said

pub returns-in-Err-clause-stop : goal.returns-in-Err-clause-stop
returns-in-Err-clause-stop g c =
    let site = c.args.self.now.home.site.now in
    let said : IsTakeOf site c.args.self.now.pass c.take.new.pass c.args.op.now c.take.result = record { wrong_heap = c.take.ensures.wrong_heap; unlocked = c.take.ensures.unlocked; called = c.take.ensures.called } in
    stop_take site c.args.self.now.pass c.take.new.pass c.args.op.now c.take.result c.in-Err.fault c.from.result c.in-Err.is c.from.ensures said

pub returns-in-Err-clause-unheard : goal.returns-in-Err-clause-unheard
returns-in-Err-clause-unheard g c = λ wrong.
    let node = c.args.self.now in
    let site = node.home.site.now in
    let said : IsTakeOf site node.pass c.take.new.pass c.args.op.now c.take.result = record { wrong_heap = c.take.ensures.wrong_heap; unlocked = c.take.ensures.unlocked; called = c.take.ensures.called } in
    let same = unheard_take site node.pass c.take.new.pass c.args.op.now c.take.result c.in-Err.fault c.from.result c.in-Err.is c.from.ensures said (cc) in
    ap (λ (p : Pass). let n : Node = record { home = node.home; pass = p; parked = node.parked } in n) same

pub returns-in-Err-clause-short : goal.returns-in-Err-clause-short
returns-in-Err-clause-short g c = λ none.
    let site = c.args.self.now.home.site.now in
    let said : IsTakeOf site c.args.self.now.pass c.take.new.pass c.args.op.now c.take.result = record { wrong_heap = c.take.ensures.wrong_heap; unlocked = c.take.ensures.unlocked; called = c.take.ensures.called } in
    short_take site c.args.self.now.pass c.take.new.pass c.args.op.now c.take.result c.in-Err.fault c.from.result c.in-Err.is c.from.ensures said (cc)

pub returns-in-Err-clause-worn : goal.returns-in-Err-clause-worn
returns-in-Err-clause-worn g c = λ last.
    let site = c.args.self.now.home.site.now in
    let said : IsTakeOf site c.args.self.now.pass c.take.new.pass c.args.op.now c.take.result = record { wrong_heap = c.take.ensures.wrong_heap; unlocked = c.take.ensures.unlocked; called = c.take.ensures.called } in
    worn_take site c.args.self.now.pass c.take.new.pass c.args.op.now c.take.result c.in-Err.fault c.from.result c.in-Err.is c.from.ensures said (cc)
