use Rattle.std.proofs.Common.{None, Some, [], ap, arith, refl, subst, sym, ◌≡◌, ◌∙◌}
use Rattle.zq_node.proofs.Called.{IsTakeOf, early_shown, never_early, on_err, take_called, take_stopped}
use Rattle.zq_node.proofs.Changed.{parked_before}
use Rattle.zq_node.proofs.Works.{further, idle, let_go, saw}
use Rattle.std.specs.Prelude.{IsSome}
use Rattle.zq_node.proofs.node.Node.try_next.Goals as goal
use Rattle.zq_node.specs.Parked.{IsUpdated, Place, parked_at, place_of}
use Rattle.zq_node.specs.Work.{WasStopped}

pub returns-in_err-vector-clause-stopped : goal.returns-in_err-vector-clause-stopped
returns-in_err-vector-clause-stopped g c =
    let node = c.args.self.now in
    let stopped : WasStopped [] node (record { home = node.home; pass = c.vector.new.pass; parked = node.parked }) =
    (node.pass, idle node.home.site.now [] node.parked.entries node.pass, c.in_err-vector.ensures.refused.0.steps) in
    on_err _ _ stopped

pub returns-in_default-clause-work : goal.returns-in_default-clause-work
returns-in_default-clause-work g c =
    saw c.args.self.now.home.site.now [] c.args.self.now.parked.entries c.args.self.now.pass c.vector.new.pass c.args.heap c.in_ok-vector.vector c.in_ok-vector.ensures.called

pub returns-in_default-clause-wait : goal.returns-in_default-clause-wait
returns-in_default-clause-wait g c =
    λ _ o here heap. early_shown c.args.self.now.pass c.vector.new.pass c.args.heap c.in_ok-vector.vector o c.in_ok-vector.ensures.called heap (c.in_default.ensures.none o here heap)

pub returns-in_err-take-clause-stopped : goal.returns-in_err-take-clause-stopped
returns-in_err-take-clause-stopped g c =
    let node = c.args.self.now in
    let site = node.home.site.now in
    let op = c.in-Some.op.now in
    let said : IsTakeOf site c.vector.new.pass c.take.new.pass op c.take.result = record { wrong_heap = c.take.ensures.wrong_heap; unlocked = c.take.ensures.unlocked; called = c.take.ensures.called } in
    let work = saw site [] node.parked.entries node.pass c.vector.new.pass c.args.heap c.in_ok-vector.vector c.in_ok-vector.ensures.called in
    let stopped : WasStopped [] node (record { home = node.home; pass = c.take.new.pass; parked = node.parked }) =
    (c.vector.new.pass, work, take_stopped site c.vector.new.pass c.take.new.pass op c.take.result _ c.in_err-take.was said) in
    on_err _ _ stopped

pub returns-clause-node : goal.returns-clause-node
returns-clause-node g c =
    let node = c.requires.node in
    record {
      home = node.home;
      pass = c.take.ensures.pass;
      parked = λ o here. node.parked o (parked_before c.args.self.now.parked.entries c.leave.new.self.entries (c.args.heap, c.dot-dot.result.site, c.dot-dot.result.n) o c.leave.ensures.left here);
    }

pub returns-clause-work : goal.returns-clause-work
returns-clause-work g c =
    let node = c.args.self.now in
    let site = node.home.site.now in
    let op = c.in-Some.op.now in
    let said : IsTakeOf site c.vector.new.pass c.take.new.pass op c.take.result = record { wrong_heap = c.take.ensures.wrong_heap; unlocked = c.take.ensures.unlocked; called = c.take.ensures.called } in
    let look = saw site [] node.parked.entries node.pass c.vector.new.pass c.args.heap c.in_ok-vector.vector c.in_ok-vector.ensures.called in
    let call = take_called site c.vector.new.pass c.take.new.pass op c.take.result c.in_ok-take.field-0 c.in_ok-take.was said in
    let place : Place = (c.args.heap, c.dot-dot.result.site, c.dot-dot.result.n) in
    let same : place ≡ place_of op = λ i. (sym c.in-Some.ensures.ready.1 i, c.dot-dot.ensures.site i, c.dot-dot.ensures.n i) in
    let gone : IsUpdated node.parked.entries c.leave.new.self.entries (place_of op) None = subst (λ p. IsUpdated node.parked.entries c.leave.new.self.entries p None) same c.leave.ensures.left in
    let late = never_early site node.pass c.vector.new.pass c.take.new.pass c.args.heap c.in_ok-vector.vector op c.in_ok-take.field-0 c.in_ok-vector.ensures.called c.in-Some.ensures.ready.1 c.in-Some.ensures.ready.2 call in
    let went = let_go site [] node.parked.entries c.leave.new.self.entries c.vector.new.pass c.take.new.pass op c.in_ok-take.field-0 c.in-Some.ensures.ready.0 late gone call in
    further site [] node.parked.entries node.parked.entries c.leave.new.self.entries node.pass c.vector.new.pass c.take.new.pass look went

pub returns-clause-fewer : goal.returns-clause-fewer
returns-clause-fewer g c = λ _.
    let parked = c.args.self.now.parked.entries in
    let op = c.in-Some.op.now in
    let place : Place = (c.args.heap, c.dot-dot.result.site, c.dot-dot.result.n) in
    let same : place ≡ place_of op = λ i. (sym c.in-Some.ensures.ready.1 i, c.dot-dot.ensures.site i, c.dot-dot.ensures.n i) in
    let there : parked_at parked place ≡ Some op = ap (parked_at parked) same ∙ c.in-Some.ensures.ready.0 in
    let here : IsSome (parked_at parked place) = subst IsSome (sym there) refl in
    let one = c.leave.ensures.fewer here in
    omega arith
