use Rattle.std.proofs.Common.{ap, subst, sym, ◌≡◌, ◌⊎◌}
use Rattle.std.specs.Prelude.{List}
use Rattle.zq_dots.specs.Placed.{Placed}
use Rattle.zq_model.specs.Sets.{IsIn}
use Rattle.zq_node.proofs.Told.{if_err, if_err_all, if_err_map}
use Rattle.zq_node.proofs.node.Node.hear.Goals as goal
use Rattle.zq_node.specs.Faults.{IsOwnFault}
use Rattle.zq_node.specs.Hearing.{AreOpsHeard, AreOpsStopped, HasHeard, HasSiteRule, HasStopped, IsFaultOf, IsForSite, IsOfOneHeap, StopsAt, sent_of}
use Rattle.zq_shard.proofs.Outcomes.{if_ok_map, ok_map}
use Rattle.zq_spread.specs.Calls.{IsOfSite}
use Rattle.zq_spread.specs.declared.site.Site.{Site}

abbrev AreOfSite : Site → List Placed → Type 0
AreOfSite site ops = (o : Placed) → IsIn o ops → IsOfSite site o

pub returns-in-Have-clause-heard : goal.returns-in-Have-clause-heard
returns-in-Have-clause-heard g c =
    let old = c.args.self.now in
    let new = c.hear_have.new.self in
    if_ok_map c.hear_have.result c.hear_have.ensures.answered (λ sent answered. subst (λ f. HasHeard f old new (sent_of sent.items)) (sym c.in-Have.is) (c.hear_have.ensures.parked, answered))

pub returns-in-Have-clause-right : goal.returns-in-Have-clause-right
returns-in-Have-clause-right g c =
    let site = c.args.self.now.home.site.now in
    ok_map c.hear_have.result c.hear_have.ensures.right (λ right. subst (λ f. IsForSite site f × HasSiteRule site f) (sym c.in-Have.is) right)

pub returns-in-Have-clause-stopped : goal.returns-in-Have-clause-stopped
returns-in-Have-clause-stopped g c =
    let old = c.args.self.now in
    let new = c.hear_have.new.self in
    if_err_all c.hear_have.result (λ why. subst (λ f. HasStopped f old new why) (sym c.in-Have.is) (c.hear_have.ensures.parked, c.hear_have.ensures.no_step))

pub returns-in-Have-clause-fault : goal.returns-in-Have-clause-fault
returns-in-Have-clause-fault g c =
    let site = c.args.self.now.home.site.now in
    if_err_map c.hear_have.result c.hear_have.ensures.fault (λ why is. subst (λ f. IsFaultOf site f why) (sym c.in-Have.is) is)

pub returns-in-Have-clause-unheard : goal.returns-in-Have-clause-unheard
returns-in-Have-clause-unheard g c = if_err_map c.hear_have.result c.hear_have.ensures.unheard (λ why own one. own)

pub returns-in_err-take_all-in-Ops-clause-stopped : goal.returns-in_err-take_all-in-Ops-clause-stopped
returns-in_err-take_all-in-Ops-clause-stopped g c =
    let old = c.args.self.now in
    let new = c.take_all.new.self in
    let why = c.in_err-take_all-in-Ops.field-0.0 in
    let stopped : AreOpsStopped c.in-Ops.ops.items old new why = subst (λ l. AreOpsStopped l old new why) c.deref.ensures.value c.in_err-take_all-in-Ops.ensures.stopped in
    if_err (HasStopped c.args.frame.now old new) c.from_residual.result why c.from_residual.ensures.1 (subst (λ f. HasStopped f old new why) (sym c.in-Ops.is) stopped)

pub returns-in_err-take_all-in-Ops-clause-fault : goal.returns-in_err-take_all-in-Ops-clause-fault
returns-in_err-take_all-in-Ops-clause-fault g c =
    let site = c.args.self.now.home.site.now in
    let why = c.in_err-take_all-in-Ops.field-0.0 in
    let place : StopsAt site c.in-Ops.ops.items why = subst (λ l. StopsAt site l why) c.deref.ensures.value c.in_err-take_all-in-Ops.ensures.stopped.place in
    if_err (IsFaultOf site c.args.frame.now) c.from_residual.result why c.from_residual.ensures.1 (subst (λ f. IsFaultOf site f why) (sym c.in-Ops.is) place)

pub returns-in_err-take_all-in-Ops-clause-unheard : goal.returns-in_err-take_all-in-Ops-clause-unheard
returns-in_err-take_all-in-Ops-clause-unheard g c =
    if_err (λ f. IsOfOneHeap c.args.frame.now → IsOwnFault f ⊎ (c.take_all.new.self ≡ c.args.self.now)) c.from_residual.result c.in_err-take_all-in-Ops.field-0.0 c.from_residual.ensures.1
    (λ one. absurd (subst IsOfOneHeap c.in-Ops.is one))

pub returns-in_err-hear_state-in-State-clause-stopped : goal.returns-in_err-hear_state-in-State-clause-stopped
returns-in_err-hear_state-in-State-clause-stopped g c =
    let old = c.args.self.now in
    let new = c.hear_state.new.self in
    let why = c.in_err-hear_state-in-State.field-0.0 in
    if_err (HasStopped c.args.frame.now old new) c.from_residual-in_err-hear_state-in-State.result why c.from_residual-in_err-hear_state-in-State.ensures.1 (subst (λ f. HasStopped f old new why) (sym c.in-State.is) c.in_err-hear_state-in-State.ensures.stopped)

pub returns-in_err-hear_state-in-State-clause-fault : goal.returns-in_err-hear_state-in-State-clause-fault
returns-in_err-hear_state-in-State-clause-fault g c =
    let site = c.args.self.now.home.site.now in
    let fault = c.in_err-hear_state-in-State.field-0.0 in
    if_err (IsFaultOf site c.args.frame.now) c.from_residual-in_err-hear_state-in-State.result fault c.from_residual-in_err-hear_state-in-State.ensures.1 (subst (λ f. IsFaultOf site f fault) (sym c.in-State.is) c.in_err-hear_state-in-State.ensures.fault)

pub returns-in_err-hear_state-in-State-clause-unheard : goal.returns-in_err-hear_state-in-State-clause-unheard
returns-in_err-hear_state-in-State-clause-unheard g c =
    if_err (λ f. IsOfOneHeap c.args.frame.now → IsOwnFault f ⊎ (c.hear_state.new.self ≡ c.args.self.now)) c.from_residual-in_err-hear_state-in-State.result c.in_err-hear_state-in-State.field-0.0 c.from_residual-in_err-hear_state-in-State.ensures.1
    (λ one. c.in_err-hear_state-in-State.ensures.unheard)

pub returns-in_ok-take_all-in-Ops-clause-heard : goal.returns-in_ok-take_all-in-Ops-clause-heard
returns-in_ok-take_all-in-Ops-clause-heard g c =
    subst (λ f. HasHeard f c.args.self.now c.take_all.new.self (sent_of c.new.result.items)) (sym c.in-Ops.is) (ap sent_of c.new.ensures.items, subst (λ l. AreOpsHeard l c.args.self.now c.take_all.new.self) c.deref.ensures.value c.in_ok-take_all-in-Ops.ensures.heard)

pub returns-in_ok-take_all-in-Ops-clause-right : goal.returns-in_ok-take_all-in-Ops-clause-right
returns-in_ok-take_all-in-Ops-clause-right g c =
    let site = c.args.self.now.home.site.now in
    subst (λ f. IsForSite site f × HasSiteRule site f) (sym c.in-Ops.is) (subst (AreOfSite site) c.deref.ensures.value c.in_ok-take_all-in-Ops.ensures.for_site, tt)
