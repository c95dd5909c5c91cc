use Rattle.std.proofs.Common.{[], Err, Some, ap, length, refl, subst, sym, ◌<◌, ◌∷◌, ◌≡◌, ◌∙◌}
use Rattle.zq_node.proofs.Called.{on_err}
use Rattle.zq_node.proofs.Nodes.{handed_work, home_most, keeping, none_in, only_stopped, own_heap, own_stop, put_node, same_err, stopped_more, then_stopped}
use Rattle.zq_node.proofs.Told.{if_err}
use Rattle.zq_node.proofs.node.Node.take.Goals as goal
use Rattle.zq_node.specs.Calls.{IsCalled, Took}
use Rattle.zq_node.specs.Hearing.{IsStopOf}
use Rattle.zq_node.specs.Node.{most_of, parked_of}
use Rattle.zq_node.specs.Parked.{Entries, HasPlaceOf, Parking}
use Rattle.zq_node.specs.Work.{WaitIn, WasStopped, copying, handing, settling, taking, trying}
use Rattle.zq_node.specs.declared.faults.NodeFault.TheVariants.{NoMemory, Worn, WrongHeap}
use Rattle.zq_node.specs.declared.node.Node.{Node}
use Rattle.zq_shard.specs.declared.taken.Taken.TheVariants.{Early, Known, New}

pub returns-in_err-taken-clause-stopped : goal.returns-in_err-taken-clause-stopped
returns-in_err-taken-clause-stopped g c = on_err _ _ (only_stopped (c.args.op.now ∷ []) c.args.self.now c.hand.new.self c.hand.ensures.parked c.in_err-taken.ensures.stopped)

pub returns-in_err-taken-clause-short : goal.returns-in_err-taken-clause-short
returns-in_err-taken-clause-short g c = λ none.
    taking (c.in_err-taken.ensures.short (ap (λ f. Err f) (same_err c.from_residual.result c.in_err-taken.field-0.0 NoMemory c.from_residual.ensures.1 none)))

pub returns-in_err-taken-clause-worn : goal.returns-in_err-taken-clause-worn
returns-in_err-taken-clause-worn g c = λ last.
    handing (c.in_err-taken.ensures.worn (ap (λ f. Err f) (same_err c.from_residual.result c.in_err-taken.field-0.0 Worn c.from_residual.ensures.1 last)))

pub returns-in_ok-settle-in-New-clause-turn : goal.returns-in_ok-settle-in-New-clause-turn
returns-in_ok-settle-in-New-clause-turn g c =
    let old = c.args.self.now in
    let asked = c.hand.new.self in
    let called = subst (λ t. IsCalled old.home.site.now old.pass asked.pass (Took c.args.op.now t)) c.in-New.is c.in_ok-taken.ensures.called in
    record {
      answer = New;
      asked = asked;
      called = called;
      parked = c.hand.ensures.parked;
      home = c.hand.ensures.home;
      does = (c.in_ok-settle-in-New.ensures.work, subst (WaitIn c.settle.new.self) c.heap.ensures.same c.in_ok-settle-in-New.ensures.wait, c.in_ok-settle-in-New.ensures.fewer);
      stays = c.in_ok-settle-in-New.ensures.home ∙ c.hand.ensures.home;
    }

pub returns-in_err-settle-in-New-clause-stopped : goal.returns-in_err-settle-in-New-clause-stopped
returns-in_err-settle-in-New-clause-stopped g c =
    let ops = c.args.op.now ∷ [] in
    let handed = handed_work c.args.self.now c.hand.new.self c.args.op.now c.in_ok-taken.taken c.hand.ensures.parked c.in_ok-taken.ensures.called in
    on_err _ _ (then_stopped ops c.args.self.now c.hand.new.self c.settle.new.self c.hand.ensures.home handed (stopped_more [] ops c.hand.new.self c.settle.new.self (none_in ops) c.in_err-settle-in-New.ensures.stopped))

pub returns-in_err-settle-in-New-clause-stop : goal.returns-in_err-settle-in-New-clause-stop
returns-in_err-settle-in-New-clause-stop g c =
    let site = c.args.self.now.home.site.now in
    let why = c.in_err-settle-in-New.field-0.0 in
    if_err (IsStopOf site (Some c.args.op.now)) c.from_residual-in_err-settle-in-New.result why c.from_residual-in_err-settle-in-New.ensures.1
    (own_stop site c.args.op.now why c.in_err-settle-in-New.ensures.fault c.in_ok-taken.ensures.called.0)

pub returns-in_err-settle-in-New-clause-unheard : goal.returns-in_err-settle-in-New-clause-unheard
returns-in_err-settle-in-New-clause-unheard g c = λ wrong.
    let why = c.in_err-settle-in-New.field-0.0 in
    absurd (own_heap why c.in_err-settle-in-New.ensures.fault (same_err c.from_residual-in_err-settle-in-New.result why WrongHeap c.from_residual-in_err-settle-in-New.ensures.1 wrong))

pub returns-in_err-settle-in-New-clause-short : goal.returns-in_err-settle-in-New-clause-short
returns-in_err-settle-in-New-clause-short g c = λ _.
    let old = c.args.self.now in
    let asked = c.hand.new.self in
    settling asked.pass (subst (λ t. IsCalled old.home.site.now old.pass asked.pass (Took c.args.op.now t)) c.in-New.is c.in_ok-taken.ensures.called)

pub returns-in_err-settle-in-New-clause-worn : goal.returns-in_err-settle-in-New-clause-worn
returns-in_err-settle-in-New-clause-worn g c = λ _.
    let old = c.args.self.now in
    let asked = c.hand.new.self in
    trying asked.pass (subst (λ t. IsCalled old.home.site.now old.pass asked.pass (Took c.args.op.now t)) c.in-New.is c.in_ok-taken.ensures.called)

pub returns-in-Known-clause-turn : goal.returns-in-Known-clause-turn
returns-in-Known-clause-turn g c =
    let old = c.args.self.now in
    let asked = c.hand.new.self in
    record {
      answer = Known;
      asked = asked;
      called = subst (λ t. IsCalled old.home.site.now old.pass asked.pass (Took c.args.op.now t)) c.in-Known.is c.in_ok-taken.ensures.called;
      parked = c.hand.ensures.parked;
      home = c.hand.ensures.home;
      does = refl;
      stays = c.hand.ensures.home;
    }

-- where there is no memory for a copy the node is as it was handed the operation
unkept : (mid : Node) (parked : Parking) → parked ≡ mid.parked → keeping mid parked ≡ mid
unkept mid parked same = ap (keeping mid) same

pub returns-in_err-keep-in-Early-clause-stopped : goal.returns-in_err-keep-in-Early-clause-stopped
returns-in_err-keep-in-Early-clause-stopped g c =
    let ops = c.args.op.now ∷ [] in
    let old = c.args.self.now in
    let mid = c.hand.new.self in
    let stopped : WasStopped ops old mid = (mid.pass, handed_work old mid c.args.op.now c.in_ok-taken.taken c.hand.ensures.parked c.in_ok-taken.ensures.called, λ h. refl) in
    on_err _ _ (subst (WasStopped ops old) (sym (unkept mid c.keep.new.parked c.in_err-keep-in-Early.ensures.refused)) stopped)

pub returns-in_err-keep-in-Early-clause-stop : goal.returns-in_err-keep-in-Early-clause-stop
returns-in_err-keep-in-Early-clause-stop g c =
    let site = c.args.self.now.home.site.now in
    if_err (IsStopOf site (Some c.args.op.now)) c.from_residual-in_err-keep-in-Early.result NoMemory c.from_residual-in_err-keep-in-Early.ensures.1 c.in_ok-taken.ensures.called.0

pub returns-in_err-keep-in-Early-clause-unheard : goal.returns-in_err-keep-in-Early-clause-unheard
returns-in_err-keep-in-Early-clause-unheard g c = λ wrong.
    let same = same_err c.from_residual-in_err-keep-in-Early.result NoMemory WrongHeap c.from_residual-in_err-keep-in-Early.ensures.1 wrong in
    absurd (cc)

pub returns-in_err-keep-in-Early-clause-short : goal.returns-in_err-keep-in-Early-clause-short
returns-in_err-keep-in-Early-clause-short g c = λ _.
    let old = c.args.self.now in
    let asked = c.hand.new.self in
    let parked : parked_of asked ≡ parked_of old = c.hand.ensures.parked in
    let absent : HasPlaceOf (parked_of old) c.args.op.now → ⊥ = subst (λ (e : Entries). HasPlaceOf e c.args.op.now → ⊥) parked c.in_err-keep-in-Early.ensures.absent in
    let here : length (parked_of old) < most_of asked = subst (λ (e : Entries). length e < most_of asked) parked c.in_err-keep-in-Early.ensures.room in
    let room : length (parked_of old) < most_of old = subst (λ most. length (parked_of old) < most) (home_most old asked c.hand.ensures.home) here in
    copying asked.pass (subst (λ t. IsCalled old.home.site.now old.pass asked.pass (Took c.args.op.now t)) c.in-Early.is c.in_ok-taken.ensures.called) absent room

pub returns-in_err-keep-in-Early-clause-worn : goal.returns-in_err-keep-in-Early-clause-worn
returns-in_err-keep-in-Early-clause-worn g c = λ last.
    let same = same_err c.from_residual-in_err-keep-in-Early.result NoMemory Worn c.from_residual-in_err-keep-in-Early.ensures.1 last in
    absurd (cc)

pub returns-in_ok-keep-in-Early-clause-node : goal.returns-in_ok-keep-in-Early-clause-node
returns-in_ok-keep-in-Early-clause-node g c =
    put_node c.args.self.now c.hand.new.self c.keep.new.parked c.args.op.now c.hand.ensures.node c.hand.ensures.home c.in_ok-taken.ensures.called.0 c.in_ok-taken.ensures.within c.in_ok-keep-in-Early.ensures.put

pub returns-in_ok-keep-in-Early-clause-turn : goal.returns-in_ok-keep-in-Early-clause-turn
returns-in_ok-keep-in-Early-clause-turn g c =
    let old = c.args.self.now in
    let asked = c.hand.new.self in
    record {
      answer = Early;
      asked = asked;
      called = subst (λ t. IsCalled old.home.site.now old.pass asked.pass (Took c.args.op.now t)) c.in-Early.is c.in_ok-taken.ensures.called;
      parked = c.hand.ensures.parked;
      home = c.hand.ensures.home;
      does = (refl, c.in_ok-keep-in-Early.ensures.put);
      stays = ap (λ most. (asked.home, most)) c.in_ok-keep-in-Early.ensures.most ∙ c.hand.ensures.home;
    }
