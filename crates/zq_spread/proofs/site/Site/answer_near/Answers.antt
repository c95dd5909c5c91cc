use Rattle.std.proofs.Common.{false, inl, inr, map, subst, sym, true, ◌≡◌}
use Rattle.zq_dots.specs.Rule.{rule_of}
use Rattle.zq_resp.specs.Reply.{reply_bytes}
use Rattle.zq_spread.proofs.Called.{near_after}
use Rattle.zq_spread.proofs.site.Site.answer_near.Goals as goal
use Rattle.zq_spread.specs.Dispatch.{HasNear}
use Rattle.zq_spread.specs.Worn.{IsStopOf}
use Rattle.zq_spread.specs.declared.locked_heap.LockedHeap.{LockedHeap}
use Rattle.zq_spread.specs.declared.lock_scan.Stop.TheVariants as stop

differ : false ≡ true → ⊥
differ e = cc

pub returns-in-Ok-clause-called : goal.returns-in-Ok-clause-called
returns-in-Ok-clause-called g c =
    let called = c.in-Ok.ensures.called in
    let call = called.0 in
    elim called.1 [
      | inl enough ↦ absurd (differ enough)
      | inr has ↦ inl (record {
        found = call.found;
        left = call.left;
        steps = call.steps;
        next = call.next;
        worked = call.worked;
        others = call.others;
        done = (call.done, subst (λ command. HasNear (rule_of c.args.self.now.rule) command (map (λ (x : LockedHeap). x.book) call.found)) (sym c.requires.near) has);
      })
    ]

pub returns-in-Err-Nothing-clause-called : goal.returns-in-Err-Nothing-clause-called
returns-in-Err-Nothing-clause-called g c =
    let why : IsStopOf c.args.pass.now.stamp false c.args.drawn.now c.args.key.now c.args.pass.now c.call_in.new.pass stop.Nothing = subst (IsStopOf c.args.pass.now.stamp false c.args.drawn.now c.args.key.now c.args.pass.now c.call_in.new.pass) c.in-Err-Nothing.field-0-is c.in-Err-Nothing.ensures.why in
    near_after c.args.self.now c.args.pass.now c.call_in.new.pass c.requires.pass c.in-Err-Nothing.ensures.pass c.in-Err-Nothing.ensures.stopped c.args.command.now c.args.key.now (reply_bytes c.answer_all.result)
    c.answer_all.new.pass c.args.drawn.now c.requires.near c.requires.drawn c.answer_all.ensures.pass why.1 c.answer_all.ensures.called

pub returns-in-Err-Worn-clause-called : goal.returns-in-Err-Worn-clause-called
returns-in-Err-Worn-clause-called g c = inr (inr (inl (inl (c.worn.ensures.bytes, (c.in-Err-Worn.ensures.stopped, subst (IsStopOf c.args.pass.now.stamp false c.args.drawn.now c.args.key.now c.args.pass.now c.call_in.new.pass) c.in-Err-Worn.field-0-is c.in-Err-Worn.ensures.why)))))
