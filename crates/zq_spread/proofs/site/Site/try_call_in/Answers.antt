use Rattle.std.proofs.Common.{inl, inr, map, subst, sym}
use Rattle.zq_dots.specs.Rule.{rule_of}
use Rattle.zq_spread.proofs.Called.{pass_back, queued_found, stopped_back}
use Rattle.zq_spread.proofs.Worked.{begun_books}
use Rattle.zq_spread.proofs.site.Site.try_call_in.Goals as goal
use Rattle.zq_spread.specs.Dispatch.{HasQueued}
use Rattle.zq_spread.specs.Several.{books_of, helds_of}
use Rattle.zq_spread.specs.declared.locked_heap.LockedHeap.{LockedHeap}

pub work_all-requires-clause-homes : goal.work_all-requires-clause-homes
work_all-requires-clause-homes c =
    let begun = c.in-Ok.ensures.begun in
    let helds = helds_of c.try_begin_all.new.holds in
    c.requires.homes (books_of helds) (begun_books c.args.self.now c.requires.pass.slots c.args.pass.now c.in-Ok.stamp c.args.heaps.now helds begun.found begun.each)

pub returns-in-Ok-clause-called : goal.returns-in-Ok-clause-called
returns-in-Ok-clause-called c =
    let begun = c.in-Ok.ensures.begun in
    let helds = helds_of c.try_begin_all.new.holds in
    let over = c.work_all.ensures.called c.args.pass.now begun.found begun.each c.in-Ok.ensures.outside begun.next in (
      over.0,
      elim begun.enough [
        | inl enough ↦ inl enough
        | inr has ↦ inr (subst (λ found. HasQueued (rule_of c.args.self.now.rule) c.args.key.now (map (λ (x : LockedHeap). x.book) found)) (sym over.1)
            (queued_found c.args.self.now c.requires.pass.slots c.args.pass.now c.in-Ok.stamp c.args.heaps.now c.args.key.now helds begun.found begun.each has))
      ],
      over.2,
    )

pub returns-in-Err-clause-pass : goal.returns-in-Err-clause-pass
returns-in-Err-clause-pass c = pass_back c.args.self.now c.args.heaps.now c.args.pass.now c.try_begin_all.new.pass c.requires.pass c.in-Err.ensures.back

pub returns-in-Err-clause-stopped : goal.returns-in-Err-clause-stopped
returns-in-Err-clause-stopped c = stopped_back c.args.self.now c.args.heaps.now c.args.pass.now c.try_begin_all.new.pass c.in-Err.ensures.back
