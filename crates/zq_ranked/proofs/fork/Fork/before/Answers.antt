use Rattle.std.proofs.Common.{arith, ap, length, subst, sym, take, ◌+◌}
use Rattle.std.specs.List.{AllByRecursion}
use Rattle.zq_ranked.proofs.All.{all_take}
use Rattle.zq_ranked.proofs.Joined.{counted_more, length_joined_take}
use Rattle.zq_ranked.specs.Shape.{IsChild, joined}
use Rattle.zq_ranked.proofs.fork.Fork.before.Goals as goal

pub overflow_add-count : goal.overflow_add-count
overflow_add-count c =
    let all = c.deref.result.now in
    let xs = take c.args.place all in
    let each : AllByRecursion (IsChild c.args.self.now.level) xs = all_take _ all c.args.place (subst (λ l. AllByRecursion (IsChild c.args.self.now.level) l) (sym c.deref.ensures.value) c.requires.fork.each) in
    let more = counted_more xs c.loop-child.child-index c.child-item.result c.loop-child-test.true c.child-item.is c.args.self.now.level c.loop-child.count each c.loop-child.invariant in
    omega (arith, more, length_joined_take xs (c.loop-child.child-index + 1), length_joined_take all c.args.place, ap (λ l. length (joined l)) c.deref.ensures.value, c.requires.fits)

pub loop-child-preserved : goal.loop-child-preserved
loop-child-preserved c =
    let all = c.deref.result.now in
    let xs = take c.args.place all in
    let each : AllByRecursion (IsChild c.args.self.now.level) xs = all_take _ all c.args.place (subst (λ l. AllByRecursion (IsChild c.args.self.now.level) l) (sym c.deref.ensures.value) c.requires.fork.each) in
    counted_more xs c.loop-child.child-index c.child-item.result c.loop-child-test.true c.child-item.is c.args.self.now.level c.loop-child.count each c.loop-child.invariant
