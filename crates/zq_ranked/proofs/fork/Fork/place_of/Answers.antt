use Rattle.std.proofs.Common.{[], arith, pos, ◌+◌, ◌-◌, ◌/◌, ◌<◌, length}
use Rattle.zq_ranked.proofs.Joined.{after_child, before_child, child_at}
use Rattle.zq_ranked.specs.Key.{pair_of_key}
use Rattle.zq_ranked.proofs.fork.Fork.place_of.Goals as goal

pub loop-low-preserved-then-is_from : goal.loop-low-preserved-then-is_from
loop-low-preserved-then-is_from c =
    let xs = c.args.self.now.children.items in
    let i = c.loop-low.low + (c.loop-low.high - c.loop-low.low) / 2 in
    let k = c.index.result.now in
    let m = c.loop-low.invariant in
    let h : i < length xs = grind arith in
    let child = child_at xs i k h c.index.ensures c.args.self.now.level c.requires.fork.each in
    (grind arith, m.1, before_child xs i k h c.index.ensures (pair_of_key c.args.key.now) (pos 0, []) child.filled c.requires.sorted (c.is_from.ensures.from c.if-is_from.true (pos 0, [])), m.3)

pub loop-low-preserved : goal.loop-low-preserved
loop-low-preserved c =
    let xs = c.args.self.now.children.items in
    let i = c.loop-low.low + (c.loop-low.high - c.loop-low.low) / 2 in
    let k = c.index.result.now in
    let m = c.loop-low.invariant in
    let h : i < length xs = grind arith in
    let child = child_at xs i k h c.index.ensures c.args.self.now.level c.requires.fork.each in
    (grind arith, grind arith, m.2, after_child xs i k h c.index.ensures (pair_of_key c.args.key.now) (pos 0, []) child.filled c.requires.sorted (c.is_from.ensures.after c.if-is_from.false (pos 0, [])))
