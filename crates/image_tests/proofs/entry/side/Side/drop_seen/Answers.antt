use Rattle.std.proofs.Common.{arith, slice_index, slice_set, subst, sym, ◌<◌, ◌∙◌}
use Rattle.std.proofs.Math.ListN.{length-set}
use Rattle.zq_model.specs.Image.{Entry, entry_after}
use Rattle.zq_model.specs.Operation.{Drop}
use Rattle.zq_entry.specs.Within.{IsEntryWithin}
use Rattle.zq_entry.proofs.Callers.{set-grows, within-drop, within-grows}
use Rattle.image_tests.proofs.entry.side.Side.drop_seen.Goals as goal

pub invariant_of-self : goal.invariant_of-self
invariant_of-self c =
    let v = c.self.inside.seen in
    let e = c.self.inside.entry in
    let s = c.args.site in
    let n = c.in_ok-dot.dot.n in
    let dot = c.in_ok-dot.ensures.dot in
    let less : slice_index v s < n = omega (arith, dot.1) in
    let within = within-grows v (slice_set v s n) (entry_after Drop 0 0 v e) (λ r. set-grows v s n r less) (within-drop v v 0 0 e c.self.invariant.1) in
    rw c.set.ensures (length-set v s n ∙ c.self.invariant.0, subst (λ (x : Entry). IsEntryWithin (slice_set v s n) x) (sym (c.drop_seen.ensures 0 0)) within)
