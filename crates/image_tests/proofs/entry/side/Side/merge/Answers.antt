use Rattle.std.proofs.Common.{max, slice_index, subst, sym}
use Rattle.zq_model.proofs.Sites.{length-by_site}
use Rattle.zq_model.specs.Image.{Entry, join_vector}
use Rattle.zq_entry.specs.Within.{IsEntryWithin}
use Rattle.zq_entry.proofs.Callers.{within-merge}
use Rattle.image_tests.proofs.entry.side.Side.merge.Goals as goal

pub invariant_of-result : goal.invariant_of-result
invariant_of-result c =
    let u = c.self.inside.seen in
    let v = c.other.inside.seen in
    let within = within-merge u v c.self.inside.entry c.other.inside.entry c.self.invariant.0 c.other.invariant.0 c.self.invariant.1 c.other.invariant.1 in
    rw c.join_with.ensures (length-by_site (λ t. max (slice_index u t) (slice_index v t)), subst (λ (x : Entry). IsEntryWithin (join_vector u v) x) (sym c.in-Ok.ensures) within)
