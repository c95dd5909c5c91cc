use Rattle.std.proofs.Common.{ap, arith, rules, slice_index, slice_set, subst, sym, ◌<◌, ◌∙◌, ◌≡◌}
use Rattle.std.proofs.Math.ListN.{length-set}
use Rattle.zq_model.specs.Image.{Entry, entry_after}
use Rattle.zq_model.specs.Operation.{Put}
use Rattle.zq_model.specs.Sets.{SITES}
use Rattle.zq_entry.specs.Within.{IsEntryWithin}
use Rattle.zq_entry.proofs.Callers.{within-put}
use Rattle.image_tests.proofs.entry.side.Side.put.Goals as goal

pub invariant_of-self-2 : goal.invariant_of-self-2
invariant_of-self-2 c =
    let v = c.self.inside.seen in
    let e = c.self.inside.entry in
    let s = c.args.site in
    let n = c.in_ok-dot.dot.n in
    let dot = c.in_ok-dot.ensures.dot in
    let below : s < SITES = search rules in
    let less : slice_index v s < n = omega (arith, dot.1) in
    let entry : c.put.new.self ≡ entry_after (Put c.args.score) s n v e = c.in-Ok.ensures.put ∙ ap (λ t. entry_after (Put c.args.score) t n v e) dot.0 in
    rw c.set.ensures (length-set v s n ∙ c.self.invariant.0, subst (λ (x : Entry). IsEntryWithin (slice_set v s n) x) (sym entry) (within-put v v s n c.args.score e c.self.invariant.0 below less c.self.invariant.1))
