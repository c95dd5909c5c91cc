use Rattle.std.proofs.Common.{ap, arith, rules, slice_index, slice_set, subst, sym, ◌<◌, ◌∙◌, ◌≡◌}
use Rattle.std.proofs.Math.ListN.{length-set}
use Rattle.zq_model.specs.Image.{Entry, entry_after}
use Rattle.zq_model.specs.Operation.{Bump, IsWithin, MOST}
use Rattle.zq_model.specs.Sets.{SITES}
use Rattle.zq_entry.specs.Within.{IsEntryWithin}
use Rattle.zq_entry.proofs.Callers.{bump-room, within-bump}
use Rattle.image_tests.proofs.entry.side.Side.bump.Goals as goal

pub bump-requires-clause-sums : goal.bump-requires-clause-sums
bump-requires-clause-sums c =
    let v = c.self.inside.seen in
    let dot = c.in_ok-dot.ensures.dot in
    let less : slice_index v c.args.site < c.in_ok-dot.dot.n = omega (arith, dot.1) in
    bump-room v c.in_ok-dot.dot.site c.in_ok-dot.dot.n c.self.inside.entry (subst (λ t. slice_index v t < c.in_ok-dot.dot.n) (sym dot.0) less) c.self.invariant.1

pub invariant_of-self-2 : goal.invariant_of-self-2
invariant_of-self-2 c =
    let v = c.self.inside.seen in
    let e = c.self.inside.entry in
    let s = c.args.site in
    let n = c.in_ok-dot.dot.n in
    let dot = c.in_ok-dot.ensures.dot in
    let below : s < SITES = search rules in
    let less : slice_index v s < n = omega (arith, dot.1) in
    let amount : IsWithin MOST c.args.increment = search rules in
    let entry : c.bump.new.self ≡ entry_after (Bump c.args.increment) s n v e = c.in-Ok.ensures.bumped ∙ ap (λ t. entry_after (Bump c.args.increment) t n v e) dot.0 in
    rw c.set.ensures (length-set v s n ∙ c.self.invariant.0, subst (λ (x : Entry). IsEntryWithin (slice_set v s n) x) (sym entry) (within-bump v v s n c.args.increment e c.self.invariant.0 below less amount c.self.invariant.1))
