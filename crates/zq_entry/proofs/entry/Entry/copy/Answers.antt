use Rattle.std.proofs.Common.{arith, length, take_all, ◌<◌, ◌∙◌, ◌≡◌}
use Rattle.zq_entry.proofs.EntryWalks.{copied-more}
use Rattle.zq_entry.proofs.entry.Entry.copy.Goals as goal

pub loop-place-preserved : goal.loop-place-preserved
loop-place-preserved c =
    let inside : c.loop-place.place < length c.self.inside.additions = omega arith in
    c.in_ok-push.ensures.pushed ∙ copied-more c.loop-place.additions c.self.inside.additions c.loop-place.place c.in_ok-copy.field-0 c.loop-place.invariant inside (λ d. c.in_ok-copy.ensures ∙ c.at.ensures.addition d)

pub invariant_of-result : goal.invariant_of-result
invariant_of-result c =
    let whole : c.loop-place.additions ≡ c.self.inside.additions = c.loop-place.invariant ∙ take_all c.loop-place.place c.self.inside.additions (omega arith) in
    rw whole c.self.invariant
