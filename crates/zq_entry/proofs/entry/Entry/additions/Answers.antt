use Rattle.std.proofs.Common.{ap, arith, length, sym, take_all, ◌<◌, ◌∙◌}
use Rattle.zq_entry.specs.Placed.{placed_of}
use Rattle.zq_entry.proofs.EntryLemmas.{placed-dense}
use Rattle.zq_entry.proofs.EntryWalks.{copied-more}
use Rattle.zq_entry.proofs.entry.Entry.additions.Goals as goal

pub loop-place-preserved : goal.loop-place-preserved
loop-place-preserved c =
    let inside : c.loop-place.place < length c.self.inside.additions = omega arith in
    c.in_ok-push.ensures.items ∙ copied-more c.loop-place.additions.items c.self.inside.additions c.loop-place.place c.in_ok-copy.field-0 c.loop-place.invariant inside (λ d. c.in_ok-copy.ensures ∙ c.at.ensures.addition d)

pub returns : goal.returns
returns c =
    c.loop-place.invariant ∙ (take_all c.loop-place.place c.self.inside.additions (omega arith) ∙ (sym (placed-dense c.self.inside.additions c.self.invariant) ∙ ap placed_of c.self.view_is))
