use Rattle.std.proofs.Common.{ap, ◌∙◌}
use Rattle.zq_model.specs.Entry.{join_site}
use Rattle.zq_model.specs.Image.{join_entry}
use Rattle.zq_entry.specs.Placed.{dense_entry}
use Rattle.zq_entry.proofs.EntryLemmas.{join-dense}
use Rattle.zq_entry.proofs.MergeLemmas.{rising-merged}
use Rattle.zq_entry.proofs.entry.Entry.merge.Goals as goal

pub invariant_of-result : goal.invariant_of-result
invariant_of-result c = rw c.in_ok-merged.ensures (rising-merged (join_site c.args.mine.now c.args.theirs.now) c.self.inside.additions c.other.inside.additions)

pub returns : goal.returns
returns c =
    let u = c.args.mine.now in
    let v = c.args.theirs.now in
    ap dense_entry c.in_ok-merged.ensures ∙ (join-dense u v c.self.inside.additions c.other.inside.additions
    ∙ (ap (λ e. join_entry u v e (dense_entry c.other.inside.additions)) c.self.view_is ∙ ap (join_entry u v c.args.self.now) c.other.view_is))
