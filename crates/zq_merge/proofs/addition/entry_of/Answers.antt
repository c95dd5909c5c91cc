use Rattle.std.proofs.Common.{ap, arith, length, ◌∙◌, ◌≡◌}
use Rattle.zq_entry.proofs.EntryLemmas.{placed-dense}
use Rattle.zq_merge.proofs.AdditionLists.{full_entry}
use Rattle.zq_model.proofs.Sites.{length-by_site}
use Rattle.zq_model.specs.Rows.{additions_from}
use Rattle.zq_model.specs.Sparse.{found}
use Rattle.zq_merge.proofs.addition.entry_of.Goals as goal

pub returns-clause-listed : goal.returns-clause-listed
returns-clause-listed c = ap (additions_from 0) c.in_ok-entry.ensures ∙ placed-dense c.args.additions.now c.requires.rising

pub returns-clause-wide : goal.returns-clause-wide
returns-clause-wide c = ap length c.in_ok-entry.ensures ∙ length-by_site (λ s. found s c.args.additions.now)

pub returns-clause-full : goal.returns-clause-full
returns-clause-full c =
    let listed : additions_from 0 c.in_ok-entry.entry ≡ c.args.additions.now = ap (additions_from 0) c.in_ok-entry.ensures ∙ placed-dense c.args.additions.now c.requires.rising in
    let size = ap length listed in
    let some = c.requires.some in
    full_entry 0 c.in_ok-entry.entry (omega arith)
