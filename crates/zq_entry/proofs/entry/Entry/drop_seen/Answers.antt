use Rattle.std.proofs.Common.{ap, ◌∙◌}
use Rattle.zq_model.specs.Image.{entry_after}
use Rattle.zq_model.specs.Operation.{Drop}
use Rattle.zq_model.specs.Sets.{SITES}
use Rattle.zq_entry.specs.Changes.{is_unseen}
use Rattle.zq_entry.specs.Placed.{dense_entry}
use Rattle.zq_entry.proofs.EntryLemmas.{drop-dense}
use Rattle.zq_entry.proofs.SparseLemmas.{rising-filter}
use Rattle.zq_entry.proofs.entry.Entry.drop_seen.Goals as goal

pub invariant_of-self : goal.invariant_of-self
invariant_of-self c = rw c.drop_seen.ensures (rising-filter (is_unseen c.args.seen.now) 0 SITES c.self.inside.additions c.self.invariant)

pub returns : goal.returns
returns c = λ site n.
    ap dense_entry c.drop_seen.ensures ∙ (drop-dense site n c.args.seen.now c.self.inside.additions c.self.invariant ∙ ap (entry_after Drop site n c.args.seen.now) c.self.view_is)
