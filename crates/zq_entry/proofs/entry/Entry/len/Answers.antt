use Rattle.std.proofs.Common.{ap, length, sym, ◌∙◌}
use Rattle.zq_entry.specs.Placed.{placed_of}
use Rattle.zq_entry.proofs.EntryLemmas.{placed-dense}
use Rattle.zq_entry.proofs.entry.Entry.len.Goals as goal

pub returns : goal.returns
returns c = c.len.ensures ∙ (ap length (sym (placed-dense c.self.inside.additions c.self.invariant)) ∙ ap (λ e. length (placed_of e)) c.self.view_is)
