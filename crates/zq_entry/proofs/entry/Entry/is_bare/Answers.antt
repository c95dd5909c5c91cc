use Rattle.std.proofs.Common.{ap, sym, ◌==◌, ◌∙◌}
use Rattle.zq_model.specs.Image.{is_bare}
use Rattle.zq_entry.proofs.EntryLemmas.{is_bare-dense}
use Rattle.zq_entry.proofs.entry.Entry.is_bare.Goals as goal

pub returns : goal.returns
returns c = ap (λ n. n == 0) c.len.ensures ∙ (sym (is_bare-dense c.self.inside.additions c.self.invariant) ∙ ap is_bare c.self.view_is)
