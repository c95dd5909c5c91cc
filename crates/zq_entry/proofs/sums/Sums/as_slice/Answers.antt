use Rattle.std.proofs.Common.{ap, sym, ◌∙◌}
use Rattle.zq_entry.specs.KeptSums.{kept_sums}
use Rattle.zq_entry.proofs.SumLemmas.{kept-nonzero}
use Rattle.zq_entry.proofs.sums.Sums.as_slice.Goals as goal

pub returns-in-Nothing-clause-kept : goal.returns-in-Nothing-clause-kept
returns-in-Nothing-clause-kept c = ap kept_sums (sym c.in-Nothing.is) ∙ kept-nonzero c.self.inside.kept c.args.self.now c.self.invariant c.self.view_is

pub returns-in-One-clause-kept : goal.returns-in-One-clause-kept
returns-in-One-clause-kept c = ap kept_sums (sym c.in-One.is) ∙ kept-nonzero c.self.inside.kept c.args.self.now c.self.invariant c.self.view_is

pub returns-in-Many-clause-kept : goal.returns-in-Many-clause-kept
returns-in-Many-clause-kept c = c.deref.ensures.value ∙ ap kept_sums (sym c.in-Many.is) ∙ kept-nonzero c.self.inside.kept c.args.self.now c.self.invariant c.self.view_is
