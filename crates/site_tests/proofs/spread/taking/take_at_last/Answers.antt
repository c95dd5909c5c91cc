use Rattle.std.proofs.Common.{subst, sym, ◌∙◌}
use Rattle.std.proofs.lemmas.List.Elements.{All-head}
use Rattle.std.specs.Prelude.{All, List}
use Rattle.site_tests.proofs.spread.taking.take_at_last.Goals as goal
use Rattle.zq_spread.specs.Passes.{IsPassOf}
use Rattle.zq_spread.specs.declared.pass.Pass.{Pass}

pub loop-op-init : goal.loop-op-init
loop-op-init g c =
    let is : Pass → Type 0 = IsPassOf c.in_ok-site.site in
    let first : Pass = c.in-Some.pass.now in
    let others : List Pass = c.in-Some.field-0-1.now in
    All-head is first others (subst (All is) (sym c.as_mut_slice.ensures.value ∙ c.in-Some.ensures.cases.0) c.in_ok-site.ensures.passes)
