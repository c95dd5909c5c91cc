use Rattle.std.proofs.Common.{◌≡◌, List, ℕ, Option, Some, ap, subst, sym, ◌∙◌}
use Rattle.zq_resp.specs.Front.{Part}
use Rattle.zq_resp.specs.Grammar.{request_at}
use Rattle.zq_resp.specs.Partial.{text_so_far}
use Rattle.zq_resp.specs.Unfinished.{kept}
use Rattle.zq_resp.proofs.Limits.{stands_part}
use Rattle.zq_resp.proofs.reader.Reader.inside.Goals as goal

pub returns-in-Some-clause-unfinished : goal.returns-in-Some-clause-unfinished
returns-in-Some-clause-unfinished c = λ had is.
    let text = text_so_far c.in-Some.unfinished.partial in
    let same : ◌≡◌ {A = Option (List ℕ)} (Some had) (Some text) = sym is ∙ (sym c.self.view_is ∙ ap kept c.in-Some.is) in
    let had_is : had ≡ text = cc in
    subst (λ had. request_at had ≡ Part) (sym had_is) (stands_part c.in-Some.unfinished (rw c.in-Some.is at c.self.invariant))
