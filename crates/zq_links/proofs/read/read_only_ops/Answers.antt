use Rattle.std.proofs.Common.{ap, append-nil, ◌++◌, ◌∙◌, ◌∷◌}
use Rattle.zq_links.specs.Frame.{OfOps}
use Rattle.zq_links.specs.Spelling.{OpsIn, ops_bytes}
use Rattle.zq_links.proofs.read.read_only_ops.Goals as goal

pub returns-clause-found : goal.returns-clause-found
returns-clause-found c =
    let found = c.in_ok-ops.ensures.found in
    let is = found.3 ∙ (ap (λ r. ops_bytes found.0 ++ r) c.in_ok-read_end.ensures.end ∙ append-nil (ops_bytes found.0)) in
    (OpsIn found.0, found.1, ap OfOps found.2, ap (λ b. 2 ∷ b) is)
