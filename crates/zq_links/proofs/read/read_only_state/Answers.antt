use Rattle.std.proofs.Common.{ap, refl, ◌∷◌}
use Rattle.zq_links.specs.Spelling.{StateIn}
use Rattle.zq_links.proofs.read.read_only_state.Goals as goal

pub returns-in-Ok-clause-found : goal.returns-in-Ok-clause-found
returns-in-Ok-clause-found c =
    let found = c.in-Ok.ensures.found in
    (StateIn found.0 c.in-Ok.shard, found.1, refl, ap (λ b. 3 ∷ b) found.2)
