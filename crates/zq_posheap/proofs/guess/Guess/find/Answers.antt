use Rattle.std.proofs.Common.{ap, sym, ◌∙◌}
use Rattle.std.specs.Prelude.{Some}
use Rattle.zq_posheap.proofs.Entries.{found_key}
use Rattle.zq_posheap.proofs.Lists.{mapped_at}
use Rattle.zq_posheap.proofs.guess.Guess.find.Goals as goal

pub returns-clause-there : goal.returns-clause-there
returns-clause-there g c =
    let es = c.args.names.now.entries in
    let key = found_key es c.args.name.now c.in_ok-index.index c.in_ok-index.ensures.index in
    mapped_at (λ x. x.0) es c.in_ok-index.index key.0 key.1 ∙ ap (λ k. Some k) (sym key.2)
