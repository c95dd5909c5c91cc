use Rattle.std.proofs.Common.{ap, append-nil, sym, ◌++◌, ◌∙◌}
use Rattle.zq_batch.proofs.Risen.{changes_unmoved}
use Rattle.zq_model.specs.Sets.{SITES}
use Rattle.zq_batch.proofs.changes.write_counted.Goals as goal

pub returns-then-count-eq0-clause-written : goal.returns-then-count-eq0-clause-written
returns-then-count-eq0-clause-written c =
    let none = changes_unmoved SITES 0 c.args.known.now c.args.seen.now (sym c.requires.count ∙ c.if-count-eq0.true) in
    sym (append-nil c.args.out.now.items) ∙ ap (λ x. c.args.out.now.items ++ x) (sym none)
