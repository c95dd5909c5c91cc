use Rattle.std.proofs.Common.{ap, sym, ◌*◌, ◌+◌, ◌∙◌}
use Rattle.zq_fields.proofs.Written.{sparse_length}
use Rattle.zq_fields.proofs.sparse.sparse_len.Goals as goal

pub returns-clause-exact : goal.returns-clause-exact
returns-clause-exact c = ap (λ n. 1 + 9 * n) c.known.ensures.exact ∙ sym (sparse_length c.args.vector.now)
