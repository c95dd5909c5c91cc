use Rattle.std.proofs.Common.{ap, length, rules, sym, ◌∙◌, ◌≡◌}
use Rattle.std.specs.Vec.{vec_len}
use Rattle.zq_backlog.proofs.Runs.{length-cut}
use Rattle.zq_backlog.proofs.run.Run.len.Goals as goal

pub returns-clause-len : goal.returns-clause-len
returns-clause-len c =
    let r = c.self.inside in
    let count : vec_len r.ends ≡ length r.ends.items = search rules in
    c.len.ensures ∙ count ∙ sym (length-cut 0 r.ends.items r.bytes.items) ∙ ap length c.self.view_is
