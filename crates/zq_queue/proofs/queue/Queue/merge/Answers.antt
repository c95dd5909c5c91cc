use Rattle.std.proofs.Common.{ap, ◌∙◌}
use Rattle.zq_queue.proofs.Built.{is_joined}
use Rattle.zq_queue.specs.Entries.{entry_joined}
use Rattle.zq_queue.proofs.queue.Queue.merge.Goals as goal

pub returns-clause-joined : goal.returns-clause-joined
returns-clause-joined c =
    let u = c.args.mine.now in
    let v = c.args.theirs.now in
    ap (λ q. q.entries) c.settle.ensures
    ∙ is_joined u v c.args.self.now.entries c.args.other.now.entries c.join_second.new.merged.entries (λ q.
    c.in_ok-join_second.ensures.joined q ∙ ap (λ w. entry_joined u v c.args.self.now.entries w.entries q) c.other.view_is)
