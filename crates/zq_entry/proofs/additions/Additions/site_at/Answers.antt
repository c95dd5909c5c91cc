use Rattle.std.proofs.Common.{ap, arith, length, sym, Some, ◌<◌, ◌∙◌}
use Rattle.zq_entry.specs.Lent.{lent}
use Rattle.zq_entry.proofs.EntryWalks.{head-here}
use Rattle.zq_entry.proofs.additions.Additions.site_at.Goals as goal

pub returns-then-place-len : goal.returns-then-place-len
returns-then-place-len c =
    let p = lent c.at.result in
    let inside : c.args.place < length c.args.self.now = omega arith in
    ap (λ q. Some q.0) (c.at.ensures.addition p) ∙ sym (head-here c.args.self.now c.args.place p inside)
