use Rattle.std.proofs.Common.{subst, sym, ◌*◌, ◌-◌}
use Rattle.zq_entry.specs.Changes.{bumped_placed}
use Rattle.zq_entry.specs.Lent.{lent}
use Rattle.zq_entry.proofs.EntryWalks.{mapped-only}
use Rattle.zq_entry.proofs.additions.Additions.bump_only.Goals as goal
use Rattle.zq_model.specs.Entry.{sum_at}
use Rattle.zq_model.specs.Operation.{IsWithin, MOST}
use Rattle.zq_model.specs.Rows.{OfSite}

pub bumped-requires-clause-sums : goal.bumped-requires-clause-sums
bumped-requires-clause-sums c =
    let p = lent c.at.result in
    subst (λ (q : OfSite). IsWithin (MOST * (c.args.dot.n - 1)) (sum_at q.1 c.args.dot.site)) (sym (c.at.ensures.addition p)) (c.requires.sums p)

pub returns-clause-bumped : goal.returns-clause-bumped
returns-clause-bumped c =
    rw (← (mapped-only (bumped_placed c.args.seen.now c.args.dot.site c.args.increment) c.args.self.now (lent c.at.result) c.in_ok-addition.addition c.requires.only c.at.ensures.addition (c.in_ok-addition.ensures))) c.set_only.ensures.set
