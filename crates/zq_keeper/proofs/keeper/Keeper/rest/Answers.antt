use Rattle.zq_entries.specs.Entry.{OfRest}
use Rattle.zq_keeper.proofs.Turning.{turn_read}
use Rattle.zq_keeper.specs.Keeper.{with_entry}
use Rattle.zq_wal.specs.Format.{recovered}
use Rattle.zq_keeper.proofs.keeper.Keeper.rest.Goals as goal

pub returns-in_err-is_at_rest-clause-any_moment : goal.returns-in_err-is_at_rest-clause-any_moment
returns-in_err-is_at_rest-clause-any_moment g c = λ going.
    c.stand.ensures (c.requires going) (with_entry (recovered (g.D.Disk.seen c.args.self.now.wal.disk)) OfRest)

pub returns-then-branch-clause-any_moment : goal.returns-then-branch-clause-any_moment
returns-then-branch-clause-any_moment g c = λ going.
    c.stand.ensures (c.requires going) (with_entry (recovered (g.D.Disk.seen c.args.self.now.wal.disk)) OfRest)

pub returns-in_err-turn-clause-any_moment : goal.returns-in_err-turn-clause-any_moment
returns-in_err-turn-clause-any_moment g c = λ going.
    c.stand.ensures (c.requires going) (with_entry (recovered (g.D.Disk.seen c.args.self.now.wal.disk)) OfRest)

pub keep-requires-clause-read : goal.keep-requires-clause-read
keep-requires-clause-read g c =
    let k = c.args.self.now in
    let is = c.requires c.in_ok-turn.ensures.going in
    turn_read k.identity (recovered (g.D.Disk.seen k.wal.disk)) k.start k.heaps.items OfRest
    c.in_ok-turn.turn is.read c.in_ok-turn.ensures.turn
