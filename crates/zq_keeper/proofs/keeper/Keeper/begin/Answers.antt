use Rattle.zq_entries.specs.Entry.{OfStart, start_of}
use Rattle.zq_keeper.proofs.Keeping.{starts, starts_still}
use Rattle.zq_keeper.proofs.Turning.{turn_read}
use Rattle.zq_wal.specs.Format.{recovered}
use Rattle.zq_keeper.proofs.keeper.Keeper.begin.Goals as goal

pub returns-in_err-turn-clause-any_moment : goal.returns-in_err-turn-clause-any_moment
returns-in_err-turn-clause-any_moment g c = λ going.
    starts_still g.D.Disk.seen g.D.Disk.staged g.D.Disk.may_leave g.D.Disk.moment g.D.Disk.left_since
    g.met.D.Disk.only_now
    c.args.self.now (c.stand.ensures (c.requires going)
    (recovered (g.D.Disk.seen c.args.self.now.wal.disk)))

pub keep-requires-clause-read : goal.keep-requires-clause-read
keep-requires-clause-read g c =
    let k = c.args.self.now in
    let is = c.requires c.in_ok-turn.ensures.going in
    turn_read k.identity (recovered (g.D.Disk.seen k.wal.disk)) k.start k.heaps.items
    (OfStart (start_of c.in_ok-turn.turn.start)) c.in_ok-turn.turn is.read
    c.in_ok-turn.ensures.turn

pub returns-in_err-keep-clause-any_moment : goal.returns-in_err-keep-clause-any_moment
returns-in_err-keep-clause-any_moment g c = λ going.
    starts g.D.Disk.seen g.D.Disk.staged g.D.Disk.may_leave g.D.Disk.moment g.D.Disk.left_since
    g.met.D.Disk.only_now
    c.args.self.now c.keep.new.self.wal.disk c.in_ok-turn.turn.entry.items c.in_ok-turn.turn.start
    c.in_ok-turn.ensures.next c.in_ok-turn.ensures.turn.entry.spelled c.keep.ensures.any_moment

pub returns-clause-any_moment : goal.returns-clause-any_moment
returns-clause-any_moment g c = λ going.
    starts g.D.Disk.seen g.D.Disk.staged g.D.Disk.may_leave g.D.Disk.moment g.D.Disk.left_since
    g.met.D.Disk.only_now
    c.args.self.now c.keep.new.self.wal.disk c.in_ok-turn.turn.entry.items c.in_ok-turn.turn.start
    c.in_ok-turn.ensures.next c.in_ok-turn.ensures.turn.entry.spelled c.keep.ensures.any_moment
