use Rattle.std.proofs.Common.{ap, inr, subst, sym, ◌∙◌}
use Rattle.zq_entries.specs.Entry.{OfRound}
use Rattle.zq_keeper.proofs.Keeping.{either_only, joined, spelled}
use Rattle.zq_keeper.proofs.Turning.{start_after, turn_read_after}
use Rattle.zq_keeper.specs.Keeper.{with_entry}
use Rattle.zq_keeper.specs.Outline.{Cover}
use Rattle.zq_wal.specs.Format.{recovered}
use Rattle.zq_keeper.proofs.keeper.Keeper.round.Goals as goal

pub returns-in_err-turn-clause-any_moment : goal.returns-in_err-turn-clause-any_moment
returns-in_err-turn-clause-any_moment g c = λ going.
    c.stand.ensures (c.requires going)
    (with_entry (recovered (g.D.Disk.seen c.args.self.now.wal.disk)) (OfRound c.args.batches.now))

pub returns-in_err-add_share-clause-any_moment : goal.returns-in_err-add_share-clause-any_moment
returns-in_err-add_share-clause-any_moment g c = λ going.
    either_only g.D.Disk.seen g.D.Disk.staged g.D.Disk.may_leave g.D.Disk.moment g.D.Disk.left_since
    g.met.D.Disk.only_now
    c.args.self.now c.add_share.new.self.wal.disk
    (with_entry (recovered (g.D.Disk.seen c.args.self.now.wal.disk)) (OfRound c.args.batches.now))
    c.add_share.ensures.any_moment

pub keep-requires-clause-read : goal.keep-requires-clause-read
keep-requires-clause-read g c =
    let k = c.args.self.now in
    let m = c.add_share.new.self in
    let is = c.requires c.in_ok-turn.ensures.going in
    turn_read_after k.identity m.identity (recovered (g.D.Disk.seen k.wal.disk))
    (recovered (g.D.Disk.seen m.wal.disk)) k.start k.heaps.items (OfRound c.args.batches.now)
    c.in_ok-turn.turn c.add_share.ensures.still.site.identity
    (ap recovered c.in_ok-add_share.ensures.seen) is.read c.in_ok-turn.ensures.turn

pub keep-requires-clause-start : goal.keep-requires-clause-start
keep-requires-clause-start g c =
    let k = c.args.self.now in
    let is = c.requires c.in_ok-turn.ensures.going in
    start_after k.identity c.add_share.new.self.identity k.start c.in_ok-turn.turn.start
    c.add_share.ensures.still.site.identity c.in_ok-turn.ensures.start
    (is.start c.in_ok-turn.ensures.begun)

pub keep-requires-clause-whole : goal.keep-requires-clause-whole
keep-requires-clause-whole g c =
    let is = c.requires c.in_ok-turn.ensures.going in
    c.in_ok-turn.ensures.turn.whole is.whole

pub keep-requires-clause-covers : goal.keep-requires-clause-covers
keep-requires-clause-covers g c =
    subst (λ v. Cover c.in_ok-turn.turn.heaps.items v.items) (sym c.add_share.ensures.still.heaps)
    c.in_ok-turn.ensures.turn.covers

pub keep-requires-clause-next : goal.keep-requires-clause-next
keep-requires-clause-next g c =
    inr (c.add_share.ensures.still.site.start ∙ c.in_ok-turn.ensures.start)

pub returns-in_err-committed-clause-any_moment : goal.returns-in_err-committed-clause-any_moment
returns-in_err-committed-clause-any_moment g c = λ going.
    joined g.D.Disk.seen g.D.Disk.staged g.D.Disk.may_leave g.D.Disk.moment g.D.Disk.left_since
    g.met.D.Disk.only_now
    c.args.self.now c.add_share.new.self c.keep.new.self.wal.disk
    (λ p. with_entry p (OfRound c.args.batches.now)) c.add_share.ensures.still
    c.in_ok-add_share.ensures.seen c.add_share.ensures.any_moment
    (spelled g.D.Disk.seen g.D.Disk.staged g.D.Disk.may_leave g.D.Disk.moment g.D.Disk.left_since
    g.met.D.Disk.only_now
    c.add_share.new.self c.keep.new.self.wal.disk c.in_ok-turn.turn.entry.items
    (OfRound c.args.batches.now) c.in_ok-turn.ensures.turn.entry.spelled c.keep.ensures.any_moment)

pub returns-clause-any_moment : goal.returns-clause-any_moment
returns-clause-any_moment g c = λ going.
    joined g.D.Disk.seen g.D.Disk.staged g.D.Disk.may_leave g.D.Disk.moment g.D.Disk.left_since
    g.met.D.Disk.only_now
    c.args.self.now c.add_share.new.self c.keep.new.self.wal.disk
    (λ p. with_entry p (OfRound c.args.batches.now)) c.add_share.ensures.still
    c.in_ok-add_share.ensures.seen c.add_share.ensures.any_moment
    (spelled g.D.Disk.seen g.D.Disk.staged g.D.Disk.may_leave g.D.Disk.moment g.D.Disk.left_since
    g.met.D.Disk.only_now
    c.add_share.new.self c.keep.new.self.wal.disk c.in_ok-turn.turn.entry.items
    (OfRound c.args.batches.now) c.in_ok-turn.ensures.turn.entry.spelled c.keep.ensures.any_moment)
