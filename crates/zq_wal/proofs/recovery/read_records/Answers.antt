use Rattle.zq_wal.proofs.Replays.{on_ok}
use Rattle.zq_wal.proofs.Walks.{found_at}
use Rattle.zq_wal.proofs.recovery.read_records.Goals as goal

pub returns-clause-found : goal.returns-clause-found
returns-clause-found g c =
    let walk = c.in_ok-walk_piece.ensures.walk in
    found_at (g.S.Source.given c.walk_piece.new.source) c.walk_piece.new.walk.known c.found.result c.found.ensures.found walk.known

pub returns-clause-end : goal.returns-clause-end
returns-clause-end g c = on_ok c.found.result (c.in_ok-walk_piece.ensures.end c.if-branch.false)

pub returns-clause-replayed : goal.returns-clause-replayed
returns-clause-replayed g c =
    let inv = c.loop-walk.invariant in
    on_ok c.found.result (c.in_ok-walk_piece.ensures.replayed c.args.replay.now inv.1)

pub returns-clause-whole : goal.returns-clause-whole
returns-clause-whole g c = λ err. c.in_ok-walk_piece.ensures.end c.if-branch.false
