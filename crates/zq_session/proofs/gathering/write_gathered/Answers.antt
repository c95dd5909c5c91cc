use Rattle.std.proofs.Common.{subst, take}
use Rattle.zq_session.specs.Steps.{Said}
use Rattle.zq_session.proofs.gathering.write_gathered.Goals as goal

pub returns-in-Ok : goal.returns-in-Ok
returns-in-Ok g c =
    let old : g.row.R.Denot × g.row.W.Denot = (c.args.reader.now, c.args.writer.now) in
    let new : g.row.R.Denot × g.row.W.Denot = (c.say.new.reader, c.say.new.writer) in
    (c.clear.ensures.items, subst (λ all. g.E.Ends.does old (Said all) new) c.deref.ensures.value c.in-Ok.ensures)

pub returns-in-Err : goal.returns-in-Err
returns-in-Err g c =
    let old : g.row.R.Denot × g.row.W.Denot = (c.args.reader.now, c.args.writer.now) in
    let new : g.row.R.Denot × g.row.W.Denot = (c.say.new.reader, c.say.new.writer) in
    let cut = c.in-Err.ensures.1 in (
      c.in-Err.ensures.0,
      c.clear-in-Err.ensures.items,
      (cut.0, subst (λ all. g.E.Ends.does old (Said (take cut.0 all)) new) c.deref.ensures.value cut.1),
    )
