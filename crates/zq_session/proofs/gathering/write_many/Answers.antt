use Rattle.std.proofs.Common.{◌≡◌, ◌≤◌, arith, length, ◌∙◌}
use Rattle.zq_session.proofs.GatheredBytes.{many-written}
use Rattle.zq_session.specs.Steps.{FULL}
use Rattle.zq_session.proofs.gathering.write_many.Goals as goal

pub returns-then-len-ge-GATHERED : goal.returns-then-len-ge-GATHERED
returns-then-len-ge-GATHERED g c =
    let old : g.row.R.Denot × g.row.W.Denot = (c.args.reader.now, c.args.writer.now) in
    let new : g.row.R.Denot × g.row.W.Denot = (c.write_gathered.new.reader, c.write_gathered.new.writer) in
    let size : c.len.result ≡ length c.args.out.now.items = c.len.ensures ∙ c.args.out.now.ok.0 in
    let full : FULL ≤ length c.args.out.now.items = omega (arith, size, c.if-len-ge-GATHERED.true) in
    many-written g.E.Ends.does old new c.args.out.now.items c.write_gathered.new.out.items c.write_gathered.result full c.write_gathered.ensures
