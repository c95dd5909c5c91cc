use Rattle.std.proofs.Common.{ap, refl, subst, sym, ◌∙◌, ◌≡◌}
use Rattle.zq_keeper.proofs.Reading.{blank_heaps, read_as}
use Rattle.zq_keeper.specs.Outline.{AreAllWhole, outlines_of}
use Rattle.zq_keeper.specs.Read.{IsReadAs}
use Rattle.zq_wal.specs.Format.{recovered}
use Rattle.zq_keeper.proofs.keeper.Keeper.new.Goals as goal

pub returns-clause-keeper : goal.returns-clause-keeper
returns-clause-keeper g c =
    let r = c.args.reader.now in
    let payloads = recovered (g.D.Disk.seen c.args.wal.disk) in
    let had = c.requires.read in
    let items : c.in-Ok.heaps.items ≡ outlines_of r.recovery.stages.items =
    c.in-Ok.ensures ∙ ap outlines_of c.deref.ensures.value in
    record {
      log = c.requires.log;
      synced = c.requires.synced ∙ c.requires.log.count;
      heaps = blank_heaps payloads r had;
      start = λ yes. absurd (cc);
      begun = λ yes. absurd (cc);
      alone = λ no. refl;
      read = subst (λ xs. IsReadAs r.recovery.identity payloads r.recovery.start xs) (sym items)
          (read_as payloads r had);
      whole = subst AreAllWhole c.deref-2.ensures.value (c.if-not-are_whole.ensures.whole refl);
      next = tt;
    }
