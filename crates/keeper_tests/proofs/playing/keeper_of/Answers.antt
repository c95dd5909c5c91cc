use Rattle.std.proofs.Common.{ap, subst, sym, ◌∙◌}
use Rattle.zq_keeper.specs.Read.{Reads}
use Rattle.zq_wal.specs.Format.{recovered}
use Rattle.zq_wal.specs.Replay.{Replayed}
use Rattle.keeper_tests.proofs.playing.keeper_of.Goals as goal

pub new-requires-3-clause-read : goal.new-requires-3-clause-read
new-requires-3-clause-read c = record {
  first = c.in_ok-reader.reader;
  blank = c.in_ok-reader.ensures.blank;
  read = subst (λ l. Replayed Reads c.in_ok-reader.reader l c.read_records.new.replay)
      (sym (c.in-Ok.ensures.same ∙ ap recovered c.into_disk.ensures.log))
      c.in_ok-found.ensures.replayed;
}
