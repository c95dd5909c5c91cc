use Rattle.zq_keeper.specs.Read.{Reads}
use Rattle.zq_store.proofs.Rereading.{same_site, taken_by}
use Rattle.zq_store.proofs.folder.read_log.Goals as goal

pub kept_by-requires-clause-heaps : goal.kept_by-requires-clause-heaps
kept_by-requires-clause-heaps g c =
    rw (same_site _ _ _ (taken_by (λ r. r.reader) Reads _ _ _ c.in-Ok.ensures.replayed)) c.requires.heaps

pub kept_by-requires-clause-all : goal.kept_by-requires-clause-all
kept_by-requires-clause-all g c = record {
  first = c.args.reader;
  blank = c.requires.blank;
  read = taken_by (λ r. r.reader) Reads _ _ _ c.in-Ok.ensures.replayed;
}
