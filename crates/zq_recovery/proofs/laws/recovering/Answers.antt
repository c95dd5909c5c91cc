use Rattle.zq_recovery.proofs.Keeping.{ends, firsts, loses_none, needs_none, pieces, rounds}
use Rattle.zq_recovery.proofs.Reading.{reads}
use Rattle.zq_recovery.proofs.laws.recovering.Goals as goal

pub returns : goal.returns
returns c = record {
  begins = firsts;
  rounds = rounds;
  pieces = pieces;
  loses = loses_none;
  reads = reads;
  ends = ends;
  none = needs_none;
}
