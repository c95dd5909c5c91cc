use Rattle.zq_transfer.proofs.Steps.{begins, operations, pieces, resumes}
use Rattle.zq_transfer.proofs.laws.keeping_step.Goals as goal

pub returns : goal.returns
returns c = record {
  begins = begins;
  operations = operations;
  pieces = pieces;
  resumes = resumes;
}
