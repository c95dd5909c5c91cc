use Rattle.zq_stage.proofs.Stages.{begins, ends, knows, replaces, takes}
use Rattle.zq_stage.proofs.laws.staging.Goals as goal

pub returns : goal.returns
returns c = record {
  begins = begins;
  takes = takes;
  knows = knows;
  replaces = replaces;
  ends = ends;
}
