use Rattle.zq_model.proofs.Read.{read_rank, read_turned_rank}
use Rattle.zq_model.proofs.readings.ranking.Goals as goal

pub returns : goal.returns
returns c = record {
  rank = λ rule K books are key place score member is. read_rank rule K books are key place score member is;
  turned = λ rule K books are key place score member is. read_turned_rank rule K books are key place score member is;
}
