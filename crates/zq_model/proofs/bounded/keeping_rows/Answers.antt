use Rattle.zq_model.proofs.BoundedImages.{bounded_row, bounded_rows}
use Rattle.zq_model.proofs.bounded.keeping_rows.Goals as goal

pub returns-clause-rows : goal.returns-clause-rows
returns-clause-rows c = bounded_row

pub returns-clause-image : goal.returns-clause-image
returns-clause-image c = bounded_rows
