-- What the code answers of an operation, in the model.

use Rattle.zq_model.specs.Sets as model
use Rattle.zq_shard.specs.declared.taken.Taken.{Taken}
use Rattle.zq_shard.specs.declared.taken.Taken.TheVariants.{Early, Known, New}

abbrev pub answer_of : Taken → model.Taken
answer_of New = model.New
answer_of Known = model.Known
answer_of Early = model.Early
