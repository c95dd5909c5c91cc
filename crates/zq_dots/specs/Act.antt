-- What an act of the code is in the model.

use Rattle.zq_dots.specs.declared.act.Act.{Act}
use Rattle.zq_dots.specs.declared.act.Act.TheVariants.{Put, Bump, Drop}
use Rattle.zq_model.specs.Operation as model

abbrev pub act_of : Act → model.Act
act_of (Put score) = model.Put score
act_of (Bump increment) = model.Bump increment
act_of Drop = model.Drop
