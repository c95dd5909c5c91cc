use Rattle.zq_model.proofs.Agreeing.{same_queues}
use Rattle.zq_model.proofs.Same.{image_of-same}
use Rattle.zq_semantics.proofs.KeptRuns.{world_at}
use Rattle.zq_semantics.proofs.Meant.{same_answers}
use Rattle.zq_semantics.specs.Events.{set_at}
use Rattle.zq_semantics.specs.Runs.{run}
use Rattle.zq_semantics.proofs.answers.converging.Goals as goal

pub returns-clause-images : goal.returns-clause-images
returns-clause-images c rule K sites events is moment site T same heap =
    image_of-same K (set_at (run rule K events) moment site) T heap same (world_at rule K sites events is moment site)

pub returns-clause-queues : goal.returns-clause-queues
returns-clause-queues c rule K sites events is moment site T same key q r =
    same_queues rule K (set_at (run rule K events) moment site) T key q r (world_at rule K sites events is moment site) same

pub returns-clause-answers : goal.returns-clause-answers
returns-clause-answers c rule K sites events is moment site T same words =
    same_answers rule K (set_at (run rule K events) moment site) T words (world_at rule K sites events is moment site) same
