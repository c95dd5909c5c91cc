use Rattle.std.proofs.Common.{arith}
use Rattle.zq_model.proofs.MeantQueues.{whole_queue_is}
use Rattle.zq_semantics.proofs.KeptRuns.{world_at}
use Rattle.zq_semantics.proofs.Meant.{answers_meant}
use Rattle.zq_semantics.specs.Events.{set_at}
use Rattle.zq_semantics.specs.Runs.{run}
use Rattle.zq_semantics.proofs.answers.reading.Goals as goal

pub returns-clause-queues : goal.returns-clause-queues
returns-clause-queues c rule K sites events is moment site key =
    let some = is.heaps.0 in
    whole_queue_is rule K (set_at (run rule K events) moment site) key (world_at rule K sites events is moment site) (omega (arith, some))

pub returns-clause-answers : goal.returns-clause-answers
returns-clause-answers c rule K sites events is moment site queues are words =
    let some = is.heaps.0 in
    answers_meant rule K (set_at (run rule K events) moment site) words queues (world_at rule K sites events is moment site) (omega (arith, some)) are
