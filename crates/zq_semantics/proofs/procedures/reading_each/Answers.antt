use Rattle.std.proofs.Common.{refl}
use Rattle.zq_model.specs.Lent.{queues_of}
use Rattle.zq_semantics.proofs.ReadingRuns.{commands_read, each_leaves, none_made}
use Rattle.zq_semantics.proofs.procedures.reading_each.Goals as goal

pub returns-clause-scores : goal.returns-clause-scores
returns-clause-scores c key members = λ queues. refl

pub returns-clause-keys : goal.returns-clause-keys
returns-clause-keys c keys = λ queues. refl

pub returns-clause-kind : goal.returns-clause-kind
returns-clause-kind c key = λ queues. refl

pub returns-clause-command : goal.returns-clause-command
returns-clause-command c command is = commands_read command is

pub returns-clause-answer : goal.returns-clause-answer
returns-clause-answer c rule site stamp p old new reply reads ran =
    none_made site stamp (p.takes (queues_of rule old)) (p.plan (queues_of rule old)) (p.cut (queues_of rule old)) old new reply (reads (queues_of rule old)) ran

pub returns-clause-each : goal.returns-clause-each
returns-clause-each c rule site stamp ps old new replies are ran = each_leaves rule site stamp ps old new replies are ran
