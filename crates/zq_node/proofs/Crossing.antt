-- A job may go to another thread.
use denote.Param.Send.{IsSend, sendable}
use denote.Ref.{NamedLft}
use Rattle.std.proofs.Crossing.{crosses}
use Rattle.zq_node.specs.contracts.job.Job as Job
use Rattle.zq_words.specs.contracts.command.Command as Command
use Rattle.zq_words.specs.contracts.kind.Kind as Kind

kind_send : (κ : NamedLft) → IsSend (Kind.the_field κ).row
kind_send κ = search (sendable, crosses) depth 60 fits 50000

command_send : (κ : NamedLft) → IsSend (Command.the_row κ)
command_send κ = search (kind_send, sendable, crosses) depth 30

pub job_send : (κ : NamedLft) → IsSend (Job.the_row κ)
job_send κ = search (command_send, sendable, crosses) depth 30
