use Rattle.std.proofs.Common.{◌∙◌}
use Rattle.zq_shard.proofs.Looking.{entry_seen, no_entry_seen}
use Rattle.zq_shard.proofs.queues.Queues.entry.Goals as goal

pub returns-in-Some : goal.returns-in-Some
returns-in-Some c = c.entry.ensures.entry ∙ entry_seen c.args.self.now c.args.key.now c.args.member.now c.in-Some.queue.now.entries c.in-Some.ensures.entries

pub returns-in-None : goal.returns-in-None
returns-in-None c = no_entry_seen c.args.self.now c.args.key.now c.args.member.now c.in-None.ensures.absent
