use Rattle.std.proofs.Common.{ap, length, sym, ◌∙◌}
use Rattle.std.specs.FinMap.{len, len-empty}
use Rattle.zq_model.specs.Image.{Entry}
use Rattle.zq_queue.specs.Entries.{bytes_cmp}
use Rattle.zq_shard.specs.Queues.{entries_at}
use Rattle.zq_shard.proofs.Meant.{queue_meant}
use Rattle.zq_shard.specs.Shard.{HeapImage, queue_at}
use Rattle.zq_shard.proofs.shard.Shard.count.Goals as goal

pub returns-in-Some-clause-meant : goal.returns-in-Some-clause-meant
returns-in-Some-clause-meant c = λ S q meant. c.len.ensures.queue ∙ ap length (c.in-Some.ensures.list ∙ ap (λ (s : HeapImage). queue_at s c.args.key.now) c.self.view_is ∙ queue_meant c.args.self.now S c.args.key.now q meant)

pub returns-in-None-clause-meant : goal.returns-in-None-clause-meant
returns-in-None-clause-meant c = λ S q meant. ap length (sym c.in-None.ensures.no_list ∙ ap (λ (s : HeapImage). queue_at s c.args.key.now) c.self.view_is ∙ queue_meant c.args.self.now S c.args.key.now q meant)

pub returns-in-None-clause-number : goal.returns-in-None-clause-number
returns-in-None-clause-number c =
    sym (len-empty bytes_cmp Entry) ∙ ap len (sym c.in-None.ensures.absent) ∙ ap (λ (s : HeapImage). len (entries_at s.image.members c.args.key.now)) c.self.view_is
