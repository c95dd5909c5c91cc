use Rattle.std.proofs.Common.{ap, sym, ◌∙◌}
use Rattle.std.specs.List.{position}
use Rattle.zq_queue.specs.Listed.{is_of_member}
use Rattle.zq_shard.proofs.Meant.{queue_meant}
use Rattle.zq_shard.specs.Shard.{HeapImage, queue_at}
use Rattle.zq_shard.proofs.shard.Shard.rank.Goals as goal

pub returns-in-Some-clause-meant : goal.returns-in-Some-clause-meant
returns-in-Some-clause-meant c = λ S q meant. c.rank.ensures ∙ ap (position (is_of_member c.args.member.now)) (c.in-Some.ensures.list ∙ ap (λ (s : HeapImage). queue_at s c.args.key.now) c.self.view_is ∙ queue_meant c.args.self.now S c.args.key.now q meant)

pub returns-in-None-clause-meant : goal.returns-in-None-clause-meant
returns-in-None-clause-meant c = λ S q meant. ap (position (is_of_member c.args.member.now)) (sym c.in-None.ensures.no_list ∙ ap (λ (s : HeapImage). queue_at s c.args.key.now) c.self.view_is ∙ queue_meant c.args.self.now S c.args.key.now q meant)
