use Rattle.std.proofs.Common.{ap, sym, ◌∙◌}
use Rattle.std.specs.List.{position}
use Rattle.std.specs.Prelude.{reverse}
use Rattle.zq_queue.specs.Listed.{is_of_member}
use Rattle.zq_shard.proofs.Meant.{queue_meant}
use Rattle.zq_shard.specs.Shard.{HeapImage, queue_at}
use Rattle.zq_shard.proofs.shard.Shard.turned_rank.Goals as goal

pub returns-in-Some-clause-meant : goal.returns-in-Some-clause-meant
returns-in-Some-clause-meant c = λ S q meant. c.turned_rank.ensures ∙ ap (λ l. position (is_of_member c.args.member.now) (reverse l)) (c.in-Some.ensures.list ∙ ap (λ (s : HeapImage). queue_at s c.args.key.now) c.self.view_is ∙ queue_meant c.args.self.now S c.args.key.now q meant)

pub returns-in-None-clause-meant : goal.returns-in-None-clause-meant
returns-in-None-clause-meant c = λ S q meant. ap (λ l. position (is_of_member c.args.member.now) (reverse l)) (sym c.in-None.ensures.no_list ∙ ap (λ (s : HeapImage). queue_at s c.args.key.now) c.self.view_is ∙ queue_meant c.args.self.now S c.args.key.now q meant)
