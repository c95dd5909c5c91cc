use Rattle.std.proofs.Common.{ap, map, sym, ◌∙◌}
use Rattle.zq_queue.specs.Lent.{lent_pair}
use Rattle.zq_shard.proofs.Outcomes.{if_ok_map}
use Rattle.std.specs.Prelude.{take}
use Rattle.zq_shard.proofs.Meant.{take_nothing, queue_meant}
use Rattle.zq_shard.specs.Shard.{HeapImage, queue_at}
use Rattle.zq_shard.proofs.shard.Shard.first.Goals as goal

pub returns-in-Some-clause-meant : goal.returns-in-Some-clause-meant
returns-in-Some-clause-meant c = λ S q meant. if_ok_map c.first.result c.first.ensures (λ pairs is. is ∙ ap (take c.args.count) (c.in-Some.ensures.list ∙ ap (λ (s : HeapImage). queue_at s c.args.key.now) c.self.view_is ∙ queue_meant c.args.self.now S c.args.key.now q meant))

pub returns-in-None-clause-meant : goal.returns-in-None-clause-meant
returns-in-None-clause-meant c = λ S q meant. ap (map lent_pair) c.new.ensures.items ∙ take_nothing c.args.count ∙ ap (take c.args.count) (sym c.in-None.ensures.no_list ∙ ap (λ (s : HeapImage). queue_at s c.args.key.now) c.self.view_is ∙ queue_meant c.args.self.now S c.args.key.now q meant)
