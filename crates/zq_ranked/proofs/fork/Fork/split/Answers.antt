use Rattle.std.proofs.Common.{ap, subst, ◌∙◌, ◌++◌}
use Rattle.std.specs.List.{AllByRecursion}
use Rattle.zq_ranked.proofs.All.{all_back, all_front}
use Rattle.zq_ranked.proofs.Joined.{joined_append, some_pairs}
use Rattle.zq_ranked.specs.Shape.{IsChild, joined}
use Rattle.zq_ranked.proofs.fork.Fork.split.Goals as goal

both : (c : goal.In_ok-children) → AllByRecursion (IsChild c.args.self.now.level) (c.upper_half.new.items.items ++ c.in_ok-children.children.items)
both c = subst (λ l. AllByRecursion (IsChild c.args.self.now.level) l) c.in_ok-children.ensures.items c.requires.each

pub returns-clause-pairs : goal.returns-clause-pairs
returns-clause-pairs c = ap joined c.in_ok-children.ensures.items ∙ joined_append c.upper_half.new.items.items c.in_ok-children.children.items

pub returns-clause-lower : goal.returns-clause-lower
returns-clause-lower c = some_pairs c.args.self.now.level c.upper_half.new.items.items (all_front _ c.upper_half.new.items.items c.in_ok-children.children.items (both c)) c.in_ok-children.ensures.lower

pub returns-clause-upper : goal.returns-clause-upper
returns-clause-upper c = some_pairs c.args.self.now.level c.in_ok-children.children.items (all_back _ c.upper_half.new.items.items c.in_ok-children.children.items (both c)) c.in_ok-children.ensures.upper

pub returns-clause-upper_fork : goal.returns-clause-upper_fork
returns-clause-upper_fork c = record { each = all_back _ c.upper_half.new.items.items c.in_ok-children.children.items (both c) }

pub returns-clause-fork : goal.returns-clause-fork
returns-clause-fork c = record { each = all_front _ c.upper_half.new.items.items c.in_ok-children.children.items (both c) }
