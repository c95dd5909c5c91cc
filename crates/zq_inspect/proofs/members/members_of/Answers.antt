use Rattle.std.proofs.Common.{map, subst}
use Rattle.std.proofs.lemmas.List.Sorted.{IsPermutation-map}
use Rattle.std.specs.List.Sorted.{IsPermutation}
use Rattle.std.specs.Ordering.{is_lt}
use Rattle.zq_inspect.proofs.Sorted.{sorted_map}
use Rattle.zq_inspect.proofs.members.members_of.Goals as goal
use Rattle.zq_model.specs.Meaning.{scored_cmp}
use Rattle.zq_queue.specs.Lent.{lent_pair}

pub returns-clause-all : goal.returns-clause-all
returns-clause-all c =
    subst (λ xs. IsPermutation xs (map lent_pair c.sort_unstable.new.self.items))
    c.in_ok-pairs.ensures
    (IsPermutation-map lent_pair c.in_ok-pairs.pairs.items c.sort_unstable.new.self.items
    c.sort_unstable.ensures.permutation)

pub returns-clause-sorted : goal.returns-clause-sorted
returns-clause-sorted c =
    sorted_map lent_pair (λ x y. is_lt (scored_cmp x y)) c.sort_unstable.new.self.items
    c.sort_unstable.ensures.sorted
