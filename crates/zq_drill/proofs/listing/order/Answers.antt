use Rattle.std.proofs.lemmas.List.Sorted.{IsPermutation-map}
use Rattle.std.specs.Ordering.{is_lt}
use Rattle.zq_drill.proofs.Sorteds.{sorted_map}
use Rattle.zq_drill.proofs.listing.order.Goals as goal
use Rattle.zq_drill.specs.Lists.{listed}
use Rattle.zq_model.specs.Meaning.{scored_cmp}

pub returns-clause-same : goal.returns-clause-same
returns-clause-same c = IsPermutation-map listed c.args.list.now.items c.sort.new.self.items c.sort.ensures.permutation

pub returns-clause-sorted : goal.returns-clause-sorted
returns-clause-sorted c = sorted_map listed (λ x y. is_lt (scored_cmp x y)) c.sort.new.self.items c.in_ok-sort.ensures.sorted
