use Rattle.std.proofs.Common.{ap, sym, ◌∙◌}
use Rattle.std.specs.List.{take-map}
use Rattle.std.specs.Prelude.{map, take}
use Rattle.zq_queue.specs.Lent.{lent_pair}
use Rattle.zq_queue.proofs.scanned.first.Goals as goal

pub returns : goal.returns
returns c = ap (map lent_pair) c.truncate.ensures.items ∙ sym (take-map lent_pair c.args.count c.in_ok-pairs.pairs.items) ∙ ap (take c.args.count) c.in_ok-pairs.ensures
