use Rattle.std.proofs.Common.{sym, ap, ◌∙◌}
use Rattle.std.specs.Option.{is_some}
use Rattle.zq_words.proofs.PairLists.{pairs_of_short}
use Rattle.zq_words.proofs.pairs.has_scores.Goals as goal

pub returns : goal.returns
returns c = sym (c.loop-rest.invariant ∙ ap is_some (pairs_of_short c.loop-rest.rest.now c.in_default.len_below))
