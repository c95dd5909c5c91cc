use Rattle.std.proofs.Common.{ap, sym, ◌∙◌}
use Rattle.std.specs.FinMap.{empty_of_len, len, len-empty}
use Rattle.zq_model.specs.Image.{Entry}
use Rattle.zq_queue.specs.Entries.{bytes_cmp}
use Rattle.zq_queue.proofs.queue.Queue.is_empty.Goals as goal

pub returns-clause-empty : goal.returns-clause-empty
returns-clause-empty c =
    let seen = ap (λ q. q.entries) c.self.view_is in (
      λ yes. sym seen ∙ empty_of_len _ (c.is_empty.ensures.empty.0 yes),
      λ none. c.is_empty.ensures.empty.1 (ap len (seen ∙ none) ∙ len-empty bytes_cmp Entry),
    )
