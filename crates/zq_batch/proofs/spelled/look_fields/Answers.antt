use Rattle.zq_delta.proofs.Again.{unworn}
use Rattle.zq_batch.proofs.spelled.look_fields.Goals as goal

pub new-requires-clause-bounded : goal.new-requires-clause-bounded
new-requires-clause-bounded c = unworn c.in_ok-site.site c.in_ok-seen.seen c.in_ok-seen.ensures.within
