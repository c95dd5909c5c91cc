use Rattle.zq_follow.proofs.Fenced.{operations_fence_nobody, vectors_fence_nobody}
use Rattle.zq_follow.proofs.fence_laws.an_only_run_is_never_fenced.Goals as goal

pub returns : goal.returns
returns c = record { vectors = vectors_fence_nobody; operations = operations_fence_nobody }
