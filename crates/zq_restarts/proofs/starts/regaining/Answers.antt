use Rattle.zq_restarts.proofs.Regained.{regained_over}
use Rattle.zq_restarts.proofs.starts.regaining.Goals as goal

pub returns : goal.returns
returns c = record { again = λ rule K now site told stages books elsewhere stands is. regained_over rule K now site told stages books elsewhere stands is }
