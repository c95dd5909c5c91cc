-- Where reading gives a value, that is the answer, or there was no memory.

use Rattle.std.proofs.Common.{Err, Ok, inl, inr, ◌≡◌}
use Rattle.std.specs.Prelude.{MatchResult, Result}
use Rattle.zq_merge.specs.Answer.{Answers}
use Rattle.zq_merge.specs.declared.fault.StateFault.{StateFault}
use Rattle.zq_merge.specs.declared.fault.StateFault.TheVariants.{NoMemory}

pub value_or_no_memory : {X : Type 0} (r read : Result X StateFault) (x : X) → Answers (λ y. y) r read → read ≡ Ok x → MatchResult r (λ y. y ≡ x) (λ fault. fault ≡ NoMemory)
value_or_no_memory (Ok y) read x answers is = cc
value_or_no_memory (Err fault) read x (inl none) is = none
value_or_no_memory (Err fault) read x (inr e) is = absurd (cc)
