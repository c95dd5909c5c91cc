-- Where reading gives a value, that is the answer, or there was no memory.

use Rattle.std.proofs.Common.{Err, Ok, refl, ◌≡◌}
use Rattle.std.specs.Prelude.{MatchResult, Result}
use Rattle.zq_delta.specs.Answer.{Answers}
use Rattle.zq_delta.specs.declared.fault.OpFault.{OpFault}
use Rattle.zq_delta.specs.declared.fault.OpFault.TheVariants.{Field, Length, NoMemory, Score, Short, Version}

pub value_or_no_memory : {X : Type 0} (r read : Result X OpFault) (x : X) → Answers (λ y. y) r read → read ≡ Ok x → MatchResult r (λ y. y ≡ x) (λ fault. fault ≡ NoMemory)
value_or_no_memory (Ok y) read x answers is = cc
value_or_no_memory (Err NoMemory) read x answers is = refl
value_or_no_memory (Err Short) read x answers is = cc
value_or_no_memory (Err Version) read x answers is = cc
value_or_no_memory (Err (Field place)) read x answers is = cc
value_or_no_memory (Err Length) read x answers is = cc
value_or_no_memory (Err Score) read x answers is = cc
