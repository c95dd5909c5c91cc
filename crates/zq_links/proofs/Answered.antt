-- Where reading gives a value, that is the answer, or there was no memory where some is taken.

use Rattle.std.proofs.Common.{Err, Ok, inl, inr, ◌≡◌}
use Rattle.std.specs.Prelude.{IsOkAnd, MatchResult, Result}
use Rattle.zq_links.specs.Answer.{Answers, Gives}
use Rattle.zq_links.specs.declared.frame_fault.FrameFault.{FrameFault}

pub value_or_no_memory : {X Y : Type 0} (Memory : FrameFault → Type 0) (view : X → Y) (r : Result X FrameFault) (read : Result Y FrameFault) (y : Y) → Answers Memory view r read → read ≡ Ok y → MatchResult r (λ x. view x ≡ y) Memory
value_or_no_memory Memory view (Ok x) read y answers is = cc
value_or_no_memory Memory view (Err fault) read y (inl none) is = none
value_or_no_memory Memory view (Err fault) read y (inr e) is = absurd (cc)

pub value_is_read : {X Y : Type 0} (view : X → Y) (r : Result X FrameFault)
    (read : Result Y FrameFault) (y : Y) → Gives view r read → read ≡ Ok y → IsOkAnd r
    (λ x. view x ≡ y)
value_is_read view (Ok x) read y gives is = cc
value_is_read view (Err fault) read y gives is = absurd (cc)
