-- What follows from how a call ended.
use Rattle.std.specs.Prelude.{Err, IsOk, Ok, OnErr, OnOk, Result}
use Rattle.std.proofs.Common.{sym, true≢false}

-- what stands after a call that ended well
pub when_ok : {V E A : Type 0} (r : Result V E) → IsOk r → OnOk r A → A
when_ok (Ok v) ok done = done
when_ok (Err e) ok done = absurd (true≢false (sym ok))

-- what follows from either outcome
pub either_way : {V E A B : Type 0} (r : Result V E) (C : Type 0) → OnOk r A → OnErr r B → (A → C) → (B → C) → C
either_way (Ok v) C done refused ok err = ok done
either_way (Err e) C done refused ok err = err refused
