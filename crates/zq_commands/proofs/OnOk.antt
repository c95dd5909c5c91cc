-- What follows from a fact of a result that is Ok, or not.

use Rattle.std.proofs.Common.{Err, Ok, Result, ap}
use Rattle.std.specs.Result.{IsErrOf, OnErr, OnOk}

pub on_both : {T E : Type 0} {P Q R : Type 0} (r : Result T E) → (P → R) → (Q → R) → OnOk r P → OnErr r Q → R
on_both (Ok x) f g p q = f p
on_both (Err e) f g p q = g q

pub both_ok : (P Q : Type 0) {T E : Type 0} (r : Result T E) → OnOk r P → OnOk r Q → OnOk r (P × Q)
both_ok P Q (Ok x) p q = (p, q)
both_ok P Q (Err e) p q = tt

abbrev error_or : {T E : Type 0} → E → Result T E → E
error_or d (Ok x) = d
error_or d (Err e) = e

-- an error is the same in a result of another type
pub same_error : {T U E : Type 0} (x y : E) → IsErrOf {T = T} (Err x) y → IsErrOf {T = U} (Err x) y
same_error x y is = ap (λ e. Err e) (ap (error_or x) is)

-- what follows from a fact of an error, and what holds anyway
pub on_err_weaker : {T E : Type 0} {P Q : Type 0} (r : Result T E) → (P → Q) → OnErr r P → OnErr r Q
on_err_weaker (Ok x) f p = tt
on_err_weaker (Err e) f p = f p

pub on_err_of : {T E : Type 0} {P : Type 0} (r : Result T E) → P → OnErr r P
on_err_of (Ok x) p = tt
on_err_of (Err e) p = p
