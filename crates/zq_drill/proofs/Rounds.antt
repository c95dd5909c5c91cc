-- What holds in any case holds where there was no error.
use Rattle.std.specs.Prelude.{Err, Ok, OnOk, Result}

pub on_ok : {A E : Type 0} {P : Type 0} (r : Result A E) → P → OnOk r P
on_ok (Ok a) p = p
on_ok (Err e) p = tt
