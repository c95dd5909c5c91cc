-- A list to which an element was pushed.
use Rattle.std.proofs.Common.{ap, arith}
use Rattle.std.proofs.lemmas.List.{length-append}
use Rattle.std.specs.Prelude.{List, [], length, ◌+◌, ◌++◌, ◌∷◌, ◌≡◌}

-- it is longer by one
pub longer : {A : Type 0} (new old : List A) (x : A) → new ≡ old ++ (x ∷ []) → length new ≡ length old + 1
longer new old x is = omega (arith, ap length is, length-append old (x ∷ []))
