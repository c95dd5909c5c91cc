-- The first pairs of books, and which of them is the least.

use Rattle.std.proofs.Common.{None, Option, Some, [], false, refl, sym, true, ◌∷◌, ◌≡◌}
use Rattle.std.proofs.lemmas.Bool.{cond-false, cond-true}
use Rattle.std.specs.Ordering.{is_lt}
use Rattle.std.specs.Prelude.{is_some, slice_get}
use Rattle.zq_model.specs.Meaning.{Scored, scored_cmp}
use Rattle.zq_model.specs.Merging.{least}
use Rattle.zq_model.specs.Moves.{Queue}
use Rattle.zq_semantics.specs.Plan.{is_there}
use Rattle.zq_world.specs.Near.{is_least}

pub least_if : (p q : Option Scored) → is_least p q ≡ true → p ≡ least p q
least_if None q is = absurd (cc)
least_if (Some p) None is = refl
least_if (Some p) (Some q) is = sym (cond-true (is_lt (scored_cmp p q)) (Some p) (Some q) is)

pub least_else : (p q : Option Scored) → is_least p q ≡ false → q ≡ least p q
least_else None q is = refl
least_else (Some p) None is = absurd (cc)
least_else (Some p) (Some q) is = sym (cond-false (is_lt (scored_cmp p q)) (Some p) (Some q) is)

-- there is a first pair where the queue has any
pub first_there : (q : Queue) → is_some (slice_get q 0) ≡ is_there q
first_there [] = refl
first_there (x ∷ q) = refl
