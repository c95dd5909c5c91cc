-- Known bytes read and written in turn.

use Rattle.std.proofs.Common.{None, Option, Some, List, [], ap, append-nil, append_assoc, refl, sym, ℕ, ◌++◌, ◌∙◌}
use Rattle.std.specs.Io.KnownBytes.{Appends, Consumes}

pub appends_none : (a : Option (List ℕ)) → Appends a a []
appends_none None = tt
appends_none (Some x) = sym (append-nil x)

pub appends_join : (a b c : Option (List ℕ)) (first second : List ℕ) → Appends a b first → Appends b c second → Appends a c (first ++ second)
appends_join None b c first second p q = tt
appends_join (Some x) None c first second p q = absurd p
appends_join (Some x) (Some y) None first second p q = absurd q
appends_join (Some x) (Some y) (Some z) first second p q = q ∙ ap (λ l. l ++ second) p ∙ append_assoc x first second

pub consumes_none : (a : Option (List ℕ)) → Consumes a a []
consumes_none None = tt
consumes_none (Some x) = refl

pub consumes_join : (a b c : Option (List ℕ)) (first second : List ℕ) → Consumes a b first → Consumes b c second → Consumes a c (first ++ second)
consumes_join None b c first second p q = tt
consumes_join (Some x) None c first second p q = absurd p
consumes_join (Some x) (Some y) None first second p q = absurd q
consumes_join (Some x) (Some y) (Some z) first second p q = p ∙ ap (λ l. first ++ l) q ∙ sym (append_assoc first second z)
