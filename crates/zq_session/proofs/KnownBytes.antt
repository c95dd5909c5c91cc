-- Known bytes read and written in turn.
use Rattle.std.proofs.Common.{ℕ, ◌+◌, Option, None, Some, List, [], ◌++◌, take, drop, refl, sym, ap, ◌∙◌, subst, append_assoc, append-nil}
use Rattle.std.specs.Io.KnownBytes.{Appends, Consumes, Keeps}
use Rattle.std.proofs.Math.Seq.{take-add}

pub appends-none : (a : Option (List ℕ)) → Appends a a []
appends-none None = tt
appends-none (Some x) = sym (append-nil x)

pub appends-join : (a b c : Option (List ℕ)) (first second : List ℕ) → Appends a b first → Appends b c second → Appends a c (first ++ second)
appends-join None b c first second p q = tt
appends-join (Some x) None c first second p q = absurd p
appends-join (Some x) (Some y) None first second p q = absurd q
appends-join (Some x) (Some y) (Some z) first second p q = q ∙ ap (λ l. l ++ second) p ∙ append_assoc x first second

-- The front of some bytes stands, and then the front of the rest.
pub appends-on : (a b c : Option (List ℕ)) (bytes : List ℕ) (at count : ℕ)
    → Appends a b (take at bytes) → Appends b c (take count (drop at bytes)) → Appends a c (take (at + count) bytes)
appends-on a b c bytes at count p q = subst (Appends a c) (sym (take-add at count bytes)) (appends-join a b c _ _ p q)

pub keeps-none : (a : Option (List ℕ)) → Keeps a a
keeps-none None = tt
keeps-none (Some x) = refl

pub keeps-join : (a b c : Option (List ℕ)) → Keeps a b → Keeps b c → Keeps a c
keeps-join None b c p q = tt
keeps-join (Some x) None c p q = absurd p
keeps-join (Some x) (Some y) None p q = absurd q
keeps-join (Some x) (Some y) (Some z) p q = q ∙ p

-- What was kept is then read, or grows.
pub kept-consumes : (a b c : Option (List ℕ)) (bytes : List ℕ) → Keeps a b → Consumes b c bytes → Consumes a c bytes
kept-consumes None b c bytes p q = tt
kept-consumes (Some x) None c bytes p q = absurd p
kept-consumes (Some x) (Some y) None bytes p q = absurd q
kept-consumes (Some x) (Some y) (Some z) bytes p q = sym p ∙ q

pub kept-appends : (a b c : Option (List ℕ)) (bytes : List ℕ) → Keeps a b → Appends b c bytes → Appends a c bytes
kept-appends None b c bytes p q = tt
kept-appends (Some x) None c bytes p q = absurd p
kept-appends (Some x) (Some y) None bytes p q = absurd q
kept-appends (Some x) (Some y) (Some z) bytes p q = q ∙ ap (λ l. l ++ bytes) p

pub consumes-kept : (a b : Option (List ℕ)) → Keeps a b → Consumes a b []
consumes-kept None b p = tt
consumes-kept (Some x) None p = absurd p
consumes-kept (Some x) (Some y) p = sym p

pub consumes-none : (a : Option (List ℕ)) → Consumes a a []
consumes-none None = tt
consumes-none (Some x) = refl

pub consumes-join : (a b c : Option (List ℕ)) (first second : List ℕ) → Consumes a b first → Consumes b c second → Consumes a c (first ++ second)
consumes-join None b c first second p q = tt
consumes-join (Some x) None c first second p q = absurd p
consumes-join (Some x) (Some y) None first second p q = absurd q
consumes-join (Some x) (Some y) (Some z) first second p q = p ∙ ap (λ l. first ++ l) q ∙ sym (append_assoc first second z)

-- A read that gave nothing took nothing.
pub consumes-no-more : (a b c : Option (List ℕ)) (bytes : List ℕ) → Consumes a b bytes → Consumes b c [] → Consumes a c bytes
consumes-no-more a b c bytes p q = subst (Consumes a c) (append-nil bytes) (consumes-join a b c bytes [] p q)
