-- Whether an operation is on a member of a key.

use Rattle.std.proofs.Common.{List, eq-eqb, eqb-true, nat_eq, refl, sym, true, true≢false, ℕ, ◌&&◌, ◌==◌, ◌≡◌}
use Rattle.std.proofs.lemmas.Bool.{and_from, and_parts}
use Rattle.std.proofs.lemmas.Slice.Eq.{bytes_eq-Decides}
use Rattle.std.specs.Cmp.Lexicographic.{pointwise}
use Rattle.zq_model.specs.Entry.{is_put_of}
use Rattle.zq_model.specs.Operation.{Act, Bump, Drop, Operation, Put, is_on, is_put, is_removal}

pub same_bytes : (x y : List ℕ) → pointwise nat_eq x y ≡ true → x ≡ y
same_bytes x y e = (bytes_eq-Decides x y).0 e

pub bytes_same : (x y : List ℕ) → x ≡ y → pointwise nat_eq x y ≡ true
bytes_same x y e = (bytes_eq-Decides x y).1 e

pub is_on_parts : (h : ℕ) (k m : List ℕ) (o : Operation) → is_on h k m o ≡ true → (o.heap ≡ h) × (o.key ≡ k) × (o.member ≡ m)
is_on_parts h k m o e =
    let parts : ((o.heap == h) ≡ true) × ((pointwise nat_eq o.key k && pointwise nat_eq o.member m) ≡ true) = and_parts _ _ e in
    let more : (pointwise nat_eq o.key k ≡ true) × (pointwise nat_eq o.member m ≡ true) = and_parts _ _ parts.1 in
    (eqb-true _ _ parts.0, same_bytes _ _ more.0, same_bytes _ _ more.1)

pub is_on_from : (h : ℕ) (k m : List ℕ) (o : Operation) → o.heap ≡ h → o.key ≡ k → o.member ≡ m → is_on h k m o ≡ true
is_on_from h k m o a b c = and_from _ _ (eq-eqb _ _ a) (and_from _ _ (bytes_same _ _ b) (bytes_same _ _ c))

pub is_put_of_parts : (h : ℕ) (k m : List ℕ) (s : ℕ) (o : Operation) → is_put_of h k m s o ≡ true → (is_on h k m o ≡ true) × (o.site ≡ s) × (is_put o.act ≡ true)
is_put_of_parts h k m s o e =
    let parts : (is_on h k m o ≡ true) × (((o.site == s) && is_put o.act) ≡ true) = and_parts _ _ e in
    let more : ((o.site == s) ≡ true) × (is_put o.act ≡ true) = and_parts _ _ parts.1 in
    (parts.0, eqb-true _ _ more.0, more.1)

pub is_put_of_from : (h : ℕ) (k m : List ℕ) (s : ℕ) (o : Operation) → is_on h k m o ≡ true → o.site ≡ s → is_put o.act ≡ true → is_put_of h k m s o ≡ true
is_put_of_from h k m s o a b c = and_from _ _ a (and_from _ _ (eq-eqb _ _ b) c)

pub put_removes : (a : Act) → is_put a ≡ true → is_removal a ≡ true
put_removes (Put score) e = refl
put_removes (Bump increment) e = absurd (true≢false (sym e))
put_removes Drop e = refl
