-- A set without repeats: which operations the test of repeats calls the same.
use Rattle.std.proofs.Common.{◌≡◌, ℕ, true, List, refl, ap, ◌==◌}
use Rattle.std.proofs.lemmas.Bool.{and_from, and_parts, eqb-true, eq-eqb}
use Rattle.std.proofs.lemmas.Bool.Decides.{Decides-int_eq}
use Rattle.zq_model.proofs.Places.{bytes_same, same_bytes}
use Rattle.zq_model.specs.Meaning.{is_of, is_same, is_same_act}
use Rattle.zq_model.specs.Operation.{Act, Bump, Drop, Operation, Put}

pub is_of_parts : (k m : List ℕ) (o : Operation) → is_of k m o ≡ true → (o.key ≡ k) × (o.member ≡ m)
is_of_parts k m o e =
    let parts = and_parts _ _ e in
    (same_bytes o.key k parts.0, same_bytes o.member m parts.1)

pub is_of_from : (k m : List ℕ) (o : Operation) → o.key ≡ k → o.member ≡ m → is_of k m o ≡ true
is_of_from k m o a b = and_from _ _ (bytes_same o.key k a) (bytes_same o.member m b)

same_act : (a b : Act) → is_same_act a b ≡ true → a ≡ b
same_act (Put x) (Put y) e = ap Put ((Decides-int_eq x y).0 e)
same_act (Bump x) (Bump y) e = ap Bump ((Decides-int_eq x y).0 e)
same_act Drop Drop e = refl
same_act (Put x) (Bump y) e = absurd (cc)
same_act (Put x) Drop e = absurd (cc)
same_act (Bump x) (Put y) e = absurd (cc)
same_act (Bump x) Drop e = absurd (cc)
same_act Drop (Put y) e = absurd (cc)
same_act Drop (Bump y) e = absurd (cc)

own_act : (a : Act) → is_same_act a a ≡ true
own_act (Put x) = (Decides-int_eq x x).1 refl
own_act (Bump x) = (Decides-int_eq x x).1 refl
own_act Drop = refl

-- the test of repeats calls only equal operations the same
pub is_same_equal : (o p : Operation) → is_same o p ≡ true → o ≡ p
is_same_equal o p e =
    let at_heap = and_parts (o.heap == p.heap) _ e in
    let at_site = and_parts (o.site == p.site) _ at_heap.1 in
    let at_n = and_parts (o.n == p.n) _ at_site.1 in
    let at_seen = and_parts _ _ at_n.1 in
    let at_act = and_parts _ _ at_seen.1 in
    let place = is_of_parts p.key p.member o at_act.0 in
    λ i. record {
      heap = eqb-true o.heap p.heap at_heap.0 i;
      site = eqb-true o.site p.site at_site.0 i;
      n = eqb-true o.n p.n at_n.0 i;
      seen = same_bytes o.seen p.seen at_seen.0 i;
      key = place.0 i;
      member = place.1 i;
      act = same_act o.act p.act at_act.1 i;
    }

pub is_same_itself : (o : Operation) → is_same o o ≡ true
is_same_itself o =
    and_from _ _ (eq-eqb o.heap o.heap refl) (and_from _ _ (eq-eqb o.site o.site refl) (and_from _ _ (eq-eqb o.n o.n refl)
    (and_from _ _ (bytes_same o.seen o.seen refl) (and_from _ _ (is_of_from o.key o.member o refl refl) (own_act o.act)))))
