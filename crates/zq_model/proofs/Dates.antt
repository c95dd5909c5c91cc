-- The stamps of a tail, read at two places.

use Rattle.std.proofs.Common.{List, Some, [], ap, arith, suc, sym, true, zero, ℕ, ◌&&◌, ◌∙◌, ◌∷◌, ◌≡◌, ◌≤◌}
use Rattle.std.proofs.lemmas.Bool.{and_parts, leb-true}
use Rattle.std.proofs.lemmas.Option.{none-some, same_Some}
use Rattle.std.specs.Prelude.{nat_le, slice_get}
use Rattle.zq_model.specs.Books.{Record, are_rising, steps_of}

rising_parts : (low high : ℕ) (r : Record) (tail : List Record) → are_rising low high (steps_of (r ∷ tail)) ≡ true →
    (low ≤ r.stamp) × (r.stamp ≤ high) × (are_rising r.stamp high (steps_of tail) ≡ true)
rising_parts low high r tail rising =
    let first : (nat_le low r.stamp ≡ true) × ((nat_le r.stamp high && are_rising r.stamp high (steps_of tail)) ≡ true) = and_parts _ _ rising in
    let rest : (nat_le r.stamp high ≡ true) × (are_rising r.stamp high (steps_of tail) ≡ true) = and_parts _ _ first.1 in
    (leb-true low r.stamp first.0, leb-true r.stamp high rest.0, rest.1)

-- a record's stamp lies between the bounds
pub stamp_within : (low high : ℕ) (tail : List Record) (i : ℕ) (r : Record) → are_rising low high (steps_of tail) ≡ true → slice_get tail i ≡ Some r → (low ≤ r.stamp) × (r.stamp ≤ high)
stamp_within low high [] i r rising is = absurd (none-some r is)
stamp_within low high (q ∷ tail) zero r rising is =
    let parts = rising_parts low high q tail rising in
    let same : q.stamp ≡ r.stamp = ap (λ x. x.stamp) (same_Some q r is) in
    (omega (arith, parts.0), omega (arith, parts.1))
stamp_within low high (q ∷ tail) (suc i) r rising is =
    let parts = rising_parts low high q tail rising in
    let rest : (q.stamp ≤ r.stamp) × (r.stamp ≤ high) = stamp_within q.stamp high tail i r parts.2 is in
    (omega (arith, parts.0, rest.0), rest.1)

-- an earlier record's stamp is no later than a later one's
pub stamps_in_order : (low high : ℕ) (tail : List Record) (i j : ℕ) (r s : Record) → are_rising low high (steps_of tail) ≡ true → i ≤ j →
    slice_get tail i ≡ Some r → slice_get tail j ≡ Some s → r.stamp ≤ s.stamp
stamps_in_order low high [] i j r s rising le is there = absurd (none-some r is)
stamps_in_order low high (q ∷ tail) zero zero r s rising le is there = let same : r.stamp ≡ s.stamp = ap (λ x. x.stamp) (same_Some r s (sym is ∙ there)) in omega arith
stamps_in_order low high (q ∷ tail) zero (suc j) r s rising le is there =
    let parts = rising_parts low high q tail rising in
    let same : q.stamp ≡ r.stamp = ap (λ x. x.stamp) (same_Some q r is) in
    let later = stamp_within q.stamp high tail j s parts.2 there in omega (arith, later.0)
stamps_in_order low high (q ∷ tail) (suc i) zero r s rising le is there = absurd (omega arith)
stamps_in_order low high (q ∷ tail) (suc i) (suc j) r s rising le is there =
    let parts = rising_parts low high q tail rising in
    stamps_in_order q.stamp high tail i j r s parts.2 (omega arith) is there
