-- Numbers by groups of seven bits are read as they were written.

use Rattle.std.proofs.Common.{ap, arith, Err, inl, inr, List, None, Ok, refl, subst, suc, sym, zero, [], ℕ, ◌*◌, ◌+◌, ◌++◌, ◌-◌, ◌<◌, ◌∙◌, ◌∷◌, ◌≡◌, ◌≤◌, ◌/◌, ◌%◌, ◌^◌, true, false}
use Rattle.std.proofs.Math.Nat.{div-add-mod, mod-lt}
use Rattle.std.proofs.lemmas.Bool.{cases_lt}
use Rattle.std.proofs.lemmas.Bool.Decides.{nat_tests}
use Rattle.std.proofs.lemmas.Nat.{div_below}
use Rattle.std.specs.Prelude.{nat_le, nat_lt}
use Rattle.zq_fields.specs.Fields.{byte_field}
use Rattle.zq_fields.specs.Reading.{place}
use Rattle.zq_fields.specs.declared.fault.PartFault.{PartFault}
use Rattle.zq_fields.specs.declared.fault.PartFault.TheVariants.{Field, Short}
use Rattle.zq_batch.specs.Varint.{MOST_GROUPS, groups, groups_at, numbers, varint, varint_in}

pub numbers_none : numbers 0 ≡ 1
unfolding numbers
numbers_none = refl

-- one more than one less
one_back : (k : ℕ) → 0 < k → suc (k - 1) ≡ k
one_back k some = omega arith

numbers_suc : (k : ℕ) → numbers (suc k) ≡ 128 * numbers k
unfolding numbers
numbers_suc k = refl

pub numbers_next : (k : ℕ) → 0 < k → numbers k ≡ 128 * numbers (k - 1)
numbers_next k some = sym (ap numbers (one_back k some)) ∙ numbers_suc (k - 1)

pub numbers_some : (k : ℕ) → 1 ≤ numbers k
unfolding numbers
numbers_some zero = omega arith
numbers_some (suc k) = let more = numbers_some k in omega arith

pub numbers_all : numbers MOST_GROUPS ≡ 2 ^ 56
unfolding numbers
numbers_all = refl

numbers_rise : (k d : ℕ) → numbers k ≤ numbers (k + d)
unfolding numbers
numbers_rise k zero = let same : k ≡ k + 0 = omega arith in omega (arith, ap numbers same)
numbers_rise k (suc d) =
    let next : k + suc d ≡ suc (k + d) = omega arith in
    let more = numbers_rise k d in
    let some = numbers_some (k + d) in
    omega (arith, ap numbers next)

-- a number of so many groups or fewer has less than 56 bits
pub numbers_most : (k : ℕ) → k ≤ MOST_GROUPS → numbers k ≤ 2 ^ 56
numbers_most k few =
    let whole : k + (MOST_GROUPS - k) ≡ MOST_GROUPS = omega arith in
    omega (arith, numbers_rise k (MOST_GROUPS - k), ap numbers whole, numbers_all)

pub at_none : (at : ℕ) (bytes : List ℕ) → groups_at 0 at bytes ≡ Err (Field at)
unfolding groups_at
at_none at bytes = refl

pub at_short : (k at : ℕ) → 0 < k → groups_at k at [] ≡ Err Short
unfolding groups_at
at_short zero at some = elim some [ ]
at_short (suc k) at some = refl

-- no byte is left
pub at_end : (k at : ℕ) (bytes : List ℕ) → 0 < k → byte_field bytes ≡ None → groups_at k at bytes ≡ Err Short
at_end k at [] some none = at_short k at some
at_end k at (b ∷ bytes) some none = cc

pub at_last : (k at b : ℕ) (rest : List ℕ) → 0 < k → b < 128 → groups_at k at (b ∷ rest) ≡ Ok (b, rest)
unfolding groups_at
at_last zero at b rest some small = elim some [ ]
at_last (suc k) at b rest some small = let test : nat_lt b 128 ≡ true = grind (arith, nat_tests) in rw test refl

more_at : (k at b n : ℕ) (rest left : List ℕ) → 128 ≤ b → groups_at k at rest ≡ Ok (n, left) → 0 < n → groups_at (suc k) at (b ∷ rest) ≡ Ok (b - 128 + 128 * n, left)
unfolding groups_at
more_at k at b n rest left great e high =
    let test : nat_lt b 128 ≡ false = grind (arith, nat_tests) in
    let over : nat_lt 0 n ≡ true = grind (arith, nat_tests) in
    rw (test, e, over) refl

pub at_more : (k at b n : ℕ) (rest left : List ℕ) → 0 < k → 128 ≤ b → groups_at (k - 1) at rest ≡ Ok (n, left) → 0 < n → groups_at k at (b ∷ rest) ≡ Ok (b - 128 + 128 * n, left)
at_more k at b n rest left some great e high = subst (λ m. groups_at m at (b ∷ rest) ≡ Ok (b - 128 + 128 * n, left)) (one_back k some) (more_at (k - 1) at b n rest left great e high)

long_at : (k at b n : ℕ) (rest left : List ℕ) → 128 ≤ b → groups_at k at rest ≡ Ok (n, left) → n ≡ 0 → groups_at (suc k) at (b ∷ rest) ≡ Err (Field at)
unfolding groups_at
long_at k at b n rest left great e none =
    let test : nat_lt b 128 ≡ false = grind (arith, nat_tests) in
    rw (test, e, none) refl

pub at_long : (k at b n : ℕ) (rest left : List ℕ) → 0 < k → 128 ≤ b → groups_at (k - 1) at rest ≡ Ok (n, left) → n ≡ 0 → groups_at k at (b ∷ rest) ≡ Err (Field at)
at_long k at b n rest left some great e none = subst (λ m. groups_at m at (b ∷ rest) ≡ Err (Field at)) (one_back k some) (long_at (k - 1) at b n rest left great e none)

fails_at : (k at b : ℕ) (rest : List ℕ) (fault : PartFault) → 128 ≤ b → groups_at k at rest ≡ Err fault → groups_at (suc k) at (b ∷ rest) ≡ Err fault
unfolding groups_at
fails_at k at b rest fault great e =
    let test : nat_lt b 128 ≡ false = grind (arith, nat_tests) in
    rw (test, e) refl

pub at_fails : (k at b : ℕ) (rest : List ℕ) (fault : PartFault) → 0 < k → 128 ≤ b → groups_at (k - 1) at rest ≡ Err fault → groups_at k at (b ∷ rest) ≡ Err fault
at_fails k at b rest fault some great e = subst (λ m. groups_at m at (b ∷ rest) ≡ Err fault) (one_back k some) (fails_at (k - 1) at b rest fault great e)

pub groups_none : (n : ℕ) → groups 0 n ≡ []
unfolding groups
groups_none n = refl

pub groups_last : (k n : ℕ) → 0 < k → n < 128 → groups k n ≡ n ∷ []
unfolding groups
groups_last zero n some small = elim some [ ]
groups_last (suc k) n some small = let test : nat_lt n 128 ≡ true = grind (arith, nat_tests) in rw test refl

more_groups : (k n : ℕ) → 128 ≤ n → groups (suc k) n ≡ (128 + n % 128) ∷ groups k (n / 128)
unfolding groups
more_groups k n great = let test : nat_lt n 128 ≡ false = grind (arith, nat_tests) in rw test refl

pub groups_more : (k n : ℕ) → 0 < k → 128 ≤ n → groups k n ≡ (128 + n % 128) ∷ groups (k - 1) (n / 128)
groups_more k n some great = subst (λ m. groups m n ≡ (128 + n % 128) ∷ groups (k - 1) (n / 128)) (one_back k some) (more_groups (k - 1) n great)

-- the parts of a number: the lowest group, and the others
low_of : (b n : ℕ) → 128 ≤ b → b < 256 → 128 + (b - 128 + 128 * n) % 128 ≡ b
low_of b n great byte =
    let low : (b - 128 + 128 * n) % 128 < 128 = mod-lt (b - 128 + 128 * n) (omega arith) in
    omega (arith, div-add-mod (b - 128 + 128 * n) 128)

high_of : (b n : ℕ) → 128 ≤ b → b < 256 → (b - 128 + 128 * n) / 128 ≡ n
high_of b n great byte =
    let low : (b - 128 + 128 * n) % 128 < 128 = mod-lt (b - 128 + 128 * n) (omega arith) in
    omega (arith, div-add-mod (b - 128 + 128 * n) 128)

-- a number that was read is spelled so
pub groups_found : (k b n : ℕ) (rest left : List ℕ) → 0 < k → 128 ≤ b → b < 256 → 0 < n → rest ≡ groups (k - 1) n ++ left → b ∷ rest ≡ groups k (b - 128 + 128 * n) ++ left
groups_found k b n rest left some great byte high is =
    let whole = groups_more k (b - 128 + 128 * n) some (omega arith) in
    ap (λ r. b ∷ r) is ∙ sym (ap (λ x. x ++ left) (whole ∙ (λ i. low_of b n great byte i ∷ groups (k - 1) (high_of b n great byte i))))

pub more_below : (k b n : ℕ) → 0 < k → b < 256 → n < numbers (k - 1) → b - 128 + 128 * n < numbers k
more_below k b n some byte below = let next = numbers_next k some in omega arith

again_more : (k at n : ℕ) (rest : List ℕ) → 128 ≤ n → groups_at k at (groups k (n / 128) ++ rest) ≡ Ok (n / 128, rest) → groups_at (suc k) at (groups (suc k) n ++ rest) ≡ Ok (n, rest)
again_more k at n rest great again =
    let low : n % 128 < 128 = mod-lt n (omega arith) in
    let parts = div-add-mod n 128 in
    let high : 0 < n / 128 = omega arith in
    let whole : (128 + n % 128) - 128 + 128 * (n / 128) ≡ n = omega arith in
    ap (λ x. groups_at (suc k) at (x ++ rest)) (more_groups k n great)
    ∙ (more_at k at (128 + n % 128) (n / 128) (groups k (n / 128) ++ rest) rest (omega arith) again high ∙ ap (λ m. Ok (m, rest)) whole)

-- a number that was written is read again
pub groups_again : (k at n : ℕ) (rest : List ℕ) → 0 < k → n < numbers k → groups_at k at (groups k n ++ rest) ≡ Ok (n, rest)
groups_again zero at n rest some below = elim some [ ]
groups_again (suc zero) at n rest some below =
    let small : n < 128 = omega (arith, numbers_suc 0, numbers_none) in
    ap (λ x. groups_at 1 at (x ++ rest)) (groups_last 1 n some small) ∙ at_last 1 at n rest some small
groups_again (suc (suc k)) at n rest some below = elim (cases_lt n 128) [
  | inl small ↦ ap (λ x. groups_at (suc (suc k)) at (x ++ rest)) (groups_last (suc (suc k)) n some small) ∙ at_last (suc (suc k)) at n rest some small
  | inr great ↦ again_more (suc k) at n rest great (groups_again (suc k) at (n / 128) rest (omega arith) (div_below n 128 (numbers (suc k)) (omega arith) (omega (arith, numbers_suc (suc k)))))
]

in_of : (whole low last n : ℕ) (bytes rest : List ℕ) → groups_at MOST_GROUPS (place whole bytes) bytes ≡ Ok (n, rest) → low ≤ n → n ≤ last → varint_in whole low last bytes ≡ Ok (n, rest)
unfolding varint_in
in_of whole low last n bytes rest e from within =
    let least : nat_le low n ≡ true = grind (arith, nat_tests) in
    let most : nat_le n last ≡ true = grind (arith, nat_tests) in
    rw (e, least, most) refl

pub varint_again : (whole low last n : ℕ) (rest : List ℕ) → low ≤ n → n ≤ last → n < 2 ^ 56 → varint_in whole low last (varint n ++ rest) ≡ Ok (n, rest)
varint_again whole low last n rest from within small =
    let all = numbers_all in
    in_of whole low last n (varint n ++ rest) rest (groups_again MOST_GROUPS (place whole (varint n ++ rest)) n rest (omega arith) (omega arith)) from within
