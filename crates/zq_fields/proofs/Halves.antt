-- Sixteen bytes are two numbers of eight, the higher one first.

use Rattle.std.proofs.Common.{ap, arith, drop, get_or, length, List, [], ◌∷◌, refl, subst, Some, sym, take, ℕ, ◌%◌, ◌*◌, ◌+◌, ◌++◌, ◌/◌, ◌<◌, ◌^◌, ◌∙◌, ◌≡◌}
use Rattle.std.proofs.lemmas.Int.{to_z-of_z}
use Rattle.std.proofs.lemmas.List.{get_or-drop, get_or-take, length-drop, length-take-le, take-append-drop}
use Rattle.std.proofs.lemmas.Nat.{be_bytes_8, div-mul-add, from_be_bytes-to_be_bytes_8, mod-mul-add}
use Rattle.std.specs.Int.{cast_unsigned, from_be_bytes, to_be_bytes, w64, w128}
use Rattle.std.specs.Prelude.{FitsSigned, negsuc, pos, ℤ}
use native.Mathlib.Nat as nat
use Rattle.zq_fields.proofs.Again.{signed_read}
use Rattle.zq_fields.proofs.Found.{AreBytes, IsFront, front_bytes, whole}
use Rattle.zq_fields.specs.Fields.{signed, signed_field}

-- two to the 64th
abbrev HALF : ℕ
HALF = 18446744073709551616

-- the bytes of the higher half
high_bytes : (n : ℕ) → to_be_bytes w64 (n / HALF) ≡ take 8 (to_be_bytes w128 n)
high_bytes n =
    let at = λ (p : ℕ). ap (λ m. m % 256) (nat.div-div-eq-div-mul n HALF p) in
    λ i. at (256 ^ 7) i ∷ at (256 ^ 6) i ∷ at (256 ^ 5) i ∷ at (256 ^ 4) i ∷ at (256 ^ 3) i ∷ at (256 ^ 2) i ∷ at 256 i ∷ n / HALF % 256 ∷ []

-- the bytes of the lower half
low_bytes : (n : ℕ) → to_be_bytes w64 (n % HALF) ≡ drop 8 (to_be_bytes w128 n)
low_bytes n =
    let at_7 : n % HALF / 256 ^ 7 % 256 ≡ n / 256 ^ 7 % 256 = omega arith in
    let at_6 : n % HALF / 256 ^ 6 % 256 ≡ n / 256 ^ 6 % 256 = omega arith in
    let at_5 : n % HALF / 256 ^ 5 % 256 ≡ n / 256 ^ 5 % 256 = omega arith in
    let at_4 : n % HALF / 256 ^ 4 % 256 ≡ n / 256 ^ 4 % 256 = omega arith in
    let at_3 : n % HALF / 256 ^ 3 % 256 ≡ n / 256 ^ 3 % 256 = omega arith in
    let at_2 : n % HALF / 256 ^ 2 % 256 ≡ n / 256 ^ 2 % 256 = omega arith in
    let at_1 : n % HALF / 256 % 256 ≡ n / 256 % 256 = omega arith in
    let at_0 : n % HALF % 256 ≡ n % 256 = omega arith in
    λ i. at_7 i ∷ at_6 i ∷ at_5 i ∷ at_4 i ∷ at_3 i ∷ at_2 i ∷ at_1 i ∷ at_0 i ∷ []

halves_written : (n : ℕ) → to_be_bytes w128 n ≡ to_be_bytes w64 (n / HALF) ++ to_be_bytes w64 (n % HALF)
halves_written n = sym (take-append-drop 8 (to_be_bytes w128 n)) ∙ λ i. sym (high_bytes n) i ++ sym (low_bytes n) i

-- sixteen bytes are worth what their halves are worth
halves_read : (x : List ℕ) → from_be_bytes w128 x ≡ from_be_bytes w64 (take 8 x) * HALF + from_be_bytes w64 (drop 8 x)
halves_read x =
    let at = λ (i : ℕ) (below : i < 8). get_or-take 8 x i 0 below in
    let past = λ (i : ℕ). get_or-drop 8 x i 0 in
    omega (arith, at 0 (omega arith), at 1 (omega arith), at 2 (omega arith), at 3 (omega arith), at 4 (omega arith), at 5 (omega arith), at 6 (omega arith), at 7 (omega arith), past 0, past 1, past 2, past 3, past 4, past 5, past 6, past 7)

pub read_16 : (n : ℕ) → n < 2 ^ 128 → from_be_bytes w128 (to_be_bytes w128 n) ≡ n
read_16 n fits =
    let high = from_be_bytes-to_be_bytes_8 (n / HALF) (omega arith) in
    let low = from_be_bytes-to_be_bytes_8 (n % HALF) (omega arith) in
    let sum : n / HALF * HALF + n % HALF ≡ n = omega arith in
    halves_read (to_be_bytes w128 n) ∙ (ap (λ x. from_be_bytes w64 x * HALF + from_be_bytes w64 (drop 8 (to_be_bytes w128 n))) (sym (high_bytes n))
    ∙ (ap (λ x. from_be_bytes w64 (to_be_bytes w64 (n / HALF)) * HALF + from_be_bytes w64 x) (sym (low_bytes n))
    ∙ (ap (λ m. m * HALF + from_be_bytes w64 (to_be_bytes w64 (n % HALF))) high ∙ (ap (λ m. n / HALF * HALF + m) low ∙ sum))))

-- eight bytes are worth less than the half of sixteen
below_half : (x : List ℕ) → ((i : ℕ) → get_or x i 0 < 256) → from_be_bytes w64 x < HALF
below_half x small = omega (arith, small 0, small 1, small 2, small 3, small 4, small 5, small 6, small 7)

be_bytes_16 : (x : List ℕ) (n : ℕ) → length x ≡ 16 → ((i : ℕ) → get_or x i 0 < 256) → n ≡ from_be_bytes w128 x → to_be_bytes w128 n ≡ x
be_bytes_16 x n size small is =
    let h = from_be_bytes w64 (take 8 x) in
    let l = from_be_bytes w64 (drop 8 x) in
    let low_small = λ (i : ℕ). let P : ℕ → Type 0 = λ b. b < 256 in subst P (sym (get_or-drop 8 x i 0)) (small (8 + i)) in
    let low_below : l < HALF = below_half (drop 8 x) low_small in
    let sum : n ≡ h * HALF + l = is ∙ halves_read x in
    let high : n / HALF ≡ h = ap (λ m. m / HALF) sum ∙ div-mul-add h HALF l low_below in
    let low : n % HALF ≡ l = ap (λ m. m % HALF) sum ∙ mod-mul-add h HALF l low_below in
    let high_is = be_bytes_8 (take 8 x) (n / HALF) (length-take-le 8 x (omega arith)) (front_bytes 8 x (λ i. record { fits = small i })) high in
    let low_is = be_bytes_8 (drop 8 x) (n % HALF) (omega (arith, length-drop 8 x)) low_small low in
    halves_written n ∙ ((λ i. high_is i ++ low_is i) ∙ take-append-drop 8 x)

pub found_16 : (bytes front rest : List ℕ) (n : ℕ) → AreBytes bytes → IsFront 16 bytes front rest → n ≡ from_be_bytes w128 front → bytes ≡ to_be_bytes w128 n ++ rest
found_16 bytes front rest n small f is =
    let long = f.long in
    whole 16 bytes front rest (to_be_bytes w128 n) f (be_bytes_16 (take 16 bytes) n (length-take-le 16 bytes (omega arith)) (front_bytes 16 bytes small) (rw (← f.front_is) is))

wide_fits : (z : ℤ) → FitsSigned w128 z → cast_unsigned w128 z < 2 ^ 128
wide_fits (pos n) fits = let small = fits.sfits in omega arith
wide_fits (negsuc n) fits = omega arith

pub i128_read : (z : ℤ) (rest : List ℕ) → FitsSigned w128 z → signed_field w128 (signed w128 z ++ rest) ≡ Some (z, rest)
i128_read z rest fits = signed_read w128 z (signed w128 z) rest refl (read_16 (cast_unsigned w128 z) (wide_fits z fits)) (to_z-of_z w128 z fits)
