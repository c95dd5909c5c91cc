-- What a limiter keeps of the lines that passed.

use Rattle.std.proofs.Common.{Bool, List, [], ap, arith, false, get_or, length, map, min, refl, replicate, take, true, ℕ, zero, suc, ◌++◌, ◌+◌, ◌<◌, ◌≡◌, ◌≤◌, ◌∙◌, ◌∷◌}
use Rattle.std.proofs.lemmas.List.{get_or-map, get_or-take, get_or_append_left, length-map, take-take}
use Rattle.std.specs.Prelude.{if◌then◌else◌}
use Rattle.zq_log.specs.LimitLaws.{AreApart, AreEarly, AtMostTen, limiter_after, passed}
use Rattle.zq_log.specs.Limits.{LAST, WINDOW, free_after, passes}
use Rattle.zq_log.specs.declared.limiter.Limiter.{Limiter}

abbrev due : ℕ → ℕ
due time = time + WINDOW

-- the places that the lines took which passed at these times, and those that nobody took
abbrev places : List ℕ → List ℕ
places times = map due times ++ replicate 10 0

-- one step keeps what is said of the places
stepped : (b : Bool) (now : ℕ) (limiter : Limiter) (times : List ℕ) → limiter.free ≡ take 10 (places times) → min (now + WINDOW) LAST ≡ now + WINDOW → (if b then free_after now limiter.free else limiter.free) ≡ take 10 (places (if b then now ∷ times else times))
stepped true now limiter times same fits =
    ap (λ t. t ∷ take 9 limiter.free) fits ∙ ap (λ xs. (now + WINDOW) ∷ xs) (ap (take 9) same ∙ take-take 9 10 (places times) (omega arith))
stepped false now limiter times same fits = same

-- the field of a choice
chosen : (b : Bool) (x y : Limiter) → (if b then x else y).free ≡ (if b then x.free else y.free)
chosen true x y = refl
chosen false x y = refl

pub free_is : (times : List ℕ) → AreEarly times → (limiter_after times).free ≡ take 10 (places (passed times))
free_is [] early = refl
free_is (now ∷ earlier) early =
    let limiter = limiter_after earlier in
    chosen (passes now limiter.free) _ _
    ∙ stepped (passes now limiter.free) now limiter (passed earlier) (free_is earlier early.1) (omega (arith, early.0))

-- a line that passes came a window after the tenth one before it
spaced : (now : ℕ) (times : List ℕ) → passes now (take 10 (places times)) ≡ true → 9 < length times → get_or times 9 0 + WINDOW ≤ now
spaced now times passing some =
    let taken = get_or-take 10 (places times) 9 0 (omega arith) in
    let size : length (map due times) ≡ length times = length-map times due in
    let mapped = get_or_append_left (map due times) (replicate 10 0) 0 9 (omega (arith, some, size)) in
    let dues = get_or-map due times 9 0 0 some in
    grind (arith, passing, taken, mapped, dues)

apart_on : (b : Bool) (now : ℕ) (times : List ℕ) → (b ≡ true → 9 < length times → get_or times 9 0 + WINDOW ≤ now) → AreApart times → AreApart (if b then now ∷ times else times)
apart_on true now times far apart zero below = far refl (omega (arith, below))
apart_on true now times far apart (suc i) below =
    let next : suc i + 10 ≡ suc (i + 10) = omega arith in
    rw next (apart i (omega (arith, below)))
apart_on false now times far apart i below = apart i below

pub at_most_ten : AtMostTen
at_most_ten [] early = λ i below. absurd (omega (arith, below))
at_most_ten (now ∷ earlier) early =
    let limiter = limiter_after earlier in
    apart_on (passes now limiter.free) now (passed earlier)
    (λ passing some. spaced now (passed earlier) (rw (free_is earlier early.1) at passing) some)
    (at_most_ten earlier early.1)
