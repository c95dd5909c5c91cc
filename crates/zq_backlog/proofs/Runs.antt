-- Texts in a run of bytes, by where each ends.

use Rattle.std.proofs.Common.{List, [], ap, arith, drop, get_or, length, refl, slice_range, suc, sum_by, take, zero, ℕ, ◌++◌, ◌+◌, ◌-◌, ◌<◌, ◌∙◌, ◌∷◌, ◌≡◌, ◌≤◌}
use Rattle.std.proofs.lemmas.List.{drop-append-le, length-drop, length-take-le, take-append-le, take_all}
use Rattle.std.proofs.lemmas.List.Sums.{sum_by-cons}
use Rattle.zq_backlog.specs.Run.{AreEnds, cut, start_at}

pub length-cut : (s : ℕ) (ends bytes : List ℕ) → length (cut s ends bytes) ≡ length ends
length-cut s [] bytes = refl
length-cut s (e ∷ ends) bytes = let rest = length-cut e ends bytes in omega arith

-- a text is what lies between where it begins and where it ends
pub cut_at : (k s : ℕ) (ends bytes : List ℕ) → k < length ends → get_or (cut s ends bytes) k [] ≡ slice_range bytes (start_at s ends k) (get_or ends k 0)
cut_at k s [] bytes h = absurd (omega arith)
cut_at zero s (e ∷ ends) bytes h = refl
cut_at (suc zero) s (e ∷ ends) bytes h = cut_at zero e ends bytes (omega arith)
cut_at (suc (suc k)) s (e ∷ ends) bytes h = cut_at (suc k) e ends bytes (omega arith)

start_within : (s n : ℕ) (ends : List ℕ) → AreEnds s ends n → s ≤ n
start_within s n [] h = omega (arith, h)
start_within s n (e ∷ ends) h = let rest = start_within e n ends h.1 in omega (arith, h.0, rest)

pub ends_within : (k s n : ℕ) (ends : List ℕ) → AreEnds s ends n → k < length ends → get_or ends k 0 ≤ n
ends_within k s n [] h in' = absurd (omega arith)
ends_within zero s n (e ∷ ends) h in' = start_within e n ends h.1
ends_within (suc k) s n (e ∷ ends) h in' = ends_within k e n ends h.1 (omega arith)

pub starts_before : (k s n : ℕ) (ends : List ℕ) → AreEnds s ends n → k < length ends → start_at s ends k ≤ get_or ends k 0
starts_before k s n [] h in' = absurd (omega arith)
starts_before zero s n (e ∷ ends) h in' = h.0
starts_before (suc zero) s n (e ∷ ends) h in' = starts_before zero e n ends h.1 (omega arith)
starts_before (suc (suc k)) s n (e ∷ ends) h in' = starts_before (suc k) e n ends h.1 (omega arith)

long_range : (from to : ℕ) (bytes : List ℕ) → from ≤ to → to ≤ length bytes → length (slice_range bytes from to) ≡ to - from
long_range from to bytes order within =
    let left = length-drop from bytes in
    length-take-le (to - from) (drop from bytes) (omega (arith, left))

-- the texts have the bytes
pub sum-cut : (s n : ℕ) (ends bytes : List ℕ) → AreEnds s ends n → n ≤ length bytes → sum_by (length {A = ℕ}) (cut s ends bytes) + s ≡ n
sum-cut s n [] bytes h within = omega (arith, h)
sum-cut s n (e ∷ ends) bytes h within =
    let rest : sum_by (length {A = ℕ}) (cut e ends bytes) + e ≡ n = sum-cut e n ends bytes h.1 within in
    let below : e ≤ n = start_within e n ends h.1 in
    let first : length (slice_range bytes s e) ≡ e - s = long_range s e bytes h.0 (omega (arith, below)) in
    let both = sum_by-cons (length {A = ℕ}) (slice_range bytes s e) (cut e ends bytes) in
    omega (arith, both, first, rest, h.0)

-- ---- one more text

range_kept : (from to : ℕ) (bytes text : List ℕ) → from ≤ to → to ≤ length bytes → slice_range (bytes ++ text) from to ≡ slice_range bytes from to
range_kept from to bytes text order within =
    let left = length-drop from bytes in
    ap (take (to - from)) (drop-append-le from bytes text (omega arith))
    ∙ take-append-le (to - from) (drop from bytes) text (omega (arith, left))

range_new : (bytes text : List ℕ) → slice_range (bytes ++ text) (length bytes) (length bytes + length text) ≡ text
range_new bytes text =
    ap (take ((length bytes + length text) - length bytes)) (drop_own bytes text)
    ∙ take_all ((length bytes + length text) - length bytes) text (omega arith)
  where
    drop_own : (xs ys : List ℕ) → drop (length xs) (xs ++ ys) ≡ ys
    drop_own [] ys = refl
    drop_own (x ∷ xs) ys = drop_own xs ys

pub cut_push : (s : ℕ) (ends bytes text : List ℕ) → AreEnds s ends (length bytes) → cut s (ends ++ (length bytes + length text) ∷ []) (bytes ++ text) ≡ cut s ends bytes ++ text ∷ []
cut_push s [] bytes text h =
    ap (λ from. slice_range (bytes ++ text) from (length bytes + length text) ∷ []) h
    ∙ ap (λ t. t ∷ []) (range_new bytes text)
cut_push s (e ∷ ends) bytes text h =
    let within : e ≤ length bytes = start_within e (length bytes) ends h.1 in
    ap (λ t. t ∷ cut e (ends ++ (length bytes + length text) ∷ []) (bytes ++ text)) (range_kept s e bytes text h.0 within)
    ∙ ap (λ ts. slice_range bytes s e ∷ ts) (cut_push e ends bytes text h.1)

pub ends_push : (s n more : ℕ) (ends : List ℕ) → AreEnds s ends n → AreEnds s (ends ++ (n + more) ∷ []) (n + more)
ends_push s n more [] h = (omega (arith, h), refl)
ends_push s n more (e ∷ ends) h = (h.0, ends_push e n more ends h.1)
