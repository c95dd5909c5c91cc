-- A list, by its ends.
use Rattle.std.specs.Prelude.{List, drop, length, take, ℕ, ◌++◌, ◌+◌, ◌-◌, ◌≡◌, ◌≤◌}
use Rattle.std.proofs.Common.{ap, arith, sym, ◌∙◌}
use Rattle.std.proofs.lemmas.List.{drop-drop, take-append-drop}

-- behind the first elements are the last ones, without some of them
behind : (n : ℕ) (xs : List ℕ) → n ≤ length xs → length xs ≤ n + n → drop n xs ≡ drop (n - (length xs - n)) (drop (length xs - n) xs)
behind n xs there short =
    let all : (length xs - n) + (n - (length xs - n)) ≡ n = omega (arith, there, short) in
    sym (drop-drop (n - (length xs - n)) (length xs - n) xs ∙ ap (λ k. drop k xs) all)

-- lists of one length are equal where the first elements and the last ones are, which leave none out
pub ends_make : (n : ℕ) (xs ys : List ℕ) → length xs ≡ length ys → n ≤ length xs → length xs ≤ n + n →
    take n xs ≡ take n ys → drop (length xs - n) xs ≡ drop (length ys - n) ys → xs ≡ ys
ends_make n xs ys alike there short first last =
    let rest : drop n xs ≡ drop n ys =
    behind n xs there short
    ∙ ap (λ zs. drop (n - (length xs - n)) zs) last
    ∙ ap (λ k. drop (n - (k - n)) (drop (length ys - n) ys)) alike
    ∙ sym (behind n ys (omega (arith, alike, there)) (omega (arith, alike, short))) in
    sym (take-append-drop n xs) ∙ ap (λ zs. zs ++ drop n xs) first ∙ ap (λ zs. take n ys ++ zs) rest ∙ take-append-drop n ys
