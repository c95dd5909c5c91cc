-- Parts of lists by places, and of turned lists.
use Rattle.std.proofs.Common.{ap, append_assoc, arith, refl, sym, ◌∙◌}
use Rattle.std.proofs.lemmas.List.{get_or-drop, get_or-reverse, get_or-take, length-drop, length-reverse, length-take, map-append, reverse-append, same_lists}
use Rattle.std.specs.Prelude.{List, [], drop, get_or, length, map, min, reverse, suc, take, ℕ, ◌++◌, ◌+◌, ◌-◌, ◌<◌, ◌≡◌, ◌∷◌}
use Rattle.zq_queue.specs.Listed.{part}

module _ {X : Type 0} (xs : List X) where
  length-part : (from to : ℕ) → length (part from to xs) ≡ min (to - from) (length xs - from)
  length-part from to = length-take (to - from) (drop from xs) ∙ ap (min (to - from)) (length-drop from xs)

  -- a part of the turned list is a part of the list, turned
  pub turned_part : (from to : ℕ) → reverse (part (length xs - to) (length xs - from) xs) ≡ part from to (reverse xs)
  turned_part from to =
      let n = length xs in
      let inner = part (n - to) (n - from) xs in
      let long = length-part (n - to) (n - from) in
      let turned = length-reverse inner in
      let outer = length-take (to - from) (drop from (reverse xs)) in
      let rest = length-drop from (reverse xs) in
      let whole = length-reverse xs in
      same_lists (reverse inner) (part from to (reverse xs)) (omega (arith, long, turned, outer, rest, whole)) (λ k d within.
      let here : k < length inner = omega (arith, within, turned) in
      let j = length inner - 1 - k in
      let in_part : j < n - from - (n - to) = omega (arith, here, long) in
      let at : n - to + j ≡ n - 1 - (from + k) = omega (arith, here, long) in
      get_or-reverse inner k d here ∙ get_or-take (n - from - (n - to)) (drop (n - to) xs) j d in_part ∙ get_or-drop (n - to) xs j d
      ∙ ap (λ i. get_or xs i d) at
      ∙ sym (get_or-take (to - from) (drop from (reverse xs)) k d (omega (arith, here, long)) ∙ get_or-drop from (reverse xs) k d
      ∙ get_or-reverse xs (from + k) d (omega (arith, here, long))))

-- a map of a turned list
pub map_reversed : {X Y : Type 0} (f : X → Y) (xs : List X) → map f (reverse xs) ≡ reverse (map f xs)
map_reversed f [] = refl
map_reversed f (x ∷ xs) =
    ap (map f) (reverse-append (x ∷ []) xs) ∙ map-append f (reverse xs) (x ∷ []) ∙ ap (λ ys. ys ++ f x ∷ []) (map_reversed f xs) ∙ sym (reverse-append (f x ∷ []) (map f xs))

-- one more of the first so many of a list
pub one_taken : {X : Type 0} (done left rest all : List X) (n k : ℕ) (x : X) → left ≡ x ∷ rest → n ≡ k + 1 → done ++ take n left ≡ all → (done ++ x ∷ []) ++ take k rest ≡ all
one_taken done left rest all n k x next more is =
    let one : n ≡ suc k = omega (arith, more) in
    append_assoc done (x ∷ []) (take k rest) ∙ sym (λ i. done ++ take (one i) (next i)) ∙ is

-- a part is so many, up to its end or the list's
pub part_count : {X : Type 0} (xs : List X) (from to : ℕ) → take (min to (length xs) - from) (drop from xs) ≡ part from to xs
part_count xs from to =
    let rest = length-drop from xs in
    let long = length-take (min to (length xs) - from) (drop from xs) in
    let wide = length-take (to - from) (drop from xs) in
    same_lists (take (min to (length xs) - from) (drop from xs)) (part from to xs) (omega (arith, long, wide, rest)) (λ k d within.
    let here : k < min to (length xs) - from = omega (arith, within, long) in
    let there : k < to - from = omega (arith, here) in
    get_or-take (min to (length xs) - from) (drop from xs) k d here ∙ sym (get_or-take (to - from) (drop from xs) k d there))

-- a part whose places are brought within the list
pub part_within : {X : Type 0} (xs : List X) (from to : ℕ) → take (min to (length xs) - min from (min to (length xs))) (drop (min from (min to (length xs))) xs) ≡ part from to xs
part_within xs from to =
    let high = min to (length xs) in
    let low = min from high in
    let long = length-take (high - low) (drop low xs) in
    let rest = length-drop low xs in
    let wide = length-take (to - from) (drop from xs) in
    let others = length-drop from xs in
    same_lists (take (high - low) (drop low xs)) (part from to xs) (omega (arith, long, rest, wide, others)) (λ k d within.
    let here : k < high - low = omega (arith, within, long) in
    let there : k < to - from = omega (arith, here) in
    let same : low + k ≡ from + k = omega (arith, here) in
    get_or-take (high - low) (drop low xs) k d here ∙ get_or-drop low xs k d ∙ ap (λ i. get_or xs i d) same
    ∙ sym (get_or-take (to - from) (drop from xs) k d there ∙ get_or-drop from xs k d))
