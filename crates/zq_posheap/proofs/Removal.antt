-- The map's entries without one, in whose place the last came.
use Rattle.std.specs.Prelude.{IfSome, List, Option, Some, [], get_or, length, map, option_map, slice_get, slice_set, swap_remove, take, ℕ, ◌+◌, ◌-◌, ◌<◌, ◌≡◌, ◌≢◌}
use Rattle.std.proofs.Common.{ap, arith, subst, sym, ◌∙◌}
use Rattle.std.proofs.lemmas.List.{get_or-map, length-map, length-set, length-take-le, map-set, take-map}
use Rattle.std.proofs.lemmas.Option.{slice_get-map}
use Rattle.std.specs.Map.{keys_of, values_of}
use Rattle.zq_posheap.proofs.Lists.{get_or_same, swap_remove_here, swap_remove_other, there_is}

module _ {W : Type 0} (es es' : List (List ℕ × W)) (i n : ℕ) (r : Option (List ℕ × W)) (long : length es ≡ n + 1) (within : i < n + 1)
    (entry : r ≡ slice_get es i) (entries : IfSome r (λ p. es' ≡ swap_remove es i p)) where
  gone : (p : List ℕ × W) × (slice_get es i ≡ Some p)
  gone = there_is es i (omega arith)

  -- the entry that goes
  gone_entry : r ≡ Some gone.0
  gone_entry = entry ∙ gone.1

  is : es' ≡ swap_remove es i gone.0
  is = subst (λ (o : Option (List ℕ × W)). IfSome o (λ p. es' ≡ swap_remove es i p)) gone_entry entries

  others : (j : ℕ) → j ≢ i → j < n → slice_get es' j ≡ slice_get es j
  others j apart inside = ap (λ fs. slice_get fs j) is ∙ swap_remove_other es i j gone.0 apart (omega arith)

  here : i < n → slice_get es' i ≡ slice_get es n
  here inside = ap (λ fs. slice_get fs i) is ∙ swap_remove_here es i gone.0 (omega arith) ∙ (let last : length es - 1 ≡ n = omega arith in ap (slice_get es) last)

  one_less : length es' ≡ n
  one_less =
      let put = length-set es i (get_or es (length es - 1) gone.0) in
      ap length is ∙ length-take-le (length es - 1) _ (omega (arith, put)) ∙ (let last : length es - 1 ≡ n = omega arith in last)

  module _ {Y : Type 0} (f : W → Y) where
    pub seen_left : length (map f (values_of es')) ≡ n
    seen_left = length-map (values_of es') f ∙ length-map es' (λ e. e.1) ∙ one_less

    same_seen : (j k : ℕ) → slice_get es' j ≡ slice_get es k → slice_get (map f (values_of es')) j ≡ slice_get (map f (values_of es)) k
    same_seen j k same =
        slice_get-map f (values_of es') j ∙ ap (option_map f) (slice_get-map (λ e. e.1) es' j ∙ ap (option_map (λ e. e.1)) same ∙ sym (slice_get-map (λ e. e.1) es k))
        ∙ sym (slice_get-map f (values_of es) k)

    pub other_seen : (j : ℕ) → j ≢ i → j < n → slice_get (map f (values_of es')) j ≡ slice_get (map f (values_of es)) j
    other_seen j apart inside = same_seen j j (others j apart inside)

    pub seen_here : i < n → slice_get (map f (values_of es')) i ≡ slice_get (map f (values_of es)) n
    seen_here inside = same_seen i n (here inside)

  -- what is seen of the entries that stay
  module _ {Y : Type 0} (f : List ℕ × W → Y) (d : Y) where
    same_entry : (j k : ℕ) → slice_get es' j ≡ slice_get es k → get_or (map f es') j d ≡ get_or (map f es) k d
    same_entry j k same = get_or_same _ _ j k d (slice_get-map f es' j ∙ ap (option_map f) same ∙ sym (slice_get-map f es k))

    pub other_entries : (j : ℕ) → j ≢ i → j < n → get_or (map f es') j d ≡ get_or (map f es) j d
    other_entries j apart inside = same_entry j j (others j apart inside)

    pub entry_here : i < n → get_or (map f es') i d ≡ get_or (map f es) n d
    entry_here inside = same_entry i n (here inside)

-- what is seen of a list without an element, in whose place the last came
pub map-swap_remove : {X Y : Type 0} (f : X → Y) (xs : List X) (i : ℕ) (d : X) (e : Y) → i < length xs → map f (swap_remove xs i d) ≡ swap_remove (map f xs) i e
map-swap_remove f xs i d e within =
    let last = length xs - 1 in
    let same : get_or (map f xs) last e ≡ f (get_or xs last d) = get_or-map f xs last d e (omega (arith, within)) in
    sym (take-map f last (slice_set xs i (get_or xs last d))) ∙ ap (take last) (map-set f xs i (get_or xs last d) ∙ ap (slice_set (map f xs) i) (sym same))
    ∙ (λ k. take (sym (length-map xs f) k - 1) (slice_set (map f xs) i (get_or (map f xs) (sym (length-map xs f) k - 1) e)))

-- the members without the one whose entry goes
pub keys-gone : {W : Type 0} (es es' : List (List ℕ × W)) (i : ℕ) (r : Option (List ℕ × W)) → i < length es →
    r ≡ slice_get es i → IfSome r (λ p. es' ≡ swap_remove es i p) → keys_of es' ≡ swap_remove (keys_of es) i []
keys-gone es es' i r within entry entries =
    let p = there_is es i within in
    let left = subst (λ o. IfSome o (λ p. es' ≡ swap_remove es i p)) (entry ∙ p.1) entries in
    ap keys_of left ∙ map-swap_remove (λ e. e.0) es i p.0 [] within
