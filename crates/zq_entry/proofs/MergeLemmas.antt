-- Two lists of values by rising site, taken together site by site.

use Rattle.std.proofs.Common.{inl, inr, ap, append-nil, append_assoc, arith, cond, eqb, length, ltb, refl, sym, subst, zero, suc, ◌∙◌, ◌≡◌, ◌≢◌, true, false}
use Rattle.std.proofs.lemmas.Bool.{cases_eq, cases_lt}
use Rattle.std.proofs.lemmas.Bool.Decides.{nat_tests}
use Rattle.std.specs.List.{range_with_len}
use Rattle.std.specs.Prelude.{List, None, Option, Some, [], map, ℕ, ◌+◌, ◌++◌, ◌<◌, ◌≤◌, ◌∷◌, ◌⊎◌}
use Rattle.zq_model.specs.Sets.{SITES}
use Rattle.zq_entry.specs.Sparse.{first_at, head_of, lower, rest_at, sparse_from}
use Rattle.zq_model.specs.Sparse.{AreBySite, found}
use Rattle.zq_entry.proofs.SparseLemmas.{found-here, found-past, found_below, map_range-same, rising_from}

-- ---- the values that stand at some sites

-- a value of the site s, where there is one
abbrev pub option_at : {X : Type 0} → ℕ → Option X → List (ℕ × X)
option_at s None = []
option_at s (Some x) = (s, x) ∷ []

pub sparse-front : {X : Type 0} (a : ℕ) (o : Option X) (places : List (Option X)) → sparse_from a (o ∷ places) ≡ option_at a o ++ sparse_from (a + 1) places
sparse-front a None places = refl
sparse-front a (Some x) places = refl

pub rising-front : {X : Type 0} (a high : ℕ) (o : Option X) (items : List (ℕ × X)) → a < high → AreBySite (a + 1) high items → AreBySite a high (option_at a o ++ items)
rising-front a high None items l r = rising_from (a + 1) a high items (omega arith) r
rising-front a high (Some x) items l r = (omega arith, l, r)

-- the sites of what stands rise
pub rising-sparse : {X : Type 0} (f : ℕ → Option X) (a n high : ℕ) → a + n ≤ high → AreBySite a high (sparse_from a (map f (range_with_len a n)))
rising-sparse f a zero high l = tt
rising-sparse f a (suc n) high l =
    rw (sparse-front a (f a) (map f (range_with_len (a + 1) n))) (rising-front a high (f a) (sparse_from (a + 1) (map f (range_with_len (a + 1) n))) (omega arith) (rising-sparse f (a + 1) n high (omega arith)))

pub found-front_here : {X : Type 0} (a high : ℕ) (o : Option X) (items : List (ℕ × X)) → AreBySite (a + 1) high items → found a (option_at a o ++ items) ≡ o
found-front_here a high None items r = found_below a (a + 1) high items (omega arith) r
found-front_here a high (Some x) items r = found-here a (a, x) items refl

found-front_past : {X : Type 0} (s a : ℕ) (o : Option X) (items : List (ℕ × X)) → a < s → found s (option_at a o ++ items) ≡ found s items
found-front_past s a None items l = refl
found-front_past s a (Some x) items l = found-past s (a, x) items (λ e. omega (arith, e, l))

-- what stands at a site is what was given of it
pub found-sparse : {X : Type 0} (f : ℕ → Option X) (s a n : ℕ) → a ≤ s → s < a + n → found s (sparse_from a (map f (range_with_len a n))) ≡ f s
found-sparse f s a zero l u = absurd (omega arith)
found-sparse f s a (suc n) l u =
    let rest = sparse_from (a + 1) (map f (range_with_len (a + 1) n)) in
    let front = ap (found s) (sparse-front a (f a) (map f (range_with_len (a + 1) n))) in
    elim (cases_eq a s) [
      | inl here ↦
          front ∙ (ap (λ t. found t (option_at a (f a) ++ rest)) (sym here) ∙ (found-front_here a (a + 1 + n) (f a) rest (rising-sparse f (a + 1) n (a + 1 + n) (omega arith)) ∙ ap f here))
      | inr past ↦ front ∙ (found-front_past s a (f a) rest (omega arith) ∙ found-sparse f s (a + 1) n (omega arith) (omega arith))
    ]

-- ---- a list cut at a site

-- the list has this of the site s and nothing before it, and the other list is what follows
pub record IsCut {X : Type 0} (s : ℕ) (xs : List (ℕ × X)) (x : Option X) (ys : List (ℕ × X)) : Type 0 where
  pub rising : AreBySite s SITES xs
  pub rest : AreBySite (s + 1) SITES ys
  pub here : found s xs ≡ x
  pub later : (t : ℕ) → s < t → found t xs ≡ found t ys

pub first-here : {X : Type 0} (s : ℕ) (p : ℕ × X) (items : List (ℕ × X)) → p.0 ≡ s → first_at s (p ∷ items) ≡ Some p.1
first-here s p items h =
    let test : eqb p.0 s ≡ true = grind (arith, nat_tests) in
    ap (λ b. cond b (Some p.1) None) test

pub first-past : {X : Type 0} (s : ℕ) (p : ℕ × X) (items : List (ℕ × X)) → p.0 ≢ s → first_at s (p ∷ items) ≡ None
first-past s p items h =
    let test : eqb p.0 s ≡ false = grind (arith, nat_tests) in
    ap (λ b. cond b (Some p.1) None) test

pub rest-here : {X : Type 0} (s : ℕ) (p : ℕ × X) (items : List (ℕ × X)) → p.0 ≡ s → rest_at s (p ∷ items) ≡ items
rest-here s p items h =
    let test : eqb p.0 s ≡ true = grind (arith, nat_tests) in
    ap (λ b. cond b items (p ∷ items)) test

pub rest-past : {X : Type 0} (s : ℕ) (p : ℕ × X) (items : List (ℕ × X)) → p.0 ≢ s → rest_at s (p ∷ items) ≡ p ∷ items
rest-past s p items h =
    let test : eqb p.0 s ≡ false = grind (arith, nat_tests) in
    ap (λ b. cond b items (p ∷ items)) test

-- a list that rises from s on is cut there by its first value, where that is the site's
pub cut-at : {X : Type 0} (s : ℕ) (xs : List (ℕ × X)) → AreBySite s SITES xs → IsCut s xs (first_at s xs) (rest_at s xs)
cut-at s [] r = record { rising = tt; rest = tt; here = refl; later = λ t l. refl }
cut-at s (p ∷ items) r =
    elim (cases_eq p.0 s) [
      | inl same ↦ rw (first-here s p items same, rest-here s p items same) (record {
        rising = r;
        rest = rising_from (p.0 + 1) (s + 1) SITES items (omega (arith, same)) r.2;
        here = found-here s p items same;
        later = λ t l. found-past t p items (λ e. omega (arith, e, same, l));
      })
      | inr other ↦ rw (first-past s p items other, rest-past s p items other) (record {
        rising = r;
        rest = (omega (arith, r.0, other), r.1, r.2);
        here = found_below s (s + 1) SITES (p ∷ items) (omega arith) (omega (arith, r.0, other), r.1, r.2);
        later = λ t l. refl;
      })
    ]

-- ---- two lists

-- what h makes of the values of two lists at n sites from a on
abbrev pub merged_from : {X Y Z : Type 0} → (ℕ → Option X → Option Y → Option Z) → ℕ → ℕ → List (ℕ × X) → List (ℕ × Y) → List (ℕ × Z)
merged_from h a n xs ys = sparse_from a (map (λ s. h s (found s xs) (found s ys)) (range_with_len a n))

-- at each site
abbrev pub merged : {X Y Z : Type 0} → (ℕ → Option X → Option Y → Option Z) → List (ℕ × X) → List (ℕ × Y) → List (ℕ × Z)
merged h xs ys = merged_from h 0 SITES xs ys

-- h makes nothing of nothing
abbrev pub MakesNothing : {X Y Z : Type 0} → (ℕ → Option X → Option Y → Option Z) → Type 0
MakesNothing h = (s : ℕ) → h s None None ≡ None

front-none : {X Y Z : Type 0} (h : ℕ → Option X → Option Y → Option Z) (a n : ℕ) (xs : List (ℕ × X)) (ys : List (ℕ × Y)) → MakesNothing h → found a xs ≡ None → found a ys ≡ None
    → merged_from h a (suc n) xs ys ≡ merged_from h (a + 1) n xs ys
front-none h a n xs ys k e f =
    sparse-front a (h a (found a xs) (found a ys)) (map (λ s. h s (found s xs) (found s ys)) (range_with_len (a + 1) n))
    ∙ ap (λ o. option_at a o ++ merged_from h (a + 1) n xs ys) (ap (λ o. h a o (found a ys)) e ∙ (ap (h a None) f ∙ k a))

step-here : {X Y Z : Type 0} (h : ℕ → Option X → Option Y → Option Z) (s n : ℕ) (xs xs' : List (ℕ × X)) (ys ys' : List (ℕ × Y)) (x : Option X) (y : Option Y) → MakesNothing h → IsCut s xs x xs' → IsCut s ys y ys'
    → merged_from h s (suc n) xs ys ≡ option_at s (h s x y) ++ merged_from h s (suc n) xs' ys'
step-here h s n xs xs' ys ys' x y k c d =
    let front = sparse-front s (h s (found s xs) (found s ys)) (map (λ t. h t (found t xs) (found t ys)) (range_with_len (s + 1) n)) in
    let value = ap (λ o. h s o (found s ys)) c.here ∙ ap (h s x) d.here in
    let rest = ap (sparse_from (s + 1)) (map_range-same (λ t. h t (found t xs) (found t ys)) (λ t. h t (found t xs') (found t ys')) (s + 1) n
    (λ t l u. ap (λ o. h t o (found t ys)) (c.later t (omega arith)) ∙ ap (h t (found t xs')) (d.later t (omega arith)))) in
    front ∙ (ap (λ o. option_at s o ++ merged_from h (s + 1) n xs ys) value ∙ ap (λ zs. option_at s (h s x y) ++ zs) (rest
    ∙ sym (front-none h s n xs' ys' k (found_below s (s + 1) SITES xs' (omega arith) c.rest) (found_below s (s + 1) SITES ys' (omega arith) d.rest))))

step-from : {X Y Z : Type 0} (h : ℕ → Option X → Option Y → Option Z) (s a n : ℕ) (xs xs' : List (ℕ × X)) (ys ys' : List (ℕ × Y)) (x : Option X) (y : Option Y) → MakesNothing h → a ≤ s → s < a + n → IsCut s xs x xs' → IsCut s ys y ys'
    → merged_from h a n xs ys ≡ option_at s (h s x y) ++ merged_from h a n xs' ys'
step-from h s a zero xs xs' ys ys' x y k l u c d = absurd (omega arith)
step-from h s a (suc n) xs xs' ys ys' x y k l u c d =
    elim (cases_eq a s) [
      | inl here ↦ subst (λ b. merged_from h b (suc n) xs ys ≡ option_at s (h s x y) ++ merged_from h b (suc n) xs' ys') (sym here) (step-here h s n xs xs' ys ys' x y k c d)
      | inr past ↦
          let less : a < s = omega arith in
          front-none h a n xs ys k (found_below a s SITES xs less c.rising) (found_below a s SITES ys less d.rising)
          ∙ (step-from h s (a + 1) n xs xs' ys ys' x y k (omega arith) (omega arith) c d
          ∙ ap (λ zs. option_at s (h s x y) ++ zs) (sym (front-none h a n xs' ys' k (found_below a (s + 1) SITES xs' (omega arith) c.rest) (found_below a (s + 1) SITES ys' (omega arith) d.rest))))
    ]

-- what the lists make together is what h makes of the site where both are cut, and what the rests make
pub merged-step : {X Y Z : Type 0} (h : ℕ → Option X → Option Y → Option Z) (s : ℕ) (xs xs' : List (ℕ × X)) (ys ys' : List (ℕ × Y)) (x : Option X) (y : Option Y) → MakesNothing h → s < SITES → IsCut s xs x xs' → IsCut s ys y ys'
    → merged h xs ys ≡ option_at s (h s x y) ++ merged h xs' ys'
merged-step h s xs xs' ys ys' x y k l c d = step-from h s 0 SITES xs xs' ys ys' x y k (omega arith) (omega arith) c d

end-from : {X Y Z : Type 0} (h : ℕ → Option X → Option Y → Option Z) (a n : ℕ) → MakesNothing h → merged_from h a n [] [] ≡ []
end-from h a zero k = refl
end-from h a (suc n) k = front-none h a n [] [] k refl refl ∙ end-from h (a + 1) n k

-- nothing makes nothing
pub merged-end : {X Y Z : Type 0} (h : ℕ → Option X → Option Y → Option Z) → MakesNothing h → merged h [] [] ≡ []
merged-end h k = end-from h 0 SITES k

pub found-merged : {X Y Z : Type 0} (h : ℕ → Option X → Option Y → Option Z) (s : ℕ) (xs : List (ℕ × X)) (ys : List (ℕ × Y)) → s < SITES → found s (merged h xs ys) ≡ h s (found s xs) (found s ys)
found-merged h s xs ys l = found-sparse (λ t. h t (found t xs) (found t ys)) s 0 SITES (omega arith) (omega arith)

pub rising-merged : {X Y Z : Type 0} (h : ℕ → Option X → Option Y → Option Z) (xs : List (ℕ × X)) (ys : List (ℕ × Y)) → AreBySite 0 SITES (merged h xs ys)
rising-merged h xs ys = rising-sparse (λ t. h t (found t xs) (found t ys)) 0 SITES SITES (omega arith)

-- ---- where two lists are cut

-- a list rises from its first site, or a lower one, on
pub rising-head : {X : Type 0} (low s : ℕ) (items : List (ℕ × X)) → AreBySite low SITES items → ((t : ℕ) → head_of items ≡ Some t → s ≤ t) → AreBySite s SITES items
rising-head low s [] r h = tt
rising-head low s (p ∷ items) r h = (h p.0 refl, r.1, r.2)

lower-first : (x y : Option ℕ) (s t : ℕ) → lower x y ≡ Some s → x ≡ Some t → s ≤ t
lower-first None y s t l e = absurd (cc)
lower-first (Some a) None s t l e = let one : a ≡ s = cc in let two : a ≡ t = cc in omega arith
lower-first (Some a) (Some b) s t l e =
    let two : a ≡ t = cc in
    elim (cases_lt b a) [
      | inl less ↦
          let test : ltb b a ≡ true = grind (arith, nat_tests) in
          let one : b ≡ s = (let form : lower (Some a) (Some b) ≡ Some b = ap (λ c. Some (cond c b a)) test in cc) in
          omega arith
      | inr more ↦
          let test : ltb b a ≡ false = grind (arith, nat_tests) in
          let one : a ≡ s = (let form : lower (Some a) (Some b) ≡ Some a = ap (λ c. Some (cond c b a)) test in cc) in
          omega arith
    ]

lower-second : (x y : Option ℕ) (s t : ℕ) → lower x y ≡ Some s → y ≡ Some t → s ≤ t
lower-second None y s t l e = let same : Some s ≡ Some t = sym l ∙ e in let one : s ≡ t = cc in omega arith
lower-second (Some a) None s t l e = absurd (cc)
lower-second (Some a) (Some b) s t l e =
    let two : b ≡ t = cc in
    elim (cases_lt b a) [
      | inl less ↦
          let test : ltb b a ≡ true = grind (arith, nat_tests) in
          let one : b ≡ s = (let form : lower (Some a) (Some b) ≡ Some b = ap (λ c. Some (cond c b a)) test in cc) in
          omega arith
      | inr more ↦
          let test : ltb b a ≡ false = grind (arith, nat_tests) in
          let one : a ≡ s = (let form : lower (Some a) (Some b) ≡ Some a = ap (λ c. Some (cond c b a)) test in cc) in
          omega arith
    ]

-- two rising lists are cut where the lower of their first values stands
pub cut-lower : {X Y : Type 0} (s : ℕ) (xs : List (ℕ × X)) (ys : List (ℕ × Y)) → AreBySite 0 SITES xs → AreBySite 0 SITES ys → lower (head_of xs) (head_of ys) ≡ Some s
    → IsCut s xs (first_at s xs) (rest_at s xs) × IsCut s ys (first_at s ys) (rest_at s ys)
cut-lower s xs ys r q e = (
  cut-at s xs (rising-head 0 s xs r (λ t h. lower-first (head_of xs) (head_of ys) s t e h)),
  cut-at s ys (rising-head 0 s ys q (λ t h. lower-second (head_of xs) (head_of ys) s t e h)),
)

-- without a first value there is none
pub head-none : {X : Type 0} (xs : List (ℕ × X)) → head_of xs ≡ None → xs ≡ []
head-none [] e = refl
head-none (p ∷ xs) e = absurd (cc)

pub lower-none : (x y : Option ℕ) → lower x y ≡ None → (x ≡ None) × (y ≡ None)
lower-none None y e = (refl, e)
lower-none (Some a) None e = absurd (cc)
lower-none (Some a) (Some b) e = absurd (cc)

-- what follows is shorter where the first value was the site's
rest-shorter : {X : Type 0} (s : ℕ) (xs : List (ℕ × X)) → head_of xs ≡ Some s → length (rest_at s xs) < length xs
rest-shorter s [] e = absurd (cc)
rest-shorter s (p ∷ xs) e =
    let same : p.0 ≡ s = cc in
    omega (arith, ap length (rest-here s p xs same))

rest-within : {X : Type 0} (s : ℕ) (xs : List (ℕ × X)) → length (rest_at s xs) ≤ length xs
rest-within s [] = omega arith
rest-within s (p ∷ xs) =
    elim (cases_eq p.0 s) [
      | inl same ↦ omega (arith, ap length (rest-here s p xs same))
      | inr other ↦ omega (arith, ap length (rest-past s p xs other))
    ]

lower-one : (x y : Option ℕ) (s : ℕ) → lower x y ≡ Some s → (x ≡ Some s) ⊎ (y ≡ Some s)
lower-one None y s e = inr e
lower-one (Some a) None s e = inl e
lower-one (Some a) (Some b) s e =
    elim (cases_lt b a) [
      | inl less ↦
          let test : ltb b a ≡ true = grind (arith, nat_tests) in
          inr (ap (λ c. Some (cond c b a)) (sym test) ∙ e)
      | inr more ↦
          let test : ltb b a ≡ false = grind (arith, nat_tests) in
          inl (ap (λ c. Some (cond c b a)) (sym test) ∙ e)
    ]

-- of two lists that are cut where their lower first value stands, less is left
pub cut-shorter : {X Y : Type 0} (s : ℕ) (xs : List (ℕ × X)) (ys : List (ℕ × Y)) → lower (head_of xs) (head_of ys) ≡ Some s → length (rest_at s xs) + length (rest_at s ys) < length xs + length ys
cut-shorter s xs ys e =
    elim (lower-one (head_of xs) (head_of ys) s e) [
      | inl first ↦ omega (arith, rest-shorter s xs first, rest-within s ys)
      | inr second ↦ omega (arith, rest-within s xs, rest-shorter s ys second)
    ]

head-below : {X : Type 0} (low s : ℕ) (xs : List (ℕ × X)) → AreBySite low SITES xs → head_of xs ≡ Some s → s < SITES
head-below low s [] r e = absurd (cc)
head-below low s (p ∷ xs) r e = let same : p.0 ≡ s = cc in omega (arith, same, r.1)

-- what is made so far and what the lists make is that with what h makes of the next site, and what the rests make
pub merged-push : {X Y Z : Type 0} (h : ℕ → Option X → Option Y → Option Z) (done : List (ℕ × Z)) (s : ℕ) (xs : List (ℕ × X)) (ys : List (ℕ × Y)) → MakesNothing h → AreBySite 0 SITES xs → AreBySite 0 SITES ys → lower (head_of xs) (head_of ys) ≡ Some s
    → (done ++ option_at s (h s (first_at s xs) (first_at s ys))) ++ merged h (rest_at s xs) (rest_at s ys) ≡ done ++ merged h xs ys
merged-push h done s xs ys k r q e =
    let cuts = cut-lower s xs ys r q e in
    let below : s < SITES = elim (lower-one (head_of xs) (head_of ys) s e) [ inl first ↦ head-below 0 s xs r first | inr second ↦ head-below 0 s ys q second ] in
    append_assoc done (option_at s (h s (first_at s xs) (first_at s ys))) (merged h (rest_at s xs) (rest_at s ys))
    ∙ ap (λ zs. done ++ zs) (sym (merged-step h s xs (rest_at s xs) ys (rest_at s ys) (first_at s xs) (first_at s ys) k below cuts.0 cuts.1))

-- the rests rise
pub rising-rests : {X Y : Type 0} (s : ℕ) (xs : List (ℕ × X)) (ys : List (ℕ × Y)) → AreBySite 0 SITES xs → AreBySite 0 SITES ys → lower (head_of xs) (head_of ys) ≡ Some s → AreBySite 0 SITES (rest_at s xs) × AreBySite 0 SITES (rest_at s ys)
rising-rests s xs ys r q e =
    let cuts = cut-lower s xs ys r q e in (rising_from (s + 1) 0 SITES (rest_at s xs) (omega arith) cuts.0.rest, rising_from (s + 1) 0 SITES (rest_at s ys) (omega arith) cuts.1.rest)

-- where neither list has a first value, all is made
pub merged-done : {X Y Z : Type 0} (h : ℕ → Option X → Option Y → Option Z) (done : List (ℕ × Z)) (xs : List (ℕ × X)) (ys : List (ℕ × Y)) → MakesNothing h → lower (head_of xs) (head_of ys) ≡ None → done ++ merged h xs ys ≡ done
merged-done h done xs ys k e =
    let none = lower-none (head_of xs) (head_of ys) e in
    ap (λ zs. done ++ merged h zs ys) (head-none xs none.0) ∙ (ap (λ zs. done ++ merged h [] zs) (head-none ys none.1) ∙ (ap (λ zs. done ++ zs) (merged-end h k) ∙ append-nil done))
