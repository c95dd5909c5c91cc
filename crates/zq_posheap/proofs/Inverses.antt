-- What an exchange, an addition and a removal keep of two lists that tell where each other's elements are.
use Rattle.std.specs.Prelude.{List, Some, [], ◌++◌, ◌∷◌, length, slice_get, slice_set, take, ℕ, ◌+◌, ◌<◌, ◌≡◌, ◌≢◌}
use Rattle.std.proofs.Common.{refl, inl, inr, sym, ap, ◌∙◌, arith}
use Rattle.std.proofs.lemmas.Bool.{cases_eq}
use Rattle.std.proofs.lemmas.List.{length-append, length-set, length-take-le}
use Rattle.std.proofs.lemmas.Option.{none-some, same_Some, slice_get_within}
use Rattle.zq_posheap.proofs.Lists.{slice_get-append_end, slice_get-append_left, slice_get-set_other, slice_get-set_same, slice_get-take}
use Rattle.zq_posheap.specs.Links.{AreInverse}

module _ (xs ys : List ℕ) (inverse : AreInverse xs ys) where
  -- they tell it of each other alike
  pub turned : AreInverse ys xs
  turned = record { one_length = sym inverse.one_length; there = inverse.back; back = inverse.there }

  -- nothing stands at two places
  pub one_place : (p q i : ℕ) → slice_get xs p ≡ Some i → slice_get xs q ≡ Some i → p ≡ q
  one_place p q i here there = same_Some _ _ (sym (inverse.there p i here) ∙ inverse.there q i there)

  -- two elements in each other's place
  swapped_there : (a b i j : ℕ) → slice_get xs a ≡ Some i → slice_get xs b ≡ Some j → a ≢ b → (p k : ℕ) →
      slice_get (slice_set (slice_set xs a j) b i) p ≡ Some k → slice_get (slice_set (slice_set ys i b) j a) k ≡ Some p
  swapped_there a b i j at_a at_b apart p k is =
      let xs' = slice_set (slice_set xs a j) b i in
      let others : i ≢ j = λ e. apart (one_place a b i at_a (at_b ∙ ap (λ x. Some x) (sym e))) in
      let i_in : i < length ys = slice_get_within ys i a (inverse.there a i at_a) in
      let j_in : j < length (slice_set ys i b) = omega (arith, slice_get_within ys j b (inverse.there b j at_b), length-set ys i b) in
      let a_in : a < length xs = slice_get_within xs a i at_a in
      let b_in : b < length (slice_set xs a j) = omega (arith, slice_get_within xs b j at_b, length-set xs a j) in
      elim (cases_eq p b) as (λ _. slice_get (slice_set (slice_set ys i b) j a) k ≡ Some p) [
        | inl e ↦
            let same : k ≡ i = same_Some _ _ (sym is ∙ ap (slice_get xs') e ∙ slice_get-set_same _ b i b_in) in
            rw (same, e) (slice_get-set_other _ j i a others ∙ slice_get-set_same ys i b i_in)
        | inr not_b ↦ elim (cases_eq p a) as (λ _. slice_get (slice_set (slice_set ys i b) j a) k ≡ Some p) [
          | inl e ↦
              let same : k ≡ j = same_Some _ _ (sym is ∙ ap (slice_get xs') e ∙ slice_get-set_other _ b a i apart ∙ slice_get-set_same xs a j a_in) in
              rw (same, e) (slice_get-set_same _ j a j_in)
          | inr not_a ↦
              let here : slice_get xs p ≡ Some k = sym (slice_get-set_other _ b p i not_b ∙ slice_get-set_other xs a p j not_a) ∙ is in
              let not_j : k ≢ j = λ e. not_b (one_place p b j (here ∙ ap (λ x. Some x) e) at_b) in
              let not_i : k ≢ i = λ e. not_a (one_place p a i (here ∙ ap (λ x. Some x) e) at_a) in
              slice_get-set_other _ j k a not_j ∙ slice_get-set_other ys i k b not_i ∙ inverse.there p k here
        ]
      ]

  -- one more element, which stands at itself
  added_there : (n : ℕ) → n ≡ length xs → (p k : ℕ) → slice_get (xs ++ n ∷ []) p ≡ Some k → slice_get (ys ++ n ∷ []) k ≡ Some p
  added_there n long p k is = elim (cases_eq p n) as (λ _. slice_get (ys ++ n ∷ []) k ≡ Some p) [
    | inl e ↦
        let same : k ≡ n = same_Some _ _ (sym is ∙ ap (slice_get (xs ++ n ∷ [])) (e ∙ long) ∙ slice_get-append_end xs n) in
        rw (same, e) (ap (slice_get (ys ++ n ∷ [])) (long ∙ inverse.one_length) ∙ slice_get-append_end ys n)
    | inr apart ↦
        let p_in : p < length xs = omega (arith, slice_get_within (xs ++ n ∷ []) p k is, length-append xs (n ∷ []), long, apart) in
        let there = inverse.there p k (sym (slice_get-append_left xs (n ∷ []) p p_in) ∙ is) in
        slice_get-append_left ys (n ∷ []) k (slice_get_within ys k p there) ∙ there
  ]

  -- the last element goes, and so does the place n, whose element comes to the place that the last one named
  dropped_there : (n i q : ℕ) → n + 1 ≡ length xs → slice_get xs n ≡ Some i → slice_get ys n ≡ Some q → (p k : ℕ) →
      slice_get (take n (slice_set xs q i)) p ≡ Some k → slice_get (take n (slice_set ys i q)) k ≡ Some p
  dropped_there n i q long last moved p k is =
      let put = length-set xs q i in
      let p_in : p < n = omega (arith, slice_get_within (take n (slice_set xs q i)) p k is, length-take-le n (slice_set xs q i) (omega (arith, put))) in
      let at_i : slice_get ys i ≡ Some n = inverse.there n i last in
      let is' : slice_get (slice_set xs q i) p ≡ Some k = sym (slice_get-take n (slice_set xs q i) p p_in) ∙ is in
      elim (cases_eq p q) as (λ _. slice_get (take n (slice_set ys i q)) k ≡ Some p) [
        | inl e ↦
            let same : k ≡ i = same_Some _ _ (sym is' ∙ ap (slice_get (slice_set xs q i)) e ∙ slice_get-set_same xs q i (omega (arith, e, p_in))) in
            let i_in : i < length ys = slice_get_within ys i n at_i in
            let other : i ≢ n = λ s. omega (arith, same_Some _ _ (sym at_i ∙ ap (slice_get ys) s ∙ moved), e, p_in) in
            rw (same, e) (slice_get-take n (slice_set ys i q) i (omega (arith, i_in, other, long, inverse.one_length)) ∙ slice_get-set_same ys i q i_in)
        | inr apart ↦
            let there : slice_get ys k ≡ Some p = inverse.there p k (sym (slice_get-set_other xs q p i apart) ∙ is') in
            let not_i : k ≢ i = λ s. omega (arith, same_Some _ _ (sym there ∙ ap (slice_get ys) s ∙ at_i), p_in) in
            let not_n : k ≢ n = λ s. apart (same_Some _ _ (sym there ∙ ap (slice_get ys) s ∙ moved)) in
            slice_get-take n (slice_set ys i q) k (omega (arith, slice_get_within ys k p there, not_n, long, inverse.one_length))
            ∙ slice_get-set_other ys i k q not_i ∙ there
      ]

module _ (xs ys : List ℕ) (inverse : AreInverse xs ys) where
  pub swapped : (a b i j : ℕ) → slice_get xs a ≡ Some i → slice_get xs b ≡ Some j → a ≢ b →
      AreInverse (slice_set (slice_set xs a j) b i) (slice_set (slice_set ys i b) j a)
  swapped a b i j at_a at_b apart =
      let others : i ≢ j = λ e. apart (one_place xs ys inverse a b i at_a (at_b ∙ ap (λ x. Some x) (sym e))) in
      record {
        one_length = length-set _ b i ∙ length-set xs a j ∙ inverse.one_length ∙ sym (length-set _ j a ∙ length-set ys i b);
        there = swapped_there xs ys inverse a b i j at_a at_b apart;
        back = swapped_there ys xs (turned xs ys inverse) i j a b (inverse.there a i at_a) (inverse.there b j at_b) others;
      }

  pub added : (n : ℕ) → n ≡ length xs → AreInverse (xs ++ n ∷ []) (ys ++ n ∷ [])
  added n long = record {
    one_length = omega (arith, length-append xs (n ∷ []), length-append ys (n ∷ []), inverse.one_length);
    there = added_there xs ys inverse n long;
    back = added_there ys xs (turned xs ys inverse) n (long ∙ inverse.one_length);
  }

  pub dropped : (n i q : ℕ) → n + 1 ≡ length xs → slice_get xs n ≡ Some i → slice_get ys n ≡ Some q →
      AreInverse (take n (slice_set xs q i)) (take n (slice_set ys i q))
  dropped n i q long last moved = record {
    one_length = length-take-le n _ (omega (arith, length-set xs q i)) ∙ sym (length-take-le n _ (omega (arith, length-set ys i q, inverse.one_length)));
    there = dropped_there xs ys inverse n i q long last moved;
    back = dropped_there ys xs (turned xs ys inverse) n q i (omega (arith, long, inverse.one_length)) moved last;
  }

pub nothing_stands : AreInverse [] []
nothing_stands = record { one_length = refl; there = λ p i is. absurd (none-some i is); back = λ i p is. absurd (none-some p is) }
