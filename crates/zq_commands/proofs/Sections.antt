-- The pairs of a queue within two bounds stand one behind the other.

use Rattle.std.proofs.Common.{Bool, Equal, Greater, Less, List, [], ap, arith, cond, drop, false, inl, inr, length, min, not, refl, reverse, suc, sym, take, true, true≢false, zero, ℕ, ℤ, ◌&&◌, ◌+◌, ◌-◌, ◌∙◌, ◌∷◌, ◌≡◌, ◌≤ℤ◌, ◌<ℤ◌}
use Rattle.std.proofs.lemmas.Bool.{cond-false, cond-true, false_from_ne_true}
use Rattle.std.proofs.lemmas.Grind.{reverse_onto}
use Rattle.std.proofs.lemmas.Int.{ints}
use Rattle.std.proofs.lemmas.List.Sums.{sum_by-append, sum_by-cons}
use Rattle.std.proofs.lemmas.List.{length-reverse}
use Rattle.std.specs.Cmp.{int_ranks}
use Rattle.std.specs.Cmp.Lexicographic.{slice_cmp}
use Rattle.std.specs.Ordering.{MatchOrdering, int_cmp, is_lt, nat_cmp, ordering_then}
use Rattle.std.specs.Prelude.{count_by, filter}
use Rattle.zq_commands.proofs.Woven.{AreInOrder}
use Rattle.zq_commands.specs.Sections.{is_entered}
use Rattle.zq_commands.specs.Weaving.{goes_before}
use Rattle.zq_model.proofs.Membership.{in_taken}
use Rattle.zq_model.specs.Meaning.{Scored}
use Rattle.zq_model.specs.Sets.{IsIn}
use Rattle.zq_model.specs.Moves.{Queue}
use Rattle.zq_model.specs.Readings.{is_before}
use Rattle.zq_semantics.specs.Ranges.{is_above, is_above_limit, is_below, is_below_limit, is_within, turned_if}
use Rattle.zq_words.specs.declared.bound.Bound.{Bound}
use Rattle.zq_words.specs.declared.bound.Limit.{Limit}
use Rattle.zq_words.specs.declared.bound.Limit.TheVariants.{At, Highest, Lowest}

-- ---- lists

drop_none : {X : Type 0} (xs : List X) (n : ℕ) → xs ≡ [] → drop n xs ≡ []
drop_none [] zero none = refl
drop_none [] (suc n) none = refl
drop_none (x ∷ xs) n none = absurd (cc)

pub take_none : {X : Type 0} (xs : List X) (n : ℕ) → xs ≡ [] → take n xs ≡ []
take_none [] zero none = refl
take_none [] (suc n) none = refl
take_none (x ∷ xs) n none = absurd (cc)

pub drop_taken : {X : Type 0} (a b : ℕ) (xs : List X) → drop a (take b xs) ≡ take (b - a) (drop a xs)
drop_taken zero b xs = let same : b ≡ b - 0 = omega arith in ap (λ n. take n xs) same
drop_taken (suc a) zero xs = let none : 0 ≡ 0 - suc a = omega arith in ap (λ n. take n (drop (suc a) xs)) none
drop_taken (suc a) (suc b) [] = sym (take_none [] (suc b - suc a) refl)
drop_taken (suc a) (suc b) (x ∷ xs) = let same : b - a ≡ suc b - suc a = omega arith in drop_taken a b xs ∙ ap (λ n. take n (drop a xs)) same

pub take_taken : {X : Type 0} (n m k : ℕ) (xs : List X) → k ≡ min m n → take n (take m xs) ≡ take k xs
take_taken zero m k xs least = let none : 0 ≡ k = omega (arith, least) in ap (λ i. take i xs) none
take_taken (suc n) zero k xs least = let none : 0 ≡ k = omega (arith, least) in ap (λ i. take i xs) none
take_taken (suc n) (suc m) k [] least = sym (take_none [] k refl)
take_taken (suc n) (suc m) k (x ∷ xs) least =
    let more : suc (k - 1) ≡ k = omega (arith, least) in
    ap (λ ys. x ∷ ys) (take_taken n m (k - 1) xs (omega (arith, least))) ∙ ap (λ i. take i (x ∷ xs)) more

-- ---- what is kept of a list, and how many

pub all_pass : (p : Scored → Bool) (q : Queue) → ((y : Scored) → IsIn y q → p y ≡ true) → filter p q ≡ q
all_pass p [] all = refl
all_pass p (x ∷ q) all = cond-true (p x) (x ∷ filter p q) (filter p q) (all x (inl refl)) ∙ ap (λ r. x ∷ r) (all_pass p q (λ y here. all y (inr here)))

none_pass : (p : Scored → Bool) (q : Queue) → ((y : Scored) → IsIn y q → p y ≡ false) → filter p q ≡ []
none_pass p [] none = refl
none_pass p (x ∷ q) none = cond-false (p x) (x ∷ filter p q) (filter p q) (none x (inl refl)) ∙ none_pass p q (λ y here. none y (inr here))

abbrev pub number_of : Bool → ℕ
number_of b = cond b 1 0

abbrev pub ones : (Scored → Bool) → Scored → ℕ
ones p x = number_of (p x)

pub count_none : (p : Scored → Bool) (q : Queue) → ((y : Scored) → IsIn y q → p y ≡ false) → count_by p q ≡ 0
count_none p [] none = refl
count_none p (x ∷ q) none =
    let first = sum_by-cons (ones p) x q in
    let zero_ : ones p x ≡ 0 = ap number_of (none x (inl refl)) in
    let rest = count_none p q (λ y here. none y (inr here)) in
    omega (arith, first, zero_, rest)

-- those that pass and those that do not are all
count_both : (p : Scored → Bool) (q : Queue) → count_by p q + count_by (λ x. not (p x)) q ≡ length q
count_both p [] = refl
count_both p (x ∷ q) =
    let first = sum_by-cons (ones p) x q in
    let second = sum_by-cons (ones (λ y. not (p y))) x q in
    let rest = count_both p q in
    let one : ones p x + ones (λ y. not (p y)) x ≡ 1 = elim (p x) as (λ b. number_of b + number_of (not b) ≡ 1) [ true ↦ refl | false ↦ refl ] in
    omega (arith, first, second, rest, one)

count_reverse : (p : Scored → Bool) (q : Queue) → count_by p (reverse q) ≡ count_by p q
count_reverse p [] = refl
count_reverse p (x ∷ q) =
    let split = ap (count_by p) (reverse_onto q x []) ∙ sum_by-append (ones p) (reverse q) (x ∷ []) in
    let last = sum_by-cons (ones p) x [] in
    let first = sum_by-cons (ones p) x q in
    let rest = count_reverse p q in
    omega (arith, split, last, first, rest)

pub count_turned : (t : Bool) (p : Scored → Bool) (q : Queue) → count_by p (turned_if t q) ≡ count_by p q
count_turned false p q = refl
count_turned true p q = count_reverse p q

pub filter_then : (f g : Scored → Bool) (q : Queue) → filter (λ x. f x && g x) q ≡ filter f (filter g q)
filter_then f g [] = refl
filter_then f g (x ∷ q) =
    let rest = filter_then f g q in
    elim (g x) as (λ b. cond (f x && b) (x ∷ filter (λ y. f y && g y) q) (filter (λ y. f y && g y) q) ≡ filter f (cond b (x ∷ filter g q) (filter g q))) [
      | true ↦ elim (f x) as (λ a. cond (a && true) (x ∷ filter (λ y. f y && g y) q) (filter (λ y. f y && g y) q) ≡ cond a (x ∷ filter f (filter g q)) (filter f (filter g q))) [
        | true ↦ ap (λ r. x ∷ r) rest
        | false ↦ rest
      ]
      | false ↦ elim (f x) as (λ a. cond (a && false) (x ∷ filter (λ y. f y && g y) q) (filter (λ y. f y && g y) q) ≡ filter f (filter g q)) [ true ↦ rest | false ↦ rest ]
    ]

filter_after : (f g : Scored → Bool) (q : Queue) → filter (λ x. f x && g x) q ≡ filter g (filter f q)
filter_after f g [] = refl
filter_after f g (x ∷ q) =
    let rest = filter_after f g q in
    elim (f x) as (λ b. cond (b && g x) (x ∷ filter (λ y. f y && g y) q) (filter (λ y. f y && g y) q) ≡ filter g (cond b (x ∷ filter f q) (filter f q))) [
      | true ↦ elim (g x) as (λ a. cond (true && a) (x ∷ filter (λ y. f y && g y) q) (filter (λ y. f y && g y) q) ≡ cond a (x ∷ filter g (filter f q)) (filter g (filter f q))) [
        | true ↦ ap (λ r. x ∷ r) rest
        | false ↦ rest
      ]
      | false ↦ rest
    ]

-- ---- tests that hold from one pair on, or up to one

module _ (t : Bool) (p : Scored → Bool) where
  -- from a pair that passes on, all pass
  filter_front : ((x y : Scored) → goes_before t x y ≡ true → p x ≡ true → p y ≡ true) → (k : ℕ) (q : Queue) → AreInOrder t q →
      filter p (take k q) ≡ drop (count_by (λ x. not (p x)) q) (take k q)
  filter_front up zero q order = sym (drop_none (take 0 q) (count_by (λ x. not (p x)) q) refl)
  filter_front up (suc k) [] order = sym (drop_none [] (count_by (λ x. not (p x)) []) refl)
  filter_front up (suc k) (x ∷ q) order =
      let first = sum_by-cons (ones (λ y. not (p y))) x q in
      elim (p x) as (λ b. p x ≡ b → filter p (x ∷ take k q) ≡ drop (count_by (λ y. not (p y)) (x ∷ q)) (x ∷ take k q)) [
        | true ↦ λ e.
            let later = λ (y : Scored) (here : IsIn y q). up x y (order.0 y here) e in
            let none = count_none (λ y. not (p y)) q (λ y here. ap not (later y here)) in
            let one : ones (λ y. not (p y)) x ≡ 0 = ap (λ b. number_of (not b)) e in
            let zero_ : count_by (λ y. not (p y)) (x ∷ q) ≡ 0 = omega (arith, first, none, one) in
            cond-true (p x) (x ∷ filter p (take k q)) (filter p (take k q)) e ∙ ap (λ r. x ∷ r) (all_pass p (take k q) (λ y here. later y (in_taken y k q here)))
            ∙ ap (λ n. drop n (x ∷ take k q)) (sym zero_)
        | false ↦ λ e.
            let one : ones (λ y. not (p y)) x ≡ 1 = ap (λ b. number_of (not b)) e in
            let more : count_by (λ y. not (p y)) (x ∷ q) ≡ suc (count_by (λ y. not (p y)) q) = omega (arith, first, one) in
            cond-false (p x) (x ∷ filter p (take k q)) (filter p (take k q)) e ∙ filter_front up k q order.1 ∙ ap (λ n. drop n (x ∷ take k q)) (sym more)
      ] refl

  -- up to a pair that passes, all pass
  filter_back : ((x y : Scored) → goes_before t x y ≡ true → p y ≡ true → p x ≡ true) → (q : Queue) → AreInOrder t q → filter p q ≡ take (count_by p q) q
  filter_back down [] order = refl
  filter_back down (x ∷ q) order =
      let first = sum_by-cons (ones p) x q in
      elim (p x) as (λ b. p x ≡ b → filter p (x ∷ q) ≡ take (count_by p (x ∷ q)) (x ∷ q)) [
        | true ↦ λ e.
            let one : ones p x ≡ 1 = ap number_of e in
            let more : count_by p (x ∷ q) ≡ suc (count_by p q) = omega (arith, first, one) in
            cond-true (p x) (x ∷ filter p q) (filter p q) e ∙ ap (λ r. x ∷ r) (filter_back down q order.1) ∙ ap (λ n. take n (x ∷ q)) (sym more)
        | false ↦ λ e.
            let none = λ (y : Scored) (here : IsIn y q). false_from_ne_true (p y) (λ passes. true≢false (sym (down x y (order.0 y here) passes) ∙ e)) in
            let zero_ : ones p x ≡ 0 = ap number_of e in
            let rest = count_none p q none in
            let all : count_by p (x ∷ q) ≡ 0 = omega (arith, first, zero_, rest) in
            cond-false (p x) (x ∷ filter p q) (filter p q) e ∙ none_pass p q none ∙ ap (λ n. take n (x ∷ q)) (sym all)
      ] refl

-- where both hold
pub both_hold : (t : Bool) (near far : Scored → Bool) (q : Queue) → ((x y : Scored) → goes_before t x y ≡ true → near x ≡ true → near y ≡ true) →
    ((x y : Scored) → goes_before t x y ≡ true → far y ≡ true → far x ≡ true) → AreInOrder t q →
    filter near (filter far q) ≡ drop (count_by (λ x. not (near x)) q) (take (length q - count_by (λ x. not (far x)) q) q)
both_hold t near far q up down order =
    let all = count_both far q in
    let same : count_by far q ≡ length q - count_by (λ x. not (far x)) q = omega (arith, all) in
    ap (filter near) (filter_back t far down q order) ∙ filter_front t near up (count_by far q) q order ∙ ap (λ k. drop (count_by (λ x. not (near x)) q) (take k q)) same

-- ---- bounds

score_low : (x y : Scored) → is_before x y ≡ true → x.0 ≤ℤ y.0
score_low x y before =
    elim (int_cmp x.0 y.0) as (λ r. MatchOrdering r (x.0 <ℤ y.0) (x.0 ≡ y.0) (y.0 <ℤ x.0) → is_lt (ordering_then r (slice_cmp nat_cmp x.1 y.1)) ≡ true → x.0 ≤ℤ y.0) [
      | Less ↦ λ low e. omega (arith, ints, low)
      | Equal ↦ λ same e. omega (arith, ints, same)
      | Greater ↦ λ high e. absurd (true≢false (sym e))
    ] (int_ranks x.0 y.0) before

above_on : (is_out : Bool) (limit : Limit) (a b : ℤ) → a ≤ℤ b → is_above_limit is_out limit a ≡ true → is_above_limit is_out limit b ≡ true
above_on is_out Lowest a b low e = refl
above_on is_out Highest a b low e = absurd (true≢false (sym e))
above_on true (At s) a b low e = grind (arith, ints)
above_on false (At s) a b low e = grind (arith, ints)

below_on : (is_out : Bool) (limit : Limit) (a b : ℤ) → b ≤ℤ a → is_below_limit is_out limit a ≡ true → is_below_limit is_out limit b ≡ true
below_on is_out Lowest a b low e = absurd (true≢false (sym e))
below_on is_out Highest a b low e = refl
below_on true (At s) a b low e = grind (arith, ints)
below_on false (At s) a b low e = grind (arith, ints)

pub entered_on : (t : Bool) (min max : Bound) (x y : Scored) → goes_before t x y ≡ true → is_entered t min max x ≡ true → is_entered t min max y ≡ true
entered_on false min max x y before e = above_on min.is_out min.limit x.0 y.0 (score_low x y before) e
entered_on true min max x y before e = below_on max.is_out max.limit x.0 y.0 (score_low y x before) e

pub left_on : (t : Bool) (min max : Bound) (x y : Scored) → goes_before t x y ≡ true → is_entered (not t) min max y ≡ true → is_entered (not t) min max x ≡ true
left_on false min max x y before e = entered_on true min max y x before e
left_on true min max x y before e = entered_on false min max y x before e

-- ---- the pairs within

abbrev pub is_ahead : Bool → Bound → Bound → Scored → Bool
is_ahead t min max = λ pair. not (is_entered t min max pair)

pub within_both : (t : Bool) (min max : Bound) (q : Queue) → filter (is_within min max) q ≡ filter (is_entered t min max) (filter (is_entered (not t) min max) q)
within_both false min max q = filter_then (λ pair. is_above min pair.0) (λ pair. is_below max pair.0) q
within_both true min max q = filter_after (λ pair. is_above min pair.0) (λ pair. is_below max pair.0) q

pub length_turned : (t : Bool) (q : Queue) → length (turned_if t q) ≡ length q
length_turned false q = refl
length_turned true q = length-reverse q

module _ (t : Bool) (low high : Bound) (q : Queue) where
  -- no pair is ahead of a bound that is none
  pub none_ahead : ((pair : Scored) → is_entered t low high pair ≡ true) → 0 ≡ count_by (is_ahead t low high) q
  none_ahead all = sym (count_none (is_ahead t low high) q (λ y here. ap not (all y)))
