-- Reading that starts at a pair, whatever pair it is: the pairs before it are counted and left out.

use Rattle.std.proofs.Common.{Bool, List, None, Option, Some, [], ap, arith, drop, false, inl, inr, length, min, max, not, refl, subst, suc, sym, take, true, true≢false, zero, ℕ, ◌&&◌, ◌+◌, ◌-◌, ◌<◌, ◌∙◌, ◌∷◌, ◌≡◌, ◌≤◌}
use Rattle.std.proofs.lemmas.Bool.{and_from, and_parts, cases_lt, false_from_ne_true}
use Rattle.std.proofs.lemmas.List.{drop-drop, drop_all}
use Rattle.std.proofs.lemmas.List.Sums.{length-filter, sum_by-cons}
use Rattle.std.specs.Prelude.{count_by, filter, slice_range}
use Rattle.zq_commands.proofs.ScoreBounds as bounds
use Rattle.zq_commands.proofs.Sections.{both_hold, count_none, count_turned, drop_taken, entered_on, filter_then, is_ahead, left_on, length_turned, number_of, ones, take_none, take_taken, within_both}
use Rattle.zq_commands.proofs.Woven.{before_trans, other_first, turned_order}
use Rattle.zq_commands.specs.Sections.{is_entered}
use Rattle.zq_commands.specs.Starts.{is_from, is_left, is_reached, is_read}
use Rattle.zq_commands.specs.Weaving.{goes_before}
use Rattle.zq_model.specs.Meaning.{IsRising, Scored}
use Rattle.zq_model.specs.Moves.{Queue}
use Rattle.zq_semantics.specs.Plan.{is_there}
use Rattle.zq_semantics.specs.Ranges.{is_within, turned_if}
use Rattle.zq_words.specs.declared.bound.Bound.{Bound}

-- ---- lists

-- a part of a list without its first pairs, which may be all
part_left : {X : Type 0} (skipped taken from : ℕ) (xs : List X) → slice_range xs (from + min skipped taken) (from + taken) ≡ drop skipped (take taken (drop from xs))
part_left skipped taken from xs = elim (cases_lt taken skipped) as (λ _. slice_range xs (from + min skipped taken) (from + taken) ≡ drop skipped (take taken (drop from xs))) [
  | inl more ↦
      let none : from + taken - (from + min skipped taken) ≡ 0 = omega (arith, more) in
      let out : 0 ≡ taken - skipped = omega (arith, more) in
      ap (λ n. take n (drop (from + min skipped taken) xs)) none ∙ ap (λ n. take n (drop skipped (drop from xs))) out ∙ sym (drop_taken skipped taken (drop from xs))
  | inr few ↦
      let wide : from + taken - (from + min skipped taken) ≡ taken - skipped = omega (arith, few) in
      let place : from + min skipped taken ≡ from + skipped = omega (arith, few) in
      ap (λ n. take n (drop (from + min skipped taken) xs)) wide ∙ ap (λ n. take (taken - skipped) (drop n xs)) place
      ∙ sym (ap (take (taken - skipped)) (drop-drop skipped from xs)) ∙ sym (drop_taken skipped taken (drop from xs))
]

-- ---- a pair from which all are read

from_on : (t : Bool) (first : Option Scored) (x y : Scored) → goes_before t x y ≡ true → is_from t first x ≡ true → is_from t first y ≡ true
from_on t None x y before e = refl
from_on t (Some p) x y before e =
    elim (goes_before t y p) as (λ b. goes_before t y p ≡ b → not b ≡ true) [
      | true ↦ λ late. absurd (true≢false (sym e ∙ ap not (before_trans t x y p before late)))
      | false ↦ λ _. refl
    ] refl

reached_on : (t : Bool) (first : Option Scored) (low high : Bound) (x y : Scored) → goes_before t x y ≡ true → is_reached t first low high x ≡ true → is_reached t first low high y ≡ true
reached_on t first low high x y before e =
    let both = and_parts (is_from t first x) (is_entered t low high x) e in
    and_from (is_from t first y) (is_entered t low high y) (from_on t first x y before both.0) (entered_on t low high x y before both.1)

module _ (t : Bool) (first : Option Scored) (low high : Bound) where
  abbrev pub is_away : Scored → Bool
  is_away = λ pair. not (is_reached t first low high pair)

  -- those that are not read from the near end on are ahead of the bound or left out
  pub count_away : (q : Queue) → count_by is_away q ≡ count_by (is_ahead t low high) q + count_by (is_left t first low high) q
  count_away [] = refl
  count_away (x ∷ q) =
      let all = sum_by-cons (ones is_away) x q in
      let ahead = sum_by-cons (ones (is_ahead t low high)) x q in
      let left = sum_by-cons (ones (is_left t first low high)) x q in
      let one : ones is_away x ≡ ones (is_ahead t low high) x + ones (is_left t first low high) x =
      elim (is_from t first x) as (λ f. number_of (not (f && is_entered t low high x)) ≡ number_of (not (is_entered t low high x)) + number_of (not f && is_entered t low high x)) [
        | true ↦ elim (is_entered t low high x) as (λ e. number_of (not (true && e)) ≡ number_of (not e) + number_of (not true && e)) [ true ↦ refl | false ↦ refl ]
        | false ↦ elim (is_entered t low high x) as (λ e. number_of (not (false && e)) ≡ number_of (not e) + number_of (not false && e)) [ true ↦ refl | false ↦ refl ]
      ] in
      omega (arith, all, ahead, left, one, count_away q)

  module _ (q : Queue) where
    -- the pairs that are read stand one behind the other
    read_is : IsRising q →
        filter (is_read t first low high) (turned_if t q) ≡ drop (count_by is_away q) (take (length q - count_by (is_ahead (not t) low high) q) (turned_if t q))
    read_is rising =
        let r = turned_if t q in
        filter_then (is_from t first) (is_within low high) r
        ∙ ap (filter (is_from t first)) (within_both t low high r)
        ∙ sym (filter_then (is_from t first) (is_entered t low high) (filter (is_entered (not t) low high) r))
        ∙ both_hold t (is_reached t first low high) (is_entered (not t) low high) r (reached_on t first low high) (left_on t low high) (turned_order t q rising)
        ∙ ap (λ n. drop n (take (length r - count_by (is_ahead (not t) low high) r) r)) (count_turned t is_away q)
        ∙ ap (λ n. drop (count_by is_away q) (take (length r - n) r)) (count_turned t (is_ahead (not t) low high) q)
        ∙ ap (λ n. drop (count_by is_away q) (take (n - count_by (is_ahead (not t) low high) q) r)) (length_turned t q)

    -- the first so many of them without some, by the numbers of those away and behind
    pub read_taken : (from behind size taken begin to skipped most : ℕ) → IsRising q → from ≡ count_by is_away q → behind ≡ count_by (is_ahead (not t) low high) q → size ≡ length q →
        taken ≡ min (size - behind - from) most → begin ≡ from + min skipped taken → to ≡ from + taken →
        slice_range (turned_if t q) begin to ≡ drop skipped (take most (filter (is_read t first low high) (turned_if t q)))
    read_taken from behind size taken begin to skipped most rising away back all least start end =
        let r = turned_if t q in
        let until : length q - count_by (is_ahead (not t) low high) q ≡ size - behind = omega (arith, all, back) in
        let whole : filter (is_read t first low high) r ≡ take (size - behind - from) (drop from r) =
        read_is rising ∙ ap (λ n. drop n (take (length q - count_by (is_ahead (not t) low high) q) r)) (sym away) ∙ ap (λ n. drop from (take n r)) until ∙ drop_taken from (size - behind) r in
        ap (λ n. slice_range r n to) start ∙ ap (slice_range r (from + min skipped taken)) end ∙ part_left skipped taken from r
        ∙ ap (drop skipped) (sym (take_taken most (size - behind - from) taken (drop from r) least) ∙ ap (take most) (sym whole))

-- what a section takes of a queue is read from any pair before which no more stand than it leaves out
pub section_read : (t : Bool) (first : Option Scored) (low high : Bound) (q : Queue) (skipped from to : ℕ) → IsRising q → skipped ≡ count_by (is_left t first low high) q → skipped ≤ from →
    drop (from - skipped) (take (to - skipped) (filter (is_read t first low high) (turned_if t q))) ≡ slice_range (filter (is_within low high) (turned_if t q)) from to
section_read t first low high q skipped from to rising left early =
    let r = turned_if t q in
    let within = filter (is_within low high) r in
    let held = take (length q - count_by (is_ahead (not t) low high) q) r in
    let ahead = count_by (is_ahead t low high) q in
    let all : within ≡ drop ahead held = read_is t None low high q rising in
    let away : count_by (is_away t first low high) q ≡ ahead + skipped = count_away t first low high q ∙ ap (λ n. ahead + n) (sym left) in
    let rest : filter (is_read t first low high) r ≡ drop skipped within =
    read_is t first low high q rising ∙ ap (λ n. drop n held) away ∙ sym (drop-drop skipped ahead held) ∙ ap (drop skipped) (sym all) in
    let wide : to - skipped - (from - skipped) ≡ to - from = omega (arith, early) in
    let place : skipped + (from - skipped) ≡ from = omega (arith, early) in
    drop_taken (from - skipped) (to - skipped) (filter (is_read t first low high) r)
    ∙ ap (λ n. take n (drop (from - skipped) (filter (is_read t first low high) r))) wide
    ∙ ap (λ ps. take (to - from) (drop (from - skipped) ps)) rest
    ∙ ap (take (to - from)) (drop-drop (from - skipped) skipped within ∙ ap (λ n. drop n within) place)

-- nothing is taken up to a place, nor of fewer pairs than come before it
pub none_asked : {X : Type 0} (xs : List X) (from to : ℕ) → to ≤ from → [] ≡ slice_range xs from to
none_asked xs from to none = let out : 0 ≡ to - from = omega (arith, none) in ap (λ n. take n (drop from xs)) out

pub none_there : (t : Bool) (low high : Bound) (q : Queue) (within from to : ℕ) → within ≡ count_by (is_within low high) q → within ≤ from →
    [] ≡ slice_range (filter (is_within low high) (turned_if t q)) from to
none_there t low high q within from to all past =
    let r = turned_if t q in
    let few : length (filter (is_within low high) r) ≤ from = omega (arith, all, past, count_turned t (is_within low high) q, length-filter (is_within low high) r) in
    sym (take_none (drop from (filter (is_within low high) r)) (to - from) (drop_all from (filter (is_within low high) r) few))

-- ---- counts of a book

module _ (t : Bool) (low high : Bound) where
  -- nothing is left out where all is read
  pub none_left : (q : Queue) → 0 ≡ count_by (is_left t None low high) q
  none_left q = sym (count_none (is_left t None low high) q (λ y here. refl))

  module _ (p : Scored) where
    abbrev is_early : Scored → Bool
    is_early = λ pair. goes_before t pair p

    left_but : (y : Scored) → is_left t (Some p) low high y ≡ bounds.but is_early (is_ahead t low high) y
    left_but y =
        elim (goes_before t y p) as (λ g. (not (not g) && is_entered t low high y) ≡ (g && not (not (is_entered t low high y)))) [
          | true ↦ elim (is_entered t low high y) as (λ e. (not (not true) && e) ≡ (true && not (not e))) [ true ↦ refl | false ↦ refl ]
          | false ↦ refl
        ]

    -- where the pair is past the bound, those ahead of the bound go before it
    ahead_early : is_entered t low high p ≡ true → (y : Scored) → is_ahead t low high y ≡ true → is_early y ≡ true
    ahead_early entered y ahead =
        elim (goes_before t y p) as (λ g. goes_before t y p ≡ g → g ≡ true) [
          | true ↦ λ _. refl
          | false ↦ λ late.
              let out : is_entered t low high y ≡ true → ⊥ = λ e. true≢false (sym ahead ∙ ap not e) in
              let before = other_first t y p (λ same. out (subst (λ z. is_entered t low high z ≡ true) (sym same) entered)) late in
              absurd (out (entered_on t low high p y before entered))
        ] refl

    -- and where it is not, none that goes before it is
    early_ahead : is_entered t low high p ≡ false → (y : Scored) → is_early y ≡ true → is_ahead t low high y ≡ true
    early_ahead away y early = ap not (false_from_ne_true (is_entered t low high y) (λ e. true≢false (sym (entered_on t low high y p early e) ∙ away)))

    pub count_early : (q : Queue) → count_by is_early q - count_by (is_ahead t low high) q ≡ count_by (is_left t (Some p) low high) q
    count_early q =
        let same = bounds.count_same (is_left t (Some p) low high) (bounds.but is_early (is_ahead t low high)) q left_but in
        elim (is_entered t low high p) as (λ e. is_entered t low high p ≡ e → count_by is_early q - count_by (is_ahead t low high) q ≡ count_by (is_left t (Some p) low high) q) [
          | true ↦ λ entered. let all = bounds.count_but is_early (is_ahead t low high) q (ahead_early entered) in omega (arith, all, same)
          | false ↦ λ away. let none = bounds.count_none is_early (is_ahead t low high) q (early_ahead away) in omega (arith, none.0, none.1, same)
        ] refl

    pub count_until : (q : Queue) → max (count_by (is_ahead t low high) q) (count_by is_early q) ≡ count_by (is_away t (Some p) low high) q
    count_until q = let all = count_away t (Some p) low high q in let left = count_early q in omega (arith, all, left)

-- some are taken from a place inside on
some_taken : (xs : Queue) (from to : ℕ) → from < length xs → from < to → is_there (slice_range xs from to) ≡ true
some_taken [] from to low wide = absurd (omega (arith, low))
some_taken (x ∷ xs) zero to low wide = let more : to - 0 ≡ suc (to - 1) = omega (arith, wide) in ap (λ n. is_there (take n (x ∷ xs))) more
some_taken (x ∷ xs) (suc from) to low wide =
    let same : to - suc from ≡ to - 1 - from = omega arith in
    ap (λ n. is_there (take n (drop from xs))) same ∙ some_taken xs from (to - 1) (omega (arith, low)) (omega (arith, wide))

pub some_there : (t : Bool) (low high : Bound) (q : Queue) (within from to : ℕ) → within ≡ count_by (is_within low high) q → from < within → from < to →
    is_there (slice_range (filter (is_within low high) (turned_if t q)) from to) ≡ true
some_there t low high q within from to all inside wide =
    let r = turned_if t q in
    some_taken (filter (is_within low high) r) from to (omega (arith, all, inside, count_turned t (is_within low high) q, length-filter (is_within low high) r)) wide
