-- Members that are dropped one after the other, as ZREM drops them, each of which is there.

use Rattle.std.proofs.Common.{Bool, Less, List, None, Option, Some, [], ap, arith, cond, drop, false, inl, inr, length, map, nat_eq, not, pos, refl, reverse, subst, suc, sym, take, true, true≢false, zero, ℕ, ℤ, ◌++◌, ◌+◌, ◌∙◌, ◌∷◌, ◌≡◌, ◌⊎◌}
use Rattle.std.proofs.lemmas.Bool.{cond-true, false_from_ne_true}
use Rattle.std.proofs.lemmas.Grind.{reverse_onto}
use Rattle.std.proofs.lemmas.List.{take-append-drop}
use Rattle.std.proofs.lemmas.Option.{same_Some}
use Rattle.std.specs.Cmp.Lexicographic.{pointwise}
use Rattle.std.specs.Prelude.{filter, find, if◌then◌else◌, int_lt, is_some, option_map}
use Rattle.zq_model.proofs.Homes.{home_score, lent_placed, told_queues}
use Rattle.zq_model.proofs.Lists.{in_filter, in_filter_from}
use Rattle.zq_model.proofs.Membership.{in_left, in_right, in_taken, in_union}
use Rattle.zq_model.proofs.Places.{bytes_same, same_bytes}
use Rattle.zq_model.proofs.Rising.{not_below_itself}
use Rattle.zq_model.proofs.Told.{IsTold}
use Rattle.zq_model.specs.Books.{Book}
use Rattle.zq_model.specs.Lent.{AreLent, queues_of}
use Rattle.zq_model.specs.Meaning.{IsRising, Scored, scored_cmp}
use Rattle.zq_model.specs.Moves.{Move, Queue, Queues, after, after_all, is_of, score_in, without}
use Rattle.zq_model.specs.Operation.{Drop}
use Rattle.zq_model.specs.Rule.{Rule}
use Rattle.zq_model.specs.Sets.{IsIn}
use Rattle.zq_semantics.specs.Plan.{Part, count_in_turn, drops, in_turn, moves_in_turn, nothing, one, zrem_part}
use Rattle.zq_semantics.specs.Procedures.{last_pairs, members_of}
use Rattle.zq_semantics.specs.Ranges.{from_zero, is_within, limited, placed, places, ranged}
use Rattle.zq_semantics.specs.Replies.{count_reply}
use Rattle.zq_words.specs.Words.{Word}
use Rattle.zq_words.specs.declared.range.Range.{Range}
use Rattle.zq_words.specs.declared.range.Range.TheVariants.{ByPlace, ByScore}
use Rattle.zq_words.specs.declared.range.Window.{Window}

-- ---- pairs of different members

-- no two of the pairs are of one member
abbrev pub AreApart : Queue → Type 0
AreApart [] = Unit {0}
AreApart (p ∷ pairs) = ((q : Scored) → IsIn q pairs → is_of p.1 q ≡ false) × AreApart pairs

apart_turned : (p q : Scored) → is_of p.1 q ≡ false → is_of q.1 p ≡ false
apart_turned p q apart =
    false_from_ne_true (is_of q.1 p) (λ same. true≢false (sym (bytes_same q.1 p.1 (sym (same_bytes p.1 q.1 same))) ∙ apart))

both_apart : (ps qs : Queue) → AreApart ps → AreApart qs → ((p q : Scored) → IsIn p ps → IsIn q qs → is_of p.1 q ≡ false) → AreApart (ps ++ qs)
both_apart [] qs a b across = b
both_apart (p ∷ ps) qs a b across = (
  λ q here. elim (in_union q ps qs here) [ inl first ↦ a.0 q first | inr second ↦ across p q (inl refl) second ],
  both_apart ps qs a.1 b (λ r q here there. across r q (inr here) there),
)

in_reverse : {X : Type 0} (x : X) (xs : List X) → IsIn x (reverse xs) → IsIn x xs
in_reverse x [] here = here
in_reverse x (y ∷ xs) here = elim (in_union x (reverse xs) (y ∷ []) (subst (IsIn x) (reverse_onto xs y []) here)) [
  | inl before ↦ inr (in_reverse x xs before)
  | inr last ↦ elim last [ inl same ↦ inl same | inr none ↦ absurd none ]
]

pub reverse_apart : (ps : Queue) → AreApart ps → AreApart (reverse ps)
reverse_apart [] a = tt
reverse_apart (p ∷ ps) a =
    subst AreApart (sym (reverse_onto ps p []))
    (both_apart (reverse ps) (p ∷ []) (reverse_apart ps a.1) (λ q none. absurd none, tt) (λ q r here there. elim there [
      | inl same ↦ subst (λ z. is_of q.1 z ≡ false) same (apart_turned p q (a.0 q (in_reverse q ps here)))
      | inr none ↦ absurd none
    ]))

-- ---- some of the pairs of a queue

-- they are of different members, and each stands there
pub record ArePairsOf (q ps : Queue) : Type 0 where
  pub apart : AreApart ps
  pub within : (p : Scored) → IsIn p ps → IsIn p q

none_of : (q : Queue) → ArePairsOf q []
none_of q = record { apart = tt; within = λ p none. absurd none }

pub all_of : (q : Queue) → AreApart q → ArePairsOf q q
all_of q a = record { apart = a; within = λ p here. here }

take_apart : (n : ℕ) (ps : Queue) → AreApart ps → AreApart (take n ps)
take_apart zero ps a = tt
take_apart (suc n) [] a = tt
take_apart (suc n) (p ∷ ps) a = (λ q here. a.0 q (in_taken q n ps here), take_apart n ps a.1)

pub take_of : (n : ℕ) (q ps : Queue) → ArePairsOf q ps → ArePairsOf q (take n ps)
take_of n q ps are = record { apart = take_apart n ps are.apart; within = λ p here. are.within p (in_taken p n ps here) }

drop_apart : (n : ℕ) (ps : Queue) → AreApart ps → AreApart (drop n ps)
drop_apart zero ps a = a
drop_apart (suc n) [] a = tt
drop_apart (suc n) (p ∷ ps) a = drop_apart n ps a.1

in_dropped : {X : Type 0} (x : X) (k : ℕ) (xs : List X) → IsIn x (drop k xs) → IsIn x xs
in_dropped x k xs here = subst (IsIn x) (take-append-drop k xs) (in_right x (take k xs) (drop k xs) here)

pub drop_of : (n : ℕ) (q ps : Queue) → ArePairsOf q ps → ArePairsOf q (drop n ps)
drop_of n q ps are = record { apart = drop_apart n ps are.apart; within = λ p here. are.within p (in_dropped p n ps here) }

filter_apart : (f : Scored → Bool) (ps : Queue) → AreApart ps → AreApart (filter f ps)
filter_apart f [] a = tt
filter_apart f (p ∷ ps) a =
    elim (f p) as (λ b. AreApart (cond b (p ∷ filter f ps) (filter f ps))) [
      | true ↦ (λ q here. a.0 q (in_filter_from f ps q here).0, filter_apart f ps a.1)
      | false ↦ filter_apart f ps a.1
    ]

pub filter_of : (f : Scored → Bool) (q ps : Queue) → ArePairsOf q ps → ArePairsOf q (filter f ps)
filter_of f q ps are = record { apart = filter_apart f ps are.apart; within = λ p here. are.within p (in_filter_from f ps p here).0 }

pub reverse_of : (q ps : Queue) → ArePairsOf q ps → ArePairsOf q (reverse ps)
reverse_of q ps are = record { apart = reverse_apart ps are.apart; within = λ p here. are.within p (in_reverse p ps here) }

either_of : (b : Bool) (q xs ys : Queue) → ArePairsOf q xs → ArePairsOf q ys → ArePairsOf q (cond b xs ys)
either_of true q xs ys first second = first
either_of false q xs ys first second = second

limited_of : (window : Option Window) (q ps : Queue) → ArePairsOf q ps → ArePairsOf q (limited window ps)
limited_of None q ps are = are
limited_of (Some window) q ps are =
    either_of (int_lt window.offset (pos 0)) q [] _ (none_of q)
    (either_of (int_lt window.count (pos 0)) q (drop (from_zero window.offset) ps) _ (drop_of (from_zero window.offset) q ps are)
    (take_of (from_zero window.count) q (drop (from_zero window.offset) ps) (drop_of (from_zero window.offset) q ps are)))

pub ranged_of : (range : Range) (q : Queue) → AreApart q → ArePairsOf q (ranged range q)
ranged_of (ByPlace start stop) q a =
    let from = from_zero (placed (length q) start) in
    take_of _ q (drop from q) (drop_of from q q (all_of q a))
ranged_of (ByScore min max window) q a = limited_of window q (filter (is_within min max) q) (filter_of (is_within min max) q q (all_of q a))

pub last_of : (n : ℕ) (q : Queue) → AreApart q → ArePairsOf q (last_pairs n q)
last_of n q a = take_of n q (reverse q) (reverse_of q q (all_of q a))

-- ---- the queue over books

told_apart : (f : List ℕ → Option ℤ) (q : Queue) → IsRising q → ((y : Scored) → IsIn y q → f y.1 ≡ Some y.0) → AreApart q
told_apart f [] rising told = tt
told_apart f (x ∷ q) rising told = (
  λ y here. false_from_ne_true (is_of x.1 y) (λ its.
      let member : y.1 ≡ x.1 = same_bytes y.1 x.1 its in
      let scores : x.0 ≡ y.0 = same_Some x.0 y.0 (sym (told x (inl refl)) ∙ ap f (sym member) ∙ told y (inr here)) in
      let same : x ≡ y = λ i. (scores i, sym member i) in
      absurd (not_below_itself x (subst (λ z. scored_cmp x z ≡ Less) (sym same) (rising.0 y here)))),
  told_apart f q rising.1 (λ y here. told y (inr here)),
)

pub lent_apart : (rule : Rule) (K : ℕ) (books : List Book) (key : List ℕ) → AreLent K books → AreApart (queues_of rule books key)
lent_apart rule K books key are =
    let f = home_score rule key books in
    let told : IsTold f (queues_of rule books key) = told_queues rule K books (lent_placed rule K books are) key in
    told_apart f (queues_of rule books key) told.rising (λ y here. (told.members y.0 y.1).0 here)

-- ---- what dropping them makes

found_there : (m : List ℕ) (q : Queue) (p : Scored) → IsIn p q → is_of m p ≡ true → is_some (score_in q m) ≡ true
found_there m [] p here its = absurd here
found_there m (x ∷ q) p here its =
    elim (is_of m x) as (λ b. is_of m x ≡ b → is_some (option_map (λ (y : Scored). y.0) (cond b (Some x) (find (is_of m) q))) ≡ true) [
      | true ↦ λ _. refl
      | false ↦ λ other. elim here [
        | inl same ↦ absurd (true≢false (sym its ∙ ap (is_of m) (sym same) ∙ other))
        | inr later ↦ found_there m q p later its
      ]
    ] refl

module _ (key : Word) where
  abbrev drop_move : Scored → Move
  drop_move p = record { key = key; member = p.1; act = Drop }

  part_there : (p : Scored) (queues : Queues) → IsIn p (queues key) → zrem_part key queues p.1 ≡ record { moves = one key p.1 Drop; is_counted = true }
  part_there p queues here =
      cond-true (is_some (score_in (queues key) p.1)) (record { moves = one key p.1 Drop; is_counted = true }) nothing
      (found_there p.1 (queues key) p here (bytes_same p.1 p.1 refl))

  -- the others stand there when it is dropped
  left_there : (p : Scored) (ps : Queue) (queues : Queues) → ArePairsOf (queues key) (p ∷ ps) → ArePairsOf (after (drop_move p) queues key) ps
  left_there p ps queues are = record {
    apart = are.apart.1;
    within = λ q here. subst (IsIn q) (sym (cond-true (pointwise nat_eq key key) (without (queues key) p.1) (queues key) (bytes_same key key refl)))
        (in_filter (λ x. not (is_of p.1 x)) (queues key) q (are.within q (inr here)) (ap not (are.apart.0 q here)));
  }

  -- one Drop for each pair, in order
  pub moves_dropped : (ps : Queue) (queues : Queues) → ArePairsOf (queues key) ps → moves_in_turn (zrem_part key) (members_of ps) queues ≡ drops key ps
  moves_dropped [] queues are = refl
  moves_dropped (p ∷ ps) queues are =
      ap (λ (part : Part). part.moves ++ moves_in_turn (zrem_part key) (members_of ps) (after_all part.moves queues)) (part_there p queues (are.within p (inl refl)))
      ∙ ap (λ moves. drop_move p ∷ moves) (moves_dropped ps (after (drop_move p) queues) (left_there p ps queues are))

  -- and each is counted
  pub count_dropped : (ps : Queue) (queues : Queues) → ArePairsOf (queues key) ps → count_in_turn (zrem_part key) (members_of ps) queues ≡ length ps
  count_dropped [] queues are = refl
  count_dropped (p ∷ ps) queues are =
      let one : 1 + length ps ≡ length (p ∷ ps) = omega arith in
      ap (λ (part : Part). (if part.is_counted then 1 else 0) + count_in_turn (zrem_part key) (members_of ps) (after_all part.moves queues)) (part_there p queues (are.within p (inl refl)))
      ∙ ap (λ n. 1 + n) (count_dropped ps (after (drop_move p) queues) (left_there p ps queues are))
      ∙ one
