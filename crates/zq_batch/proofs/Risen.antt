-- Changes that are read and written one after the other.

use Rattle.std.proofs.Common.{add-zero, ap, append_assoc, append-nil, arith, Err, false, get_or, inl, inr, length, List, Ok, refl, subst, suc, sym, true, zero, [], ℕ, ◌+◌, ◌++◌, ◌-◌, ◌<◌, ◌∙◌, ◌∷◌, ◌≡◌, ◌≤◌}
use Rattle.std.proofs.Math.ListN.{length-set, set}
use Rattle.std.proofs.lemmas.Bool.{cases_eq, cases_lt}
use Rattle.std.proofs.lemmas.Bool.Decides.{nat_tests}
use Rattle.std.proofs.lemmas.List.{ext_get_or, get_or-set_other, get_or-set_same, get_or_past}
use Rattle.std.specs.Prelude.{nat_lt}
use Rattle.zq_batch.proofs.Varints.{varint_again}
use Rattle.zq_batch.specs.Before.{IsRisen, most_of}
use Rattle.zq_batch.specs.Fields.{change_at, changes_at}
use Rattle.zq_batch.specs.Spelling.{change, changes, moved, one_if}
use Rattle.zq_batch.specs.Varint.{varint}
use Rattle.zq_dots.proofs.Counters.{last_is}
use Rattle.zq_fields.proofs.PartsAgain.{byte_in_again}
use Rattle.zq_fields.specs.declared.fault.PartFault.{PartFault}
use Rattle.zq_model.specs.Sets.{IsCounters, LAST, SITES}

-- ---- one change

pub change_some : (s from n : ℕ) → from < n → change s from n ≡ s ∷ varint (n - from)
unfolding change
change_some s from n rises = let test : nat_lt from n ≡ true = grind (arith, nat_tests) in rw test refl

pub change_none : (s from n : ℕ) → n ≤ from → change s from n ≡ []
unfolding change
change_none s from n stays = let test : nat_lt from n ≡ false = grind (arith, nat_tests) in rw test refl

pub one_more : (from n : ℕ) → from < n → one_if (nat_lt from n) ≡ 1
one_more from n rises = let test : nat_lt from n ≡ true = grind (arith, nat_tests) in ap one_if test

pub none_more : (from n : ℕ) → n ≤ from → one_if (nat_lt from n) ≡ 0
none_more from n stays = let test : nat_lt from n ≡ false = grind (arith, nat_tests) in ap one_if test

-- ---- changes of a site more

changes_none : (s : ℕ) (base v : List ℕ) → changes 0 s base v ≡ []
unfolding changes
changes_none s base v = refl

changes_front : (k s : ℕ) (base v : List ℕ) → changes (suc k) s base v ≡ change s (get_or base s 0) (get_or v s 0) ++ changes k (s + 1) base v
unfolding changes
changes_front k s base v = refl

changes_back : (k s : ℕ) (base v : List ℕ) → changes (suc k) s base v ≡ changes k s base v ++ change (s + k) (get_or base (s + k) 0) (get_or v (s + k) 0)
unfolding changes
changes_back zero s base v = let here : s ≡ s + 0 = omega arith in append-nil (change s (get_or base s 0) (get_or v s 0)) ∙ ap (λ t. change t (get_or base t 0) (get_or v t 0)) here
changes_back (suc k) s base v =
    let place : s + 1 + k ≡ s + suc k = omega arith in
    let first = change s (get_or base s 0) (get_or v s 0) in
    ap (λ x. first ++ x) (changes_back k (s + 1) base v ∙ ap (λ t. changes k (s + 1) base v ++ change t (get_or base t 0) (get_or v t 0)) place)
    ∙ sym (append_assoc first (changes k (s + 1) base v) (change (s + suc k) (get_or base (s + suc k) 0) (get_or v (s + suc k) 0)))

pub changes_push : (k : ℕ) (base v : List ℕ) → changes (k + 1) 0 base v ≡ changes k 0 base v ++ change k (get_or base k 0) (get_or v k 0)
changes_push k base v =
    let next : k + 1 ≡ suc k = omega arith in
    let here : 0 + k ≡ k = omega arith in
    ap (λ m. changes m 0 base v) next ∙ (changes_back k 0 base v ∙ ap (λ t. changes k 0 base v ++ change t (get_or base t 0) (get_or v t 0)) here)

pub moved_none : (s : ℕ) (base v : List ℕ) → moved 0 s base v ≡ 0
unfolding moved
moved_none s base v = refl

moved_front : (k s : ℕ) (base v : List ℕ) → moved (suc k) s base v ≡ one_if (nat_lt (get_or base s 0) (get_or v s 0)) + moved k (s + 1) base v
unfolding moved
moved_front k s base v = refl

moved_back : (k s : ℕ) (base v : List ℕ) → moved (suc k) s base v ≡ moved k s base v + one_if (nat_lt (get_or base (s + k) 0) (get_or v (s + k) 0))
unfolding moved
moved_back zero s base v = let here : s ≡ s + 0 = omega arith in omega (arith, ap (λ t. one_if (nat_lt (get_or base t 0) (get_or v t 0))) here)
moved_back (suc k) s base v =
    let place : s + 1 + k ≡ s + suc k = omega arith in
    omega (arith, moved_back k (s + 1) base v, ap (λ t. one_if (nat_lt (get_or base t 0) (get_or v t 0))) place)

pub moved_push : (k : ℕ) (base v : List ℕ) → moved (k + 1) 0 base v ≡ moved k 0 base v + one_if (nat_lt (get_or base k 0) (get_or v k 0))
moved_push k base v =
    let next : k + 1 ≡ suc k = omega arith in
    let here : 0 + k ≡ k = omega arith in
    ap (λ m. moved m 0 base v) next ∙ (moved_back k 0 base v ∙ ap (λ t. moved k 0 base v + one_if (nat_lt (get_or base t 0) (get_or v t 0))) here)

-- the changes of the sites below k are those of vectors that have the same counters there
changes_same : (k : ℕ) (base v w : List ℕ) → ((t : ℕ) → t < k → get_or v t 0 ≡ get_or w t 0) → changes k 0 base v ≡ changes k 0 base w
changes_same zero base v w same = changes_none 0 base v ∙ sym (changes_none 0 base w)
changes_same (suc k) base v w same =
    let next : k + 1 ≡ suc k = omega arith in
    subst (λ m. changes m 0 base v ≡ changes m 0 base w) next
    (changes_push k base v ∙ ((λ i. changes_same k base v w (λ t below. same t (omega arith)) i ++ change k (get_or base k 0) (same k (omega arith) i)) ∙ sym (changes_push k base w)))

moved_same : (k : ℕ) (base v w : List ℕ) → ((t : ℕ) → t < k → get_or v t 0 ≡ get_or w t 0) → moved k 0 base v ≡ moved k 0 base w
moved_same zero base v w same = moved_none 0 base v ∙ sym (moved_none 0 base w)
moved_same (suc k) base v w same =
    let next : k + 1 ≡ suc k = omega arith in
    subst (λ m. moved m 0 base v ≡ moved m 0 base w) next
    (moved_push k base v ∙ ((λ i. moved_same k base v w (λ t below. same t (omega arith)) i + one_if (nat_lt (get_or base k 0) (same k (omega arith) i))) ∙ sym (moved_push k base w)))

-- where a vector has not moved, nothing is written
changes_skip : (low d : ℕ) (base v : List ℕ) → ((t : ℕ) → low ≤ t → get_or v t 0 ≡ get_or base t 0) → changes (low + d) 0 base v ≡ changes low 0 base v
changes_skip low zero base v stays = ap (λ k. changes k 0 base v) (add-zero low)
changes_skip low (suc d) base v stays =
    let next : low + suc d ≡ low + d + 1 = omega arith in
    let here = stays (low + d) (omega arith) in
    ap (λ k. changes k 0 base v) next
    ∙ (changes_push (low + d) base v ∙ (ap (λ x. changes (low + d) 0 base v ++ x) (change_none (low + d) (get_or base (low + d) 0) (get_or v (low + d) 0) (omega arith)) ∙ (append-nil (changes (low + d) 0 base v) ∙ changes_skip low d base v stays)))

moved_skip : (low d : ℕ) (base v : List ℕ) → ((t : ℕ) → low ≤ t → get_or v t 0 ≡ get_or base t 0) → moved (low + d) 0 base v ≡ moved low 0 base v
moved_skip low zero base v stays = ap (λ k. moved k 0 base v) (add-zero low)
moved_skip low (suc d) base v stays =
    let next : low + suc d ≡ low + d + 1 = omega arith in
    let here = stays (low + d) (omega arith) in
    omega (arith, ap (λ k. moved k 0 base v) next, moved_push (low + d) base v, none_more (get_or base (low + d) 0) (get_or v (low + d) 0) (omega arith), moved_skip low d base v stays)

-- where none has moved, nothing is written
pub changes_unmoved : (k s : ℕ) (base v : List ℕ) → moved k s base v ≡ 0 → changes k s base v ≡ []
changes_unmoved zero s base v none = changes_none s base v
changes_unmoved (suc k) s base v none =
    let stays : get_or v s 0 ≤ get_or base s 0 = elim (cases_lt (get_or base s 0) (get_or v s 0)) [
      | inl rises ↦ absurd (omega (arith, none, moved_front k s base v, one_more (get_or base s 0) (get_or v s 0) rises))
      | inr stays ↦ stays
    ] in
    let rest : moved k (s + 1) base v ≡ 0 = omega (arith, none, moved_front k s base v) in
    changes_front k s base v ∙ (ap (λ x. x ++ changes k (s + 1) base v) (change_none s (get_or base s 0) (get_or v s 0) stays) ∙ changes_unmoved k (s + 1) base v rest)

-- what is seen has not moved from itself
pub moved_still : (k s : ℕ) (v : List ℕ) → moved k s v v ≡ 0
moved_still zero s v = moved_none s v v
moved_still (suc k) s v = omega (arith, moved_front k s v v, none_more (get_or v s 0) (get_or v s 0) (omega arith), moved_still k (s + 1) v)

-- ---- reading

changes_more : (whole own top k low s n : ℕ) (v bytes rest : List ℕ) → change_at whole own top low v bytes ≡ Ok ((s, n), rest) → changes_at whole own top (suc k) low v bytes ≡ changes_at whole own top k (s + 1) (set v s (get_or v s 0 + n)) rest
unfolding changes_at
changes_more whole own top k low s n v bytes rest e = rw e refl

changes_fail : (whole own top k low : ℕ) (v bytes : List ℕ) (fault : PartFault) → change_at whole own top low v bytes ≡ Err fault → changes_at whole own top (suc k) low v bytes ≡ Err fault
unfolding changes_at
changes_fail whole own top k low v bytes fault e = rw e refl

changes_end : (whole own top low : ℕ) (v bytes : List ℕ) → changes_at whole own top 0 low v bytes ≡ Ok (v, bytes)
unfolding changes_at
changes_end whole own top low v bytes = refl

-- i of the changes are read, the last of the site before low: all is where reading them began, and bytes what is left
pub record AreChangedTo (whole own top count i low : ℕ) (base all bytes v : List ℕ) : Type 0 where
  pub reads : changes_at whole own top count 0 base all ≡ changes_at whole own top (count - i) low v bytes
  pub found : all ≡ changes low 0 base v ++ bytes
  pub counted : moved low 0 base v ≡ i
  pub stays : (t : ℕ) → low ≤ t → get_or v t 0 ≡ get_or base t 0
  pub risen : IsRisen own base top v
  pub below : low ≤ SITES
  pub counters : IsCounters v

pub most_last : (own top t : ℕ) → top ≤ LAST → most_of own top t ≤ LAST
most_last own top t small = grind (arith, nat_tests)

pub changed_none : (whole own top count : ℕ) (base all : List ℕ) → IsCounters base → get_or base own 0 ≤ top → AreChangedTo whole own top count 0 0 base all all base
changed_none whole own top count base all are small = record {
  reads = let first : count ≡ count - 0 = omega arith in ap (λ k. changes_at whole own top k 0 base all) first;
  found = ap (λ x. x ++ all) (sym (changes_none 0 base base));
  counted = moved_none 0 base base;
  stays = λ t from. refl;
  risen = record { rises = λ t. omega arith; own = small };
  below = omega arith;
  counters = are;
}

pub changed_fails : (whole own top count i low : ℕ) (base all bytes v : List ℕ) (fault : PartFault) → i < count → change_at whole own top low v bytes ≡ Err fault → AreChangedTo whole own top count i low base all bytes v → changes_at whole own top count 0 base all ≡ Err fault
changed_fails whole own top count i low base all bytes v fault below e d =
    let left : count - i ≡ suc (count - (i + 1)) = omega arith in
    d.reads ∙ (ap (λ k. changes_at whole own top k low v bytes) left ∙ changes_fail whole own top (count - (i + 1)) low v bytes fault e)

own_within : (own top s n : ℕ) (v : List ℕ) → s < length v → get_or v own 0 ≤ top → 1 ≤ n → n ≤ most_of own top s - get_or v s 0 → get_or (set v s (get_or v s 0 + n)) own 0 ≤ top
own_within own top s n v here small some few = elim (cases_eq own s) [
  | inl same ↦ (
      let test : most_of own top s ≡ top = grind (arith, nat_tests) in
      rw (same, get_or-set_same v s (get_or v s 0 + n) 0 here) (omega arith))
  | inr other ↦ rw (get_or-set_other v s own (get_or v s 0 + n) 0 other) small
]

pub changed_more : (whole own top count i low s n : ℕ) (base all bytes rest v : List ℕ) → i < count → top ≤ LAST → low ≤ s → s < SITES → 1 ≤ n → n ≤ most_of own top s - get_or v s 0 → change_at whole own top low v bytes ≡ Ok ((s, n), rest) → bytes ≡ s ∷ (varint n ++ rest) → AreChangedTo whole own top count i low base all bytes v → AreChangedTo whole own top count (i + 1) (s + 1) base all rest (set v s (get_or v s 0 + n))
changed_more whole own top count i low s n base all bytes rest v below high from site some few e is d =
    let wide = d.counters.wide in
    let last = most_last own top s high in
    let left : count - i ≡ suc (count - (i + 1)) = omega arith in
    let w = set v s (get_or v s 0 + n) in
    let here : s < length v = omega arith in
    let between : low + (s - low) ≡ s = omega arith in
    let at : get_or w s 0 ≡ get_or v s 0 + n = get_or-set_same v s (get_or v s 0 + n) 0 here in
    let others : (t : ℕ) → t < s → get_or w t 0 ≡ get_or v t 0 = λ t before. get_or-set_other v s t (get_or v s 0 + n) 0 (λ same. omega arith) in
    let stood : get_or v s 0 ≡ get_or base s 0 = d.stays s from in
    let rises : get_or base s 0 < get_or w s 0 = omega arith in
    let rise : get_or w s 0 - get_or base s 0 ≡ n = omega arith in
    let one : change s (get_or base s 0) (get_or w s 0) ≡ s ∷ varint n = change_some s (get_or base s 0) (get_or w s 0) rises ∙ ap (λ m. s ∷ varint m) rise in
    let before : changes s 0 base w ≡ changes low 0 base v = changes_same s base w v others ∙ (ap (λ k. changes k 0 base v) (sym between) ∙ changes_skip low (s - low) base v d.stays) in
    let before_moved : moved s 0 base w ≡ moved low 0 base v = moved_same s base w v others ∙ (ap (λ k. moved k 0 base v) (sym between) ∙ moved_skip low (s - low) base v d.stays) in
    let written : changes (s + 1) 0 base w ≡ changes low 0 base v ++ (s ∷ varint n) = changes_push s base w ∙ (λ j. before j ++ one j) in
    record {
      reads = d.reads ∙ (ap (λ k. changes_at whole own top k low v bytes) left ∙ changes_more whole own top (count - (i + 1)) low s n v bytes rest e);
      found = d.found ∙ (ap (λ x. changes low 0 base v ++ x) is ∙ (sym (append_assoc (changes low 0 base v) (s ∷ varint n) rest) ∙ ap (λ x. x ++ rest) (sym written)));
      counted = omega (arith, moved_push s base w, before_moved, d.counted, one_more (get_or base s 0) (get_or w s 0) rises);
      stays = λ t past. get_or-set_other v s t (get_or v s 0 + n) 0 (λ same. omega arith) ∙ d.stays t (omega arith);
      risen = record {
        rises = λ t. elim (cases_eq t s) [
          | inl same ↦ rw (same, at) (omega arith)
          | inr other ↦ rw (get_or-set_other v s t (get_or v s 0 + n) 0 other) (d.risen.rises t)
        ];
        own = own_within own top s n v here d.risen.own some few;
      };
      below = omega arith;
      counters = record {
        wide = length-set v s (get_or v s 0 + n) ∙ wide;
        bounded = λ t. elim (cases_eq t s) [
          | inl same ↦ rw (same, at) (omega arith)
          | inr other ↦ rw (get_or-set_other v s t (get_or v s 0 + n) 0 other) (d.counters.bounded t)
        ];
      };
    }

pub changed_read : (whole own top count i low : ℕ) (base all bytes v : List ℕ) → i ≡ count → AreChangedTo whole own top count i low base all bytes v → changes_at whole own top count 0 base all ≡ Ok (v, bytes)
changed_read whole own top count i low base all bytes v done d =
    let none : count - i ≡ 0 = omega arith in
    d.reads ∙ (ap (λ k. changes_at whole own top k low v bytes) none ∙ changes_end whole own top low v bytes)

pub changed_found : (whole own top count i low : ℕ) (base all bytes v : List ℕ) → AreChangedTo whole own top count i low base all bytes v → all ≡ changes SITES 0 base v ++ bytes
changed_found whole own top count i low base all bytes v d =
    let within = d.below in
    let between : low + (SITES - low) ≡ SITES = omega arith in
    d.found ∙ ap (λ x. x ++ bytes) (sym (changes_skip low (SITES - low) base v d.stays) ∙ ap (λ k. changes k 0 base v) between)

pub changed_count : (whole own top count i low : ℕ) (base all bytes v : List ℕ) → i ≡ count → AreChangedTo whole own top count i low base all bytes v → moved SITES 0 base v ≡ count
changed_count whole own top count i low base all bytes v done d =
    let within = d.below in
    let between : low + (SITES - low) ≡ SITES = omega arith in
    ap (λ k. moved k 0 base v) (sym between) ∙ (moved_skip low (SITES - low) base v d.stays ∙ (d.counted ∙ done))

-- ---- what was written is read again

pub change_again : (whole own top low s n : ℕ) (v rest : List ℕ) → low ≤ s → s < SITES → get_or v s 0 < n → n ≤ most_of own top s → n ≤ LAST → change_at whole own top low v (change s (get_or v s 0) n ++ rest) ≡ Ok ((s, n - get_or v s 0), rest)
unfolding change_at
change_again whole own top low s n v rest from below rises most small =
    let last = last_is in
    rw (change_some s (get_or v s 0) n rises, byte_in_again whole low SITES s (varint (n - get_or v s 0) ++ rest) from below, varint_again whole 1 (most_of own top s - get_or v s 0) (n - get_or v s 0) rest (omega arith) (omega arith) (omega arith)) refl

-- the sites below s are read
record AreReadTo (s : ℕ) (base seen v : List ℕ) : Type 0 where
  pub read : (t : ℕ) → t < s → get_or v t 0 ≡ get_or seen t 0
  pub left : (t : ℕ) → s ≤ t → get_or v t 0 ≡ get_or base t 0
  pub wide : length v ≡ SITES

most_seen : (own top t n : ℕ) (base seen : List ℕ) → IsRisen own base top seen → IsCounters seen → get_or seen t 0 ≤ most_of own top t
most_seen own top t n base seen risen counters =
    let all = counters.bounded t in
    let one = risen.own in
    elim (cases_eq t own) [
      | inl same ↦ (let is : most_of own top t ≡ top = grind (arith, nat_tests) in let here : get_or seen t 0 ≡ get_or seen own 0 = ap (λ x. get_or seen x 0) same in omega arith)
      | inr other ↦ (let is : most_of own top t ≡ LAST = grind (arith, nat_tests) in omega arith)
    ]

each_again : (whole own top k s low : ℕ) (base seen v rest : List ℕ) → low ≤ s → s + k ≡ SITES → IsRisen own base top seen → IsCounters seen → AreReadTo s base seen v → changes_at whole own top (moved k s base seen) low v (changes k s base seen ++ rest) ≡ Ok (seen, rest)
each_again whole own top zero s low base seen v rest from all risen counters r =
    let wide = r.wide in
    let width = counters.wide in
    let same : v ≡ seen = ext_get_or 0 v seen (omega arith) (λ t below. r.read t (omega arith)) in
    (λ i. changes_at whole own top (moved_none s base seen i) low v (changes_none s base seen i ++ rest)) ∙ (changes_end whole own top low v rest ∙ ap (λ x. Ok (x, rest)) same)
each_again whole own top (suc k) s low base seen v rest from all risen counters r =
    let b = get_or base s 0 in
    let n = get_or seen s 0 in
    let m = moved k (s + 1) base seen in
    let later = changes k (s + 1) base seen ++ rest in
    let wide = r.wide in
    let stood : get_or v s 0 ≡ b = r.left s (omega arith) in
    let rises = risen.rises s in
    let bounded = counters.bounded s in
    let most = most_seen own top s n base seen risen counters in
    let regroup : changes (suc k) s base seen ++ rest ≡ change s b n ++ later = ap (λ x. x ++ rest) (changes_front k s base seen) ∙ append_assoc (change s b n) (changes k (s + 1) base seen) rest in
    elim (cases_lt b n) [
      | inl less ↦ (
          let count : moved (suc k) s base seen ≡ suc m = omega (arith, moved_front k s base seen, one_more b n less) in
          let spelled : change s b n ++ later ≡ change s (get_or v s 0) n ++ later = ap (λ x. change s x n ++ later) (sym stood) in
          let w = set v s (get_or v s 0 + (n - get_or v s 0)) in
          let here : s < length v = omega arith in
          let at : get_or w s 0 ≡ n = get_or-set_same v s (get_or v s 0 + (n - get_or v s 0)) 0 here ∙ omega arith in
          let next : AreReadTo (s + 1) base seen w = record {
            read = λ t below. elim (cases_eq t s) [
              | inl same ↦ ap (λ x. get_or w x 0) same ∙ (at ∙ ap (λ x. get_or seen x 0) (sym same))
              | inr other ↦ get_or-set_other v s t (get_or v s 0 + (n - get_or v s 0)) 0 other ∙ r.read t (omega arith)
            ];
            left = λ t past. get_or-set_other v s t (get_or v s 0 + (n - get_or v s 0)) 0 (λ same. omega arith) ∙ r.left t (omega arith);
            wide = length-set v s (get_or v s 0 + (n - get_or v s 0)) ∙ wide;
          } in
          (λ i. changes_at whole own top (count i) low v ((regroup ∙ spelled) i))
          ∙ (changes_more whole own top m low s (n - get_or v s 0) v (change s (get_or v s 0) n ++ later) later (change_again whole own top low s n v later from (omega arith) (omega arith) most bounded)
          ∙ each_again whole own top k (s + 1) (s + 1) base seen w rest (omega arith) (omega arith) risen counters next))
      | inr stays ↦ (
          let count : moved (suc k) s base seen ≡ m = omega (arith, moved_front k s base seen, none_more b n stays) in
          let spelled : change s b n ++ later ≡ later = ap (λ x. x ++ later) (change_none s b n stays) in
          let next : AreReadTo (s + 1) base seen v = record {
            read = λ t below. elim (cases_eq t s) [
              | inl same ↦ (let same_v = ap (λ x. get_or v x 0) same in let same_s = ap (λ x. get_or seen x 0) same in omega arith)
              | inr other ↦ r.read t (omega arith)
            ];
            left = λ t past. r.left t (omega arith);
            wide = wide;
          } in
          (λ i. changes_at whole own top (count i) low v ((regroup ∙ spelled) i))
          ∙ each_again whole own top k (s + 1) low base seen v rest (omega arith) (omega arith) risen counters next)
    ]

pub changes_again : (whole own top : ℕ) (base seen rest : List ℕ) → length base ≡ SITES → IsRisen own base top seen → IsCounters seen → changes_at whole own top (moved SITES 0 base seen) 0 base (changes SITES 0 base seen ++ rest) ≡ Ok (seen, rest)
changes_again whole own top base seen rest wide risen counters =
    each_again whole own top SITES 0 0 base seen base rest (omega arith) (omega arith) risen counters (record { read = λ t below. absurd (omega arith); left = λ t from. refl; wide = wide })

-- ---- writing

-- one site more is counted
pub counted_more : (i count one known n : ℕ) (base v : List ℕ) → count ≡ moved i 0 base v → one ≡ one_if (nat_lt known n) → known ≡ get_or base i 0 → n ≡ get_or v i 0 → count + one ≡ moved (i + 1) 0 base v
counted_more i count one known n base v had is from to =
    let same : one_if (nat_lt known n) ≡ one_if (nat_lt (get_or base i 0) (get_or v i 0)) = λ j. one_if (nat_lt (from j) (to j)) in
    omega (arith, moved_push i base v, is, same)

pub rises_more : (i known n : ℕ) (base v : List ℕ) → known ≡ get_or base i 0 → n ≡ get_or v i 0 → known ≤ n → ((t : ℕ) → t < i → get_or base t 0 ≤ get_or v t 0) → (t : ℕ) → t < i + 1 → get_or base t 0 ≤ get_or v t 0
rises_more i known n base v from to less before t below = elim (cases_eq t i) [
  | inl same ↦ (let at_base = ap (λ x. get_or base x 0) same in let at_v = ap (λ x. get_or v x 0) same in omega arith)
  | inr other ↦ before t (omega arith)
]

pub all_rise : (base v : List ℕ) → IsCounters base → ((t : ℕ) → t < SITES → get_or base t 0 ≤ get_or v t 0) → (t : ℕ) → get_or base t 0 ≤ get_or v t 0
all_rise base v counters before t = elim (cases_lt t SITES) [
  | inl below ↦ before t below
  | inr past ↦ (let none : get_or base t 0 ≡ 0 = get_or_past base t 0 (let wide = counters.wide in omega arith) in omega arith)
]

-- one site more is written
pub written_more : (old out new known seen : List ℕ) (i from n : ℕ) → from ≡ get_or known i 0 → n ≡ get_or seen i 0 → out ≡ old ++ changes i 0 known seen → new ≡ out ++ change i from n → new ≡ old ++ changes (i + 1) 0 known seen
written_more old out new known seen i from n is_from is_to had more =
    more ∙ (ap (λ x. x ++ change i from n) had ∙ (append_assoc old (changes i 0 known seen) (change i from n)
    ∙ ap (λ x. old ++ x) ((λ j. changes i 0 known seen ++ change i (is_from j) (is_to j)) ∙ sym (changes_push i known seen))))

pub written_none : (old known seen : List ℕ) → old ≡ old ++ changes 0 0 known seen
written_none old known seen = sym (append-nil old) ∙ ap (λ x. old ++ x) (sym (changes_none 0 known seen))
