-- A vector whose entries are read one after the other.

use Rattle.std.proofs.Common.{add-zero, ap, append_assoc, append-nil, arith, Err, get_or, if◌then◌else◌, length, List, Ok, Option, refl, replicate, subst, cond, suc, sym, take, zero, [], ℕ, ◌+◌, ◌++◌, ◌-◌, ◌<◌, ◌∙◌, ◌∷◌, ◌≡◌, ◌≤◌, true}
use Rattle.std.proofs.Math.ListN.{set}
use Rattle.std.proofs.lemmas.Bool.Decides.{nat_tests}
use Rattle.std.proofs.lemmas.List.{length-take-le, length_push, set_at, take_all, take_more, take_more_set}
use Rattle.std.proofs.lemmas.List.Sums.{count_by-le-length, count_by_more_no, sum_by-append}
use Rattle.std.specs.Int.{to_be_bytes, w64}
use Rattle.std.specs.List.{count_by}
use Rattle.zq_dots.proofs.Counters.{last_is}
use Rattle.zq_model.specs.Sets.{IsCounters, SITES}
use Rattle.zq_fields.proofs.PartsAgain.{byte_in_again, number_in_again}
use Rattle.zq_fields.proofs.Counters.{IsReadTo, limit-last, no_counters_are, read_more, read_none}
use Rattle.zq_fields.specs.Reading.{entries_at, entry_at, sparse_at}
use Rattle.zq_fields.specs.Spelling.{entries, entry, is_known, sparse}
use Rattle.zq_fields.specs.Vectors.{IsWithinLimits, limit_of, no_counters}
use Rattle.zq_fields.specs.declared.fault.PartFault.{PartFault}

pub known_some : (n : ℕ) → 1 ≤ n → is_known n ≡ true
known_some n some = grind (arith, nat_tests)

pub entry_some : (s n : ℕ) → 1 ≤ n → entry s n ≡ s ∷ to_be_bytes w64 n
entry_some s n some = ap (λ b. if b then s ∷ to_be_bytes w64 n else []) (known_some n some)

known_one : (n : ℕ) (counters : List ℕ) → 1 ≤ n → count_by is_known (n ∷ counters) ≡ suc (count_by is_known counters)
known_one n counters some =
    let c = count_by is_known counters in
    let one : 0 + 1 + c ≡ suc c = omega arith in
    sum_by-append (λ x. cond (is_known x) 1 0) (n ∷ []) counters ∙ (ap (λ b. 0 + cond b 1 0 + c) (known_some n some) ∙ one)

entries-append : (s : ℕ) (xs ys : List ℕ) → entries s (xs ++ ys) ≡ entries s xs ++ entries (s + length xs) ys
entries-append s [] ys = ap (λ t. entries t ys) (sym (add-zero s))
entries-append s (n ∷ xs) ys =
    let place : s + 1 + length xs ≡ s + suc (length xs) = omega arith in
    ap (λ x. entry s n ++ x) (entries-append (s + 1) xs ys) ∙ (sym (append_assoc (entry s n) (entries (s + 1) xs) (entries (s + 1 + length xs) ys))
    ∙ ap (λ t. (entry s n ++ entries (s + 1) xs) ++ entries t ys) place)

pub entries-push : (s : ℕ) (xs : List ℕ) (n : ℕ) → length xs ≡ s → entries 0 (xs ++ n ∷ []) ≡ entries 0 xs ++ entry s n
entries-push s xs n size =
    let place : 0 + length xs ≡ s = omega arith in
    entries-append 0 xs (n ∷ []) ∙ (ap (λ t. entries 0 xs ++ (entry t n ++ [])) place ∙ ap (λ x. entries 0 xs ++ x) (append-nil (entry s n)))

known-push : (xs : List ℕ) (n : ℕ) → count_by is_known (xs ++ n ∷ []) ≡ count_by is_known xs + count_by is_known (n ∷ [])
known-push xs n = sum_by-append (λ x. cond (is_known x) 1 0) xs (n ∷ [])

-- of what is not known nothing is written
entries-skip : (low d : ℕ) (v : List ℕ) → low + d ≤ length v → ((t : ℕ) → low ≤ t → get_or v t 0 ≡ 0) → entries 0 (take (low + d) v) ≡ entries 0 (take low v)
entries-skip low zero v wide none = ap (λ k. entries 0 (take k v)) (add-zero low)
entries-skip low (suc d) v wide none =
    let next : low + suc d ≡ low + d + 1 = omega arith in
    let here : low + d < length v = omega arith in
    let nothing : take (low + d + 1) v ≡ take (low + d) v ++ 0 ∷ [] = take_more v (low + d) 0 here ∙ ap (λ n. take (low + d) v ++ n ∷ []) (none (low + d) (omega arith)) in
    ap (λ k. entries 0 (take k v)) next ∙ (ap (entries 0) nothing ∙ (entries-push (low + d) (take (low + d) v) 0 (length-take-le (low + d) v (omega arith)) ∙ (append-nil (entries 0 (take (low + d) v)) ∙ entries-skip low d v (omega arith) none)))

known-skip : (low d : ℕ) (v : List ℕ) → low + d ≤ length v → ((t : ℕ) → low ≤ t → get_or v t 0 ≡ 0) → count_by is_known (take (low + d) v) ≡ count_by is_known (take low v)
known-skip low zero v wide none = ap (λ k. count_by is_known (take k v)) (add-zero low)
known-skip low (suc d) v wide none =
    let next : low + suc d ≡ low + d + 1 = omega arith in
    ap (λ k. count_by is_known (take k v)) next ∙ (count_by_more_no is_known v (low + d) 0 (omega arith) (ap is_known (none (low + d) (omega arith))) ∙ known-skip low d v (omega arith) none)

-- one entry more
entries_more : (whole : ℕ) (own : Option ℕ) (k low s n : ℕ) (v bytes rest : List ℕ) → entry_at whole own low bytes ≡ Ok ((s, n), rest) → entries_at whole own (suc k) low v bytes ≡ entries_at whole own k (s + 1) (set v s n) rest
unfolding entries_at
entries_more whole own k low s n v bytes rest e = rw e refl

entries_fail : (whole : ℕ) (own : Option ℕ) (k low : ℕ) (v bytes : List ℕ) (fault : PartFault) → entry_at whole own low bytes ≡ Err fault → entries_at whole own (suc k) low v bytes ≡ Err fault
unfolding entries_at
entries_fail whole own k low v bytes fault e = rw e refl

entries_none : (whole : ℕ) (own : Option ℕ) (low : ℕ) (v bytes : List ℕ) → entries_at whole own 0 low v bytes ≡ Ok (v, bytes)
unfolding entries_at
entries_none whole own low v bytes = refl

-- i of the entries are read, the last of the site before low: all is where reading them began, and bytes what is left
pub record IsSparseTo (whole : ℕ) (own : Option ℕ) (count i low : ℕ) (all bytes v : List ℕ) : Type 0 where
  pub reads : entries_at whole own count 0 no_counters all ≡ entries_at whole own (count - i) low v bytes
  pub found : all ≡ entries 0 (take low v) ++ bytes
  pub known : count_by is_known (take low v) ≡ i
  pub read : IsReadTo own low v
  pub below : low ≤ SITES

pub sparse_none : (whole : ℕ) (own : Option ℕ) (count : ℕ) (all : List ℕ) → IsSparseTo whole own count 0 0 all all no_counters
sparse_none whole own count all = record {
  reads = let first : count ≡ count - 0 = omega arith in ap (λ k. entries_at whole own k 0 no_counters all) first;
  found = refl;
  known = refl;
  read = read_none own;
  below = omega arith;
}

pub sparse_fails : (whole : ℕ) (own : Option ℕ) (count i low : ℕ) (all bytes v : List ℕ) (fault : PartFault) → i < count → entry_at whole own low bytes ≡ Err fault → IsSparseTo whole own count i low all bytes v → entries_at whole own count 0 no_counters all ≡ Err fault
sparse_fails whole own count i low all bytes v fault below e d =
    let left : count - i ≡ suc (count - (i + 1)) = omega arith in
    d.reads ∙ (ap (λ k. entries_at whole own k low v bytes) left ∙ entries_fail whole own (count - (i + 1)) low v bytes fault e)

pub sparse_more : (whole : ℕ) (own : Option ℕ) (count i low s n : ℕ) (all bytes rest v : List ℕ) → i < count → low ≤ s → s < SITES → 1 ≤ n → n ≤ limit_of own s → entry_at whole own low bytes ≡ Ok ((s, n), rest) → bytes ≡ entry s n ++ rest → IsSparseTo whole own count i low all bytes v → IsSparseTo whole own count (i + 1) (s + 1) all rest (set v s n)
sparse_more whole own count i low s n all bytes rest v below from site some small e is d =
    let left : count - i ≡ suc (count - (i + 1)) = omega arith in
    let wide = d.read.wide in
    let here : s < length v = omega arith in
    let between : low + (s - low) ≡ s = omega arith in
    let fits : low + (s - low) ≤ length v = omega arith in
    let taken : take (s + 1) (set v s n) ≡ take s v ++ n ∷ [] = take_more_set v s n here in
    let skipped : entries 0 (take s v) ≡ entries 0 (take low v) = ap (λ k. entries 0 (take k v)) (sym between) ∙ entries-skip low (s - low) v fits d.read.zero in
    let counted : count_by is_known (take s v) ≡ count_by is_known (take low v) = ap (λ k. count_by is_known (take k v)) (sym between) ∙ known-skip low (s - low) v fits d.read.zero in
    let one : count_by is_known (n ∷ []) ≡ 1 = known_one n [] some in
    let written : entries 0 (take (s + 1) (set v s n)) ≡ entries 0 (take low v) ++ entry s n = ap (entries 0) taken ∙ (entries-push s (take s v) n (length-take-le s v (omega arith)) ∙ ap (λ x. x ++ entry s n) skipped) in
    record {
      reads = d.reads ∙ (ap (λ k. entries_at whole own k low v bytes) left ∙ entries_more whole own (count - (i + 1)) low s n v bytes rest e);
      found = d.found ∙ (ap (λ x. entries 0 (take low v) ++ x) is ∙ (sym (append_assoc (entries 0 (take low v)) (entry s n) rest) ∙ ap (λ x. x ++ rest) (sym written)));
      known = ap (count_by is_known) taken ∙ (known-push (take s v) n ∙ (ap (λ k. k + count_by is_known (n ∷ [])) (counted ∙ d.known) ∙ ap (λ k. i + k) one));
      read = read_more own low s n v d.read from site small;
      below = omega arith;
    }

pub sparse_read : (whole : ℕ) (own : Option ℕ) (count i low : ℕ) (all bytes v : List ℕ) → i ≡ count → IsSparseTo whole own count i low all bytes v → entries_at whole own count 0 no_counters all ≡ Ok (v, bytes)
sparse_read whole own count i low all bytes v done d =
    let none : count - i ≡ 0 = omega arith in
    d.reads ∙ (ap (λ k. entries_at whole own k low v bytes) none ∙ entries_none whole own low v bytes)

pub sparse_found : (whole : ℕ) (own : Option ℕ) (count i low : ℕ) (all bytes v : List ℕ) → i ≡ count → IsSparseTo whole own count i low all bytes v → count ∷ all ≡ sparse v ++ bytes
unfolding sparse
sparse_found whole own count i low all bytes v done d =
    let wide = d.read.wide in
    let within = d.below in
    let between : low + (SITES - low) ≡ length v = omega arith in
    let fits : low + (SITES - low) ≤ length v = omega arith in
    let whole_is : take (low + (SITES - low)) v ≡ v = take_all (low + (SITES - low)) v (omega arith) in
    let written : entries 0 v ≡ entries 0 (take low v) = ap (entries 0) (sym whole_is) ∙ entries-skip low (SITES - low) v fits d.read.zero in
    let counted : count_by is_known v ≡ count = ap (count_by is_known) (sym whole_is) ∙ (known-skip low (SITES - low) v fits d.read.zero ∙ (d.known ∙ done)) in
    ap (λ x. count ∷ x) d.found ∙ (ap (λ k. k ∷ (entries 0 (take low v) ++ bytes)) (sym counted) ∙ ap (λ x. count_by is_known v ∷ (x ++ bytes)) (sym written))

-- an entry that was written is read again
entry_again : (whole : ℕ) (own : Option ℕ) (low s n : ℕ) (rest : List ℕ) → low ≤ s → s < SITES → suc n ≤ limit_of own s → entry_at whole own low (entry s (suc n) ++ rest) ≡ Ok ((s, suc n), rest)
unfolding entry_at
entry_again whole own low s n rest from below small =
    let last = limit-last own s in
    let is = last_is in
    rw (entry_some s (suc n) (omega arith), byte_in_again whole low SITES s (to_be_bytes w64 (suc n) ++ rest) from below, number_in_again whole 1 (limit_of own s) (suc n) rest (omega arith) small (omega arith)) refl

-- entries that were written are read again
entries_again : (whole : ℕ) (own : Option ℕ) (low s : ℕ) (before counters rest : List ℕ) → length before ≡ s → low ≤ s → s + length counters ≡ SITES → ((t : ℕ) → t < length counters → get_or counters t 0 ≤ limit_of own (s + t)) → entries_at whole own (count_by is_known counters) low (before ++ replicate (length counters) 0) (entries s counters ++ rest) ≡ Ok (before ++ counters, rest)
entries_again whole own low s before [] rest at from all within = entries_none whole own low (before ++ []) rest
entries_again whole own low s before (zero ∷ counters) rest at from all within =
    let k = length counters in
    let size : length (before ++ 0 ∷ []) ≡ s + 1 = length_push before 0 ∙ ap (λ m. m + 1) at in
    let later : (t : ℕ) → t < k → get_or counters t 0 ≤ limit_of own (s + 1 + t) = λ t below. (let place : s + suc t ≡ s + 1 + t = omega arith in subst (λ p. get_or counters t 0 ≤ limit_of own p) place (within (suc t) (omega arith))) in
    let none : count_by is_known (0 ∷ counters) ≡ count_by is_known counters = omega arith in
    ap (λ c. entries_at whole own c low (before ++ 0 ∷ replicate k 0) (entries (s + 1) counters ++ rest)) none
    ∙ (ap (λ v. entries_at whole own (count_by is_known counters) low v (entries (s + 1) counters ++ rest)) (sym (append_assoc before (0 ∷ []) (replicate k 0)))
    ∙ (entries_again whole own low (s + 1) (before ++ 0 ∷ []) counters rest size (omega arith) (omega arith) later
    ∙ ap (λ v. Ok (v, rest)) (append_assoc before (0 ∷ []) counters)))
entries_again whole own low s before (suc n ∷ counters) rest at from all within =
    let k = length counters in
    let here : s + 0 ≡ s = omega arith in
    let small : suc n ≤ limit_of own s = subst (λ t. suc n ≤ limit_of own t) here (within 0 (omega arith)) in
    let size : length (before ++ suc n ∷ []) ≡ s + 1 = length_push before (suc n) ∙ ap (λ m. m + 1) at in
    let later : (t : ℕ) → t < k → get_or counters t 0 ≤ limit_of own (s + 1 + t) = λ t below. (let place : s + suc t ≡ s + 1 + t = omega arith in subst (λ p. get_or counters t 0 ≤ limit_of own p) place (within (suc t) (omega arith))) in
    let one = known_one (suc n) counters (omega arith) in
    let regroup = append_assoc (entry s (suc n)) (entries (s + 1) counters) rest in
    let first = ap (entry_at whole own low) regroup ∙ entry_again whole own low s n (entries (s + 1) counters ++ rest) from (omega arith) small in
    let written : set (before ++ (0 ∷ replicate k 0)) s (suc n) ≡ (before ++ suc n ∷ []) ++ replicate k 0 = set_at before 0 (replicate k 0) (suc n) s at ∙ sym (append_assoc before (suc n ∷ []) (replicate k 0)) in
    ap (λ c. entries_at whole own c low (before ++ 0 ∷ replicate k 0) (entries s (suc n ∷ counters) ++ rest)) one
    ∙ (entries_more whole own (count_by is_known counters) low s (suc n) (before ++ 0 ∷ replicate k 0) (entries s (suc n ∷ counters) ++ rest) (entries (s + 1) counters ++ rest) first
    ∙ (ap (λ v. entries_at whole own (count_by is_known counters) (s + 1) v (entries (s + 1) counters ++ rest)) written
    ∙ (entries_again whole own (s + 1) (s + 1) (before ++ suc n ∷ []) counters rest size (omega arith) (omega arith) later
    ∙ ap (λ v. Ok (v, rest)) (append_assoc before (suc n ∷ []) counters))))

counted_again : (whole : ℕ) (own : Option ℕ) (count : ℕ) (bytes rest v : List ℕ) → count ≤ SITES → entries_at whole own count 0 no_counters bytes ≡ Ok (v, rest) → sparse_at whole own (count ∷ bytes) ≡ Ok (v, rest)
unfolding sparse_at
counted_again whole own count bytes rest v few read = rw (byte_in_again whole 0 (SITES + 1) count bytes (omega arith) (omega arith)) read

pub sparse_again : (whole : ℕ) (own : Option ℕ) (v rest : List ℕ) → IsCounters v → IsWithinLimits own v → sparse_at whole own (sparse v ++ rest) ≡ Ok (v, rest)
unfolding sparse
sparse_again whole own v rest counters within =
    let wide = counters.wide in
    let first : (t : ℕ) → t < length v → get_or v t 0 ≤ limit_of own (0 + t) = λ t below. (let here : t ≡ 0 + t = omega arith in subst (λ p. get_or v t 0 ≤ limit_of own p) here (within t)) in
    let all : 0 + length v ≡ SITES = omega arith in
    let zeros : no_counters ≡ replicate (length v) 0 = no_counters_are ∙ ap (λ n. replicate n 0) (sym wide) in
    counted_again whole own (count_by is_known v) (entries 0 v ++ rest) rest v (omega (arith, count_by-le-length is_known v))
    (ap (λ x. entries_at whole own (count_by is_known v) 0 x (entries 0 v ++ rest)) zeros ∙ entries_again whole own 0 0 [] v rest refl (omega arith) all first)
