-- A vector whose counters are read one after the other, in the order of the sites.

use Rattle.std.proofs.Common.{ap, append_assoc, arith, drop, Err, get_or, inl, inr, length, List, None, Ok, Option, refl, replicate, Some, subst, suc, sym, take, [], ℕ, ◌+◌, ◌++◌, ◌-◌, ◌<◌, ◌∙◌, ◌∷◌, ◌≡◌, ◌≤◌}
use Rattle.std.proofs.Math.ListN.{length-set, set}
use Rattle.std.proofs.lemmas.Bool.{cases_eq, cases_lt}
use Rattle.std.proofs.lemmas.Bool.Decides.{nat_tests}
use Rattle.std.proofs.lemmas.List.{ext_get_or, flat_map_more, get_or-drop, get_or-replicate, get_or-set_other, get_or-set_same, get_or_past, get_or-take, length-drop, length-replicate, length-take-le, length_push, replicate-append-replicate, set_at, take-append-drop, take_more_set}
use Rattle.std.specs.Int.{to_be_bytes, w64}
use Rattle.std.specs.List.{flat_map}
use Rattle.zq_dots.proofs.Counters.{last_is, sites_is}
use Rattle.zq_model.proofs.Sites.{by_site-at, length-by_site}
use Rattle.zq_model.specs.Sets.{IsCounters, LAST, SITES}
use Rattle.zq_fields.proofs.PartsAgain.{number_in_again}
use Rattle.zq_fields.specs.Reading.{counters_at, dense_at, number_in}
use Rattle.zq_fields.specs.Spelling.{dense}
use Rattle.zq_fields.specs.Vectors.{DENSE_SITES, IsDense, IsWithinLimits, limit_of, no_counters}
use Rattle.zq_fields.specs.declared.fault.PartFault.{PartFault}

pub dense_sites_is : DENSE_SITES ≡ 8
unfolding DENSE_SITES
dense_sites_is = refl

pub limit-last : (own : Option ℕ) (t : ℕ) → limit_of own t ≤ LAST
limit-last None t = omega arith
limit-last (Some own) t = grind (arith, nat_tests)

-- counters are within the limits, where no operation lowers that of its own site
pub limits : (vector : List ℕ) → IsCounters vector → IsWithinLimits None vector
limits vector counters t = counters.bounded t

-- a list of zeros
pub zeros_are : (n : ℕ) (v : List ℕ) → length v ≡ n → ((t : ℕ) → get_or v t 0 ≡ 0) → v ≡ replicate n 0
zeros_are n v size zero =
    ext_get_or 0 v (replicate n 0) (size ∙ sym (length-replicate n 0)) (λ t below. zero t ∙ sym (get_or-replicate n t 0 0 (omega arith)))

no_counter : (t : ℕ) → get_or no_counters t 0 ≡ 0
no_counter t = elim (cases_lt t SITES) [
  | inl below ↦ by_site-at (λ _. 0) t 0 below
  | inr past ↦ get_or_past no_counters t 0 (let wide : length no_counters ≡ SITES = length-by_site (λ _. 0) in omega arith)
]

-- the vector that knows nothing
pub no_counters_are : no_counters ≡ replicate SITES 0
no_counters_are = zeros_are SITES no_counters (length-by_site (λ _. 0)) no_counter

-- a vector of which the sites below low are read
pub record IsReadTo (own : Option ℕ) (low : ℕ) (v : List ℕ) : Type 0 where
  pub wide : length v ≡ SITES
  pub within : IsWithinLimits own v
  pub zero : (t : ℕ) → low ≤ t → get_or v t 0 ≡ 0

pub read_none : (own : Option ℕ) → IsReadTo own 0 no_counters
read_none own = record {
  wide = length-by_site (λ _. 0);
  within = λ t. rw (no_counter t) (omega arith);
  zero = λ t from. no_counter t;
}

-- one more site read, from low on
pub read_more : (own : Option ℕ) (low s n : ℕ) (v : List ℕ) → IsReadTo own low v → low ≤ s → s < SITES → n ≤ limit_of own s → IsReadTo own (s + 1) (set v s n)
read_more own low s n v r from below small = record {
  wide = length-set v s n ∙ r.wide;
  within = λ t. elim (cases_eq t s) [
    | inl same ↦ let w = r.wide in rw (same, get_or-set_same v s n 0 (omega arith)) small
    | inr other ↦ rw (get_or-set_other v s t n 0 other) (r.within t)
  ];
  zero = λ t past. rw (get_or-set_other v s t n 0 (λ same. omega arith)) (r.zero t (omega arith));
}

pub read_counters : (own : Option ℕ) (low : ℕ) (v : List ℕ) → IsReadTo own low v → IsCounters v
read_counters own low v r = record {
  wide = r.wide;
  bounded = λ t. let a = r.within t in let b = limit-last own t in omega arith;
}

-- one counter more
pub counters_more : (whole : ℕ) (own : Option ℕ) (k s n : ℕ) (v bytes rest : List ℕ) → number_in whole 0 (limit_of own s) bytes ≡ Ok (n, rest) → counters_at whole own (suc k) s v bytes ≡ counters_at whole own k (s + 1) (set v s n) rest
unfolding counters_at
counters_more whole own k s n v bytes rest e = rw e refl

counters_fail : (whole : ℕ) (own : Option ℕ) (k s : ℕ) (v bytes : List ℕ) (fault : PartFault) → number_in whole 0 (limit_of own s) bytes ≡ Err fault → counters_at whole own (suc k) s v bytes ≡ Err fault
unfolding counters_at
counters_fail whole own k s v bytes fault e = rw e refl

pub counters_none : (whole : ℕ) (own : Option ℕ) (s : ℕ) (v bytes : List ℕ) → counters_at whole own 0 s v bytes ≡ Ok (v, bytes)
unfolding counters_at
counters_none whole own s v bytes = refl

-- the sites below i are read, and their counters found: all is where reading began, and bytes what is left
pub record IsDenseTo (whole : ℕ) (own : Option ℕ) (i : ℕ) (all bytes v : List ℕ) : Type 0 where
  pub reads : dense_at whole own all ≡ counters_at whole own (DENSE_SITES - i) i v bytes
  pub found : all ≡ flat_map (to_be_bytes w64) (take i v) ++ bytes
  pub read : IsReadTo own i v

pub dense_none : (whole : ℕ) (own : Option ℕ) (all : List ℕ) → IsDenseTo whole own 0 all all no_counters
unfolding dense_at
dense_none whole own all = record {
  reads = let first : DENSE_SITES ≡ DENSE_SITES - 0 = omega arith in ap (λ k. counters_at whole own k 0 no_counters all) first;
  found = refl;
  read = read_none own;
}

dense_left : (i : ℕ) → i < DENSE_SITES → DENSE_SITES - i ≡ suc (DENSE_SITES - (i + 1))
dense_left i below = omega arith

pub dense_fails : (whole : ℕ) (own : Option ℕ) (i : ℕ) (all bytes v : List ℕ) (fault : PartFault) → i < DENSE_SITES → number_in whole 0 (limit_of own i) bytes ≡ Err fault → IsDenseTo whole own i all bytes v → dense_at whole own all ≡ Err fault
dense_fails whole own i all bytes v fault below e d =
    d.reads ∙ (ap (λ k. counters_at whole own k i v bytes) (dense_left i below) ∙ counters_fail whole own (DENSE_SITES - (i + 1)) i v bytes fault e)

pub dense_more : (whole : ℕ) (own : Option ℕ) (i n : ℕ) (all bytes rest v : List ℕ) → i < DENSE_SITES → n ≤ limit_of own i → number_in whole 0 (limit_of own i) bytes ≡ Ok (n, rest) → bytes ≡ to_be_bytes w64 n ++ rest → IsDenseTo whole own i all bytes v → IsDenseTo whole own (i + 1) all rest (set v i n)
dense_more whole own i n all bytes rest v below small e is d =
    let wide = d.read.wide in
    let few = dense_sites_is in
    let sites = sites_is in
    let here : i < length v = omega arith in
    record {
      reads = d.reads ∙ (ap (λ k. counters_at whole own k i v bytes) (dense_left i below) ∙ counters_more whole own (DENSE_SITES - (i + 1)) i n v bytes rest e);
      found = d.found ∙ (ap (λ x. flat_map (to_be_bytes w64) (take i v) ++ x) is
          ∙ (sym (append_assoc (flat_map (to_be_bytes w64) (take i v)) (to_be_bytes w64 n) rest)
          ∙ ap (λ x. x ++ rest) (flat_map_more (to_be_bytes w64) [] (take i v) n ∙ ap (flat_map (to_be_bytes w64)) (sym (take_more_set v i n here)))));
      read = read_more own i i n v d.read (omega arith) (omega arith) small;
    }

pub dense_read : (whole : ℕ) (own : Option ℕ) (i : ℕ) (all bytes v : List ℕ) → i ≡ DENSE_SITES → IsDenseTo whole own i all bytes v → dense_at whole own all ≡ Ok (v, bytes)
dense_read whole own i all bytes v done d =
    let none : DENSE_SITES - i ≡ 0 = omega arith in
    d.reads ∙ (ap (λ k. counters_at whole own k i v bytes) none ∙ counters_none whole own i v bytes)

pub dense_found : (whole : ℕ) (own : Option ℕ) (i : ℕ) (all bytes v : List ℕ) → i ≡ DENSE_SITES → IsDenseTo whole own i all bytes v → all ≡ dense v ++ bytes
unfolding dense
dense_found whole own i all bytes v done d = d.found ∙ ap (λ k. flat_map (to_be_bytes w64) (take k v) ++ bytes) done

-- counters that were written are read again, into a vector that has zeros in their places
counters_again : (whole : ℕ) (own : Option ℕ) (s : ℕ) (before counters after rest : List ℕ) → length before ≡ s → ((t : ℕ) → t < length counters → get_or counters t 0 ≤ limit_of own (s + t)) → counters_at whole own (length counters) s (before ++ (replicate (length counters) 0 ++ after)) (flat_map (to_be_bytes w64) counters ++ rest) ≡ Ok (before ++ (counters ++ after), rest)
counters_again whole own s before [] after rest at within = counters_none whole own s (before ++ after) rest
counters_again whole own s before (n ∷ counters) after rest at within =
    let k = length counters in
    let here : s + 0 ≡ s = omega arith in
    let small : n ≤ limit_of own s = subst (λ t. n ≤ limit_of own t) here (within 0 (omega arith)) in
    let last = limit-last own s in
    let is = last_is in
    let later : (t : ℕ) → t < k → get_or counters t 0 ≤ limit_of own (s + 1 + t) = λ t below. (let place : s + suc t ≡ s + 1 + t = omega arith in subst (λ p. get_or counters t 0 ≤ limit_of own p) place (within (suc t) (omega arith))) in
    let first = number_in_again whole 0 (limit_of own s) n (flat_map (to_be_bytes w64) counters ++ rest) (omega arith) small (omega arith) in
    let written : set (before ++ (0 ∷ (replicate k 0 ++ after))) s n ≡ (before ++ n ∷ []) ++ (replicate k 0 ++ after) =
    set_at before 0 (replicate k 0 ++ after) n s at ∙ sym (append_assoc before (n ∷ []) (replicate k 0 ++ after)) in
    let size : length (before ++ n ∷ []) ≡ s + 1 = length_push before n ∙ ap (λ m. m + 1) at in
    counters_more whole own k s n (before ++ (0 ∷ (replicate k 0 ++ after))) (flat_map (to_be_bytes w64) (n ∷ counters) ++ rest) (flat_map (to_be_bytes w64) counters ++ rest) first
    ∙ (ap (λ v. counters_at whole own k (s + 1) v (flat_map (to_be_bytes w64) counters ++ rest)) written
    ∙ (counters_again whole own (s + 1) (before ++ n ∷ []) counters after rest size later
    ∙ ap (λ v. Ok (v, rest)) (append_assoc before (n ∷ []) (counters ++ after))))

pub dense_again : (whole : ℕ) (own : Option ℕ) (v rest : List ℕ) → IsCounters v → IsDense v → IsWithinLimits own v → dense_at whole own (dense v ++ rest) ≡ Ok (v, rest)
unfolding dense dense_at
dense_again whole own v rest counters few within =
    let wide = counters.wide in
    let eight = dense_sites_is in
    let sites = sites_is in
    let k = DENSE_SITES in
    let size : length (take k v) ≡ k = length-take-le k v (omega arith) in
    let first : (t : ℕ) → t < length (take k v) → get_or (take k v) t 0 ≤ limit_of own (0 + t) = λ t below. (let here : 0 + t ≡ t = omega arith in rw (here, get_or-take k v t 0 (omega arith)) (within t)) in
    let later : drop k v ≡ replicate (SITES - k) 0 =
    zeros_are (SITES - k) (drop k v) (length-drop k v ∙ ap (λ n. n - k) wide) (λ t. get_or-drop k v t 0 ∙ few (k + t) (omega arith)) in
    let all : k + (SITES - k) ≡ SITES = omega arith in
    let zeros : no_counters ≡ replicate k 0 ++ drop k v =
    no_counters_are ∙ (ap (λ n. replicate n 0) (sym all) ∙ (sym (replicate-append-replicate k (SITES - k) 0) ∙ ap (λ x. replicate k 0 ++ x) (sym later))) in
    ap (λ x. counters_at whole own k 0 x (flat_map (to_be_bytes w64) (take k v) ++ rest)) zeros
    ∙ (subst (λ n. counters_at whole own n 0 (replicate n 0 ++ drop k v) (flat_map (to_be_bytes w64) (take k v) ++ rest) ≡ Ok (take k v ++ drop k v, rest)) size (counters_again whole own 0 [] (take k v) (drop k v) rest refl first)
    ∙ ap (λ x. Ok (x, rest)) (take-append-drop k v))
