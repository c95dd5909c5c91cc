-- What is promised of batches.

use Rattle.std.proofs.Common.{Bool, List, [], ap, arith, drop, get_or, inl, inr, length, ltb, max, min, refl, slice_set, subst, sym, take, true, ℕ, ◌&&◌, ◌++◌, ◌+◌, ◌-◌, ◌<◌, ◌∙◌, ◌∷◌, ◌≡◌, ◌≤◌}
use Rattle.std.proofs.lemmas.Bool.{cases_Bool, cases_eq, cases_lt, cond-false, cond-true, lt-ltb}
use Rattle.std.proofs.lemmas.List.{append_assoc, drop-take, get_or-set_other, length-set, length-take, take-append-drop, take-take, take_all}
use Rattle.std.specs.List.{filter}
use Rattle.std.proofs.lemmas.List.Elements.{filter-append}
use Rattle.zq_backlog.proofs.Picked.{picks, passes, unwanted, wanted}
use Rattle.zq_backlog.proofs.Vectors.{risen_above, risen_own, set_le}
use Rattle.zq_backlog.specs.Batch.{MOST_LOOKED, from_place, is_of, is_wanted, picked, sent_after, start_of, window}
use Rattle.zq_backlog.specs.Laws.{AllAreSent, AreNext, HasBase, IsPushed, NoneIsAhead, NoneIsLeftOut}
use Rattle.zq_backlog.specs.Log.{AreRising, IsLog, Log, raised, risen}
use Rattle.zq_dots.specs.Placed.{Placed}
use Rattle.zq_model.proofs.Membership.{in_left, in_right, in_union}
use Rattle.zq_model.specs.Sets.{IsIn, SITES}

-- ---- parts of a list

rising_behind : (xs ys : List Placed) → AreRising (xs ++ ys) → AreRising ys
rising_behind [] ys rising = rising
rising_behind (x ∷ xs) ys rising = rising_behind xs ys rising.1

rising_before : (xs ys : List Placed) → AreRising (xs ++ ys) → AreRising xs
rising_before [] ys rising = tt
rising_before (x ∷ xs) ys rising = (λ p in' same. rising.0 p (in_left p xs ys in') same, rising_before xs ys rising.1)

in_dropped : (o : Placed) (k : ℕ) (ops : List Placed) → IsIn o (drop k ops) → IsIn o ops
in_dropped o k ops in' = subst (IsIn o) (take-append-drop k ops) (in_right o (take k ops) (drop k ops) in')

in_taken : (o : Placed) (k : ℕ) (ops : List Placed) → IsIn o (take k ops) → IsIn o ops
in_taken o k ops in' = subst (IsIn o) (take-append-drop k ops) (in_left o (take k ops) (drop k ops) in')

-- so many, and so many after them
take_sum : (a k : ℕ) (ops : List Placed) → take (a + k) ops ≡ take a ops ++ take k (drop a ops)
take_sum a k ops =
    let split = take-append-drop a (take (a + k) ops) in
    sym split ∙ ap (λ xs. xs ++ drop a (take (a + k) ops)) (take-take a (a + k) ops (omega arith)) ∙ ap (λ xs. take a ops ++ xs) (drop-take a k ops)

looked_in_log : (l : Log) (place k : ℕ) (o : Placed) → IsIn o (take k (window l place)) → IsIn o l.ops
looked_in_log l place k o in' = in_dropped o (place - l.first) l.ops (in_taken o MOST_LOOKED (from_place l place) (in_taken o k (window l place) in'))

-- ---- pushed

-- a bound above a counter and above what is set is one above what comes of it
set_lt : (v : List ℕ) (s n m t : ℕ) → get_or v t 0 < m → n < m → get_or (slice_set v s n) t 0 < m
set_lt v s n m t was new = let least = set_le v s n (m - 1) t (omega arith) (omega arith) in omega arith

-- two tests that agree on the elements keep the same
filter_same : (p q : Placed → Bool) (ops : List Placed) → ((o : Placed) → IsIn o ops → p o ≡ q o) → filter p ops ≡ filter q ops
filter_same p q [] each = refl
filter_same p q (o ∷ ops) each =
    let rest = filter_same p q ops (λ x in'. each x (inr in')) in
    elim (cases_Bool (q o)) [
      | inl e ↦ cond-true (p o) (o ∷ filter p ops) (filter p ops) (each o (inl refl) ∙ e) ∙ ap (λ xs. o ∷ xs) rest ∙ sym (cond-true (q o) (o ∷ filter q ops) (filter q ops) e)
      | inr e ↦ cond-false (p o) (o ∷ filter p ops) (filter p ops) (each o (inl refl) ∙ e) ∙ rest ∙ sym (cond-false (q o) (o ∷ filter q ops) (filter q ops) e)
    ]

-- what comes behind a taken one is wanted as before
still_wanted : (class : List Bool) (sent : List ℕ) (o p : Placed) → get_or sent o.operation.site 0 < o.operation.n → (p.operation.site ≡ o.operation.site → o.operation.n < p.operation.n) → is_wanted class (risen sent o) p ≡ is_wanted class sent p
still_wanted class sent o p above rising =
    let s = o.operation.site in
    let m = max (get_or sent s 0) o.operation.n in
    let test : ltb (get_or (risen sent o) p.operation.site 0) p.operation.n ≡ ltb (get_or sent p.operation.site 0) p.operation.n = elim (cases_eq p.operation.site s) [
      | inl same ↦
          let later = rising same in
          let here : get_or sent p.operation.site 0 ≡ get_or sent s 0 = ap (λ t. get_or sent t 0) same in
          lt-ltb (get_or (risen sent o) p.operation.site 0) p.operation.n (set_lt sent s m p.operation.n p.operation.site (omega arith) (omega arith))
          ∙ sym (lt-ltb (get_or sent p.operation.site 0) p.operation.n (omega arith))
      | inr other ↦ ap (λ x. ltb x p.operation.n) (get_or-set_other sent s p.operation.site m 0 other)
    ] in
    ap (λ b. is_of class p.operation.site && b) test

-- those that are taken in turn are those that were wanted before
picked_is : (class : List Bool) (sent : List ℕ) (ops : List Placed) → AreRising ops → picked class sent ops ≡ filter (is_wanted class sent) ops
picked_is class sent [] rising = refl
picked_is class sent (o ∷ ops) rising = elim (cases_Bool (is_wanted class sent o)) [
  | inl e ↦
      let above = (wanted class sent o e).above in
      picks class sent o ops e
      ∙ ap (λ xs. o ∷ xs) (picked_is class (risen sent o) ops rising.1)
      ∙ ap (λ xs. o ∷ xs) (filter_same (is_wanted class (risen sent o)) (is_wanted class sent) ops (λ p in'. still_wanted class sent o p above (rising.0 p in')))
      ∙ sym (cond-true (is_wanted class sent o) (o ∷ filter (is_wanted class sent) ops) (filter (is_wanted class sent) ops) e)
  | inr e ↦
      passes class sent o ops e
      ∙ picked_is class sent ops rising.1
      ∙ sym (cond-false (is_wanted class sent o) (o ∷ filter (is_wanted class sent) ops) (filter (is_wanted class sent) ops) e)
]

-- so many of the window are so many of those from the place on
looked_is : (l : Log) (place k : ℕ) → take k (window l place) ≡ take (min k MOST_LOOKED) (from_place l place)
looked_is l place k = elim (cases_lt MOST_LOOKED k) [
  | inl more ↦
      let all : length (window l place) ≤ k = omega (arith, length-take MOST_LOOKED (from_place l place)) in
      let m : MOST_LOOKED ≡ min k MOST_LOOKED = omega arith in
      take_all k (window l place) all ∙ ap (λ n. take n (from_place l place)) m
  | inr less ↦
      let m : k ≡ min k MOST_LOOKED = omega arith in
      take-take k MOST_LOOKED (from_place l place) less ∙ ap (λ n. take n (from_place l place)) m
]

pub is_pushed : IsPushed
is_pushed l place class sent next log counters =
    let from = from_place l place in
    let k = min (next - start_of l place) MOST_LOOKED in
    let test = is_wanted class sent in
    let whole : take k from ++ drop k from ≡ from = take-append-drop k from in
    let rising : AreRising from = rising_behind (take (place - l.first) l.ops) from (subst AreRising (sym (take-append-drop (place - l.first) l.ops)) log.rising) in
    let before : AreRising (take k from) = rising_before (take k from) (drop k from) (subst AreRising (sym whole) rising) in (
      filter test (drop k from),
      ap (filter test) (sym whole)
          ∙ filter-append test (take k from) (drop k from)
          ∙ ap (λ xs. xs ++ filter test (drop k from)) (sym (picked_is class sent (take k from) before) ∙ ap (picked class sent) (sym (looked_is l place (next - start_of l place)))),
    )

-- ---- what is sent

-- what was sent stays sent
sent_more : (class : List Bool) (sent : List ℕ) (ops : List Placed) (t : ℕ) → get_or sent t 0 ≤ get_or (raised sent (picked class sent ops)) t 0
sent_more class sent [] t = omega arith
sent_more class sent (o ∷ ops) t = elim (cases_Bool (is_wanted class sent o)) [
  | inl e ↦
      let up = risen_above sent o t in
      let later = sent_more class (risen sent o) ops t in
      subst (λ xs. get_or sent t 0 ≤ get_or (raised sent xs) t 0) (sym (picks class sent o ops e)) (omega arith)
  | inr e ↦ subst (λ xs. get_or sent t 0 ≤ get_or (raised sent xs) t 0) (sym (passes class sent o ops e)) (sent_more class sent ops t)
]

-- what is looked at is sent, where it is of the class
all_sent : (class : List Bool) (sent : List ℕ) (ops : List Placed) → length sent ≡ SITES → ((o : Placed) → IsIn o ops → o.operation.site < SITES) → (p : Placed) → IsIn p ops → is_of class p.operation.site ≡ true
    → p.operation.n ≤ get_or (raised sent (picked class sent ops)) p.operation.site 0
all_sent class sent [] wide sites p none of = absurd none
all_sent class sent (o ∷ ops) wide sites p in' of = elim (cases_Bool (is_wanted class sent o)) [
  | inl e ↦
      let taken = picks class sent o ops e in
      let wider : length (risen sent o) ≡ SITES = length-set sent o.operation.site (max (get_or sent o.operation.site 0) o.operation.n) ∙ wide in
      subst (λ xs. p.operation.n ≤ get_or (raised sent xs) p.operation.site 0) (sym taken) (elim in' [
        | inl same ↦
            let own = risen_own sent o (omega (arith, sites o (inl refl), wide)) in
            let later = sent_more class (risen sent o) ops o.operation.site in
            subst (λ (q : Placed). q.operation.n ≤ get_or (raised (risen sent o) (picked class (risen sent o) ops)) q.operation.site 0) same (omega arith)
        | inr behind ↦ all_sent class (risen sent o) ops wider (λ q at. sites q (inr at)) p behind of
      ])
  | inr e ↦
      subst (λ xs. p.operation.n ≤ get_or (raised sent xs) p.operation.site 0) (sym (passes class sent o ops e)) (elim in' [
        | inl same ↦
            let was = unwanted class sent o e (subst (λ (q : Placed). is_of class q.operation.site ≡ true) (sym same) of) in
            let later = sent_more class sent ops o.operation.site in
            subst (λ (q : Placed). q.operation.n ≤ get_or (raised sent (picked class sent ops)) q.operation.site 0) same (omega arith)
        | inr behind ↦ all_sent class sent ops wide (λ q at. sites q (inr at)) p behind of
      ])
]

-- what is below the next place is below the place or was looked at
below_next : (l : Log) (place next : ℕ) → start_of l place ≤ next → next - start_of l place ≤ length (window l place) → take (next - l.first) l.ops ≡ take (place - l.first) l.ops ++ take (next - start_of l place) (window l place)
below_next l place next start short =
    let a = place - l.first in
    let k = next - start_of l place in
    let few : k ≤ MOST_LOOKED = omega (arith, length-take MOST_LOOKED (from_place l place)) in
    let sum : next - l.first ≡ a + k = omega arith in
    ap (λ n. take n l.ops) sum ∙ take_sum a k l.ops ∙ ap (λ xs. take a l.ops ++ xs) (sym (take-take k MOST_LOOKED (from_place l place) few))

pub none_is_left_out : NoneIsLeftOut
none_is_left_out l place class sent next log counters short start below o in' of =
    let k = next - start_of l place in
    let looked = take k (window l place) in
    let split = subst (IsIn o) (below_next l place next start short) in' in
    elim (in_union o (take (place - l.first) l.ops) looked split) [
      | inl old ↦
          let was = below o old of in
          let more = sent_more class sent looked o.operation.site in
          omega arith
      | inr new ↦ all_sent class sent looked counters.wide (λ p at. (log.ranged p (looked_in_log l place k p at)).site) o new of
    ]

-- ---- no gap

-- What is above what was sent is the next of its site, where what stands before it was sent: one
-- between would stand behind it.
next_of : (l : Log) (class : List Bool) (before : List Placed) (o : Placed) (behind : List Placed) (sent : List ℕ) → IsLog l → l.ops ≡ before ++ o ∷ behind → is_of class o.operation.site ≡ true → get_or sent o.operation.site 0 < o.operation.n
    → get_or l.base o.operation.site 0 ≤ get_or sent o.operation.site 0 → ((p : Placed) → IsIn p before → is_of class p.operation.site ≡ true → p.operation.n ≤ get_or sent p.operation.site 0) → o.operation.n ≡ get_or sent o.operation.site 0 + 1
next_of l class before o behind sent log all of above based below =
    let s = o.operation.site in
    let there : IsIn o l.ops = subst (IsIn o) (sym all) (in_right o before (o ∷ behind) (inl refl)) in
    let known = log.known o there in
    elim (cases_lt (get_or sent s 0 + 1) o.operation.n) [
      | inr next ↦ omega arith
      | inl gap ↦
          let has = log.whole s (get_or sent s 0 + 1) (omega arith) (omega arith) in
          let site = has.2 in
          let n = has.3 in
          absurd (elim (in_union has.0 before (o ∷ behind) (subst (IsIn has.0) all has.1)) [
            | inl old ↦
                let was = below has.0 old (subst (λ u. is_of class u ≡ true) (sym site) of) in
                let here : get_or sent has.0.operation.site 0 ≡ get_or sent s 0 = ap (λ u. get_or sent u 0) site in
                omega arith
            | inr new ↦ elim new [
              | inl same ↦ let equal : o.operation.n ≡ has.0.operation.n = ap (λ (q : Placed). q.operation.n) same in omega arith
              | inr later ↦
                  let rising : AreRising (o ∷ behind) = rising_behind before (o ∷ behind) (subst AreRising all log.rising) in
                  let more = rising.0 has.0 later site in
                  omega arith
            ]
          ])
    ]

-- The operations of a class behind some that were sent, where the base was: each that is taken is the next of its site.
follow : (l : Log) (class : List Bool) (before ops : List Placed) (sent : List ℕ) (rest : List Placed) → IsLog l → l.ops ≡ before ++ (ops ++ rest) → length sent ≡ SITES
    → HasBase l class sent → ((p : Placed) → IsIn p before → is_of class p.operation.site ≡ true → p.operation.n ≤ get_or sent p.operation.site 0) → AreNext sent (picked class sent ops)
follow l class before [] sent rest log all wide based below = tt
follow l class before (o ∷ ops) sent rest log all wide based below =
    let s = o.operation.site in
    let all_more : l.ops ≡ (before ++ o ∷ []) ++ (ops ++ rest) = all ∙ sym (append_assoc before (o ∷ []) (ops ++ rest)) in
    let there : IsIn o l.ops = subst (IsIn o) (sym all) (in_right o before (o ∷ (ops ++ rest)) (inl refl)) in
    elim (cases_Bool (is_wanted class sent o)) [
      | inl e ↦
          let is = wanted class sent o e in
          let site : s < length sent = omega (arith, (log.ranged o there).site, wide) in
          let next = next_of l class before o (ops ++ rest) sent log all is.is is.above (based s is.is) below in
          subst (AreNext sent) (sym (picks class sent o ops e)) (
            next,
            follow l class (before ++ o ∷ []) ops (risen sent o) rest log all_more (length-set sent s (max (get_or sent s 0) o.operation.n) ∙ wide)
                (λ t of. let up = risen_above sent o t in let was = based t of in omega arith)
                (λ p in' of. elim (in_union p before (o ∷ []) in') [
                  | inl old ↦ let up = risen_above sent o p.operation.site in let was = below p old of in omega arith
                  | inr here ↦ elim here [
                    | inl same ↦ subst (λ (q : Placed). q.operation.n ≤ get_or (risen sent o) q.operation.site 0) same (risen_own sent o site)
                    | inr none ↦ absurd none
                  ]
                ]),
          )
      | inr e ↦
          subst (AreNext sent) (sym (passes class sent o ops e))
          (follow l class (before ++ o ∷ []) ops sent rest log all_more wide based
          (λ p in' of. elim (in_union p before (o ∷ []) in') [
            | inl old ↦ below p old of
            | inr here ↦ elim here [
              | inl same ↦ subst (λ (q : Placed). q.operation.n ≤ get_or sent q.operation.site 0) same (unwanted class sent o e (subst (λ (q : Placed). is_of class q.operation.site ≡ true) (sym same) of))
              | inr none ↦ absurd none
            ]
          ]))
    ]

pub none_is_ahead : NoneIsAhead
none_is_ahead l place class sent next log counters based below =
    let from = from_place l place in
    let k = min (next - start_of l place) MOST_LOOKED in
    let all : l.ops ≡ take (place - l.first) l.ops ++ (take k from ++ drop k from) =
    sym (take-append-drop (place - l.first) l.ops) ∙ ap (λ xs. take (place - l.first) l.ops ++ xs) (sym (take-append-drop k from)) in
    subst (λ xs. AreNext sent (picked class sent xs)) (sym (looked_is l place (next - start_of l place)))
    (follow l class (take (place - l.first) l.ops) (take k from) sent (drop k from) log all counters.wide based below)

-- ---- all

pub all_are_sent : AllAreSent
all_are_sent l place class sent next log counters short start based below last t of =
    let after = sent_after l place class sent next in
    let whole : take (next - l.first) l.ops ≡ l.ops = take_all (next - l.first) l.ops (omega arith) in
    elim (cases_lt (get_or after t 0) (get_or l.last t 0)) [
      | inl missing ↦
          let was = based t of in
          let more = sent_more class sent (take (next - start_of l place) (window l place)) t in
          let has = log.whole t (get_or l.last t 0) (omega arith) (omega arith) in
          let site = has.2 in
          let n = has.3 in
          let known = none_is_left_out l place class sent next log counters short start below has.0 (subst (IsIn has.0) (sym whole) has.1) (subst (λ u. is_of class u ≡ true) (sym site) of) in
          let there : get_or after has.0.operation.site 0 ≡ get_or after t 0 = ap (λ u. get_or after u 0) site in
          absurd (omega arith)
      | inr enough ↦ enough
    ]
