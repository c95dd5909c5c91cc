-- Entries with a place for each site.

use Rattle.std.proofs.Common.{inl, inr, ap, arith, cond, get_or, length, sym, refl, zero, suc, ◌∙◌, ◌≡◌, ◌≢◌, true, false}
use Rattle.std.proofs.lemmas.Bool.{and_parts, cases_eq}
use Rattle.std.proofs.lemmas.Bool.Decides.{nat_tests}
use Rattle.std.proofs.lemmas.Int.{clamps, ints}
use Rattle.std.specs.List.{filter, list_all, range_with_len}
use Rattle.std.specs.Prelude.{Err, IfSome, List, None, Ok, OnErr, OnOk, Option, Result, Some, [], is_none, map, not, ℕ, ℤ, ◌+◌, ◌<◌, ◌==◌, ◌≤◌, ◌&&◌, ◌||◌, ◌∷◌}
use Rattle.zq_model.specs.Entry.{Addition, after_act, bumped, bumped_if, join_site, without}
use Rattle.zq_model.specs.Image.{Entry, addition_at, entry_after, is_bare, join_entry}
use Rattle.zq_model.specs.Operation.{Bump, Drop, IsWithin, Put, has}
use Rattle.zq_model.specs.Rule.{Greatest, Least, Rule, preferred}
use Rattle.zq_model.specs.Score.{preferred_if, score_of, value_of}
use Rattle.zq_model.specs.Sets.{SITES}
use Rattle.zq_entry.specs.Changes.{bumped_placed, goes, is_unseen, joined_additions, stays}
use Rattle.zq_entry.specs.Placed.{addition_of_put, dense_entry, placed_of}
use Rattle.zq_model.specs.Rows.{OfSite}
use Rattle.zq_entry.specs.Sparse.{placed}
use Rattle.zq_model.specs.Sparse.{AreBySite, found}
use Rattle.zq_entry.proofs.MergeLemmas.{found-merged}
use Rattle.zq_model.proofs.Sites.{by_site-at, by_site-same}
use Rattle.zq_entry.proofs.SparseLemmas.{Here, Later, found-filter, found-here, found-past, found-placed_other, found-placed_same, kept, rising-none, rising-placed, sparse-dense, spread, spread-step}

-- ---- no additions

bare-spread : (n a high : ℕ) (items : List OfSite) → a + n ≡ high → AreBySite a high items → is_bare (spread (λ o. o) a n items) ≡ (length items == 0)
bare-spread zero a high items e r = ap (λ xs. length xs == 0) (sym (rising-none a high items (omega arith) r))
bare-spread (suc n) a high items e r =
    elim (spread-step (λ o. o) a n high items r) [
      | Here x rest is rising front ↦
          let some : (length ((a, x) ∷ rest) == 0) ≡ false = grind (arith, nat_tests) in
          ap is_bare front ∙ (sym some ∙ ap (λ xs. length xs == 0) (sym is))
      | Later rising front ↦ ap is_bare front ∙ bare-spread n (a + 1) high items (omega arith) rising
    ]

pub is_bare-dense : (items : List OfSite) → AreBySite 0 SITES items → is_bare (dense_entry items) ≡ (length items == 0)
is_bare-dense items r = bare-spread SITES 0 SITES items (omega arith) r

-- ---- the list again

-- the additions that stand in the entry of a list are the list's
pub placed-dense : (items : List OfSite) → AreBySite 0 SITES items → placed_of (dense_entry items) ≡ items
placed-dense items r = sparse-dense items r

-- a list that became one of two rising lists rises
pub rising-either : {X E : Type 0} (r : Result X E) (new taken refused : List OfSite) → OnOk r (new ≡ taken) → OnErr r (new ≡ refused) → AreBySite 0 SITES taken → AreBySite 0 SITES refused → AreBySite 0 SITES new
rising-either (Ok x) new taken refused e f r q = rw e r
rising-either (Err y) new taken refused e f r q = rw f q

-- ---- the score

-- the preferred of some values
abbrev pub best : Rule → List ℤ → Option ℤ
best rule [] = None
best rule (x ∷ xs) = Some (preferred_if rule x (best rule xs))

score-spread : (rule : Rule) (n a high : ℕ) (items : List OfSite) → a + n ≡ high → AreBySite a high items → score_of rule (spread (λ o. o) a n items) ≡ best rule (map (λ p. value_of p.1) items)
score-spread rule zero a high items e r = ap (λ xs. best rule (map (λ p. value_of p.1) xs)) (sym (rising-none a high items (omega arith) r))
score-spread rule (suc n) a high items e r =
    elim (spread-step (λ o. o) a n high items r) [
      | Here x rest is rising front ↦ ap (score_of rule) front ∙ (ap (λ y. Some (preferred_if rule (value_of x) y)) (score-spread rule n (a + 1) high rest (omega arith) rising) ∙ ap (λ xs. best rule (map (λ p. value_of p.1) xs)) (sym is))
      | Later rising front ↦ ap (score_of rule) front ∙ score-spread rule n (a + 1) high items (omega arith) rising
    ]

-- the score is the preferred of the values
pub score-dense : (rule : Rule) (items : List OfSite) → AreBySite 0 SITES items → score_of rule (dense_entry items) ≡ best rule (map (λ p. value_of p.1) items)
score-dense rule items r = score-spread rule SITES 0 SITES items (omega arith) r

-- what is preferred of the best so far and of the others
abbrev pub combined : Rule → Option ℤ → Option ℤ → Option ℤ
combined rule None y = y
combined rule (Some x) y = Some (preferred_if rule x y)

preferred-same : (rule : Rule) (x y : ℤ) → preferred rule x y ≡ preferred rule y x
preferred-same Greatest x y = omega (arith, ints, clamps)
preferred-same Least x y = omega (arith, ints, clamps)

preferred-groups : (rule : Rule) (x y z : ℤ) → preferred rule (preferred rule x y) z ≡ preferred rule y (preferred rule x z)
preferred-groups Greatest x y z = omega (arith, ints, clamps)
preferred-groups Least x y z = omega (arith, ints, clamps)

-- one more value is taken
pub combined-more : (rule : Rule) (best : Option ℤ) (x : ℤ) (others : Option ℤ) → combined rule (Some (preferred_if rule x best)) others ≡ combined rule best (Some (preferred_if rule x others))
combined-more rule None x others = refl
combined-more rule (Some b) x None = ap Some (preferred-same rule x b)
combined-more rule (Some b) x (Some y) = ap Some (preferred-groups rule x b y)

pub combined-none : (rule : Rule) (best : Option ℤ) → combined rule best None ≡ best
combined-none rule None = refl
combined-none rule (Some b) = refl

-- the preferred of two values is in the range of both
pub within-preferred : (rule : Rule) (b : ℕ) (x : ℤ) (best : Option ℤ) → IsWithin b x → IfSome best (IsWithin b) → IsWithin b (preferred_if rule x best)
within-preferred rule b x None h k = h
within-preferred Greatest b x (Some y) h k = (omega (arith, ints, clamps), omega (arith, ints, clamps))
within-preferred Least b x (Some y) h k = (omega (arith, ints, clamps), omega (arith, ints, clamps))

-- a score is there unless the entry is bare
pub none-score_of : (rule : Rule) (entry : Entry) → is_none (score_of rule entry) ≡ is_bare entry
none-score_of rule [] = refl
none-score_of rule (None ∷ entry) = none-score_of rule entry
none-score_of rule (Some a ∷ entry) = refl

-- ---- a Drop

without-kept : (seen : List ℕ) (s : ℕ) (o : Option Addition) → kept (is_unseen seen) s o ≡ without seen s o
without-kept seen s None = refl
without-kept seen s (Some a) = elim (has seen s a.n) as (λ b. cond (not b) (Some a) None ≡ cond b None (Some a)) [ true ↦ refl | false ↦ refl ]

pub drop-dense : (t n : ℕ) (seen : List ℕ) (items : List OfSite) → AreBySite 0 SITES items → dense_entry (filter (is_unseen seen) items) ≡ entry_after Drop t n seen (dense_entry items)
drop-dense t n seen items r =
    by_site-same (λ s. found s (filter (is_unseen seen) items)) (λ s. without seen s (addition_at (dense_entry items) s))
    (λ s l. found-filter (is_unseen seen) s 0 SITES items r ∙ (without-kept seen s (found s items) ∙ ap (without seen s) (sym (by_site-at (λ s. found s items) s None l))))

-- ---- a Put

without-stays : (site : ℕ) (seen : List ℕ) (s : ℕ) (o : Option Addition) → site ≢ s → kept (stays site seen) s o ≡ without seen s o
without-stays site seen s None h = refl
without-stays site seen s (Some a) h =
    let other : (s == site) ≡ false = grind (arith, nat_tests) in
    ap (λ b. cond (b || is_unseen seen (s, a)) (Some a) None) other ∙ without-kept seen s (Some a)

after_put : (site n : ℕ) (score : ℤ) (seen : List ℕ) (s : ℕ) (items : List OfSite) → AreBySite 0 SITES items → site < SITES → s < SITES
    → found s (filter (stays site seen) (placed site (addition_of_put n score) items)) ≡ after_act (Put score) site n seen s (addition_at (dense_entry items) s)
after_put site n score seen s items r l k =
    let put = addition_of_put n score in
    let items' = placed site put items in
    let left = found-filter (stays site seen) s 0 SITES items' (rising-placed 0 SITES site put items (omega arith) l r) in
    elim (cases_eq site s) [
      | inl same ↦
          let here : (s == site) ≡ true = grind (arith, nat_tests) in
          let its : (site == s) ≡ true = grind (arith, nat_tests) in
          left ∙ (ap (kept (stays site seen) s) (ap (λ t. found t items') (sym same) ∙ found-placed_same site put items)
          ∙ (ap (λ b. cond (b || is_unseen seen (s, put)) (Some put) None) here ∙ sym (ap (λ b. cond b (Some put) (without seen s (addition_at (dense_entry items) s))) its)))
      | inr other ↦
          let not_its : (site == s) ≡ false = grind (arith, nat_tests) in
          left ∙ (ap (kept (stays site seen) s) (found-placed_other s site put items other)
          ∙ (without-stays site seen s (found s items) other
          ∙ (ap (without seen s) (sym (by_site-at (λ t. found t items) s None k)) ∙ sym (ap (λ b. cond b (Some put) (without seen s (addition_at (dense_entry items) s))) not_its))))
    ]

pub put-dense : (site n : ℕ) (score : ℤ) (seen : List ℕ) (items : List OfSite) → AreBySite 0 SITES items → site < SITES
    → dense_entry (filter (stays site seen) (placed site (addition_of_put n score) items)) ≡ entry_after (Put score) site n seen (dense_entry items)
put-dense site n score seen items r l =
    by_site-same (λ s. found s (filter (stays site seen) (placed site (addition_of_put n score) items))) (λ s. after_act (Put score) site n seen s (addition_at (dense_entry items) s))
    (λ s k. after_put site n score seen s items r l k)

-- a Put that takes all additions away leaves its own
goes-without : (site s : ℕ) (seen : List ℕ) (items : List OfSite) → list_all (goes site seen) items ≡ true → site ≢ s → without seen s (found s items) ≡ None
goes-without site s seen [] h k = refl
goes-without site s seen (p ∷ items) h k =
    let parts = and_parts (goes site seen p) (list_all (goes site seen) items) h in
    elim (cases_eq p.0 s) [
      | inl same ↦
          let other : (p.0 == site) ≡ false = grind (arith, nat_tests) in
          let known : has seen p.0 p.1.n ≡ true = ap (λ b. b || has seen p.0 p.1.n) (sym other) ∙ parts.0 in
          ap (without seen s) (found-here s p items same) ∙ ap (λ b. cond b None (Some p.1)) (ap (λ t. has seen t p.1.n) (sym same) ∙ known)
      | inr other ↦ ap (without seen s) (found-past s p items other) ∙ goes-without site s seen items parts.1 k
    ]

pub put-alone : (site n : ℕ) (score : ℤ) (seen : List ℕ) (items : List OfSite) → list_all (goes site seen) items ≡ true
    → dense_entry ((site, addition_of_put n score) ∷ []) ≡ entry_after (Put score) site n seen (dense_entry items)
put-alone site n score seen items h =
    let put = addition_of_put n score in
    by_site-same (λ s. found s ((site, put) ∷ [])) (λ s. after_act (Put score) site n seen s (addition_at (dense_entry items) s)) (λ s l.
    elim (cases_eq site s) [
      | inl same ↦
          let its : (site == s) ≡ true = grind (arith, nat_tests) in
          found-here s (site, put) [] same ∙ sym (ap (λ b. cond b (Some put) (without seen s (addition_at (dense_entry items) s))) its)
      | inr other ↦
          let not_its : (site == s) ≡ false = grind (arith, nat_tests) in
          found-past s (site, put) [] other
          ∙ (sym (goes-without site s seen items h other) ∙ (ap (without seen s) (sym (by_site-at (λ t. found t items) s None l)) ∙ sym (ap (λ b. cond b (Some put) (without seen s (addition_at (dense_entry items) s))) not_its)))
    ])

bare-some : {X : Type 0} (f : ℕ → Option X) (x : X) (s a n : ℕ) → a ≤ s → s < a + n → f s ≡ Some x → list_all is_none (map f (range_with_len a n)) ≡ false
bare-some f x s a zero l u h = absurd (omega arith)
bare-some f x s a (suc n) l u h =
    elim (cases_eq s a) [
      | inl here ↦ ap (λ o. is_none o && list_all is_none (map f (range_with_len (a + 1) n))) (ap f (sym here) ∙ h)
      | inr past ↦ ap (λ b. is_none (f a) && b) (bare-some f x s (a + 1) n (omega arith) (omega arith) h) ∙ elim (is_none (f a)) as (λ b. (b && false) ≡ false) [ true ↦ refl | false ↦ refl ]
    ]

-- an entry is not bare after a Put
pub bare-put : (site n : ℕ) (score : ℤ) (seen : List ℕ) (entry : Entry) → site < SITES → is_bare (entry_after (Put score) site n seen entry) ≡ false
bare-put site n score seen entry l =
    let same : (site == site) ≡ true = grind (arith, nat_tests) in
    bare-some (λ s. after_act (Put score) site n seen s (addition_at entry s)) (addition_of_put n score) site 0 SITES (omega arith) (omega arith)
    (ap (λ b. cond b (Some (addition_of_put n score)) (without seen site (addition_at entry site))) same)

-- ---- a Bump

pub rising-bumped : (seen : List ℕ) (t : ℕ) (i : ℤ) (low high : ℕ) (items : List OfSite) → AreBySite low high items → AreBySite low high (map (bumped_placed seen t i) items)
rising-bumped seen t i low high [] r = tt
rising-bumped seen t i low high (p ∷ items) r = (r.0, r.1, rising-bumped seen t i (p.0 + 1) high items r.2)

found-bumped : (seen : List ℕ) (t : ℕ) (i : ℤ) (s : ℕ) (items : List OfSite) → found s (map (bumped_placed seen t i) items) ≡ bumped_if seen s t i (found s items)
found-bumped seen t i s [] = refl
found-bumped seen t i s (p ∷ items) =
    elim (cases_eq p.0 s) [
      | inl same ↦
          found-here s (bumped_placed seen t i p) (map (bumped_placed seen t i) items) same
          ∙ (ap (λ r. Some (bumped seen r t i p.1)) same ∙ ap (bumped_if seen s t i) (sym (found-here s p items same)))
      | inr other ↦
          found-past s (bumped_placed seen t i p) (map (bumped_placed seen t i) items) other
          ∙ (found-bumped seen t i s items ∙ ap (bumped_if seen s t i) (sym (found-past s p items other)))
    ]

pub bump-dense : (t n : ℕ) (i : ℤ) (seen : List ℕ) (items : List OfSite) → dense_entry (map (bumped_placed seen t i) items) ≡ entry_after (Bump i) t n seen (dense_entry items)
bump-dense t n i seen items =
    by_site-same (λ s. found s (map (bumped_placed seen t i) items)) (λ s. bumped_if seen s t i (addition_at (dense_entry items) s))
    (λ s l. found-bumped seen t i s items ∙ ap (bumped_if seen s t i) (sym (by_site-at (λ s. found s items) s None l)))

-- ---- an addition at its place

site-at : (low : ℕ) (items : List OfSite) (i : ℕ) (d : OfSite) → AreBySite low SITES items → i < length items → (low ≤ (get_or items i d).0) × ((get_or items i d).0 < SITES)
site-at low [] i d r l = absurd (omega arith)
site-at low (p ∷ items) zero d r l = (r.0, r.1)
site-at low (p ∷ items) (suc i) d r l = let rest = site-at (p.0 + 1) items i d r.2 (omega (arith, l)) in (omega (arith, rest.0, r.0), rest.1)

found-at : (low : ℕ) (items : List OfSite) (i : ℕ) (d : OfSite) → AreBySite low SITES items → i < length items → found (get_or items i d).0 items ≡ Some (get_or items i d).1
found-at low [] i d r l = absurd (omega arith)
found-at low (p ∷ items) zero d r l = found-here p.0 p items refl
found-at low (p ∷ items) (suc i) d r l =
    let rest = site-at (p.0 + 1) items i d r.2 (omega (arith, l)) in
    found-past (get_or items i d).0 p items (λ e. omega (arith, e, rest.0)) ∙ found-at (p.0 + 1) items i d r.2 (omega (arith, l))

-- what stands at a place of the list stands in its entry
pub addition-at : (items : List OfSite) (i : ℕ) (d : OfSite) → AreBySite 0 SITES items → i < length items → addition_at (dense_entry items) (get_or items i d).0 ≡ Some (get_or items i d).1
addition-at items i d r l = by_site-at (λ s. found s items) (get_or items i d).0 None (site-at 0 items i d r l).1 ∙ found-at 0 items i d r l

-- ---- a join

pub join-dense : (u v : List ℕ) (a b : List OfSite) → dense_entry (joined_additions u v a b) ≡ join_entry u v (dense_entry a) (dense_entry b)
join-dense u v a b =
    by_site-same (λ s. found s (joined_additions u v a b)) (λ s. join_site u v s (addition_at (dense_entry a) s) (addition_at (dense_entry b) s)) (λ s l.
    found-merged (join_site u v) s a b l
    ∙ (ap (λ x. join_site u v s x (found s b)) (sym (by_site-at (λ t. found t a) s None l)) ∙ ap (join_site u v s (addition_at (dense_entry a) s)) (sym (by_site-at (λ t. found t b) s None l))))
