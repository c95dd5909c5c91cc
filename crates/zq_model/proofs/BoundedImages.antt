-- Steps and joins keep the bounds of an image, and the image of a set has them.

use Rattle.std.proofs.Common.{List, None, Option, Some, ap, arith, cond, eqb-true, false, get_or-set_other, get_or-set_same, inl, inr, le_of_eq, length, length-set, pos, refl, set, subst, sym, true, unwrap_or, ℕ, ℤ, ◌*◌, ◌+ℤ◌, ◌+◌, ◌<◌, ◌==◌, ◌∙◌, ◌≡◌, ◌≤◌}
use Rattle.std.proofs.Math.Nat.{mul-le-mul_left}
use Rattle.std.proofs.Common.{mul-suc}
use Rattle.std.proofs.lemmas.Bool.{cases_eq, cases_lt, cond-false, cond-true, cond_both, eq-eqb, ne_eqb}
use Rattle.std.proofs.lemmas.Option.{none-some, same_Some}
use Rattle.std.specs.FinMap.{get, get-empty}
use Rattle.std.specs.Ordering.{eq_by_cmp}
use Rattle.std.specs.Prelude.{slice_index, suc}
use Rattle.zq_model.proofs.Bounds.{within_add, within_more, within_sum_at, within_zero}
use Rattle.zq_model.proofs.Dots.{has_not}
use Rattle.zq_model.proofs.Entries.{addition_at-no_additions, entry_unless_bare, get-put_entry, join_entries, set_entries, step_entries}
use Rattle.zq_model.proofs.JoinKeeps.{join_both, join_first, join_second, join_stands, join_vector_at, known_site}
use Rattle.zq_model.proofs.Kept.{kept_from}
use Rattle.zq_model.proofs.Made.{last_bounded}
use Rattle.zq_model.proofs.Maps.{place_exact, same_key}
use Rattle.zq_model.proofs.Places.{is_on_parts, is_put_of_parts}
use Rattle.zq_model.proofs.RowLists.{addition_in_row, entries_are, rows_forth}
use Rattle.zq_model.proofs.Sites.{by_site-at, by_site-past, length-by_site}
use Rattle.zq_model.proofs.SoundImages.{image_sound}
use Rattle.zq_model.proofs.Taken.{taken_new}
use Rattle.zq_model.specs.Bounded.{HasShortNames, IsBounded, IsBoundedAt, IsBoundedRow}
use Rattle.zq_model.specs.Entry.{Addition, after_act, bumped, sum_at, without}
use Rattle.zq_model.specs.Heaps.{heap_of}
use Rattle.zq_model.specs.Image.{Image, addition_at, empty_image, entry_after, entry_at, image_after, image_of, join, no_additions, place_cmp, place_of, unless_bare}
use Rattle.zq_model.specs.Joining.{HasAddition, IsJoined, IsKnown, IsSound}
use Rattle.zq_model.specs.Operation.{Act, Bump, Drop, IsAct, IsWithin, LONGEST, MOST, Operation, Put, has, score_put}
use Rattle.zq_model.specs.Rows.{AreRows, Row, image_of_rows, rows_of}
use Rattle.zq_model.specs.Sets.{IsCounters, IsIn, IsOperation, IsWorld, LAST, New, SITES, by_site, last, taken_of}

pub bounded_sound : (K heap : ℕ) (a : Image) → IsBounded K heap a → IsSound a
bounded_sound K heap a bounded = record { wide = bounded.counters.wide; known = λ k m s x has. (bounded.additions k m s x has).counter }

-- an addition keeps its bounds under a vector that has no less
pub bounded_more : (K heap : ℕ) (u v k m : List ℕ) (s : ℕ) (x : Addition) → length u ≡ SITES → ((t : ℕ) → t < SITES → slice_index u t ≤ slice_index v t) →
    IsBoundedAt K heap u k m s x → IsBoundedAt K heap v k m s x
bounded_more K heap u v k m s x wide more is = record {
  placed = is.placed;
  key = is.key;
  member = is.member;
  counter = let known = is.counter in let grows : slice_index u s ≤ slice_index v s = more s (known_site u s x.n wide known) in (known.0, omega (arith, known.1));
  score = is.score;
  wide = is.wide;
  sums = λ t below. within_more (MOST * slice_index u t) (MOST * slice_index v t) (sum_at x t) (mul-le-mul_left MOST (more t below)) (is.sums t below);
}

-- ---- nothing

no_addition : (k m : List ℕ) (s : ℕ) (x : Addition) → HasAddition empty_image k m s x → ⊥
no_addition k m s x has = none-some x (sym (addition_at-no_additions s) ∙ ap (λ r. addition_at (unwrap_or r no_additions) s) (sym (get-empty place_cmp (k, m))) ∙ has)

pub bounded_empty : (K heap : ℕ) → IsBounded K heap empty_image
bounded_empty K heap = record {
  counters = record {
    wide = length-by_site (λ _. 0);
    bounded = λ t. elim (cases_lt t SITES) [
      | inl below ↦ (let zero : slice_index empty_image.vector t ≡ 0 = by_site-at (λ _. 0) t 0 below in omega arith)
      | inr past ↦ (let zero : slice_index empty_image.vector t ≡ 0 = by_site-past (λ _. 0) t 0 past in omega arith)
    ];
  };
  entries = λ k m e got. absurd (none-some e (sym (get-empty place_cmp (k, m)) ∙ got));
  additions = λ k m s x has. absurd (no_addition k m s x has);
}

-- ---- a set

bounded_kept : (K : ℕ) (S : List Operation) (heap : ℕ) → IsWorld K S → ((o : Operation) → IsIn o S → HasShortNames o) → (k m : List ℕ) (s : ℕ) (x : Addition) →
    HasAddition (image_of S heap) k m s x → IsBoundedAt K heap (image_of S heap).vector k m s x
bounded_kept K S heap world short k m s x has =
    let from = kept_from S heap k m s x has in
    let p = from.0 in
    let put = is_put_of_parts heap k m s p from.1.put in
    let on = is_on_parts heap k m p put.0 in
    let is : IsOperation K p = world.each p from.1.here in
    record {
      placed = (λ i. heap_of (sym on.1 i) (sym on.2 i) K) ∙ sym is.heap ∙ on.0;
      key = subst (λ q. length q ≤ LONGEST) on.1 (short p from.1.here).key;
      member = subst (λ q. length q ≤ LONGEST) on.2 (short p from.1.here).member;
      counter = (image_sound K S heap world).known k m s x has;
      score = subst (λ y. IsWithin MOST y.score) from.2 (put_within p.act is.act);
      wide = subst (λ y. length y.sums ≡ SITES) from.2 (length-by_site _);
      sums = λ t below. within_sum_at K S heap k m s t x world has below;
    }
  where
    put_within : (act : Act) → IsAct act → IsWithin MOST (score_put act)
    put_within (Put score) is = is
    put_within (Bump increment) is = within_zero MOST
    put_within Drop is = within_zero MOST

pub bounded_set : (K : ℕ) (S : List Operation) (heap : ℕ) → IsWorld K S → ((o : Operation) → IsIn o S → HasShortNames o) → IsBounded K heap (image_of S heap)
bounded_set K S heap world short = record {
  counters = record {
    wide = length-by_site (last S heap);
    bounded = λ t. elim (cases_lt t SITES) [
      | inl below ↦ (let at : slice_index (image_of S heap).vector t ≡ last S heap t = by_site-at (last S heap) t 0 below in
          let most : last S heap t ≤ LAST = last_bounded K S heap t world in omega arith)
      | inr past ↦ (let none : slice_index (image_of S heap).vector t ≡ 0 = by_site-past (last S heap) t 0 past in omega arith)
    ];
  };
  entries = set_entries S heap;
  additions = bounded_kept K S heap world short;
}

-- ---- a new operation

-- what is left of an addition was there
pub without_some : (seen : List ℕ) (s : ℕ) (r : Option Addition) (x : Addition) → without seen s r ≡ Some x → r ≡ Some x
without_some seen s None x e = e
without_some seen s (Some y) x e =
    elim (has seen s y.n) as (λ b. cond b None (Some y) ≡ Some x → Some y ≡ Some x) [ true ↦ λ f. absurd (none-some x f) | false ↦ λ f. f ] e

module _ (K : ℕ) (o : Operation) (a : Image) (bounded : IsBounded K o.heap a) (is : IsOperation K o) (short : HasShortNames o) (new : taken_of a.vector o ≡ New) where
  above : slice_index a.vector o.site < o.n
  above = let next : o.n ≡ slice_index o.seen o.site + 1 = is.next in has_not a.vector o.site o.n (taken_new a.vector o new).0 (omega arith)

  vector : List ℕ
  vector = set a.vector o.site o.n

  at_own : slice_index vector o.site ≡ o.n
  unfolding vector
  at_own = let wide : length a.vector ≡ SITES = bounded.counters.wide in let site : o.site < SITES = is.site in get_or-set_same a.vector o.site o.n 0 (omega arith)

  at_other : (t : ℕ) → (t ≡ o.site → ⊥) → slice_index vector t ≡ slice_index a.vector t
  unfolding vector
  at_other t apart = get_or-set_other a.vector o.site t o.n 0 apart

  grows : (t : ℕ) → slice_index a.vector t ≤ slice_index vector t
  grows t = elim (cases_eq t o.site) [
    | inl same ↦ subst (λ r. slice_index a.vector r ≤ slice_index vector r) (sym same) (let e = at_own in let f = above in omega arith)
    | inr apart ↦ le_of_eq (sym (at_other t apart))
  ]

  stays : (k m : List ℕ) (s : ℕ) (x : Addition) → IsBoundedAt K o.heap a.vector k m s x → IsBoundedAt K o.heap vector k m s x
  stays k m s x at = bounded_more K o.heap a.vector vector k m s x bounded.counters.wide (λ t _. grows t) at

  put_bounded : (score : ℤ) → IsWithin MOST score → IsBoundedAt K o.heap vector o.key o.member o.site (record { n = o.n; score = score; sums = by_site (λ _. pos 0) })
  put_bounded score range = record {
    placed = sym is.heap;
    key = short.key;
    member = short.member;
    counter = let next : o.n ≡ slice_index o.seen o.site + 1 = is.next in let e = at_own in (omega arith, omega arith);
    score = range;
    wide = length-by_site (λ _. pos 0);
    sums = λ t below. subst (IsWithin (MOST * slice_index vector t)) (sym (by_site-at (λ _. pos 0) t (pos 0) below)) (within_zero _);
  }

  -- a site's sum with the increment
  sum_bounded : (i : ℤ) → IsWithin MOST i → (x : ℤ) (t : ℕ) → IsWithin (MOST * slice_index a.vector t) x → IsWithin (MOST * slice_index vector t) (cond (t == o.site) (x +ℤ i) x)
  sum_bounded i range x t within = elim (cases_eq t o.site) [
    | inl same ↦
        let more : suc (slice_index a.vector t) ≤ slice_index vector t
        = subst (λ r. suc (slice_index a.vector r) ≤ slice_index vector r) (sym same) (let e = at_own in let f = above in omega arith) in
        let sum : IsWithin (MOST * slice_index a.vector t + MOST) (x +ℤ i) = within_add (MOST * slice_index a.vector t) MOST x i within range in
        subst (IsWithin (MOST * slice_index vector t)) (sym (cond-true (t == o.site) _ _ (eq-eqb t o.site same)))
        (within_more (MOST * suc (slice_index a.vector t)) (MOST * slice_index vector t) (x +ℤ i) (mul-le-mul_left MOST more)
        (subst (λ b. IsWithin b (x +ℤ i)) (sym (mul-suc MOST (slice_index a.vector t))) sum))
    | inr apart ↦
        subst (IsWithin (MOST * slice_index vector t)) (sym (cond-false (t == o.site) _ _ (ne_eqb t o.site apart)))
        (within_more (MOST * slice_index a.vector t) (MOST * slice_index vector t) x (mul-le-mul_left MOST (grows t)) within)
  ]

  bump_bounded : (i : ℤ) → IsWithin MOST i → (s : ℕ) (x : Addition) → IsBoundedAt K o.heap a.vector o.key o.member s x → IsBoundedAt K o.heap vector o.key o.member s (bumped o.seen s o.site i x)
  bump_bounded i range s x at =
      let old = stays o.key o.member s x at in
      cond_both (has o.seen s x.n) (record { n = x.n; score = x.score; sums = by_site (λ r. cond (r == o.site) (sum_at x r +ℤ i) (sum_at x r)) }) x (IsBoundedAt K o.heap vector o.key o.member s)
      (λ _. record {
        placed = old.placed;
        key = old.key;
        member = old.member;
        counter = old.counter;
        score = old.score;
        wide = length-by_site _;
        sums = λ t below. subst (IsWithin (MOST * slice_index vector t)) (sym (by_site-at _ t (pos 0) below)) (sum_bounded i range (sum_at x t) t (at.sums t below));
      })
      (λ _. old)

  -- what an act leaves of a site
  act_bounded : (act : Act) → IsAct act → (s : ℕ) (r : Option Addition) (z : Addition) → ((x : Addition) → r ≡ Some x → IsBoundedAt K o.heap a.vector o.key o.member s x) →
      after_act act o.site o.n o.seen s r ≡ Some z → IsBoundedAt K o.heap vector o.key o.member s z
  act_bounded (Put score) range s r z each e =
      cond_both (o.site == s) (Some (record { n = o.n; score = score; sums = by_site (λ _. pos 0) })) (without o.seen s r) (λ q. q ≡ Some z → IsBoundedAt K o.heap vector o.key o.member s z)
      (λ mine f. subst (IsBoundedAt K o.heap vector o.key o.member s) (same_Some _ z f)
      (subst (λ t. IsBoundedAt K o.heap vector o.key o.member t (record { n = o.n; score = score; sums = by_site (λ _. pos 0) })) (eqb-true o.site s mine) (put_bounded score range)))
      (λ other f. stays o.key o.member s z (each z (without_some o.seen s r z f))) e
  act_bounded (Bump i) range s None z each e = absurd (none-some z e)
  act_bounded (Bump i) range s (Some x) z each e = subst (IsBoundedAt K o.heap vector o.key o.member s) (same_Some _ z e) (bump_bounded i range s x (each x refl))
  act_bounded Drop range s r z each e = stays o.key o.member s z (each z (without_some o.seen s r z e))

  entry_bounded : (s : ℕ) (z : Addition) → addition_at (entry_after o.act o.site o.n o.seen (entry_at a.members (place_of o))) s ≡ Some z → IsBoundedAt K o.heap vector o.key o.member s z
  entry_bounded s z e = elim (cases_lt s SITES) [
    | inl below ↦ act_bounded o.act is.act s (addition_at (entry_at a.members (place_of o)) s) z (bounded.additions o.key o.member s) (sym (by_site-at _ s None below) ∙ e)
    | inr past ↦ absurd (none-some z (sym (by_site-past _ s None past) ∙ e))
  ]

  step_bounded_at : (k m : List ℕ) (s : ℕ) (z : Addition) → HasAddition (image_after o a) k m s z → IsBoundedAt K o.heap vector k m s z
  step_bounded_at k m s z has =
      let after = entry_after o.act o.site o.n o.seen (entry_at a.members (place_of o)) in
      cond_both (eq_by_cmp place_cmp (k, m) (place_of o)) (unless_bare after) (get a.members (k, m)) (λ r. addition_at (unwrap_or r no_additions) s ≡ Some z → IsBoundedAt K o.heap vector k m s z)
      (λ here f.
      subst (λ q. IsBoundedAt K o.heap vector q.0 q.1 s z) (sym (same_key place_exact (k, m) (place_of o) here))
      (entry_bounded s z (ap (λ e. addition_at e s) (sym (entry_unless_bare after (length-by_site _))) ∙ f)))
      (λ _ f. stays k m s z (bounded.additions k m s z f))
      (ap (λ r. addition_at (unwrap_or r no_additions) s) (sym (get-put_entry a.members (place_of o) after (k, m))) ∙ has)

  step_counters : IsCounters vector
  unfolding vector
  step_counters = record {
    wide = length-set a.vector o.site o.n ∙ bounded.counters.wide;
    bounded = λ t. elim (cases_eq t o.site) [
      | inl same ↦ subst (λ r. slice_index vector r ≤ LAST) (sym same) (let e = at_own in let most = is.bounded in omega arith)
      | inr apart ↦ (let e = at_other t apart in let most = bounded.counters.bounded t in omega arith)
    ];
  }

  pub bounded_step : IsBounded K o.heap (image_after o a)
  unfolding vector
  bounded_step = record { counters = step_counters; entries = step_entries o a bounded.entries; additions = step_bounded_at }

-- ---- a join

module _ (K heap : ℕ) (a b : Image) (p : IsBounded K heap a) (q : IsBounded K heap b) where
  bounded_first : (k m : List ℕ) (s : ℕ) (x : Addition) → HasAddition a k m s x → IsBoundedAt K heap (join a b).vector k m s x
  bounded_first k m s x has = bounded_more K heap a.vector (join a b).vector k m s x p.counters.wide (λ t below. let e = join_vector_at a b t below in omega arith) (p.additions k m s x has)

  bounded_second : (k m : List ℕ) (s : ℕ) (y : Addition) → HasAddition b k m s y → IsBoundedAt K heap (join a b).vector k m s y
  bounded_second k m s y has = bounded_more K heap b.vector (join a b).vector k m s y q.counters.wide (λ t below. let e = join_vector_at a b t below in omega arith) (q.additions k m s y has)

  joined_bounded : (k m : List ℕ) (s : ℕ) (x y z : Addition) → IsJoined a.vector b.vector x y z →
      IsBoundedAt K heap (join a b).vector k m s x → IsBoundedAt K heap (join a b).vector k m s y → IsBoundedAt K heap (join a b).vector k m s z
  joined_bounded k m s x y z j first second = record {
    placed = first.placed;
    key = first.key;
    member = first.member;
    counter = subst (IsKnown (join a b).vector s) (sym j.n) first.counter;
    score = subst (IsWithin MOST) (sym j.score) first.score;
    wide = j.wide;
    sums = λ t below. elim (cases_lt (slice_index a.vector t) (slice_index b.vector t)) [
      | inl less ↦ subst (IsWithin _) (sym (j.theirs t below less)) (second.sums t below)
      | inr more ↦ subst (IsWithin _) (sym (j.mine t below more)) (first.sums t below)
    ];
  }

  join_bounded_at : (k m : List ℕ) (s : ℕ) (z : Addition) → HasAddition (join a b) k m s z → IsBoundedAt K heap (join a b).vector k m s z
  join_bounded_at k m s z has =
      let u = bounded_sound K heap a p in
      let v = bounded_sound K heap b q in
      elim ((join_stands a b k m s z.n u v).0 (z, has, refl)) [
        | inl f ↦
            let x = f.0 in
            let y = f.1 in
            joined_bounded k m s x.0 y.0 z (join_both a b k m s x.0 y.0 z x.1 y.1 (x.2 ∙ sym y.2) has) (bounded_first k m s x.0 x.1) (bounded_second k m s y.0 y.1)
        | inr (inl f) ↦
            let x = f.0 in
            let alone = join_first a b k m s x.0 u v x.1 (λ known. f.1 (subst (IsKnown b.vector s) x.2 known)) in
            subst (IsBoundedAt K heap (join a b).vector k m s) (same_Some x.0 z (sym alone ∙ has)) (bounded_first k m s x.0 x.1)
        | inr (inr f) ↦
            let y = f.0 in
            let alone = join_second a b k m s y.0 u v y.1 (λ known. f.1 (subst (IsKnown a.vector s) y.2 known)) in
            subst (IsBoundedAt K heap (join a b).vector k m s) (same_Some y.0 z (sym alone ∙ has)) (bounded_second k m s y.0 y.1)
      ]

  pub bounded_join : IsBounded K heap (join a b)
  bounded_join = record {
    counters = record {
      wide = length-by_site _;
      bounded = λ t. elim (cases_lt t SITES) [
        | inl below ↦ (let e = join_vector_at a b t below in let x = p.counters.bounded t in let y = q.counters.bounded t in omega arith)
        | inr past ↦ (let none : slice_index (join a b).vector t ≡ 0 = by_site-past _ t 0 past in omega arith)
      ];
    };
    entries = join_entries a b;
    additions = join_bounded_at;
  }

-- ---- rows

pub bounded_row : (K heap : ℕ) (a : Image) (row : Row) → IsBounded K heap a → IsIn row (rows_of a) → IsBoundedRow K heap a.vector row
bounded_row K heap a row bounded i s x here =
    bounded.additions row.key row.member s x ((addition_in_row a bounded.entries row.key row.member s x).1 (row, i, refl, refl, here))

pub bounded_rows : (K heap : ℕ) (vector : List ℕ) (rows : List Row) → IsCounters vector → AreRows rows → ((row : Row) → IsIn row rows → IsBoundedRow K heap vector row) →
    IsBounded K heap (image_of_rows vector rows)
bounded_rows K heap vector rows counters are each = record {
  counters = counters;
  entries = entries_are vector rows are;
  additions = λ k m s x has.
      let at = (addition_in_row (image_of_rows vector rows) (entries_are vector rows are) k m s x).0 has in
      let row : IsIn at.0 rows = subst (λ rs. IsIn at.0 rs) (rows_forth vector rows are) at.1 in
      subst (λ q. IsBoundedAt K heap vector q m s x) at.2 (subst (λ q. IsBoundedAt K heap vector at.0.key q s x) at.3 (each at.0 row s x at.4));
}
