-- The queue of a key is that of its own operations.

use Rattle.std.proofs.Common.{List, None, Some, [], ap, arith, inl, inr, pos, refl, subst, suc, sym, true, zero, ℕ, ℤ, ◌+◌, ◌+ℤ◌, ◌<◌, ◌∙◌, ◌∷◌, ◌≡◌, ◌≤◌}
use Rattle.std.proofs.lemmas.Bool.{and_parts, cases_Bool}
use Rattle.std.proofs.lemmas.Option.{none-some}
use Rattle.std.specs.Cmp.Lexicographic.{same_text}
use Rattle.std.specs.Prelude.{slice_index}
use Rattle.zq_model.proofs.Dots.{counter_positive, dots_below, has_parts, last_above}
use Rattle.zq_model.proofs.Kept.{kept_value}
use Rattle.zq_model.proofs.Living.{live_stands}
use Rattle.zq_model.proofs.Membership.{in_range_with_len}
use Rattle.zq_model.proofs.MeantQueues.{heap_in_range, whole_queue_is, whole_queue_one}
use Rattle.zq_model.proofs.Places.{is_on_parts}
use Rattle.zq_model.proofs.Sites.{by_site-same}
use Rattle.zq_model.proofs.Sums.{amount_elsewhere, plus_nothing, sum_upto-same}
use Rattle.zq_model.proofs.Taken.{covers_at}
use Rattle.zq_model.proofs.Worlds.{at_dot, at_nothing, at_some, vector_is, world_part}
use Rattle.zq_model.specs.Entry.{amount, site_sum, sum_upto}
use Rattle.zq_model.specs.Meaning.{IsLive, IsScore, is_of, value_of_put}
use Rattle.zq_model.specs.Operation.{Operation, has, is_on, score_put}
use Rattle.zq_model.specs.Rule.{IsNoWorse, Rule}
use Rattle.zq_model.specs.Score.{value_of}
use Rattle.zq_model.specs.Sets.{HasDot, IsClosed, IsIn, IsWorld, at, covers, last, vector_of}
use Rattle.zq_semantics.specs.Reading.{heaps_in, queues_over}
use Rattle.zq_semantics.specs.Watching.{AreUnchanged, HasAllOf, IsUnchanged, Keys}

-- what adds nothing may be left out of a sum
sum_longer : (f : ℕ → ℤ) (n d : ℕ) → ((i : ℕ) → n < i → f i ≡ pos 0) → sum_upto f (n + d) ≡ sum_upto f n
sum_longer f n zero none = let same : n + 0 ≡ n = omega arith in ap (sum_upto f) same
sum_longer f n (suc d) none =
    let more : n + suc d ≡ suc (n + d) = omega arith in
    ap (sum_upto f) more
    ∙ ap (λ x. sum_upto f (n + d) +ℤ x) (none (suc (n + d)) (omega arith))
    ∙ plus_nothing (sum_upto f (n + d))
    ∙ sum_longer f n d none

-- T lies in S, which has no more operations on the key k
module _ (K : ℕ) (S T : List Operation) (k : List ℕ) (world : IsWorld K S) (within : (o : Operation) → IsIn o T → IsIn o S) (all : (o : Operation) → IsIn o S → o.key ≡ k → IsIn o T) where
  part : IsWorld K T
  part = world_part K T S within world

  module _ (m : List ℕ) where
    on_key : (o : Operation) → is_of k m o ≡ true → o.key ≡ k
    on_key o on = same_text o.key k (sym (and_parts _ _ on).0)

    live_forth : (p : Operation) → IsLive S k m p → IsLive T k m p
    live_forth p live = record {
      here = all p live.here (on_key p live.on);
      on = live.on;
      put = live.put;
      kept = λ o i on removal. live.kept o (within o i) on removal;
    }

    live_back : (p : Operation) → IsLive T k m p → IsLive S k m p
    live_back p live = record {
      here = within p live.here;
      on = live.on;
      put = live.put;
      kept = λ o i on removal. live.kept o (all o i (on_key o on)) on removal;
    }

    -- what an operation adds to a Put on the member
    amount_same : (h s n t i : ℕ) → amount h k m s n (at S h t i) ≡ amount h k m s n (at T h t i)
    amount_same h s n t i =
        elim (at T h t i) as (λ r. at T h t i ≡ r → amount h k m s n (at S h t i) ≡ amount h k m s n r) [
          | Some o ↦ λ e.
              let found : IsIn o T × (o.heap ≡ h) × (o.site ≡ t) × (o.n ≡ i) = at_some T h t i o e in
              ap (amount h k m s n) (at_dot K S h t i world (o, within o found.0, found.1, found.2, found.3))
          | None ↦ λ e. lacking e
        ] refl
      where
        lacking : at T h t i ≡ None → amount h k m s n (at S h t i) ≡ pos 0
        lacking none =
            elim (at S h t i) as (λ r. at S h t i ≡ r → amount h k m s n r ≡ pos 0) [
              | None ↦ λ e. refl
              | Some o ↦ λ e.
                  let found : IsIn o S × (o.heap ≡ h) × (o.site ≡ t) × (o.n ≡ i) = at_some S h t i o e in
                  elim (cases_Bool (is_on h k m o)) [
                    | inl on ↦
                        (let key : o.key ≡ k = (is_on_parts h k m o on).1 in
                        absurd (none-some o (sym none ∙ at_dot K T h t i part (o, all o found.0 key, found.1, found.2, found.3))))
                    | inr other ↦ amount_elsewhere h k m s n o other
                  ]
            ] refl

    -- past the last counter nothing is added
    past_last : (U : List Operation) (h s n t i : ℕ) → last U h t < i → amount h k m s n (at U h t i) ≡ pos 0
    past_last U h s n t i past =
        ap (amount h k m s n) (at_nothing U h t i (λ has. let low = last_above U h t has.0 has.1 has.2 has.3 in let same = has.4 in absurd (omega (arith, low, same, past))))

    sum_same : (h s n t : ℕ) → site_sum S h k m s n t ≡ site_sum T h k m s n t
    sum_same h s n t =
        let f = λ (i : ℕ). amount h k m s n (at S h t i) in
        let g = λ (i : ℕ). amount h k m s n (at T h t i) in
        let turned : last S h t + last T h t ≡ last T h t + last S h t = omega arith in
        sym (sum_longer f (last S h t) (last T h t) (λ i past. past_last S h s n t i past))
        ∙ sum_upto-same f g (last S h t + last T h t) (λ i low high. amount_same h s n t i)
        ∙ ap (sum_upto g) turned
        ∙ sum_longer g (last T h t) (last S h t) (λ i past. past_last T h s n t i past)

    value_same : (p : Operation) → IsLive S k m p → value_of_put S p ≡ value_of_put T p
    value_same p live =
        let mine = live_stands S p.heap k m p.site p live refl refl in
        let theirs = live_stands T p.heap k m p.site p (live_forth p live) refl refl in
        sym (kept_value K S p.heap k m p.site p world mine)
        ∙ ap (λ sums. value_of (record { n = p.n; score = score_put p.act; sums = sums })) (by_site-same _ _ (λ t _. sum_same p.heap p.site p.n t))
        ∙ kept_value K T p.heap k m p.site p part theirs

  score_forth : (rule : Rule) (x : ℤ) (m : List ℕ) → IsScore rule S k m x → IsScore rule T k m x
  score_forth rule x m is =
      let p = is.reached.0 in
      record {
        reached = (p, live_forth m p is.reached.1, sym (value_same m p is.reached.1) ∙ is.reached.2);
        best = λ q live. subst (IsNoWorse rule x) (value_same m q (live_back m q live)) (is.best q (live_back m q live));
      }

  score_back : (rule : Rule) (x : ℤ) (m : List ℕ) → IsScore rule T k m x → IsScore rule S k m x
  score_back rule x m is =
      let p = is.reached.0 in
      let live = live_back m p is.reached.1 in
      record {
        reached = (p, live, value_same m p live ∙ is.reached.2);
        best = λ q own. subst (IsNoWorse rule x) (sym (value_same m q own)) (is.best q (live_forth m q own));
      }

  pub queue_same : (rule : Rule) → 0 < K → queues_over rule S (heaps_in K) k ≡ queues_over rule T (heaps_in K) k
  queue_same rule some =
      whole_queue_one rule S T k _ _ (score_forth rule) (score_back rule) (whole_queue_is rule K S k world some) (whole_queue_is rule K T k part some)

-- ---- keys that are watched

-- the vector of one of the heaps
vector_of_heap : (S T : List Operation) (keys : Keys) (heap : ℕ) (heaps : List ℕ) (vectors : List (List ℕ)) → IsIn heap heaps → HasAllOf T heaps vectors → AreUnchanged S heaps vectors keys →
    (v : List ℕ) × (covers (vector_of T heap) v ≡ true) × IsUnchanged S heap v keys
vector_of_heap S T keys heap [] vectors here had unchanged = absurd here
vector_of_heap S T keys heap (h ∷ heaps) [] here had unchanged = absurd had
vector_of_heap S T keys heap (h ∷ heaps) (v ∷ vectors) (inl same) had unchanged =
    (v, subst (λ k. covers (vector_of T k) v ≡ true) same had.0, subst (λ k. IsUnchanged S k v keys) same unchanged.0)
vector_of_heap S T keys heap (h ∷ heaps) (v ∷ vectors) (inr there) had unchanged = vector_of_heap S T keys heap heaps vectors there had.1 unchanged.1

module _ (K : ℕ) (S T : List Operation) (vectors : List (List ℕ)) (keys : Keys) (key : List ℕ) (some : 0 < K) (world : IsWorld K S) (closed : IsClosed T) (within : (o : Operation) → IsIn o T → IsIn o S)
    (had : HasAllOf T (heaps_in K) vectors) (unchanged : AreUnchanged S (heaps_in K) vectors keys) (watched : keys key ≡ true) where
  -- each operation on the key was there before
  was_there : (o : Operation) → IsIn o S → o.key ≡ key → IsIn o T
  was_there o here on =
      let own = world.each o here in
      let low : o.heap < K = subst (λ h. h < K) (sym own.heap) (heap_in_range o.key o.member K some) in
      let at : IsIn o.heap (heaps_in K) = in_range_with_len 0 K o.heap (omega arith) (omega (arith, low)) in
      let vector = vector_of_heap S T keys o.heap (heaps_in K) vectors at had unchanged in
      let seen : has vector.0 o.site o.n ≡ true = vector.2 o here refl (ap keys on ∙ watched) in
      let positive : 0 < o.n = counter_positive K S o world here in
      let counted : o.n ≤ slice_index vector.0 o.site = (has_parts vector.0 o.site o.n seen).1 in
      let covered : slice_index vector.0 o.site ≤ slice_index (vector_of T o.heap) o.site = covers_at (vector_of T o.heap) vector.0 o.site vector.1 own.site in
      let counter : slice_index (vector_of T o.heap) o.site ≡ last T o.heap o.site = (vector_is K T o.heap (world_part K T S within world)).counter o.site in
      let dot : HasDot T o.heap o.site o.n = dots_below K T o.heap o.site o.n (world_part K T S within world) closed positive (omega (arith, counted, covered, counter)) in
      subst (λ p. IsIn p T) (world.one dot.0 o (within dot.0 dot.1) here dot.2 dot.3 dot.4) dot.1

  pub stays_as_it_was : (rule : Rule) → queues_over rule S (heaps_in K) key ≡ queues_over rule T (heaps_in K) key
  stays_as_it_was rule = queue_same K S T key world within was_there rule some
