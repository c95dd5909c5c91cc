-- Outlines that are noted one after the other, and what stays of them.

use Rattle.std.proofs.Common.{Err, List, Ok, Some, [], ap, arith, false, get_or, length, refl, subst, suc, sym, take, true, zero, ℕ, ◌+◌, ◌++◌, ◌<◌, ◌∙◌, ◌∷◌, ◌≡◌, ◌≤◌}
use Rattle.std.proofs.lemmas.Bool.Decides.{nat_tests}
use Rattle.std.proofs.lemmas.List.{take_more}
use Rattle.std.proofs.lemmas.Option.{same_Some, slice_get-get_or, slice_get_within}
use Rattle.std.specs.Prelude.{OnOk, Result, slice_get, slice_index, slice_set, ◌==◌, ◌≢◌}
use Rattle.zq_dots.specs.Placed.{IsRanged, Placed}
use Rattle.zq_keeper.specs.Operations.{IsPlaced, Takes, TakesEach, TakesOp, TakesOps, vector_when}
use Rattle.zq_keeper.specs.Outline.{AreAllWhole, Cover}
use Rattle.zq_keeper.specs.declared.outline.Outline.{Outline}
use Rattle.zq_model.specs.Operation.{Operation, has}
use Rattle.zq_model.specs.Sets.{Early, Known, New, Taken, taken_of}
use Rattle.zq_posheap.proofs.Lists.{slice_get-set_other, slice_get-set_same}
use Rattle.zq_recovery.specs.declared.opening.Identity.{Identity}

-- ---- one after the other

ops_push : (i : Identity) (ops : List Placed) (o : Placed) (old mid new : List Outline) →
    TakesOps i ops old mid → TakesOp i o mid new → TakesOps i (ops ++ o ∷ []) old new
ops_push i [] o old mid new all one = (new, subst (λ s. TakesOp i o s new) all one, refl)
ops_push i (p ∷ ops) o old mid new all one =
    (all.0, all.1, ops_push i ops o all.0 mid new all.2 one)

pub ops_next : (i : Identity) (ops : List Placed) (o : Placed) (n : ℕ)
    (old mid new : List Outline) → n < length ops → o ≡ get_or ops n o →
    TakesOps i (take n ops) old mid → TakesOp i o mid new → TakesOps i (take (n + 1) ops) old new
ops_next i ops o n old mid new below is all one =
    let taken : take (n + 1) ops ≡ take n ops ++ o ∷ [] =
    take_more ops n o below ∙ ap (λ x. take n ops ++ x ∷ []) (sym is) in
    subst (λ l. TakesOps i l old new) (sym taken) (ops_push i (take n ops) o old mid new all one)

pub each_push : (i : Identity) (batches : List (List Placed)) (ops : List Placed)
    (old mid new : List Outline) → TakesEach i batches old mid → TakesOps i ops mid new →
    TakesEach i (batches ++ ops ∷ []) old new
each_push i [] ops old mid new each all = (new, subst (λ s. TakesOps i ops s new) each all, refl)
each_push i (b ∷ batches) ops old mid new each all =
    (each.0, each.1, each_push i batches ops each.0 mid new each.2 all)

pub each_next : (i : Identity) (batches : List (List Placed)) (ops : List Placed) (n : ℕ)
    (old mid new : List Outline) → n < length batches → ops ≡ get_or batches n ops →
    TakesEach i (take n batches) old mid → TakesOps i ops mid new →
    TakesEach i (take (n + 1) batches) old new
each_next i batches ops n old mid new below is each all =
    let taken : take (n + 1) batches ≡ take n batches ++ ops ∷ [] =
    take_more batches n ops below ∙ ap (λ x. take n batches ++ x ∷ []) (sym is) in
    subst (λ l. TakesEach i l old new) (sym taken)
    (each_push i (take n batches) ops old mid new each all)

-- ---- at a place

pub takes_at : {X F : Type 0} (r : Result X F) (i : Identity) (p : Placed)
    (outlines : List Outline) (place : ℕ) (d after : Outline) → IsRanged p → IsPlaced i p →
    place ≡ p.operation.heap → place < length outlines →
    OnOk r (Takes p (get_or outlines place d) after) →
    OnOk r (TakesOp i p outlines (slice_set outlines place after))
takes_at (Ok x) i p outlines place d after ranged placed here below takes = record {
  ranged = ranged;
  placed = placed;
  before = get_or outlines place d;
  after = after;
  there = ap (slice_get outlines) (sym here) ∙ slice_get-get_or outlines place d below;
  takes = takes;
  outlines = ap (λ k. slice_set outlines k after) here;
}
takes_at (Err fault) i p outlines place d after ranged placed here below takes = tt

-- ---- what stays

-- another outline in a place, with what the one there had
put_covers : (xs : List Outline) (h : ℕ) (x y : Outline) → slice_get xs h ≡ Some x →
    ((s : ℕ) → slice_index x.vector s ≤ slice_index y.vector s) → Cover (slice_set xs h y) xs
put_covers xs h x y there more k z here =
    elim (k == h) as (λ c. (k == h) ≡ c → (w : Outline) × (slice_get (slice_set xs h y) k ≡ Some w)
    × ((s : ℕ) → slice_index z.vector s ≤ slice_index w.vector s)) [
      | true ↦ λ test.
          (let same : k ≡ h = grind (arith, nat_tests) in
          let its : x ≡ z = same_Some x z (sym there ∙ (ap (slice_get xs) (sym same) ∙ here)) in (
            y,
            ap (slice_get (slice_set xs h y)) same
                ∙ slice_get-set_same xs h y (slice_get_within xs h x there),
            λ s. subst (λ (o : Outline). slice_index o.vector s ≤ slice_index y.vector s) its (more s),
          ))
      | false ↦ λ test.
          (let other : k ≢ h = grind (arith, nat_tests) in
          (z, slice_get-set_other xs h k y other ∙ here, λ s. omega arith))
    ] refl

put_whole : (xs : List Outline) (h : ℕ) (x y : Outline) → slice_get xs h ≡ Some x →
    y.whole ≡ x.whole → AreAllWhole xs → AreAllWhole (slice_set xs h y)
put_whole xs h x y there same whole k z here =
    elim (k == h) as (λ c. (k == h) ≡ c → z.whole ≡ true) [
      | true ↦ λ test.
          (let at : k ≡ h = grind (arith, nat_tests) in
          let read : slice_get (slice_set xs h y) k ≡ Some y =
          ap (slice_get (slice_set xs h y)) at
          ∙ slice_get-set_same xs h y (slice_get_within xs h x there) in
          let its : y ≡ z = same_Some y z (sym read ∙ here) in
          ap (λ (o : Outline). o.whole) (sym its) ∙ (same ∙ whole h x there))
      | false ↦ λ test.
          (let other : k ≢ h = grind (arith, nat_tests) in
          whole k z (sym (slice_get-set_other xs h k y other) ∙ here))
    ] refl

-- a counter that is set to no less
rises : (v : List ℕ) (site n s : ℕ) → slice_index v site ≤ n →
    slice_index v s ≤ slice_index (slice_set v site n) s
rises [] site n s most = omega arith
rises (x ∷ v) zero n zero most = most
rises (x ∷ v) zero n (suc s) most = omega arith
rises (x ∷ v) (suc site) n zero most = omega arith
rises (x ∷ v) (suc site) n (suc s) most = rises v site n s most

-- an operation that is new has a counter that is above its site's
above : (v : List ℕ) (o : Operation) → 0 < o.n → taken_of v o ≡ New →
    slice_index v o.site ≤ o.n
above v o some is =
    elim (has v o.site o.n) as (λ c. has v o.site o.n ≡ c → slice_index v o.site ≤ o.n) [
      | true ↦ λ test. absurd (cc)
      | false ↦ λ test. grind (arith, nat_tests)
    ] refl

vector_rises : (v : List ℕ) (o : Operation) (answer : Taken) → 0 < o.n → taken_of v o ≡ answer →
    (s : ℕ) → slice_index v s ≤ slice_index (vector_when answer o v) s
vector_rises v o New some is s = rises v o.site o.n s (above v o some is)
vector_rises v o Known some is s = omega arith
vector_rises v o Early some is s = omega arith

op_covers : (i : Identity) (p : Placed) (old new : List Outline) → TakesOp i p old new →
    Cover new old
op_covers i p old new takes =
    let o = p.operation in
    let next = takes.ranged.next in
    let some : 0 < o.n = omega (arith, next) in
    let more : (s : ℕ) → slice_index takes.before.vector s ≤ slice_index takes.after.vector s =
    λ s. subst (λ (x : Outline). slice_index takes.before.vector s ≤ slice_index x.vector s)
    (sym takes.takes.outline)
    (vector_rises takes.before.vector o (taken_of takes.before.vector o) some refl s) in
    subst (λ xs. Cover xs old) (sym takes.outlines)
    (put_covers old o.heap takes.before takes.after takes.there more)

op_whole : (i : Identity) (p : Placed) (old new : List Outline) → TakesOp i p old new →
    AreAllWhole old → AreAllWhole new
op_whole i p old new takes whole =
    subst AreAllWhole (sym takes.outlines)
    (put_whole old p.operation.heap takes.before takes.after takes.there
    (ap (λ (x : Outline). x.whole) takes.takes.outline) whole)

pub covers_more : (xs ys zs : List Outline) → Cover ys xs → Cover zs ys → Cover zs xs
covers_more xs ys zs first second h x there =
    let mid = first h x there in
    let high = second h mid.0 mid.1 in
    (high.0, high.1, λ s. (let a = mid.2 s in let b = high.2 s in omega (arith, a, b)))

none_less : (xs ys : List Outline) → ys ≡ xs → Cover ys xs
none_less xs ys is = subst (λ zs. Cover zs xs) (sym is) (λ h x there. (x, there, λ s. omega arith))

pub ops_cover : (i : Identity) (ops : List Placed) (old new : List Outline) →
    TakesOps i ops old new → Cover new old
ops_cover i [] old new takes = none_less old new takes
ops_cover i (p ∷ ops) old new takes =
    covers_more old takes.0 new (op_covers i p old takes.0 takes.1)
    (ops_cover i ops takes.0 new takes.2)

pub each_covers : (i : Identity) (batches : List (List Placed)) (old new : List Outline) →
    TakesEach i batches old new → Cover new old
each_covers i [] old new takes = none_less old new takes
each_covers i (ops ∷ batches) old new takes =
    covers_more old takes.0 new (ops_cover i ops old takes.0 takes.1)
    (each_covers i batches takes.0 new takes.2)

pub ops_whole : (i : Identity) (ops : List Placed) (old new : List Outline) →
    TakesOps i ops old new → AreAllWhole old → AreAllWhole new
ops_whole i [] old new takes whole = subst AreAllWhole (sym takes) whole
ops_whole i (p ∷ ops) old new takes whole =
    ops_whole i ops takes.0 new takes.2 (op_whole i p old takes.0 takes.1 whole)

pub each_whole : (i : Identity) (batches : List (List Placed)) (old new : List Outline) →
    TakesEach i batches old new → AreAllWhole old → AreAllWhole new
each_whole i [] old new takes whole = subst AreAllWhole (sym takes) whole
each_whole i (ops ∷ batches) old new takes whole =
    each_whole i batches takes.0 new takes.2 (ops_whole i ops old takes.0 takes.1 whole)
