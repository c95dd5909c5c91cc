-- Vectors of outlines whose counters are in range.

use Rattle.std.proofs.Common.{List, Some, [], ap, arith, false, get_or, inl, inr, refl, subst, suc, sym, true, zero, slice_set, ℕ, ◌∙◌, ◌∷◌, ◌≡◌, ◌≤◌}
use Rattle.std.proofs.lemmas.Bool.Decides.{nat_tests}
use Rattle.std.proofs.lemmas.List.{length-set}
use Rattle.std.proofs.lemmas.Option.{same_Some, slice_get_within}
use Rattle.std.specs.Prelude.{replicate, slice_get, ◌==◌, ◌≢◌, ◌⊎◌}
use Rattle.zq_dots.proofs.Counters.{no_counters}
use Rattle.zq_dots.specs.Placed.{Placed}
use Rattle.zq_keeper.specs.Operations.{TakesEach, TakesOp, TakesOps, vector_when}
use Rattle.zq_keeper.specs.Outline.{AreCounted, empty_outline}
use Rattle.zq_keeper.specs.Pieces.{Begins, Comes, GoesOn}
use Rattle.zq_keeper.specs.declared.outline.Outline.{Outline}
use Rattle.zq_links.specs.declared.piece.Piece.{Piece}
use Rattle.zq_model.specs.Operation.{Operation}
use Rattle.zq_model.specs.Sets.{Early, IsCounters, Known, LAST, New, Taken, taken_of}
use Rattle.zq_posheap.proofs.Lists.{slice_get-set_other, slice_get-set_same}
use Rattle.zq_recovery.specs.declared.opening.Identity.{Identity}

-- ---- one vector

set_le : (v : List ℕ) (s n m t : ℕ) → get_or v t 0 ≤ m → n ≤ m → get_or (slice_set v s n) t 0 ≤ m
set_le [] s n m t was new = was
set_le (x ∷ v) zero n m zero was new = new
set_le (x ∷ v) zero n m (suc t) was new = was
set_le (x ∷ v) (suc s) n m zero was new = was
set_le (x ∷ v) (suc s) n m (suc t) was new = set_le v s n m t was new

set_counters : (v : List ℕ) (s n : ℕ) → IsCounters v → n ≤ LAST → IsCounters (slice_set v s n)
set_counters v s n counters small = record {
  wide = length-set v s n ∙ counters.wide;
  bounded = λ t. set_le v s n LAST t (counters.bounded t) small;
}

vector_counters : (v : List ℕ) (o : Operation) (answer : Taken) → IsCounters v → o.n ≤ LAST →
    IsCounters (vector_when answer o v)
vector_counters v o New counters small = set_counters v o.site o.n counters small
vector_counters v o Known counters small = counters
vector_counters v o Early counters small = counters

-- ---- all

put_counted : (xs : List Outline) (h : ℕ) (x y : Outline) → slice_get xs h ≡ Some x →
    IsCounters y.vector → AreCounted xs → AreCounted (slice_set xs h y)
put_counted xs h x y there counters are k z here =
    elim (k == h) as (λ c. (k == h) ≡ c → IsCounters z.vector) [
      | true ↦ λ test.
          (let at : k ≡ h = grind (arith, nat_tests) in
          let read : slice_get (slice_set xs h y) k ≡ Some y =
          ap (slice_get (slice_set xs h y)) at
          ∙ slice_get-set_same xs h y (slice_get_within xs h x there) in
          let its : y ≡ z = same_Some y z (sym read ∙ here) in
          subst (λ (o : Outline). IsCounters o.vector) its counters)
      | false ↦ λ test.
          (let other : k ≢ h = grind (arith, nat_tests) in
          are k z (sym (slice_get-set_other xs h k y other) ∙ here))
    ] refl

op_counted : (i : Identity) (p : Placed) (old new : List Outline) → TakesOp i p old new →
    AreCounted old → AreCounted new
op_counted i p old new takes are =
    let o = p.operation in
    let counters : IsCounters takes.after.vector =
    subst (λ (x : Outline). IsCounters x.vector) (sym takes.takes.outline)
    (vector_counters takes.before.vector o (taken_of takes.before.vector o)
    (are o.heap takes.before takes.there) takes.ranged.bounded) in
    subst AreCounted (sym takes.outlines)
    (put_counted old o.heap takes.before takes.after takes.there counters are)

ops_counted : (i : Identity) (ops : List Placed) (old new : List Outline) →
    TakesOps i ops old new → AreCounted old → AreCounted new
ops_counted i [] old new takes are = subst AreCounted (sym takes) are
ops_counted i (p ∷ ops) old new takes are =
    ops_counted i ops takes.0 new takes.2 (op_counted i p old takes.0 takes.1 are)

pub each_counted : (i : Identity) (batches : List (List Placed)) (old new : List Outline) →
    TakesEach i batches old new → AreCounted old → AreCounted new
each_counted i [] old new takes are = subst AreCounted (sym takes) are
each_counted i (ops ∷ batches) old new takes are =
    each_counted i batches takes.0 new takes.2 (ops_counted i ops old takes.0 takes.1 are)

after_counted : (p : Piece) (x y : Outline) → IsCounters p.part.image.vector →
    IsCounters x.vector → Begins p x y ⊎ GoesOn p x y → IsCounters y.vector
after_counted p x y counters its (inl is) =
    subst (λ (o : Outline). IsCounters o.vector) (sym is.outline) counters
after_counted p x y counters its (inr is) =
    subst (λ (o : Outline). IsCounters o.vector) (sym is.outline) its

pub comes_counted : (i : Identity) (p : Piece) (old new : List Outline) → Comes i p old new →
    AreCounted old → AreCounted new
comes_counted i p old new comes are =
    subst AreCounted (sym comes.outlines)
    (put_counted old p.part.heap comes.before comes.after comes.there
    (after_counted p comes.before comes.after comes.counters
    (are p.part.heap comes.before comes.there) comes.comes) are)

pub none_counted : (n : ℕ) → AreCounted (replicate n empty_outline)
none_counted zero h x there = absurd (cc)
none_counted (suc n) zero x there =
    subst (λ (o : Outline). IsCounters o.vector) (same_Some empty_outline x there) no_counters
none_counted (suc n) (suc h) x there = none_counted n h x there
