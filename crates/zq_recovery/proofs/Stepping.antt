-- Stages that are changed one after the other.

use Rattle.std.proofs.Common.{Err, List, Ok, Some, [], ap, arith, inl, inr, length, refl, subst, false, suc, sym, take, true, zero, ℕ, ◌+◌, ◌++◌, ◌<◌, ◌∙◌, ◌∷◌, ◌≡◌, ◌≤◌}
use Rattle.std.proofs.lemmas.Option.{same_Some, slice_get-get_or, slice_get_read, slice_get_within}
use Rattle.std.proofs.lemmas.Bool.Decides.{nat_tests}
use Rattle.std.specs.Prelude.{OnErr, OnOk, nat_lt, Result, slice_get, slice_set, ◌⊎◌}
use Rattle.std.proofs.lemmas.List.{take_more}
use Rattle.std.proofs.Common.{get_or}
use Rattle.zq_dots.specs.Placed.{Placed}
use Rattle.zq_entries.specs.declared.sealed.Sealed.{Sealed}
use Rattle.zq_links.specs.declared.piece.Piece.{Piece}
use Rattle.zq_recovery.specs.Opening.{AreEmpty, empty_stage}
use Rattle.zq_recovery.specs.Step.{AreWhole, Begins, Comes, GoesOn, IsWhole, Takes, TakesAll, TakesEach, TakesOne}
use Rattle.zq_recovery.specs.declared.opening.Identity.{Identity}
use Rattle.zq_stage.specs.Piece.{Staged}

-- one operation more
all_push : (ops : List Placed) (o : Placed) (old mid new : List Staged) → TakesAll ops old mid →
    TakesOne o mid new → TakesAll (ops ++ o ∷ []) old new
all_push [] o old mid new all one = (new, subst (λ s. TakesOne o s new) all one, refl)
all_push (p ∷ ops) o old mid new all one = (all.0, all.1, all_push ops o all.0 mid new all.2 one)

pub all_next : (ops : List Placed) (o : Placed) (i : ℕ) (old mid new : List Staged) →
    i < length ops → o ≡ get_or ops i o → TakesAll (take i ops) old mid → TakesOne o mid new →
    TakesAll (take (i + 1) ops) old new
all_next ops o i old mid new below is all one =
    let taken : take (i + 1) ops ≡ take i ops ++ o ∷ [] =
    take_more ops i o below ∙ ap (λ x. take i ops ++ x ∷ []) (sym is) in
    subst (λ l. TakesAll l old new) (sym taken) (all_push (take i ops) o old mid new all one)

-- one batch more
each_push : (batches : List (List Placed)) (ops : List Placed) (old mid new : List Staged) →
    TakesEach batches old mid → TakesAll ops mid new → TakesEach (batches ++ ops ∷ []) old new
each_push [] ops old mid new each all = (new, subst (λ s. TakesAll ops s new) each all, refl)
each_push (b ∷ batches) ops old mid new each all =
    (each.0, each.1, each_push batches ops each.0 mid new each.2 all)

pub each_next : (batches : List (List Placed)) (ops : List Placed) (i : ℕ)
    (old mid new : List Staged) → i < length batches → ops ≡ get_or batches i ops →
    TakesEach (take i batches) old mid → TakesAll ops mid new →
    TakesEach (take (i + 1) batches) old new
each_next batches ops i old mid new below is each all =
    let taken : take (i + 1) batches ≡ take i batches ++ ops ∷ [] =
    take_more batches i ops below ∙ ap (λ x. take i batches ++ x ∷ []) (sym is) in
    subst (λ l. TakesEach l old new) (sym taken)
    (each_push (take i batches) ops old mid new each all)

-- ---- at a place

pub takes_at : {X F : Type 0} (r : Result X F) (o : Placed) (stages : List Staged) (place : ℕ)
    (d after : Staged) → place ≡ o.operation.heap → place < length stages →
    OnOk r (Takes o (get_or stages place d) after) →
    OnOk r (TakesOne o stages (slice_set stages place after))
takes_at (Ok x) o stages place d after here below takes = record {
  before = get_or stages place d;
  after = after;
  there = ap (slice_get stages) (sym here) ∙ slice_get-get_or stages place d below;
  takes = takes;
  stages = ap (λ k. slice_set stages k after) here;
}
takes_at (Err fault) o stages place d after here below takes = tt

pub comes_at : {X F : Type 0} (r : Result X F) (p : Piece) (stages : List Staged) (place : ℕ)
    (d after : Staged) → place ≡ p.part.heap → place < length stages →
    OnOk r (Begins p (get_or stages place d) after ⊎ GoesOn p (get_or stages place d) after) →
    OnOk r (Comes p stages (slice_set stages place after))
comes_at (Ok x) p stages place d after here below comes = record {
  before = get_or stages place d;
  after = after;
  there = ap (slice_get stages) (sym here) ∙ slice_get-get_or stages place d below;
  comes = comes;
  stages = ap (λ k. slice_set stages k after) here;
}
comes_at (Err fault) p stages place d after here below comes = tt

pub whole_at : {X F : Type 0} (r : Result X F) (w : Sealed) (stages : List Staged) (place : ℕ)
    (t : Staged) → place ≡ w.heap.heap → place < length stages → t ≡ get_or stages place t →
    OnOk r (t.held.heaps ≡ w.heap.heaps) → OnOk r (t.whole ≡ true) →
    OnOk r (t.held.image.vector ≡ w.vector) → OnOk r (IsWhole w stages)
whole_at (Ok x) w stages place t here below is heaps whole vector = record {
  stage = t;
  there = ap (slice_get stages) (sym here)
      ∙ slice_get_read stages (length stages) place t refl below is;
  heaps = heaps;
  whole = whole;
  vector = vector;
}
whole_at (Err fault) w stages place t here below is heaps whole vector = tt

pub other_at : {X F : Type 0} (r : Result X F) (w : Sealed) (stages : List Staged) (place : ℕ)
    (t : Staged) → place ≡ w.heap.heap → place < length stages → t ≡ get_or stages place t →
    OnErr r (t.held.heaps ≡ w.heap.heaps → t.whole ≡ true → t.held.image.vector ≡ w.vector → ⊥) →
    OnErr r (IsWhole w stages → ⊥)
other_at (Ok x) w stages place t here below is other = tt
other_at (Err fault) w stages place t here below is other = λ sealed.
    (let there : slice_get stages w.heap.heap ≡ Some t = ap (slice_get stages) (sym here)
    ∙ slice_get_read stages (length stages) place t refl below is in
    let same : sealed.stage ≡ t = same_Some sealed.stage t (sym sealed.there ∙ there) in
    other (subst (λ (s : Staged). s.held.heaps ≡ w.heap.heaps) same sealed.heaps)
    (subst (λ (s : Staged). s.whole ≡ true) same sealed.whole)
    (subst (λ (s : Staged). s.held.image.vector ≡ w.vector) same sealed.vector))

-- ---- one behind the others

get_behind : (xs : List Staged) (x : Staged) (h : ℕ) (t : Staged) →
    slice_get (xs ++ x ∷ []) h ≡ Some t →
    (slice_get xs h ≡ Some t) ⊎ ((h ≡ length xs) × (x ≡ t))
get_behind [] x zero t is = inr (refl, same_Some x t is)
get_behind [] x (suc h) t is = absurd (cc)
get_behind (y ∷ xs) x zero t is = inl is
get_behind (y ∷ xs) x (suc h) t is = elim (get_behind xs x h t is) [
  | inl here ↦ inl here
  | inr last ↦ inr (ap suc last.0, last.1)
]

pub empty_next : (i : Identity) (stages : List Staged) (t : Staged) → AreEmpty i stages →
    t ≡ empty_stage i (length stages) → AreEmpty i (stages ++ t ∷ [])
empty_next i stages t are is h x there = elim (get_behind stages t h x there) [
  | inl here ↦ are h x here
  | inr last ↦ sym last.1 ∙ is ∙ ap (empty_stage i) (sym last.0)
]

pub empty_none : (i : Identity) → AreEmpty i []
empty_none i h x there = absurd (cc)

-- ---- whole ones

abbrev pub AreWholeTo : ℕ → List Staged → Type 0
AreWholeTo i stages = (h : ℕ) (t : Staged) → h < i → slice_get stages h ≡ Some t → t.whole ≡ true

pub whole_next : (i : ℕ) (stages : List Staged) (x : Staged) → i < length stages →
    x ≡ get_or stages i x → x.whole ≡ true → AreWholeTo i stages → AreWholeTo (i + 1) stages
whole_next i stages x below is whole are h t within there =
    elim (nat_lt h i) as (λ c. nat_lt h i ≡ c → t.whole ≡ true) [
      | true ↦ λ test. (let before : h < i = grind (arith, nat_tests) in are h t before there)
      | false ↦ λ test.
          (let here : h ≡ i = grind (arith, nat_tests) in
          let its : slice_get stages h ≡ Some x =
          ap (slice_get stages) here ∙ slice_get_read stages (length stages) i x refl below is in
          let same : x ≡ t = same_Some x t (sym its ∙ there) in
          ap (λ (s : Staged). s.whole) (sym same) ∙ whole)
    ] refl

pub whole_all : (i : ℕ) (stages : List Staged) → length stages ≤ i → AreWholeTo i stages →
    AreWhole stages
whole_all i stages past are h t there =
    let within = slice_get_within stages h t there in are h t (omega (arith, within, past)) there
