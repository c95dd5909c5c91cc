-- Batches that are written or noted one after the other, all of them or those that are chosen.

use Rattle.std.proofs.Common.{Err, List, Ok, [], ap, arith, false, get_or, length, zero, suc, map, refl, subst, sym, take, true, ℕ, ◌+◌, ◌++◌, ◌<◌, ◌∙◌, ◌∷◌, ◌≡◌, ◌≤◌}
use Rattle.std.proofs.lemmas.List.Elements.{All-append, All-push, filter-append}
use Rattle.std.proofs.lemmas.List.{append-nil, length-map, map-append, take_more}
use Rattle.std.specs.Prelude.{All, OnOk, Result}
use Rattle.zq_dots.specs.Placed.{IsRanged, Placed}
use Rattle.zq_entries.specs.Entry.{IsBatch, IsRound, MOST_BATCHES}
use Rattle.zq_entries.specs.Together.{batch_of}
use Rattle.zq_keeper.specs.Operations.{IsShort, TakesEach, TakesOps, chosen, is_chosen}
use Rattle.zq_keeper.specs.declared.next.Part.{Part}
use Rattle.zq_keeper.specs.declared.outline.Outline.{Outline}
use Rattle.zq_recovery.specs.declared.opening.Identity.{Identity}

one_more : (batches : List (List Placed)) (n : ℕ) (ops : List Placed) → n < length batches →
    ops ≡ get_or batches n ops → take (n + 1) batches ≡ take n batches ++ ops ∷ []
one_more batches n ops below is =
    take_more batches n ops below ∙ ap (λ x. take n batches ++ x ∷ []) (sym is)

-- ---- all of them

pub written_next : {X : Type 0} (f : X → List ℕ) (batches : List (List Placed)) (n : ℕ)
    (ops : List Placed) (old new : List X) (bytes : X) → n < length batches →
    ops ≡ get_or batches n ops → new ≡ old ++ bytes ∷ [] →
    map f old ≡ map batch_of (take n batches) → f bytes ≡ batch_of ops →
    map f new ≡ map batch_of (take (n + 1) batches)
written_next f batches n ops old new bytes below is pushed was one =
    ap (map f) pushed ∙ (map-append f old (bytes ∷ []) ∙ ((λ k. was k ++ one k ∷ [])
    ∙ (sym (map-append batch_of (take n batches) (ops ∷ []))
    ∙ ap (map batch_of) (sym (one_more batches n ops below is)))))

pub short_next : (batches : List (List Placed)) (n : ℕ) (ops : List Placed) → n < length batches →
    ops ≡ get_or batches n ops → All IsShort (take n batches) → IsShort ops →
    All IsShort (take (n + 1) batches)
short_next batches n ops below is all one =
    subst (All IsShort) (sym (one_more batches n ops below is))
    (All-push IsShort (take n batches) ops all one)

-- ---- those that are chosen

pub chosen_yes : (parts : List Part) (ops : List Placed) → is_chosen parts ops ≡ true →
    chosen parts (ops ∷ []) ≡ ops ∷ []
chosen_yes parts ops is_so = rw is_so refl

pub chosen_no : (parts : List Part) (ops : List Placed) → is_chosen parts ops ≡ false →
    chosen parts (ops ∷ []) ≡ []
chosen_no parts ops not_so = rw not_so refl

pub one_written : {X : Type 0} (f : X → List ℕ) (parts : List Part) (ops : List Placed)
    (old new : List X) (bytes : X) → new ≡ old ++ bytes ∷ [] → f bytes ≡ batch_of ops →
    is_chosen parts ops ≡ true →
    map f new ≡ map f old ++ map batch_of (chosen parts (ops ∷ []))
one_written f parts ops old new bytes pushed one is_so =
    ap (map f) pushed ∙ (map-append f old (bytes ∷ [])
    ∙ ap (λ x. map f old ++ x)
    ((λ k. one k ∷ []) ∙ ap (map batch_of) (sym (chosen_yes parts ops is_so))))

pub none_written : {X : Type 0} (f : X → List ℕ) (parts : List Part) (ops : List Placed)
    (old : List X) → is_chosen parts ops ≡ false →
    map f old ≡ map f old ++ map batch_of (chosen parts (ops ∷ []))
none_written f parts ops old not_so =
    sym (ap (λ l. map f old ++ map batch_of l) (chosen_no parts ops not_so) ∙ append-nil (map f old))

none_at : All IsShort []
none_at k d below = absurd (omega (arith, below))

pub one_short : (parts : List Part) (ops : List Placed) → is_chosen parts ops ≡ true →
    IsShort ops → All IsShort (chosen parts (ops ∷ []))
one_short parts ops is_so one = subst (All IsShort) (sym (chosen_yes parts ops is_so))
    (All-push IsShort [] ops none_at one)

pub none_short : (parts : List Part) (ops : List Placed) → is_chosen parts ops ≡ false →
    All IsShort (chosen parts (ops ∷ []))
none_short parts ops not_so = subst (All IsShort) (sym (chosen_no parts ops not_so)) none_at

chosen_more : (parts : List Part) (batches : List (List Placed)) (n : ℕ) (ops : List Placed) →
    n < length batches → ops ≡ get_or batches n ops →
    chosen parts (take (n + 1) batches)
    ≡ chosen parts (take n batches) ++ chosen parts (ops ∷ [])
chosen_more parts batches n ops below is =
    ap (chosen parts) (one_more batches n ops below is)
    ∙ filter-append (is_chosen parts) (take n batches) (ops ∷ [])

pub chosen_written : {X : Type 0} (f : X → List ℕ) (parts : List Part)
    (batches : List (List Placed)) (n : ℕ) (ops : List Placed) (old new : List X) →
    n < length batches → ops ≡ get_or batches n ops →
    map f new ≡ map f old ++ map batch_of (chosen parts (ops ∷ [])) →
    map f old ≡ map batch_of (chosen parts (take n batches)) →
    map f new ≡ map batch_of (chosen parts (take (n + 1) batches))
chosen_written f parts batches n ops old new below is more was =
    more ∙ (ap (λ l. l ++ map batch_of (chosen parts (ops ∷ []))) was
    ∙ (sym (map-append batch_of (chosen parts (take n batches)) (chosen parts (ops ∷ [])))
    ∙ ap (map batch_of) (sym (chosen_more parts batches n ops below is))))

pub chosen_short : (parts : List Part) (batches : List (List Placed)) (n : ℕ)
    (ops : List Placed) → n < length batches → ops ≡ get_or batches n ops →
    All IsShort (chosen parts (take n batches)) → All IsShort (chosen parts (ops ∷ [])) →
    All IsShort (chosen parts (take (n + 1) batches))
chosen_short parts batches n ops below is all more =
    subst (All IsShort) (sym (chosen_more parts batches n ops below is))
    (All-append IsShort (chosen parts (take n batches)) (chosen parts (ops ∷ [])) all more)

-- ---- their numbers are in range

ops_ranged : (i : Identity) (ops : List Placed) (old new : List Outline) → TakesOps i ops old new →
    All IsRanged ops
ops_ranged i [] old new takes k d below = absurd (omega (arith, below))
ops_ranged i (p ∷ ops) old new takes zero d below = takes.1.ranged
ops_ranged i (p ∷ ops) old new takes (suc k) d below =
    ops_ranged i ops takes.0 new takes.2 k d (omega (arith, below))

each_ranged : (i : Identity) (batches : List (List Placed)) (old new : List Outline) →
    TakesEach i batches old new → All (All IsRanged) batches
each_ranged i [] old new takes k d below = absurd (omega (arith, below))
each_ranged i (ops ∷ batches) old new takes zero d below = ops_ranged i ops old takes.0 takes.1
each_ranged i (ops ∷ batches) old new takes (suc k) d below =
    each_ranged i batches takes.0 new takes.2 k d (omega (arith, below))

pub are_batches : (i : Identity) (batches : List (List Placed)) (old new : List Outline) →
    TakesEach i batches old new → All IsShort batches → All IsBatch batches
are_batches i batches old new takes short k d below =
    let one = short k d below in
    record {
      ranged = each_ranged i batches old new takes k d below;
      together = one.together;
      short = one.short;
    }

-- the entry of as many batches as are written
pub is_round : {X : Type 0} (f : X → List ℕ) (written : List X) (round : List (List Placed)) →
    map f written ≡ map batch_of round → 1 ≤ length written → length written ≤ MOST_BATCHES →
    All IsBatch round → IsRound round
is_round f written round same some few each =
    let long : length written ≡ length round =
    sym (length-map written f) ∙ (ap length same ∙ length-map round batch_of) in
    record { some = omega (arith, long, some); few = omega (arith, long, few); each = each }

-- ---- noted

each_append : (i : Identity) (xs ys : List (List Placed)) (old mid new : List Outline) →
    TakesEach i xs old mid → TakesEach i ys mid new → TakesEach i (xs ++ ys) old new
each_append i [] ys old mid new first second =
    subst (λ s. TakesEach i ys s new) first second
each_append i (x ∷ xs) ys old mid new first second =
    (first.0, first.1, each_append i xs ys first.0 mid new first.2 second)

pub chosen_next : (i : Identity) (parts : List Part) (batches : List (List Placed)) (n : ℕ)
    (ops : List Placed) (old mid new : List Outline) → n < length batches →
    ops ≡ get_or batches n ops → TakesEach i (chosen parts (take n batches)) old mid →
    TakesEach i (chosen parts (ops ∷ [])) mid new →
    TakesEach i (chosen parts (take (n + 1) batches)) old new
chosen_next i parts batches n ops old mid new below is first second =
    subst (λ l. TakesEach i l old new) (sym (chosen_more parts batches n ops below is))
    (each_append i (chosen parts (take n batches)) (chosen parts (ops ∷ [])) old mid new first second)

pub one_noted : {X F : Type 0} (r : Result X F) (i : Identity) (parts : List Part)
    (ops given : List Placed) (old new : List Outline) → given ≡ ops →
    is_chosen parts ops ≡ true → OnOk r (TakesOps i given old new) →
    OnOk r (TakesEach i (chosen parts (ops ∷ [])) old new)
one_noted (Ok x) i parts ops given old new same is_so takes =
    subst (λ l. TakesEach i l old new) (sym (chosen_yes parts ops is_so))
    (new, subst (λ l. TakesOps i l old new) same takes, refl)
one_noted (Err fault) i parts ops given old new same is_so takes = tt
