-- Of each topic one frame waits at most, so that at most two wait of each heap.
use Rattle.std.proofs.Common.{◌≡◌, ℕ, ◌*◌, ◌<◌, ◌≤◌, Bool, true, false, List, [], ◌∷◌, ◌++◌, length, map, refl, sym, ap, ◌∙◌, arith}
use Rattle.std.specs.Prelude.{◌==◌, ◌||◌, cond}
use Rattle.std.specs.List.{AllByRecursion, IsDistinct, list_any}
use Rattle.std.proofs.lemmas.Bool.Decides.{nat_tests}
use Rattle.std.proofs.lemmas.List.{length-map}
use Rattle.std.proofs.lemmas.Map.Keys.{IsDistinct-cons}
use Rattle.std.proofs.lemmas.Map.Steps.{length-le_from_distinct_below}
use Rattle.zq_wire.specs.declared.topic.Topic.{Topic}
use Rattle.zq_wire.specs.Outbox.{AreParcels, Parcels, put_in, waits}
use Rattle.zq_wire.specs.Topic.{heap_of, same_topic}
use Rattle.zq_wire.proofs.Topics.{apart_turned, number_below, number_of, numbers_apart, same_is}

-- tests in another order
or_again : (a w : Bool) → (a || w) ≡ (a || (a || w))
or_again true w = refl
or_again false w = refl

or_turned : (a b w : Bool) → (a || (b || w)) ≡ (b || (a || w))
or_turned true true w = refl
or_turned true false w = refl
or_turned false true w = refl
or_turned false false w = refl

or_left : (a w : Bool) → (a || w) ≡ false → a ≡ false
or_left true w none = absurd cc
or_left false w none = refl

or_right : (a w : Bool) → (a || w) ≡ false → w ≡ false
or_right true w none = absurd cc
or_right false w none = none

-- where a frame is put, its topic waits, and the others as before
pub waits_put : (topic other : Topic) (frame : List ℕ) (parcels : Parcels) → waits other (put_in topic frame parcels) ≡ (same_topic topic other || waits other parcels)
waits_put topic other frame [] = refl
waits_put topic other frame (p ∷ parcels) =
    let goes : Bool → Type 0 = λ b. same_topic p.0 topic ≡ b → waits other (cond b ((topic, frame) ∷ parcels) (p ∷ put_in topic frame parcels)) ≡ (same_topic topic other || (same_topic p.0 other || waits other parcels)) in
    let cases : (b : Bool) → goes b = λ b. elim b as goes [
      | true ↦ λ same.
          or_again (same_topic topic other) (waits other parcels) ∙ ap (λ first. same_topic topic other || (same_topic first other || waits other parcels)) (sym (same_is p.0 topic same))
      | false ↦ λ apart.
          ap (λ rest. same_topic p.0 other || rest) (waits_put topic other frame parcels) ∙ or_turned (same_topic p.0 other) (same_topic topic other) (waits other parcels)
    ] in
    cases (same_topic p.0 topic) refl

pub put_keeps : (heaps : ℕ) (topic : Topic) (frame : List ℕ) (parcels : Parcels) → heap_of topic < heaps → AreParcels heaps parcels → AreParcels heaps (put_in topic frame parcels)
put_keeps heaps topic frame [] below are = (below, refl, tt)
put_keeps heaps topic frame (p ∷ parcels) below are =
    let goes : Bool → Type 0 = λ b. same_topic p.0 topic ≡ b → AreParcels heaps (cond b ((topic, frame) ∷ parcels) (p ∷ put_in topic frame parcels)) in
    let cases : (b : Bool) → goes b = λ b. elim b as goes [
      | true ↦ λ same. (below, ap (λ first. waits first parcels) (sym (same_is p.0 topic same)) ∙ are.1, are.2)
      | false ↦ λ apart.
          (are.0, waits_put topic p.0 frame parcels ∙ (ap (λ first. first || waits p.0 parcels) (apart_turned p.0 topic apart) ∙ are.1), put_keeps heaps topic frame parcels below are.2)
    ] in
    cases (same_topic p.0 topic) refl

-- a frame of a topic that does not wait is put last
pub put_last : (topic : Topic) (frame : List ℕ) (parcels : Parcels) → waits topic parcels ≡ false → put_in topic frame parcels ≡ parcels ++ (topic, frame) ∷ []
put_last topic frame [] none = refl
put_last topic frame (p ∷ parcels) none =
    let apart = or_left (same_topic p.0 topic) (waits topic parcels) none in
    rw apart (ap (λ rest. p ∷ rest) (put_last topic frame parcels (or_right (same_topic p.0 topic) (waits topic parcels) none)))

abbrev numbers_of : Parcels → List ℕ
numbers_of parcels = map (λ p. number_of p.0) parcels

none_equal : (topic : Topic) (parcels : Parcels) → waits topic parcels ≡ false → AllByRecursion (λ n. (number_of topic == n) ≡ false) (numbers_of parcels)
none_equal topic [] none = tt
none_equal topic (p ∷ parcels) none =
    (numbers_apart p.0 topic (or_left (same_topic p.0 topic) (waits topic parcels) none), none_equal topic parcels (or_right (same_topic p.0 topic) (waits topic parcels) none))

distinct : (heaps : ℕ) (parcels : Parcels) → AreParcels heaps parcels → IsDistinct (λ n m. n == m) (numbers_of parcels)
unfolding IsDistinct
distinct heaps [] are = tt
distinct heaps (p ∷ parcels) are =
    IsDistinct-cons (λ n m. n == m) (number_of p.0) (numbers_of parcels) (none_equal p.0 parcels are.1) (distinct heaps parcels are.2)

or_cases : (a w : Bool) (P : Type 0) → (a ≡ true → P) → (w ≡ true → P) → (a || w) ≡ true → P
or_cases true w P left right is = left refl
or_cases false w P left right is = right is

equal_below : (q n m : ℕ) → n < m → (q == n) ≡ true → q < m
equal_below q n m below same = grind (arith, nat_tests)

all_below : (heaps : ℕ) (parcels : Parcels) → AreParcels heaps parcels → (q : ℕ) → list_any (λ n. q == n) (numbers_of parcels) ≡ true → q < 2 * heaps
all_below heaps [] are = λ q has. absurd cc
all_below heaps (p ∷ parcels) are = λ q has.
    or_cases (q == number_of p.0) (list_any (λ n. q == n) (numbers_of parcels)) (q < 2 * heaps)
    (equal_below q (number_of p.0) (2 * heaps) (number_below heaps p.0 are.0)) (all_below heaps parcels are.2 q) has

-- at most two frames wait of each heap
pub few : (heaps : ℕ) (parcels : Parcels) → AreParcels heaps parcels → length parcels ≤ 2 * heaps
few heaps parcels are =
    let bound = length-le_from_distinct_below (numbers_of parcels) (2 * heaps) (distinct heaps parcels are) (all_below heaps parcels are) in
    omega (arith, length-map parcels (λ (p : Topic × List ℕ). number_of p.0))
