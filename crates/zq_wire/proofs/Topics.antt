-- When two topics are one.
use Rattle.std.proofs.Common.{◌≡◌, ℕ, ◌+◌, ◌*◌, ◌<◌, true, false, refl, ap, arith}
use Rattle.std.specs.Prelude.{◌==◌}
use Rattle.std.proofs.lemmas.Bool.Decides.{nat_tests}
use Rattle.zq_wire.specs.declared.topic.Topic.{Topic}
use Rattle.zq_wire.specs.declared.topic.Topic.TheVariants.{Have, Answer}
use Rattle.zq_wire.specs.Topic.{heap_of, same_topic}

equal_numbers : (a b : ℕ) → (a == b) ≡ true → a ≡ b
equal_numbers a b same = grind (arith, nat_tests)

apart_numbers : (a b : ℕ) → (a == b) ≡ false → (b == a) ≡ false
apart_numbers a b apart = grind (arith, nat_tests)

pub same_is : (a b : Topic) → same_topic a b ≡ true → a ≡ b
same_is (Have a) (Have b) same = ap Have (equal_numbers a b same)
same_is (Have a) (Answer b) same = absurd cc
same_is (Answer a) (Have b) same = absurd cc
same_is (Answer a) (Answer b) same = ap Answer (equal_numbers a b same)

pub apart_turned : (a b : Topic) → same_topic a b ≡ false → same_topic b a ≡ false
apart_turned (Have a) (Have b) apart = apart_numbers a b apart
apart_turned (Have a) (Answer b) apart = refl
apart_turned (Answer a) (Have b) apart = refl
apart_turned (Answer a) (Answer b) apart = apart_numbers a b apart

-- a number for each topic: two for each heap
abbrev pub number_of : Topic → ℕ
number_of (Have heap) = 2 * heap
number_of (Answer heap) = 2 * heap + 1

twice_apart : (a b : ℕ) → (a == b) ≡ false → (2 * b == 2 * a) ≡ false
twice_apart a b apart = grind (arith, nat_tests)

more_apart : (a b : ℕ) → (a == b) ≡ false → (2 * b + 1 == 2 * a + 1) ≡ false
more_apart a b apart = grind (arith, nat_tests)

odd_apart : (a b : ℕ) → (2 * a == 2 * b + 1) ≡ false
odd_apart a b = grind (arith, nat_tests)

even_apart : (a b : ℕ) → (2 * a + 1 == 2 * b) ≡ false
even_apart a b = grind (arith, nat_tests)

pub numbers_apart : (a b : Topic) → same_topic a b ≡ false → (number_of b == number_of a) ≡ false
numbers_apart (Have a) (Have b) apart = twice_apart a b apart
numbers_apart (Have a) (Answer b) apart = even_apart b a
numbers_apart (Answer a) (Have b) apart = odd_apart b a
numbers_apart (Answer a) (Answer b) apart = more_apart a b apart

pub number_below : (heaps : ℕ) (topic : Topic) → heap_of topic < heaps → number_of topic < 2 * heaps
number_below heaps (Have heap) below = omega arith
number_below heaps (Answer heap) below = omega arith
