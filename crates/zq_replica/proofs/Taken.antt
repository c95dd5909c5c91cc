-- What is taken of the operations that are not on disk yet.

use Rattle.std.proofs.Common.{List, Option, [], ap, arith, false, get_or, inl, inr, length, min, refl, subst, sum_by, sym, take, true, ℕ, ◌+◌, ◌++◌, ◌<◌, ◌∙◌, ◌∷◌, ◌≡◌, ◌≤◌}
use Rattle.std.proofs.lemmas.Bool.{cases_lt}
use Rattle.std.proofs.lemmas.List.{get_or_default, length-take-le, take_more}
use Rattle.std.proofs.lemmas.List.Sums.{sum_by_push}
use Rattle.zq_dots.specs.Placed.{Placed}
use Rattle.zq_replica.specs.Unwritten.{IsShort, IsTaken, MOST_NAMES, MOST_OPS, is_within, names_of}

-- so many were looked at, and each of them is taken
pub record AreTaken (vector : Option (List ℕ)) (ops : List Placed) (k names : ℕ) : Type 0 where
  pub most : k ≤ length ops
  pub few : k ≤ MOST_OPS
  pub bytes : names ≡ sum_by names_of (take k ops)
  pub short : (j : ℕ) → j < k → IsShort (take j ops)
  pub had : (j : ℕ) → j < k → (o : Placed) → o ≡ get_or ops j o → is_within vector o ≡ true

pub none_taken : (vector : Option (List ℕ)) (ops : List Placed) → AreTaken vector ops 0 0
none_taken vector ops = record {
  most = omega arith;
  few = omega arith;
  bytes = refl;
  short = λ j none. absurd (omega arith);
  had = λ j none o is. absurd (omega arith);
}

-- what stands at one place is one operation
same_at : (ops : List Placed) (k : ℕ) (o p : Placed) → k < length ops → o ≡ get_or ops k o → p ≡ get_or ops k p → o ≡ p
same_at ops k o p in' is other = is ∙ get_or_default ops k o p in' ∙ sym other

short_at : (vector : Option (List ℕ)) (ops : List Placed) (k names : ℕ) → AreTaken vector ops k names → k < MOST_OPS → names < MOST_NAMES → IsShort (take k ops)
short_at vector ops k names at few less = (omega (arith, length-take-le k ops at.most), omega (arith, at.bytes))

-- the next is taken
pub takes_next : (vector : Option (List ℕ)) (ops : List Placed) (k names : ℕ) (op : Placed) → AreTaken vector ops k names → k < length ops → k < MOST_OPS → names < MOST_NAMES → op ≡ get_or ops k op → is_within vector op ≡ true → AreTaken vector ops (k + 1) (names + names_of op)
takes_next vector ops k names op at in' few less is within =
    let more : take (k + 1) ops ≡ take k ops ++ op ∷ [] = take_more ops k op in' ∙ ap (λ p. take k ops ++ p ∷ []) (sym is) in
    record {
      most = omega arith;
      few = omega arith;
      bytes = ap (λ n. n + names_of op) at.bytes ∙ sym (ap (sum_by names_of) more ∙ sum_by_push names_of (take k ops) op);
      short = λ j below. elim (cases_lt j k) [
        | inl before ↦ at.short j before
        | inr behind ↦ let last : k ≡ j = omega arith in subst (λ i. IsShort (take i ops)) last (short_at vector ops k names at few less)
      ];
      had = λ j below o here. elim (cases_lt j k) [
        | inl before ↦ at.had j before o here
        | inr behind ↦
            let last : j ≡ k = omega arith in
            subst (λ p. is_within vector p ≡ true) (same_at ops k op o in' is (here ∙ ap (λ i. get_or ops i o) last)) within
      ];
    }

-- there are enough names
pub taken_all_names : (vector : Option (List ℕ)) (ops : List Placed) (k names : ℕ) → AreTaken vector ops k names → MOST_NAMES ≤ names → IsTaken vector ops k
taken_all_names vector ops k names at enough = record {
  most = at.most;
  short = at.short;
  had = at.had;
  ends = λ in' short o is. absurd (omega (arith, at.bytes, short.1));
}

-- the next is not within
pub taken_before : (vector : Option (List ℕ)) (ops : List Placed) (k names : ℕ) (op : Placed) → AreTaken vector ops k names → op ≡ get_or ops k op → is_within vector op ≡ false → IsTaken vector ops k
taken_before vector ops k names op at is beyond = record {
  most = at.most;
  short = at.short;
  had = at.had;
  ends = λ in' short o here. subst (λ p. is_within vector p ≡ false) (same_at ops k op o in' is here) beyond;
}

-- there are enough of them, or no more
pub taken_all : (vector : Option (List ℕ)) (ops : List Placed) (k names : ℕ) → AreTaken vector ops k names → min (length ops) MOST_OPS ≤ k → IsTaken vector ops k
taken_all vector ops k names at enough = record {
  most = at.most;
  short = at.short;
  had = at.had;
  ends = λ in' short o is. absurd (omega (arith, length-take-le k ops at.most, short.0));
}
