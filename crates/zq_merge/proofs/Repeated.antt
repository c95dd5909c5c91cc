-- Items that are read one after the other.

use Rattle.std.proofs.Common.{ap, append_assoc, append-nil, arith, length, List, Err, Ok, Result, refl, suc, sym, zero, [], ℕ, ◌+◌, ◌++◌, ◌-◌, ◌<◌, ◌≤◌, ◌∙◌, ◌∷◌, ◌≡◌}
use Rattle.std.proofs.lemmas.List.{flat_map_more, length_push}
use Rattle.std.specs.List.{flat_map}
use Rattle.std.specs.Prelude.{IsOk, is_ok}
use Rattle.zq_merge.specs.Reading.{Read, many_at}
use Rattle.zq_merge.specs.Refused.{IsAmong}
use Rattle.zq_merge.specs.declared.fault.StateFault.{StateFault}

ok_is_no_fault : {X : Type 0} (x : X) (fault : StateFault) → ◌≡◌ {A = Result X StateFault} (Ok x) (Err fault) → ⊥
ok_is_no_fault x fault same = cc

-- what was read is a value
pub is_read : {X : Type 0} (r : Result X StateFault) (x : X) → r ≡ Ok x → IsOk r
is_read r x is = ap is_ok is

module _ {X : Type 0} (read : List X → List ℕ → Read X) (spell : X → List ℕ) where
  many_none : (items : List X) (bytes : List ℕ) → many_at read 0 items bytes ≡ Ok (items, bytes)
  unfolding many_at
  many_none items bytes = refl

  many_more : (k : ℕ) (items : List X) (x : X) (bytes rest : List ℕ) → read items bytes ≡ Ok (x, rest) → many_at read (suc k) items bytes ≡ many_at read k (items ++ x ∷ []) rest
  unfolding many_at
  many_more k items x bytes rest e = rw e refl

  many_fails : (k : ℕ) (items : List X) (bytes : List ℕ) (fault : StateFault) → read items bytes ≡ Err fault → many_at read (suc k) items bytes ≡ Err fault
  unfolding many_at
  many_fails k items bytes fault e = rw e refl

  then_more : (k : ℕ) (before items : List X) (x : X) (all bytes rest : List ℕ)
      → ((y : X) (next : List ℕ) → many_at read k (before ++ y ∷ []) next ≡ Ok (items, bytes) → many_at read (suc k) (before ++ y ∷ []) next ≡ Ok (items ++ x ∷ [], rest))
      → many_at read (suc k) before all ≡ Ok (items, bytes) → (r : Read X) → read before all ≡ r → many_at read (suc (suc k)) before all ≡ Ok (items ++ x ∷ [], rest)
  then_more k before items x all bytes rest later so_far (Ok (y, next)) is =
      many_more (suc k) before y all next is ∙ later y next (sym (many_more k before y all next is) ∙ so_far)
  then_more k before items x all bytes rest later so_far (Err fault) is =
      absurd (ok_is_no_fault (items, bytes) fault (sym so_far ∙ many_fails k before all fault is))

  -- one item more
  many_then : (k : ℕ) (before items : List X) (x : X) (all bytes rest : List ℕ) → many_at read k before all ≡ Ok (items, bytes) → read items bytes ≡ Ok (x, rest) → many_at read (suc k) before all ≡ Ok (items ++ x ∷ [], rest)
  many_then zero before items x all bytes rest so_far e =
      let same : ◌≡◌ {A = Result (List X × List ℕ) StateFault} (Ok (before, all)) (Ok (items, bytes)) = sym (many_none before all) ∙ so_far in
      let is : ◌≡◌ {A = List X × List ℕ} (before, all) (items, bytes) = cc in
      many_more 0 before x all rest (ap (λ y. read y.0 y.1) is ∙ e) ∙ (many_none (before ++ x ∷ []) rest ∙ ap (λ y. Ok (y.0 ++ x ∷ [], rest)) is)
  many_then (suc k) before items x all bytes rest so_far e =
      then_more k before items x all bytes rest (λ y next is. many_then k (before ++ y ∷ []) items x next bytes rest is e) so_far (read before all) refl

  -- i of so many items are read: all is where reading began, and bytes what is left
  pub record IsReadTo (count i : ℕ) (all bytes : List ℕ) (items : List X) : Type 0 where
    pub so_far : many_at read i [] all ≡ Ok (items, bytes)
    pub reads : many_at read count [] all ≡ many_at read (count - i) items bytes
    pub found : all ≡ flat_map spell items ++ bytes
    pub size : length items ≡ i

  pub read_start : (count : ℕ) (all : List ℕ) → IsReadTo count 0 all all []
  read_start count all = record {
    so_far = many_none [] all;
    reads = let none : count ≡ count - 0 = omega arith in ap (λ k. many_at read k [] all) none;
    found = refl;
    size = refl;
  }

  left : (count i : ℕ) → i < count → count - i ≡ suc (count - (i + 1))
  left count i below = omega arith

  pub read_more : (count i : ℕ) (all bytes rest : List ℕ) (items : List X) (x : X) → i < count → read items bytes ≡ Ok (x, rest) → bytes ≡ spell x ++ rest → IsReadTo count i all bytes items → IsReadTo count (i + 1) all rest (items ++ x ∷ [])
  read_more count i all bytes rest items x below e is r = record {
    so_far = let next : i + 1 ≡ suc i = omega arith in ap (λ k. many_at read k [] all) next ∙ many_then i [] items x all bytes rest r.so_far e;
    reads = r.reads ∙ (ap (λ k. many_at read k items bytes) (left count i below) ∙ many_more (count - (i + 1)) items x bytes rest e);
    found = r.found ∙ (ap (λ b. flat_map spell items ++ b) is ∙ (sym (append_assoc (flat_map spell items) (spell x) rest) ∙ ap (λ b. b ++ rest) (flat_map_more spell [] items x)));
    size = length_push items x ∙ ap (λ n. n + 1) r.size;
  }

  pub read_fails : (count i : ℕ) (all bytes : List ℕ) (items : List X) (fault : StateFault) → i < count → read items bytes ≡ Err fault → IsReadTo count i all bytes items → many_at read count [] all ≡ Err fault
  read_fails count i all bytes items fault below e r =
      r.reads ∙ (ap (λ k. many_at read k items bytes) (left count i below) ∙ many_fails (count - (i + 1)) items bytes fault e)

  pub read_done : (count i : ℕ) (all bytes : List ℕ) (items : List X) → count ≤ i → IsReadTo count i all bytes items → many_at read count [] all ≡ Ok (items, bytes)
  read_done count i all bytes items past r =
      let none : count - i ≡ 0 = omega arith in
      r.reads ∙ (ap (λ k. many_at read k items bytes) none ∙ many_none items bytes)

  -- memory is refused at the next item
  pub refused_next : (refused : List X → List ℕ → Type 0) (count i : ℕ) (all bytes : List ℕ) (items : List X) → i < count → refused items bytes → IsReadTo count i all bytes items → IsAmong read refused count all
  refused_next refused count i all bytes items below here r = record {
    before = items;
    rest = bytes;
    few = omega (arith, r.size);
    reads = ap (λ k. many_at read k [] all) r.size ∙ r.so_far;
    there = here;
  }

  -- each of these items, spelled after those before it, is read again
  abbrev pub AreAgain : List X → List X → Type 0
  AreAgain before [] = Unit {0}
  AreAgain before (x ∷ items) = ((rest : List ℕ) → read before (spell x ++ rest) ≡ Ok (x, rest)) × AreAgain (before ++ x ∷ []) items

  pub many_again : (before items : List X) (rest : List ℕ) → AreAgain before items → many_at read (length items) before (flat_map spell items ++ rest) ≡ Ok (before ++ items, rest)
  many_again before [] rest again = many_none before rest ∙ ap (λ x. Ok (x, rest)) (sym (append-nil before))
  many_again before (x ∷ items) rest again =
      let regroup = append_assoc (spell x) (flat_map spell items) rest in
      let first = ap (read before) regroup ∙ again.0 (flat_map spell items ++ rest) in
      many_more (length items) before x (flat_map spell (x ∷ items) ++ rest) (flat_map spell items ++ rest) first
      ∙ (many_again (before ++ x ∷ []) items rest again.1 ∙ ap (λ y. Ok (y, rest)) (append_assoc before (x ∷ []) items))
