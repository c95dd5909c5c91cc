-- Batches that are read, and written, one after the other.

use Rattle.std.proofs.Common.{ap, append_assoc, arith, length, map, List, Err, Ok, refl, suc, sym, [], ℕ, ◌+◌, ◌++◌, ◌-◌, ◌<◌, ◌≤◌, ◌∙◌, ◌∷◌, ◌≡◌}
use Rattle.std.proofs.lemmas.List.{flat_map_more, length-map, length_push}
use Rattle.std.proofs.lemmas.List.Folds.{flat_map-map}
use Rattle.std.specs.List.{flat_map}
use Rattle.zq_dots.specs.Placed.{Placed}
use Rattle.zq_entries.specs.Reading.{batch_in, batches_at}
use Rattle.zq_entries.specs.Spelling.{block, part_bytes, round_bytes}
use Rattle.zq_entries.specs.Together.{batch_of}
use Rattle.zq_entries.specs.declared.fault.EntryFault.{EntryFault}

pub batches_none : (whole : ℕ) (before : List (List Placed)) (bytes : List ℕ) →
    batches_at whole 0 before bytes ≡ Ok (before, bytes)
unfolding batches_at
batches_none whole before bytes = refl

pub batches_more : (whole k : ℕ) (before : List (List Placed)) (ops : List Placed)
    (bytes rest : List ℕ) → batch_in whole bytes ≡ Ok (ops, rest) →
    batches_at whole (suc k) before bytes ≡ batches_at whole k (before ++ ops ∷ []) rest
unfolding batches_at
batches_more whole k before ops bytes rest e = rw e refl

batches_fail : (whole k : ℕ) (before : List (List Placed)) (bytes : List ℕ) (fault : EntryFault) →
    batch_in whole bytes ≡ Err fault → batches_at whole (suc k) before bytes ≡ Err fault
unfolding batches_at
batches_fail whole k before bytes fault e = rw e refl

-- i are read: all is where reading began, and bytes what is left
pub record AreReadTo (whole i : ℕ) (all bytes : List ℕ) (batches : List (List Placed)) : Type 0
  where
    pub reads : (k : ℕ) → batches_at whole (i + k) [] all ≡ batches_at whole k batches bytes
    pub found : all ≡ flat_map part_bytes batches ++ bytes
    pub size : length batches ≡ i

pub read_start : (whole : ℕ) (all : List ℕ) → AreReadTo whole 0 all all []
read_start whole all = record {
  reads = λ k. let same : 0 + k ≡ k = omega arith in ap (λ n. batches_at whole n [] all) same;
  found = refl;
  size = refl;
}

pub read_more : (whole i : ℕ) (all bytes rest : List ℕ) (batches : List (List Placed))
    (ops : List Placed) → batch_in whole bytes ≡ Ok (ops, rest) → bytes ≡ part_bytes ops ++ rest →
    AreReadTo whole i all bytes batches → AreReadTo whole (i + 1) all rest (batches ++ ops ∷ [])
read_more whole i all bytes rest batches ops e is r = record {
  reads = λ k. let same : (i + 1) + k ≡ i + suc k = omega arith in
      ap (λ n. batches_at whole n [] all) same
      ∙ (r.reads (suc k) ∙ batches_more whole k batches ops bytes rest e);
  found = r.found
      ∙ (ap (λ b. flat_map part_bytes batches ++ b) is
      ∙ (sym (append_assoc (flat_map part_bytes batches) (part_bytes ops) rest)
      ∙ ap (λ b. b ++ rest) (flat_map_more part_bytes [] batches ops)));
  size = length_push batches ops ∙ ap (λ n. n + 1) r.size;
}

pub read_fails : (whole count i : ℕ) (all bytes : List ℕ) (batches : List (List Placed))
    (fault : EntryFault) → i < count → batch_in whole bytes ≡ Err fault →
    AreReadTo whole i all bytes batches → batches_at whole count [] all ≡ Err fault
read_fails whole count i all bytes batches fault below e r =
    let left = count - (i + 1) in
    let same : count ≡ i + suc left = omega arith in
    ap (λ n. batches_at whole n [] all) same
    ∙ (r.reads (suc left) ∙ batches_fail whole left batches bytes fault e)

pub read_done : (whole count i : ℕ) (all bytes : List ℕ) (batches : List (List Placed)) →
    count ≤ i → i ≤ count → AreReadTo whole i all bytes batches →
    batches_at whole count [] all ≡ Ok (batches, bytes)
read_done whole count i all bytes batches past within r =
    let same : count ≡ i + 0 = omega arith in
    ap (λ n. batches_at whole n [] all) same ∙ (r.reads 0 ∙ batches_none whole batches bytes)

pub round_found : (count i whole : ℕ) (all bytes : List ℕ) (batches : List (List Placed)) →
    count ≤ i → i ≤ count → AreReadTo whole i all bytes batches →
    count ∷ all ≡ round_bytes batches ++ bytes
unfolding round_bytes
round_found count i whole all bytes batches past within r =
    let size : count ≡ length batches = omega (arith, r.size) in λ j. size j ∷ r.found j

pub round_size : (count i whole : ℕ) (all bytes : List ℕ) (batches : List (List Placed)) →
    count ≤ i → i ≤ count → AreReadTo whole i all bytes batches → length batches ≡ count
round_size count i whole all bytes batches past within r = omega (arith, r.size)

-- blocks that are the spellings of batches are their round
pub blocks_of : {X : Type 0} (items : X → List ℕ) (blocks : List X)
    (batches : List (List Placed)) → map items blocks ≡ map batch_of batches →
    flat_map (λ b. block (items b)) blocks ≡ flat_map part_bytes batches
blocks_of items blocks batches same =
    sym (flat_map-map block items blocks)
    ∙ (ap (flat_map block) same ∙ flat_map-map block batch_of batches)

pub round_written : {X : Type 0} (items : X → List ℕ) (blocks : List X)
    (batches : List (List Placed)) (k : ℕ) (b0 b1 b2 b3 : List ℕ) → k ≡ 2 → b0 ≡ [] →
    b1 ≡ b0 ++ k ∷ [] →
    b2 ≡ b1 ++ length blocks ∷ [] → b3 ≡ b2 ++ flat_map (λ b. block (items b)) blocks →
    map items blocks ≡ map batch_of batches → b3 ≡ 2 ∷ round_bytes batches
unfolding round_bytes
round_written items blocks batches k b0 b1 b2 b3 kind none first second third same =
    let size : length blocks ≡ length batches = sym (length-map blocks items)
    ∙ (ap length same ∙ length-map batches batch_of) in
    third
    ∙ (ap (λ b. b ++ flat_map (λ x. block (items x)) blocks)
    (second ∙ ap (λ b. b ++ length blocks ∷ []) (first ∙ (λ i. none i ++ kind i ∷ [])))
    ∙ (λ i. 2 ∷ size i ∷ blocks_of items blocks batches same i))
