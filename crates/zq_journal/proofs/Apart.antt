-- Records that a vector lacks, and keys that they are on.

use Rattle.std.proofs.Common.{Bool, List, [], ap, arith, drop, drop-cons, false, get_or, length, refl, suc, sym, true, ℕ, ◌+◌, ◌<◌, ◌∙◌, ◌∷◌, ◌≡◌}
use Rattle.std.proofs.lemmas.List.Folds.{list_all-map}
use Rattle.std.specs.List.{list_all}
use Rattle.std.specs.Prelude.{cond, map, not, ◌&&◌}
use Rattle.zq_dots.specs.Placed.{Placed}
use Rattle.zq_journal.specs.Records.{missing_of, placed_at, placed_in, records_over, vector_past, whole}
use Rattle.zq_journal.specs.Untouched.{is_among, is_apart}
use Rattle.zq_journal.specs.declared.records.Change as code_change
use Rattle.zq_journal.specs.declared.records.Change.TheVariants as kept
use Rattle.zq_journal.specs.declared.records.Record as code
use Rattle.zq_model.specs.Operation.{Operation, has}

-- its site, counter and key are the same over any vector
abbrev bare : code_change.Change → Operation
bare what = (placed_in (whole 0 0 [] what)).operation

-- whether the vector has the operation, or it is on none of the keys
abbrev pub is_harmless : List ℕ → List (List ℕ) → code_change.Change → Bool
is_harmless v keys what = cond (not (has v (bare what).site (bare what).n)) (is_apart keys (bare what)) true

-- of each of the records
abbrev pub are_apart : List ℕ → List (List ℕ) → List code.Record → Bool
are_apart v keys [] = true
are_apart v keys (r ∷ records) = is_harmless v keys r.what && are_apart v keys records

abbrev is_placed_apart : List (List ℕ) → Placed → Bool
is_placed_apart keys p = is_apart keys p.operation

-- one more, that is lacked or not
one_more : (lacked apart rest : Bool) (keys : List (List ℕ)) (p : Placed) (others : List Placed) → apart ≡ is_placed_apart keys p → rest ≡ list_all (is_placed_apart keys) others →
    (cond lacked apart true && rest) ≡ list_all (is_placed_apart keys) (cond lacked (p ∷ others) others)
one_more true apart rest keys p others is same = ap (λ b. b && rest) is ∙ ap (λ b. is_placed_apart keys p && b) same
one_more false apart rest keys p others is same = same

change_more : (h K : ℕ) (v seen : List ℕ) (keys : List (List ℕ)) (what : code_change.Change) (rest : Bool) (others : List Placed) → rest ≡ list_all (is_placed_apart keys) others →
    let p : Placed = placed_in (whole h K seen what) in
    (is_harmless v keys what && rest) ≡ list_all (is_placed_apart keys) (cond (not (has v p.operation.site p.operation.n)) (p ∷ others) others)
change_more h K v seen keys (kept.Made own) rest others same =
    one_more (not (has v own.dot.site own.dot.n)) _ rest keys (placed_in (whole h K seen (kept.Made own))) others refl same
change_more h K v seen keys (kept.Took op) rest others same =
    one_more (not (has v op.value.operation.site op.value.operation.n)) _ rest keys op.value others refl same

-- so none of those that are lacked is on one of the keys
pub apart_is : (h K : ℕ) (v seen : List ℕ) (keys : List (List ℕ)) (records : List code.Record) →
    are_apart v keys records ≡ list_all (is_placed_apart keys) (missing_of v (records_over h K seen records))
apart_is h K v seen keys [] = refl
apart_is h K v seen keys (r ∷ records) =
    let others : List Placed = missing_of v (records_over h K (vector_past seen (whole h K seen r.what)) records) in
    change_more h K v seen keys r.what (are_apart v keys records) others (apart_is h K v (vector_past seen (whole h K seen r.what)) keys records)

-- the record at a place, and those behind it
pub apart_at : (v : List ℕ) (keys : List (List ℕ)) (records : List code.Record) (i : ℕ) (r : code.Record) → i < length records → r ≡ get_or records i r →
    are_apart v keys (drop i records) ≡ (is_harmless v keys r.what && are_apart v keys (drop (i + 1) records))
apart_at v keys records i r below is =
    let more : suc i ≡ i + 1 = omega arith in
    let first : drop i records ≡ r ∷ drop (i + 1) records = drop-cons records i r below ∙ ap (λ k. get_or records i r ∷ drop k records) more ∙ ap (λ x. x ∷ drop (i + 1) records) (sym is) in
    ap (are_apart v keys) first

-- what is tested of the operations, without their number of heaps
pub all_placed : (keys : List (List ℕ)) (heaps : ℕ) (ops : List Operation) → list_all (is_placed_apart keys) (map (placed_at heaps) ops) ≡ list_all (is_apart keys) ops
all_placed keys heaps ops = list_all-map (is_placed_apart keys) (placed_at heaps) ops

-- a record that is lacked, on one of the keys
pub harm : (v : List ℕ) (keys : List (List ℕ)) (what : code_change.Change) → not (has v (bare what).site (bare what).n) ≡ true → is_among keys (bare what).key ≡ true →
    is_harmless v keys what ≡ false
harm v keys what lacked among = ap (λ b. cond b (is_apart keys (bare what)) true) lacked ∙ ap not among
