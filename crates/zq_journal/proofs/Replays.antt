-- The records of a book, undone and replayed one by one.

use Rattle.std.proofs.Common.{List, Some, [], ap, arith, drop, drop-cons, get_or, length, map, subst, suc, sym, take, zero, ℕ, ◌+◌, ◌++◌, ◌<◌, ◌∙◌, ◌∷◌, ◌≡◌}
use Rattle.std.proofs.lemmas.Bool.{and_parts}
use Rattle.std.proofs.lemmas.List.{length-map, map-append, take-append-drop, take_more}
use Rattle.std.proofs.lemmas.Option.{none-some, same_Some}
use Rattle.std.specs.Prelude.{slice_get, true}
use Rattle.zq_model.proofs.NewRecords.{change_is_new}
use Rattle.zq_model.proofs.BookSteps.{are_steps_over-rest, steps_image-append}
use Rattle.zq_model.specs.Books as book
use Rattle.zq_model.specs.Books.{are_steps_over, is_change_over, operations_of, replayed, steps_of}
use Rattle.zq_model.specs.Undoing.{Leaf, operation_on}
use Rattle.zq_journal.proofs.Missing.{operation_is}
use Rattle.zq_journal.specs.Records.{Record, leaf_of, leaves_of, placed_in, undone_at, written_in}
use Rattle.zq_model.specs.Image.{Image, image_after, place_of}
use Rattle.zq_model.specs.Sets.{New, taken_of}
use Rattle.zq_shard.specs.Queues.{or_none}
use Rattle.zq_shard.specs.Shard.{with_entry}

rest_is : (records : List Record) (i : ℕ) (r : Record) → i < length records → r ≡ get_or records i r → drop i records ≡ r ∷ drop (i + 1) records
rest_is records i r below is =
    let more : suc i ≡ i + 1 = omega arith in
    drop-cons records i r below ∙ ap (λ k. get_or records i r ∷ drop k records) more ∙ ap (λ x. x ∷ drop (i + 1) records) (sym is)

-- one record more undone gives its member back what it had
pub undone_next : (records : List Record) (i : ℕ) (r : Record) (a : Image) → i < length records → r ≡ get_or records i r →
    undone_at (drop i records) a ≡ with_entry (place_of (placed_in r.what).operation) (or_none r.before) (undone_at (drop (i + 1) records) a)
undone_next records i r a below is =
    ap (λ rs. undone_at rs a) (rest_is records i r below is)
    ∙ ap (λ o. with_entry (place_of o) (or_none r.before) (undone_at (drop (i + 1) records) a)) (operation_is r.what)

-- one record more replayed is one operation more
pub replayed_next : (records : List Record) (i : ℕ) (r : Record) (a : Image) → i < length records → r ≡ get_or records i r →
    replayed (written_in (take (i + 1) records)) a ≡ image_after (placed_in r.what).operation (replayed (written_in (take i records)) a)
replayed_next records i r a below is =
    let next : take (i + 1) records ≡ take i records ++ r ∷ [] = take_more records i r below ∙ ap (λ x. take i records ++ x ∷ []) (sym is) in
    let steps : steps_of (written_in (take i records ++ r ∷ [])) ≡ steps_of (written_in (take i records)) ++ book.Recorded (leaf_of r).written ∷ [] =
    ap (λ ls. steps_of (map (λ (l : Leaf). l.written) ls)) (map-append leaf_of (take i records) (r ∷ []))
    ∙ ap steps_of (map-append (λ (l : Leaf). l.written) (leaves_of (take i records)) (leaf_of r ∷ []))
    ∙ map-append (λ q. book.Recorded q) (written_in (take i records)) ((leaf_of r).written ∷ []) in
    ap (λ rs. replayed (written_in rs) a) next
    ∙ ap (λ ss. book.steps_image ss a) steps
    ∙ steps_image-append (steps_of (written_in (take i records))) (book.Recorded (leaf_of r).written ∷ []) a
    ∙ ap (λ o. image_after o (replayed (written_in (take i records)) a)) (operation_is r.what)

-- each record is new where it comes
pub new_next : (K h : ℕ) (records : List Record) (i : ℕ) (r : Record) (a : Image) → i < length records → r ≡ get_or records i r →
    are_steps_over K h a (steps_of (written_in records)) ≡ true → taken_of (replayed (written_in (take i records)) a).vector (placed_in r.what).operation ≡ New
new_next K h records i r a below is over =
    let b : Image = replayed (written_in (take i records)) a in
    let parts : records ≡ take i records ++ r ∷ drop (i + 1) records = sym (take-append-drop i records) ∙ ap (λ rs. take i records ++ rs) (rest_is records i r below is) in
    let steps : steps_of (written_in records) ≡ steps_of (written_in (take i records)) ++ steps_of (written_in (r ∷ drop (i + 1) records)) =
    ap (λ rs. steps_of (written_in rs)) parts
    ∙ ap (λ ls. steps_of (map (λ (l : Leaf). l.written) ls)) (map-append leaf_of (take i records) (r ∷ drop (i + 1) records))
    ∙ ap steps_of (map-append (λ (l : Leaf). l.written) (leaves_of (take i records)) (leaves_of (r ∷ drop (i + 1) records)))
    ∙ map-append (λ q. book.Recorded q) (written_in (take i records)) (written_in (r ∷ drop (i + 1) records)) in
    let rest : are_steps_over K h b (steps_of (written_in (r ∷ drop (i + 1) records))) ≡ true =
    are_steps_over-rest K h (steps_of (written_in (take i records))) (steps_of (written_in (r ∷ drop (i + 1) records))) a (ap (are_steps_over K h a) (sym steps) ∙ over) in
    let first : is_change_over K h b.vector (leaf_of r).written.change ≡ true = (and_parts _ _ rest).0 in
    subst (λ o. taken_of b.vector o ≡ New) (operation_is r.what) (change_is_new K h b.vector (leaf_of r).written.change first).1

-- the operation of a record, among those of the tail
pub operation_at : (records : List Record) (i : ℕ) (r : Record) → slice_get records i ≡ Some r → slice_get (operations_of (written_in records)) i ≡ Some (placed_in r.what).operation
operation_at [] i r is = absurd (none-some r is)
operation_at (q ∷ records) zero r is = ap (λ x. Some (operation_on (leaf_of x))) (same_Some q r is) ∙ ap Some (operation_is r.what)
operation_at (q ∷ records) (suc i) r is = operation_at records i r is

pub length_written : (records : List Record) → length (written_in records) ≡ length records
length_written records = length-map (leaves_of records) (λ (l : Leaf). l.written) ∙ length-map records leaf_of
