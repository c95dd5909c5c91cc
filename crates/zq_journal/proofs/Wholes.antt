-- The records with their whole operations, one by one.

use Rattle.std.proofs.Common.{List, [], ap, arith, drop, drop-cons, get_or, length, refl, slice_set, suc, sym, take, zero, ℕ, ◌+◌, ◌++◌, ◌-◌, ◌<◌, ◌∙◌, ◌∷◌, ◌≡◌}
use Rattle.zq_model.specs.Books.{operation_of, replayed}
use Rattle.zq_journal.proofs.Missing.{operation_is}
use Rattle.zq_journal.specs.Records.{Record, change_of, full_of, placed_in, records_over, vector_over, vector_past, vector_under, whole, written_in}
use Rattle.zq_journal.specs.declared.records.Change as code_change
use Rattle.zq_journal.specs.declared.records.Change.TheVariants as kept
use Rattle.zq_journal.specs.declared.records.Record as code
use Rattle.zq_model.specs.Operation.{Operation, has}
use Rattle.zq_model.specs.Image.{Image, image_after}

pub length_over : (h K : ℕ) (v : List ℕ) (records : List code.Record) → length (records_over h K v records) ≡ length records
length_over h K v [] = refl
length_over h K v (r ∷ records) = ap suc (length_over h K (vector_past v (whole h K v r.what)) records)

-- one record more
pub more_over : (h K : ℕ) (v : List ℕ) (records : List code.Record) (r : code.Record) →
    records_over h K v (records ++ r ∷ []) ≡ records_over h K v records ++ full_of h K (vector_over h K v records) r ∷ []
more_over h K v [] r = refl
more_over h K v (q ∷ records) r = ap (λ rs. full_of h K v q ∷ rs) (more_over h K (vector_past v (whole h K v q.what)) records r)

-- the vector after one record more
pub vector_more : (h K : ℕ) (v : List ℕ) (records : List code.Record) (r : code.Record) →
    vector_over h K v (records ++ r ∷ []) ≡ vector_past (vector_over h K v records) (whole h K (vector_over h K v records) r.what)
vector_more h K v [] r = refl
vector_more h K v (q ∷ records) r = vector_more h K (vector_past v (whole h K v q.what)) records r

-- the first records
pub taken_over : (n h K : ℕ) (v : List ℕ) (records : List code.Record) → take n (records_over h K v records) ≡ records_over h K v (take n records)
taken_over zero h K v records = refl
taken_over (suc n) h K v [] = refl
taken_over (suc n) h K v (r ∷ records) = ap (λ rs. full_of h K v r ∷ rs) (taken_over n h K (vector_past v (whole h K v r.what)) records)

-- the records behind the first
pub dropped_over : (n h K : ℕ) (v : List ℕ) (records : List code.Record) → records_over h K (vector_over h K v (take n records)) (drop n records) ≡ drop n (records_over h K v records)
dropped_over zero h K v records = refl
dropped_over (suc n) h K v [] = refl
dropped_over (suc n) h K v (r ∷ records) = dropped_over n h K (vector_past v (whole h K v r.what)) records

-- the vector after the first records, and then after those behind them
pub vector_parts : (n h K : ℕ) (v : List ℕ) (records : List code.Record) → vector_over h K (vector_over h K v (take n records)) (drop n records) ≡ vector_over h K v records
vector_parts zero h K v records = refl
vector_parts (suc n) h K v [] = refl
vector_parts (suc n) h K v (r ∷ records) = vector_parts n h K (vector_past v (whole h K v r.what)) records

-- counted down over the records from the place i on: over those behind it, and then over the one there
pub under_at : (h K : ℕ) (v seen after : List ℕ) (records : List code.Record) (i site n : ℕ) (r : code.Record) → i < length records → r ≡ get_or records i r → seen ≡ vector_under h K v (drop (i + 1) records) →
    site ≡ (placed_in (whole h K v r.what)).operation.site → n ≡ (placed_in (whole h K v r.what)).operation.n → after ≡ slice_set seen site (n - 1) → after ≡ vector_under h K v (drop i records)
under_at h K v seen after records i site n r below is seen_is site_is n_is set =
    let more : suc i ≡ i + 1 = omega arith in
    let first : drop i records ≡ r ∷ drop (i + 1) records = drop-cons records i r below ∙ ap (λ k. get_or records i r ∷ drop k records) more ∙ ap (λ x. x ∷ drop (i + 1) records) (sym is) in
    set
    ∙ ap (λ s. slice_set seen s (n - 1)) site_is
    ∙ ap (λ m. slice_set seen (placed_in (whole h K v r.what)).operation.site (m - 1)) n_is
    ∙ ap (λ w. slice_set w (placed_in (whole h K v r.what)).operation.site ((placed_in (whole h K v r.what)).operation.n - 1)) seen_is
    ∙ ap (vector_under h K v) (sym first)

-- which vector a record comes over says nothing of its dot
pub dot_is : (h K : ℕ) (v w u : List ℕ) (what : code_change.Change) →
    has u (placed_in (whole h K v what)).operation.site (placed_in (whole h K v what)).operation.n
    ≡ has u (placed_in (whole h K w what)).operation.site (placed_in (whole h K w what)).operation.n
dot_is h K v w u (kept.Made own) = refl
dot_is h K v w u (kept.Took op) = refl

-- the vector after the records is that of the image after them
pub vector_after : (h K : ℕ) (v : List ℕ) (records : List code.Record) (a : Image) → a.vector ≡ v →
    (replayed (written_in (records_over h K v records)) a).vector ≡ vector_over h K v records
vector_after h K v [] a is = is
vector_after h K v (r ∷ records) a is =
    let first : Record = full_of h K v r in
    let o : Operation = operation_of (change_of first.what) in
    vector_after h K (vector_past v first.what) records (image_after o a)
    (ap (λ w. slice_set w o.site o.n) is ∙ ap (λ (q : Operation). slice_set v q.site q.n) (operation_is first.what))

-- where the records from the place i on are those over a vector, the next is the first of them, and the others follow it
pub rest_over : (h K : ℕ) (w : List ℕ) (records : List code.Record) (all : List Record) (i : ℕ) (r : code.Record) → length all ≡ length records → i < length records →
    r ≡ get_or records i r → records_over h K w (drop i records) ≡ drop i all →
    (full_of h K w r ≡ get_or all i (full_of h K w r)) × (records_over h K (vector_past w (whole h K w r.what)) (drop (i + 1) records) ≡ drop (i + 1) all)
rest_over h K w records all i r long below is rest =
    let first : Record = full_of h K w r in
    let more : suc i ≡ i + 1 = omega arith in
    let ours : drop i records ≡ r ∷ drop (i + 1) records = drop-cons records i r below ∙ ap (λ k. get_or records i r ∷ drop k records) more ∙ ap (λ x. x ∷ drop (i + 1) records) (sym is) in
    let theirs : drop i all ≡ get_or all i first ∷ drop (i + 1) all = drop-cons all i first (omega (arith, long, below)) ∙ ap (λ k. get_or all i first ∷ drop k all) more in
    let both : first ∷ records_over h K (vector_past w first.what) (drop (i + 1) records) ≡ get_or all i first ∷ drop (i + 1) all =
    sym (ap (records_over h K w) ours) ∙ rest ∙ theirs in
    (ap (λ rs. get_or rs 0 first) both, ap (drop 1) both)

-- the record at a place, over the vector after those before it
pub at_over : (h K : ℕ) (v : List ℕ) (records : List code.Record) (i : ℕ) (r : code.Record) → i < length records → r ≡ get_or records i r →
    full_of h K (vector_over h K v (take i records)) r ≡ get_or (records_over h K v records) i (full_of h K (vector_over h K v (take i records)) r)
at_over h K v records i r below is =
    (rest_over h K (vector_over h K v (take i records)) records (records_over h K v records) i r (length_over h K v records) below is (dropped_over i h K v records)).0
