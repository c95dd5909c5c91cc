-- The oldest record that a vector lacks.

use Rattle.std.proofs.Common.{List, [], ap, arith, drop, false, get_or, get_or-set_other, get_or-set_same, inl, inr, length, refl, slice_set, subst, suc, sym, take, true, zero, ℕ, ◌+◌, ◌++◌, ◌-◌, ◌<◌, ◌∙◌, ◌∷◌, ◌≡◌, ◌≤◌}
use Rattle.std.proofs.lemmas.Bool.{cases_Bool, cases_eq, cases_lt}
use Rattle.std.proofs.lemmas.List.{get_or_past, length-map, length-set}
use Rattle.std.specs.Prelude.{cond, if◌then◌else◌, not, slice_index}
use Rattle.zq_journal.proofs.Missing.{operation_is}
use Rattle.zq_journal.proofs.Replays.{length_written}
use Rattle.zq_journal.proofs.Wholes.{dot_is, length_over}
use Rattle.zq_journal.specs.Records.{AreCounted, LacksFirst, Record, change_of, full_of, missing_of, placed_in, records_over, vector_past, vector_under, whole, written_in}
use Rattle.zq_journal.specs.declared.records.Record as code
use Rattle.zq_model.specs.Books.{operation_of, operations_of}
use Rattle.zq_model.specs.Operation.{Operation, has}
use Rattle.zq_model.proofs.Dots.{has_parts}
use Rattle.zq_model.proofs.Taken.{covers_at, covers_from}
use Rattle.zq_model.specs.Sets.{SITES, covers}
use Rattle.zq_model.specs.Tail.{lacking, lacking_from}
use Rattle.zq_dots.specs.Placed.{Placed}

-- a record at a place has the counter of its site behind it
pub counted_at : (h K : ℕ) (v : List ℕ) (records : List code.Record) (i : ℕ) (r : code.Record) → AreCounted h K v records → i < length records → r ≡ get_or records i r →
    slice_index (vector_under h K v (drop (i + 1) records)) (placed_in (whole h K v r.what)).operation.site ≡ (placed_in (whole h K v r.what)).operation.n
counted_at h K v [] i r counted below is = absurd (omega arith)
counted_at h K v (q ∷ records) zero r counted below is =
    subst (λ (x : code.Record). slice_index (vector_under h K v records) (placed_in (whole h K v x.what)).operation.site ≡ (placed_in (whole h K v x.what)).operation.n) (sym is) counted.0
counted_at h K v (q ∷ records) (suc i) r counted below is =
    let more : suc i + 1 ≡ suc (i + 1) = omega arith in
    ap (λ k. slice_index (vector_under h K v (drop k (q ∷ records))) (placed_in (whole h K v r.what)).operation.site) more
    ∙ counted_at h K v records i r counted.1 (omega arith) is

-- what covers the vector before a record whose dot it does not lack covers the vector after it
pub covers_after : (v after : List ℕ) (s n : ℕ) → 1 ≤ n → slice_index after s ≡ n → (slice_index v s ≡ n - 1 → ⊥) → covers v (slice_set after s (n - 1)) ≡ true → covers v after ≡ true
covers_after v after s n positive counted other covered =
    let before : List ℕ = slice_set after s (n - 1) in
    covers_from v after (λ t below.
    elim (cases_eq t s) [
      | inl same ↦ subst (λ r. slice_index after r ≤ slice_index v r) (sym same)
          (let own : get_or before s 0 ≡ n - 1 = get_or-set_same after s (n - 1) 0 within in
          let least = covers_at v before s covered (subst (λ r. r < SITES) same below) in
          omega (arith, own, least, counted, other))
      | inr apart ↦ (
          let kept : get_or before t 0 ≡ get_or after t 0 = get_or-set_other after s t (n - 1) 0 apart in
          let least = covers_at v before t covered below in
          omega (arith, kept, least))
    ])
  where
    within : s < length after
    within =
        elim (cases_lt s (length after)) [
          | inl below ↦ below
          | inr past ↦ (let none : get_or after s 0 ≡ 0 = get_or_past after s 0 past in absurd (omega (arith, none, counted, positive)))
        ]

-- what covers a vector covers it too with a counter that it has
pub covers_had : (v seen : List ℕ) (s n : ℕ) → has v s n ≡ true → covers v seen ≡ true → covers v (slice_set seen s n) ≡ true
covers_had v seen s n had covered =
    let after : List ℕ = slice_set seen s n in
    covers_from v after (λ t below.
    elim (cases_eq t s) [
      | inl same ↦ subst (λ r. slice_index after r ≤ slice_index v r) (sym same) (own after refl)
      | inr apart ↦ (
          let kept : get_or after t 0 ≡ get_or seen t 0 = get_or-set_other seen s t n 0 apart in
          let least = covers_at v seen t covered below in
          omega (arith, kept, least))
    ])
  where
    own : (after : List ℕ) → after ≡ slice_set seen s n → slice_index after s ≤ slice_index v s
    own after is =
        elim (cases_lt s (length seen)) [
          | inl within ↦ (
              let set : get_or after s 0 ≡ n = ap (λ u. get_or u s 0) is ∙ get_or-set_same seen s n 0 within in
              omega (arith, set, (has_parts v s n had).1))
          | inr past ↦ (
              let none : get_or after s 0 ≡ 0 = get_or_past after s 0 (omega (arith, ap length is, length-set seen s n, past)) in
              omega (arith, none))
        ]

-- older records of which the vector lacks none say nothing of where what it lacks begins
pub lacking_from-older : (w : List ℕ) (older newer : List Record) → missing_of w older ≡ [] →
    lacking_from w (operations_of (written_in (older ++ newer))) ≡ lacking_from w (operations_of (written_in newer))
lacking_from-older w [] newer none = refl
lacking_from-older w (r ∷ older) newer none =
    let p : Placed = placed_in r.what in
    let o : Operation = operation_of (change_of r.what) in
    let same : has w o.site o.n ≡ has w p.operation.site p.operation.n = ap (λ (q : Operation). has w q.site q.n) (operation_is r.what) in
    let others : List Placed = missing_of w older in
    let all : List Operation = operations_of (written_in (older ++ newer)) in
    elim (cases_Bool (has w p.operation.site p.operation.n)) [
      | inl known ↦
          ap (λ b. if b then lacking_from w all else length (o ∷ all)) (same ∙ known)
          ∙ lacking_from-older w older newer (ap (λ b. cond (not b) (p ∷ others) others) (sym known) ∙ none)
      | inr lacked ↦ (
          let one : length (p ∷ others) ≡ 0 = ap length (ap (λ b. cond (not b) (p ∷ others) others) (sym lacked) ∙ none) in
          absurd (omega (arith, one)))
    ]

-- where it lacks the first of the others, they are all from there on
pub lacking_from-first : (h K : ℕ) (w seen : List ℕ) (records : List code.Record) → LacksFirst h K w records →
    lacking_from w (operations_of (written_in (records_over h K seen records))) ≡ length records
lacking_from-first h K w seen [] first = refl
lacking_from-first h K w seen (r ∷ records) first =
    let full : Record = full_of h K seen r in
    let o : Operation = operation_of (change_of full.what) in
    let others : List Record = records_over h K (vector_past seen full.what) records in
    let lacked : has w o.site o.n ≡ false = ap (λ (q : Operation). has w q.site q.n) (operation_is full.what) ∙ dot_is h K seen w w r.what ∙ first in
    ap (λ b. if b then lacking_from w (operations_of (written_in others)) else length (o ∷ operations_of (written_in others))) lacked
    ∙ ap suc (length-map (written_in others) (λ q. operation_of q.change) ∙ length_written others ∙ length_over h K (vector_past seen full.what) records)

-- what is older than what it lacks first it has
pub lacking-older : (w : List ℕ) (ops : List Operation) (n : ℕ) → n + lacking_from w ops ≤ length ops → lacking w (take n ops) ≡ []
lacking-older w ops zero older = refl
lacking-older w [] (suc n) older = absurd (omega arith)
lacking-older w (o ∷ ops) (suc n) older =
    elim (cases_Bool (has w o.site o.n)) [
      | inl known ↦ (
          let rest : lacking_from w (o ∷ ops) ≡ lacking_from w ops = ap (λ b. if b then lacking_from w ops else length (o ∷ ops)) known in
          ap (λ b. cond (not b) (o ∷ lacking w (take n ops)) (lacking w (take n ops))) known ∙ lacking-older w ops n (omega (arith, rest, older)))
      | inr lacked ↦ (
          let all : lacking_from w (o ∷ ops) ≡ length (o ∷ ops) = ap (λ b. if b then lacking_from w ops else length (o ∷ ops)) lacked in
          absurd (omega (arith, all, older)))
    ]
