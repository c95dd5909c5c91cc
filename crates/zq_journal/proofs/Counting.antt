-- The vector of a book, counted down over its newest records, and what a vector that covers the count lacks of the older ones.

use Rattle.std.proofs.Common.{List, Option, [], ap, arith, drop, get_or, get_or-set_same, inl, inr, length, length-set, map, refl, subst, suc, sym, take, true, zero, ℕ, ◌++◌, ◌-◌, ◌<◌, ◌∙◌, ◌∷◌, ◌≡◌, ◌≤◌, ◌⊎◌}
use Rattle.std.proofs.lemmas.Bool.{and_parts, cases_lt}
use Rattle.std.proofs.lemmas.List.{length-drop, map-append, take-append-drop}
use Rattle.std.proofs.lemmas.List.Elements.{All-drop, All-head, All-tail, filter-append}
use Rattle.std.specs.List.{All}
use Rattle.std.specs.Prelude.{cond, filter, not, slice_index, slice_set, ◌+◌}
use Rattle.zq_dots.specs.Placed.{Placed}
use Rattle.zq_model.proofs.Dots.{has_from}
use Rattle.zq_model.proofs.NewRecords.{change_is_new}
use Rattle.zq_model.proofs.Taken.{covers_at}
use Rattle.zq_model.specs.Books.{are_steps_over, is_change_over, operation_of, operations_of, steps_of}
use Rattle.zq_model.specs.Image.{Image, image_after}
use Rattle.zq_model.specs.Limits.{TailLimits}
use Rattle.zq_model.specs.Operation.{Operation, has}
use Rattle.zq_model.specs.Sets.{New, SITES, covers, taken_of}
use Rattle.zq_model.specs.Tail.{lacking_from}
use Rattle.zq_journal.proofs.BoundedTails.{grown}
use Rattle.zq_journal.proofs.Lasts.{one_lower, state_vector}
use Rattle.zq_journal.proofs.Missing.{operation_is}
use Rattle.zq_journal.proofs.Oldest.{lacking_from-first, lacking_from-older}
use Rattle.zq_journal.proofs.Wholes.{dropped_over, taken_over, vector_parts}
use Rattle.zq_journal.specs.Books.{book_over}
use Rattle.zq_journal.specs.Records.{AreCounted, IsRecord, IsRecordable, LacksFirst, Record, change_of, full_of, leaf_of, leaves_of, missing_of, placed_in, records_in, records_over, vector_below, vector_over, vector_past, vector_under, whole, written_in}
use Rattle.zq_journal.specs.Standing.{IsStanding}
use Rattle.zq_journal.specs.declared.records.Change as code_change
use Rattle.zq_journal.specs.declared.records.Change.TheVariants as kept
use Rattle.zq_journal.specs.declared.records.Record as code
use Rattle.zq_shard.specs.Shard.{HeapImage}

-- each record is new where it comes, the first of them over the vector v
abbrev AreNewOver : ℕ → ℕ → List ℕ → List code.Record → Type 0
AreNewOver h K v [] = Unit {0}
AreNewOver h K v (r ∷ records) = IsRecordable h K (placed_in (whole h K v r.what)) × (taken_of v (placed_in (whole h K v r.what)).operation ≡ New) × AreNewOver h K (vector_past v (whole h K v r.what)) records

new_over : (h K : ℕ) (v : List ℕ) (records : List code.Record) (a : Image) → a.vector ≡ v → All (IsRecord h K) (records_over h K v records) →
    are_steps_over K h a (steps_of (written_in (records_over h K v records))) ≡ true → AreNewOver h K v records
new_over h K v [] a is each over = tt
new_over h K v (r ∷ records) a is each over =
    let first : Record = full_of h K v r in
    let others : List Record = records_over h K (vector_past v first.what) records in
    let o : Operation = operation_of (change_of first.what) in
    let both : (is_change_over K h a.vector (leaf_of first).written.change ≡ true) × (are_steps_over K h (image_after o a) (steps_of (written_in others)) ≡ true) = and_parts _ _ over in
    let own : IsRecord h K first = All-head (IsRecord h K) first others each in
    let new : taken_of v (placed_in first.what).operation ≡ New =
    ap (λ w. taken_of w (placed_in first.what).operation) (sym is) ∙ ap (taken_of a.vector) (sym (operation_is first.what)) ∙ (change_is_new K h a.vector (leaf_of first).written.change both.0).1 in
    let past : (image_after o a).vector ≡ vector_past v first.what =
    ap (λ w. slice_set w o.site o.n) is ∙ ap (λ (q : Operation). slice_set v q.site q.n) (operation_is first.what) in
    (own.op, new, new_over h K (vector_past v first.what) records (image_after o a) past (All-tail (IsRecord h K) first others each) both.1)

-- those of the first records, and of the others
new_first : (n h K : ℕ) (v : List ℕ) (records : List code.Record) → AreNewOver h K v records → AreNewOver h K v (take n records)
new_first zero h K v records new = tt
new_first (suc n) h K v [] new = tt
new_first (suc n) h K v (r ∷ records) new = (new.0, new.1, new_first n h K (vector_past v (whole h K v r.what)) records new.2)

new_rest : (n h K : ℕ) (v : List ℕ) (records : List code.Record) → AreNewOver h K v records → AreNewOver h K (vector_over h K v (take n records)) (drop n records)
new_rest zero h K v records new = new
new_rest (suc n) h K v [] new = tt
new_rest (suc n) h K v (r ∷ records) new = new_rest n h K (vector_past v (whole h K v r.what)) records new.2

-- ---- the count

-- which vector a record comes over says nothing of its dot
below_is : (h K : ℕ) (u v w : List ℕ) (what : code_change.Change) → vector_below u (whole h K v what) ≡ vector_below u (whole h K w what)
below_is h K u v w (kept.Made own) = refl
below_is h K u v w (kept.Took op) = refl

-- counted down over the records, the vector after them is that before them
counted_back : (h K : ℕ) (v : List ℕ) (records : List code.Record) → AreNewOver h K v records → vector_under h K (vector_over h K v records) records ≡ v
counted_back h K v [] new = refl
counted_back h K v (r ∷ records) new =
    let past : List ℕ = vector_past v (whole h K v r.what) in
    let last : List ℕ = vector_over h K past records in
    ap (λ w. vector_below w (whole h K last r.what)) (counted_back h K past records new.2)
    ∙ below_is h K past last v r.what
    ∙ one_lower h K v (whole h K v r.what) new.0 new.1

-- and each record's counter is that of its site behind it
counted : (h K : ℕ) (v : List ℕ) (records : List code.Record) → length v ≡ SITES → AreNewOver h K v records → AreCounted h K (vector_over h K v records) records
counted h K v [] wide new = tt
counted h K v (r ∷ records) wide new =
    let o : Operation = (placed_in (whole h K v r.what)).operation in
    let past : List ℕ = slice_set v o.site o.n in
    let last : List ℕ = vector_over h K past records in
    let own : get_or past o.site 0 ≡ o.n = get_or-set_same v o.site o.n 0 (omega (arith, wide, new.0.sound.site)) in
    let here : slice_index (vector_under h K last records) o.site ≡ o.n = ap (λ w. slice_index w o.site) (counted_back h K past records new.2) ∙ own in
    (counted_dot h K v last (vector_under h K last records) r.what here, counted h K past records (length-set v o.site o.n ∙ wide) new.2)
  where
    counted_dot : (h K : ℕ) (v w u : List ℕ) (what : code_change.Change) →
        slice_index u (placed_in (whole h K v what)).operation.site ≡ (placed_in (whole h K v what)).operation.n →
        slice_index u (placed_in (whole h K w what)).operation.site ≡ (placed_in (whole h K w what)).operation.n
    counted_dot h K v w u (kept.Made own) is = is
    counted_dot h K v w u (kept.Took op) is = is

-- ---- what is lacked

-- a vector grows over records that are new
grows : (h K : ℕ) (v : List ℕ) (records : List code.Record) → length v ≡ SITES → AreNewOver h K v records → (t : ℕ) → slice_index v t ≤ slice_index (vector_over h K v records) t
grows h K v [] wide new t = omega arith
grows h K v (r ∷ records) wide new t =
    let o : Operation = (placed_in (whole h K v r.what)).operation in
    let counted : o.n ≡ slice_index o.seen o.site + 1 = new.0.sound.next in
    let first : slice_index v t ≤ slice_index (slice_set v o.site o.n) t = grown o v wide new.0.sound.site (omega (arith, counted)) new.1 t in
    let rest = grows h K (slice_set v o.site o.n) records (length-set v o.site o.n ∙ wide) new.2 t in
    omega (arith, first, rest)

-- what covers the vector after records lacks none of them
none_missing : (h K : ℕ) (v w : List ℕ) (records : List code.Record) → length v ≡ SITES → AreNewOver h K v records → covers w (vector_over h K v records) ≡ true →
    missing_of w (records_over h K v records) ≡ []
none_missing h K v w [] wide new covered = refl
none_missing h K v w (r ∷ records) wide new covered =
    let p : Placed = placed_in (whole h K v r.what) in
    let o : Operation = p.operation in
    let past : List ℕ = slice_set v o.site o.n in
    let wider : length past ≡ SITES = length-set v o.site o.n ∙ wide in
    let counted : o.n ≡ slice_index o.seen o.site + 1 = new.0.sound.next in
    let inside : o.site < length v = omega (arith, wide, new.0.sound.site) in
    let own : get_or past o.site 0 ≡ o.n = get_or-set_same v o.site o.n 0 inside in
    let more : slice_index past o.site ≤ slice_index (vector_over h K past records) o.site = grows h K past records wider new.2 o.site in
    let known : get_or (vector_over h K past records) o.site 0 ≤ get_or w o.site 0 = covers_at w (vector_over h K past records) o.site covered new.0.sound.site in
    let had : has w o.site o.n ≡ true = has_from w o.site o.n (omega (arith, counted)) (omega (arith, own, more, known)) in
    let others : List Placed = missing_of w (records_over h K past records) in
    ap (λ b. cond (not b) (p ∷ others) others) had ∙ none_missing h K past w records wider new.2 covered

missing-parts : (n : ℕ) (w : List ℕ) (records : List Record) → missing_of w records ≡ missing_of w (take n records) ++ missing_of w (drop n records)
missing-parts n w records =
    let lacks = λ (p : Placed). not (has w p.operation.site p.operation.n) in
    let placed = λ (r : Record). placed_in r.what in
    ap (missing_of w) (sym (take-append-drop n records))
    ∙ ap (filter lacks) (map-append placed (take n records) (drop n records))
    ∙ filter-append lacks (map placed (take n records)) (map placed (drop n records))

-- ---- the records of a book, from the place n on, over its vector counted down to there

module _ (s : HeapImage) (base : List ℕ) (tail : List code.Record) (limits : TailLimits) (handed : Option ℕ) (stamp count : ℕ) (is : IsStanding s base (records_in s base tail) limits handed stamp count) (h K n : ℕ)
    (last seen : List ℕ) (heap : h ≡ s.heap) (heaps : K ≡ s.heaps) (last_is : last ≡ s.image.vector)
    (counted_to : (seen ≡ vector_over s.heap s.heaps base (take n tail)) ⊎ (seen ≡ vector_under s.heap s.heaps last (drop n tail))) where
  all_new : AreNewOver s.heap s.heaps base tail
  all_new = new_over s.heap s.heaps base tail (book_over s base (leaves_of (records_in s base tail)) limits handed stamp count).base refl is.each is.book.steps

  abbrev before : List ℕ
  before = vector_over s.heap s.heaps base (take n tail)

  counted_down : seen ≡ vector_under s.heap s.heaps last (drop n tail) → seen ≡ before
  counted_down under =
      under
      ∙ ap (λ v. vector_under s.heap s.heaps v (drop n tail)) (last_is ∙ state_vector s base tail limits handed stamp count is.book ∙ sym (vector_parts n s.heap s.heaps base tail))
      ∙ counted_back s.heap s.heaps before (drop n tail) (new_rest n s.heap s.heaps base tail all_new)

  -- counted up or down, it is the vector before them
  seen_is : seen ≡ before
  seen_is =
      elim counted_to [
        | inl over ↦ over
        | inr under ↦ counted_down under
      ]

  rest_is : records_over h K seen (drop n tail) ≡ drop n (records_in s base tail)
  rest_is =
      ap (λ k. records_over k K seen (drop n tail)) heap
      ∙ ap (λ k. records_over s.heap k seen (drop n tail)) heaps
      ∙ ap (λ v. records_in s v (drop n tail)) seen_is
      ∙ dropped_over n s.heap s.heaps base tail

  pub rest_each : All (IsRecord h K) (records_over h K seen (drop n tail))
  rest_each =
      subst (λ k. All (IsRecord k K) (records_over h K seen (drop n tail))) (sym heap)
      (subst (λ k. All (IsRecord s.heap k) (records_over h K seen (drop n tail))) (sym heaps)
      (subst (All (IsRecord s.heap s.heaps)) (sym rest_is) (All-drop (IsRecord s.heap s.heaps) n (records_in s base tail) is.each)))

  -- what covers the count lacks nothing older
  older_missing : (w : List ℕ) → (0 < n → covers w seen ≡ true) → missing_of w (take n (records_in s base tail)) ≡ []
  older_missing w covered =
      elim (cases_lt 0 n) [
        | inl some ↦
            ap (missing_of w) (taken_over n s.heap s.heaps base tail)
            ∙ none_missing s.heap s.heaps base w (take n tail) is.bounded.counters.wide (new_first n s.heap s.heaps base tail all_new)
            (ap (covers w) (sym seen_is) ∙ covered some)
        | inr none ↦ (let first : n ≡ 0 = omega arith in ap (λ k. missing_of w (take k (records_in s base tail))) first)
      ]

  -- so that it lacks of the book what it lacks of them
  pub missing_from : (w : List ℕ) → (0 < n → covers w seen ≡ true) → missing_of w (records_over h K seen (drop n tail)) ≡ missing_of w (records_in s base tail)
  missing_from w covered =
      ap (missing_of w) rest_is
      ∙ ap (λ ps. ps ++ missing_of w (drop n (records_in s base tail))) (sym (older_missing w covered))
      ∙ sym (missing-parts n w (records_in s base tail))

  pub all_counted : AreCounted s.heap s.heaps last tail
  all_counted =
      subst (λ v. AreCounted s.heap s.heaps v tail) (sym (last_is ∙ state_vector s base tail limits handed stamp count is.book))
      (counted s.heap s.heaps base tail is.bounded.counters.wide all_new)

  -- counted down over all of them, it is the base's
  pub base_counted : vector_under s.heap s.heaps last tail ≡ base
  base_counted =
      ap (λ v. vector_under s.heap s.heaps v tail) (last_is ∙ state_vector s base tail limits handed stamp count is.book)
      ∙ counted_back s.heap s.heaps base tail all_new

  -- what covers the count, and lacks the first of them, lacks the book's from there on
  pub lacking_from-left : (w : List ℕ) → (0 < n → covers w seen ≡ true) → LacksFirst s.heap s.heaps w (drop n tail) →
      lacking_from w (operations_of (written_in (records_in s base tail))) ≡ length tail - n
  lacking_from-left w covered first =
      let all : List Record = records_in s base tail in
      ap (λ rs. lacking_from w (operations_of (written_in rs))) (sym (take-append-drop n all))
      ∙ lacking_from-older w (take n all) (drop n all) (older_missing w covered)
      ∙ ap (λ rs. lacking_from w (operations_of (written_in rs))) (sym (dropped_over n s.heap s.heaps base tail))
      ∙ lacking_from-first s.heap s.heaps w before (drop n tail) first
      ∙ length-drop n tail
