-- The notes of calls that were made in turn are in order.

use Rattle.std.proofs.Common.{ap, arith, inl, inr, sym, ◌∙◌}
use Rattle.std.proofs.lemmas.Bool.{and_parts, cases_Bool, eq-eqb, eqb-true, true≢false}
use Rattle.std.specs.List.{list_all}
use Rattle.std.specs.Prelude.{List, [], map, refl, true, ℕ, ◌<◌, ◌==◌, ◌∷◌, ◌≡◌, ◌≤◌}
use Rattle.zq_model.specs.Books.{Book, HandedOn, Merged, Recorded, Step, TookOver, stamp_of}
use Rattle.zq_model.specs.Reach.{after_step, after_steps, begun}
use Rattle.zq_model.proofs.Membership.{in_or_not}
use Rattle.zq_model.specs.Sets.{IsIn}
use Rattle.zq_notes.proofs.FromCalls.{over_call, same_head, same_tail}
use Rattle.zq_notes.proofs.OneThread.{left_alone}
use Rattle.zq_notes.specs.Calls.{AllInTurn, AreCallsFrom, AreInTurn, Call, IsCallOver, books_in, notes_of}
use Rattle.zq_notes.specs.Notes.{Books}
use Rattle.zq_notes.specs.Order.{AllAfter, AreOrdered}
use Rattle.zq_notes.specs.Thread.{AreOwnIn, left_by, left_in}
use Rattle.zq_spread.specs.Calls.{greatest_stamp}
use Rattle.zq_spread.specs.declared.locked_heap.LockedHeap.{LockedHeap}
use Rattle.zq_spread.specs.declared.site.Site.{Site}

-- ---- stamps of books

after_stamp : (stamp : ℕ) (steps : List Step) (b : Book) → b.stamp ≡ stamp → list_all (λ s. stamp_of s == stamp) steps ≡ true → (after_steps steps b).stamp ≡ stamp
after_stamp stamp [] b is own = is
after_stamp stamp (Recorded r ∷ steps) b is own =
    let both : ((r.stamp == stamp) ≡ true) × (list_all (λ s. stamp_of s == stamp) steps ≡ true) = and_parts _ _ own in
    after_stamp stamp steps (after_step (Recorded r) b) (eqb-true r.stamp stamp both.0) both.1
after_stamp stamp (Merged at other ∷ steps) b is own =
    let both : ((at == stamp) ≡ true) × (list_all (λ s. stamp_of s == stamp) steps ≡ true) = and_parts _ _ own in
    after_stamp stamp steps (after_step (Merged at other) b) (eqb-true at stamp both.0) both.1
after_stamp stamp (HandedOn at handed ∷ steps) b is own =
    let both : ((at == stamp) ≡ true) × (list_all (λ s. stamp_of s == stamp) steps ≡ true) = and_parts _ _ own in
    after_stamp stamp steps (after_step (HandedOn at handed) b) (eqb-true at stamp both.0) both.1
after_stamp stamp (TookOver at other ∷ steps) b is own =
    let both : ((at == stamp) ≡ true) × (list_all (λ s. stamp_of s == stamp) steps ≡ true) = and_parts _ _ own in
    after_stamp stamp steps (after_step (TookOver at other) b) (eqb-true at stamp both.0) both.1

-- a heap that is held has the call's stamp after it
left_stamp : (stamp : ℕ) (books : Books) (heaps : List ℕ) (steps : List (List Step)) (h : ℕ) → AreOwnIn stamp books heaps steps → IsIn h heaps → (left_in stamp heaps steps h (books h)).stamp ≡ stamp
left_stamp stamp books [] steps h own here = absurd here
left_stamp stamp books (k ∷ heaps) [] h own here = absurd own
left_stamp stamp books (k ∷ heaps) (ss ∷ steps) h own here =
    elim (cases_Bool (k == h)) [
      | inl same ↦ rw same (after_stamp stamp ss (begun stamp (books h)) refl own.0.own)
      | inr other ↦ rw other (left_stamp stamp books heaps steps h own.1 (elim here [ inl e ↦ absurd (true≢false (sym (eq-eqb k h e) ∙ other)) | inr there ↦ there ]))
    ]

-- and a lower one before it
greatest_above : (books : Books) (heaps : List ℕ) (found : List LockedHeap) (h : ℕ) → books_in found ≡ map books heaps → IsIn h heaps → (books h).stamp ≤ greatest_stamp found
greatest_above books [] found h is here = absurd here
greatest_above books (k ∷ heaps) [] h is here = absurd (cc)
greatest_above books (k ∷ heaps) (x ∷ found) h is (inl same) =
    let first : x.book.stamp ≡ (books h).stamp = ap (λ (b : Book). b.stamp) (same_head x.book (books k) (books_in found) (map books heaps) is) ∙ ap (λ i. (books i).stamp) same in
    omega (arith, first)
greatest_above books (k ∷ heaps) (x ∷ found) h is (inr there) =
    let rest = greatest_above books heaps found h (same_tail x.book (books k) (books_in found) (map books heaps) is) there in omega (arith, rest)

module _ (site : Site) (books : Books) (c : Call) (over : IsCallOver site books c) where
  above_pass : c.before.stamp < c.note.stamp
  above_pass = let next = over.is.call.next in let same = over.is.stamp in omega (arith, next, same)

  above_found : (h : ℕ) → IsIn h c.note.heaps → (books h).stamp < c.note.stamp
  above_found h here =
      let next = over.is.call.next in
      let same = over.is.stamp in
      let most = greatest_above books c.note.heaps over.is.call.found h over.found here in
      omega (arith, next, same, most)

  stamp_left : (h : ℕ) → IsIn h c.note.heaps → (left_by c.note books h).stamp ≡ c.note.stamp
  stamp_left h here = left_stamp c.note.stamp books c.note.heaps c.note.steps h (over_call site books c over).steps here

  stamps_rise : (h : ℕ) → (books h).stamp ≤ (left_by c.note books h).stamp
  stamps_rise h = elim (in_or_not h c.note.heaps) [
    | inl here ↦ (let below = above_found h here in let is = stamp_left h here in omega (arith, below, is))
    | inr out ↦ (let same : (left_by c.note books h).stamp ≡ (books h).stamp = ap (λ (b : Book). b.stamp) (left_alone c.note.stamp c.note.heaps c.note.steps h (books h) out) in omega (arith, same))
  ]

-- ---- order

rest_of : (site : Site) (books : Books) (c : Call) (calls : List Call) → AreCallsFrom site books (c ∷ calls) → AreCallsFrom site (left_by c.note books) calls
rest_of site books c calls over = λ before d after is. over (c ∷ before) d after (ap (λ l. c ∷ l) is)

all_after : (site : Site) (c : Call) (books : Books) (calls : List Call) → c.note.stamp ≡ c.after.stamp → ((h : ℕ) → IsIn h c.note.heaps → c.note.stamp ≤ (books h).stamp) → AreCallsFrom site books calls →
    AllInTurn c calls → AllAfter c.note (notes_of calls)
all_after site c books [] same above over turn = tt
all_after site c books (d ∷ calls) same above over turn =
    let first = over [] d calls refl in (
      record {
        stamp = turn.0.stamp;
        heap = λ h here there. let low = above h here in let high = above_found site books d first h there in omega (arith, low, high);
        pass = λ e. let low = turn.0.pass e in let high = above_pass site books d first in omega (arith, low, high, same);
      },
      all_after site c (left_by d.note books) calls same (λ h here. let low = above h here in let high = stamps_rise site books d first h in omega (arith, low, high)) (rest_of site books d calls over) turn.1,
    )

pub ordered : (site : Site) (opening : Books) (calls : List Call) → AreCallsFrom site opening calls → AreInTurn calls → AreOrdered (notes_of calls)
ordered site opening [] over turn = tt
ordered site opening (c ∷ calls) over turn =
    let first = over [] c calls refl in (
      all_after site c (left_by c.note opening) calls first.is.stamp (λ h here. let is = stamp_left site opening c first h here in omega (arith, is)) (rest_of site opening c calls over) turn.0,
      ordered site (left_by c.note opening) calls (rest_of site opening c calls over) turn.1,
    )
