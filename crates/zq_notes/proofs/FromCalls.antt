-- Calls, each over what those before it left, make one thread's history.

use Rattle.std.proofs.Common.{ap, eq-eqb, inl, inr, subst, sym, true≢false, ◌∙◌}
use Rattle.std.proofs.lemmas.Bool.{cases_Bool, eqb-true}
use Rattle.std.specs.Prelude.{List, [], map, refl, ℕ, ◌==◌, ◌∷◌, ◌≡◌}
use Rattle.zq_dots.specs.Rule.{rule_of}
use Rattle.zq_model.specs.Books.{Book, Step}
use Rattle.zq_model.specs.Reach.{worked as done_by}
use Rattle.zq_model.specs.Sets.{IsIn}
use Rattle.zq_notes.specs.Calls.{AreCallsFrom, Call, IsCallOver, books_in, notes_of}
use Rattle.zq_notes.specs.Does.{Does}
use Rattle.zq_notes.specs.Notes.{Books, Note}
use Rattle.zq_notes.specs.Thread.{AreOwn, AreOwnIn, IsNoteOver, IsOneThread, left_by, left_in}
use Rattle.zq_spread.specs.Calls.{AreWorkedIn, HasSeenBook, heaps_of}
use Rattle.zq_spread.specs.Passes.{seen_at}
use Rattle.zq_spread.specs.declared.locked_heap.LockedHeap.{LockedHeap}
use Rattle.zq_spread.specs.declared.pass.Pass.{Pass}
use Rattle.zq_spread.specs.declared.site.Site.{Site}

pub same_head : (x y : Book) (xs ys : List Book) → x ∷ xs ≡ y ∷ ys → x ≡ y
same_head x y xs ys e = cc

pub same_tail : (x y : Book) (xs ys : List Book) → x ∷ xs ≡ y ∷ ys → xs ≡ ys
same_tail x y xs ys e = cc

-- the steps of a call can come over what it found, and are of its stamp
own_of : (before after : Pass) (books : Books) (heaps : List ℕ) (found left : List LockedHeap) (steps : List (List Step)) → AreWorkedIn before after heaps found left steps →
    books_in found ≡ map books heaps → AreOwnIn after.stamp books heaps steps
own_of before after books [] [] [] [] worked is = tt
own_of before after books [] [] [] (ss ∷ steps) worked is = absurd worked
own_of before after books [] [] (y ∷ left) steps worked is = absurd worked
own_of before after books [] (x ∷ found) left steps worked is = absurd worked
own_of before after books (h ∷ heaps) [] left steps worked is = absurd worked
own_of before after books (h ∷ heaps) (x ∷ found) [] steps worked is = absurd worked
own_of before after books (h ∷ heaps) (x ∷ found) (y ∷ left) [] worked is = absurd worked
own_of before after books (h ∷ heaps) (x ∷ found) (y ∷ left) (ss ∷ steps) worked is = (
  subst (λ b. AreOwn after.stamp b ss) (same_head x.book (books h) (books_in found) (map books heaps) is) (record { legal = worked.0.worked.legal; own = worked.0.worked.own }),
  own_of before after books heaps found left steps worked.1 (same_tail x.book (books h) (books_in found) (map books heaps) is),
)

pub over_call : (site : Site) (books : Books) (c : Call) → IsCallOver site books c → IsNoteOver (rule_of site.rule) (heaps_of site) site.number books c.note
over_call site books c over =
    let n : Note = c.note in
    let call = over.is.call in
    let same : n.steps ≡ call.steps = over.is.steps in
    record {
      steps =
          subst (λ s. AreOwnIn s books n.heaps n.steps) (sym over.is.stamp)
          (subst (AreOwnIn c.after.stamp books n.heaps) (sym same) (own_of c.before c.after books n.heaps call.found call.left call.steps call.worked over.found));
      does =
          subst (λ ss. Does (rule_of site.rule) (heaps_of site) site.number n.stamp n.asked n.heaps n.answer (map books n.heaps) ss) (sym same)
          (subst (λ found. Does (rule_of site.rule) (heaps_of site) site.number n.stamp n.asked n.heaps n.answer found call.steps) over.found call.done);
    }

pub thread_of : (site : Site) (opening : Books) (calls : List Call) → AreCallsFrom site opening calls →
    IsOneThread (rule_of site.rule) (heaps_of site) site.number opening (notes_of calls)
thread_of site opening [] over = tt
thread_of site opening (c ∷ calls) over = (
  over_call site opening c (over [] c calls refl),
  thread_of site (left_by c.note opening) calls (λ before d after is. over (c ∷ before) d after (ap (λ l. c ∷ l) is)),
)

-- what a call leaves in a heap is what the pass has then seen there
seen_of : (before after : Pass) (books : Books) (heaps : List ℕ) (found left : List LockedHeap) (steps : List (List Step)) (h : ℕ) → AreWorkedIn before after heaps found left steps → books_in found ≡ map books heaps →
    IsIn h heaps → HasSeenBook after h (λ b. b ≡ left_in after.stamp heaps steps h (books h))
seen_of before after books [] found left steps h worked is here = absurd here
seen_of before after books (k ∷ heaps) [] left steps h worked is here = absurd worked
seen_of before after books (k ∷ heaps) (x ∷ found) [] steps h worked is here = absurd worked
seen_of before after books (k ∷ heaps) (x ∷ found) (y ∷ left) [] h worked is here = absurd worked
seen_of before after books (k ∷ heaps) (x ∷ found) (y ∷ left) (ss ∷ steps) h worked is here =
    let first : x.book ≡ books k = same_head x.book (books k) (books_in found) (map books heaps) is in
    let rest : books_in found ≡ map books heaps = same_tail x.book (books k) (books_in found) (map books heaps) is in
    elim (cases_Bool (k == h)) [
      | inl same ↦ (
          let at : k ≡ h = eqb-true k h same in
          let left_is : y.book ≡ done_by after.stamp ss (books h) = worked.0.worked.is ∙ ap (done_by after.stamp ss) (first ∙ ap books at) in
          rw same (y, ap (seen_at after) (sym at) ∙ worked.0.seen, left_is))
      | inr other ↦ rw other (seen_of before after books heaps found left steps h worked.1 rest (elim here [ inl e ↦ absurd (true≢false (sym (eq-eqb k h e) ∙ other)) | inr there ↦ there ]))
    ]

pub sees : (site : Site) (books : Books) (c : Call) → IsCallOver site books c → (h : ℕ) → IsIn h c.note.heaps → HasSeenBook c.after h (λ b. b ≡ left_by c.note books h)
sees site books c over h here =
    let n : Note = c.note in
    let call = over.is.call in
    subst (λ s. HasSeenBook c.after h (λ b. b ≡ left_in s n.heaps n.steps h (books h))) (sym over.is.stamp)
    (subst (λ ss. HasSeenBook c.after h (λ b. b ≡ left_in c.after.stamp n.heaps ss h (books h))) (sym over.is.steps)
    (seen_of c.before c.after books n.heaps call.found call.left call.steps h call.worked over.found here))
