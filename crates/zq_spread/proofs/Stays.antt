-- What is watched, heap by heap, and the calls that ask whether it stays.

use Rattle.std.proofs.Common.{List, Some, [], ap, arith, drop, false, length, refl, subst, suc, sym, true, zero, ℕ, ◌+◌, ◌<◌, ◌∙◌, ◌∷◌, ◌≡◌, ◌≤◌}
use Rattle.std.proofs.lemmas.List.{drop_all, length-map, length-reverse}
use Rattle.std.proofs.lemmas.Option.{same_Some, slice_get_within}
use Rattle.std.specs.Prelude.{None, map, max, reverse, slice_get, ◌&&◌, ◌++◌}
use Rattle.zq_journal.specs.Untouched.{is_untouched}
use Rattle.zq_model.specs.Books.{Book, Step}
use Rattle.zq_model.specs.Reach.{begun}
use Rattle.zq_semantics.specs.Procedures.{Procedure}
use Rattle.zq_spread.specs.Answers.{IsShown}
use Rattle.zq_spread.specs.Calls.{IsCall, greatest_stamp}
use Rattle.zq_spread.specs.Each.{HasCalledOver}
use Rattle.zq_spread.specs.Watches.{Watch}
use Rattle.zq_spread.specs.Watching.{AreShown, AreWatched, HaveRun, IsIdleOver, are_untouched, stays}
use Rattle.zq_spread.specs.Several.{books_of, helds_of}
use Rattle.zq_spread.specs.declared.locked_heap.LockedHeap.{LockedHeap}
use Rattle.zq_spread.specs.declared.locked_heaps.LockedHeaps.{LockedHeaps}
use Rattle.zq_spread.specs.declared.pass.Pass.{Pass}
use Rattle.zq_spread.specs.declared.site.Site.{Site}
use Rattle.zq_ticketlock.specs.Seats.{value_of}
use Rattle.zq_ticketlock.specs.declared.held.Held.{Held}
use Rattle.zq_words.specs.Words.{Word}

-- ---- the heaps, one after the other

-- what lies at a place is the first of what is left there
pub first_at : {X : Type 0} (xs : List X) (i : ℕ) (x : X) → slice_get xs i ≡ Some x → drop i xs ≡ x ∷ drop (i + 1) xs
first_at [] i x is = absurd (let low = slice_get_within [] i x is in omega (arith, low))
first_at (y ∷ xs) zero x is = ap (λ z. z ∷ xs) (same_Some y x is)
first_at (y ∷ xs) (suc i) x is =
    let more : suc i + 1 ≡ suc (i + 1) = omega arith in
    first_at xs i x is ∙ ap (λ k. x ∷ drop k (y ∷ xs)) (sym more)

pub untouched_at : (vectors : List (List ℕ)) (keys : List Word) (books : List Book) (i : ℕ) (v : List ℕ) (b : Book) → slice_get vectors i ≡ Some v → slice_get books i ≡ Some b →
    are_untouched (drop i vectors) keys (drop i books) ≡ (is_untouched v keys b && are_untouched (drop (i + 1) vectors) keys (drop (i + 1) books))
untouched_at vectors keys books i v b is there =
    ap (λ l. are_untouched l keys (drop i books)) (first_at vectors i v is) ∙ ap (are_untouched (v ∷ drop (i + 1) vectors) keys) (first_at books i b there)

-- of a heap without a vector nothing is known
none_known : (keys : List Word) (books : List Book) → 0 < length books → are_untouched [] keys books ≡ false
none_known keys [] some = absurd (omega (arith, some))
none_known keys (b ∷ books) some = refl

pub untouched_past : (vectors : List (List ℕ)) (keys : List Word) (books : List Book) (i : ℕ) (b : Book) → length vectors ≤ i → slice_get books i ≡ Some b →
    are_untouched (drop i vectors) keys (drop i books) ≡ false
untouched_past vectors keys books i b past there =
    ap (λ l. are_untouched l keys (drop i books)) (drop_all i vectors past)
    ∙ ap (are_untouched [] keys) (first_at books i b there)

-- as many books as heaps that are held
pub number_held : (holds : LockedHeaps) → length (books_of (helds_of holds)) ≡ length holds.helds.items
number_held holds = length-map (reverse holds.helds.items) (λ (held : Held LockedHeap). (value_of held).book) ∙ length-reverse holds.helds.items

-- ---- the vectors, one after the other

pub shown_more : (before mid after : Pass) (heap : ℕ) (vectors : List (List ℕ)) (v : List ℕ) → AreShown before heap vectors mid → IsCall (IsShown v) mid after ((heap + length vectors) ∷ []) →
    AreShown before heap (vectors ++ v ∷ []) after
shown_more before mid after heap [] v are call =
    let here : heap + 0 ≡ heap = omega arith in
    let own : IsCall (IsShown v) before after (heap ∷ []) = subst (λ p. IsCall (IsShown v) p after (heap ∷ [])) are (subst (λ h. IsCall (IsShown v) mid after (h ∷ [])) here call) in
    (after, own, refl)
shown_more before mid after heap (u ∷ vectors) v are call =
    let further : heap + length (u ∷ vectors) ≡ heap + 1 + length vectors = omega arith in
    (are.0, are.1, shown_more are.0 mid after (heap + 1) vectors v are.2 (subst (λ h. IsCall (IsShown v) mid after (h ∷ [])) further call))

-- ---- calls

module _ (site : Site) (watch : Watch) (ps : List Procedure) (before after : Pass) (heaps : List ℕ) (found : List LockedHeap) (stamp : ℕ) (next : stamp ≡ max before.stamp (greatest_stamp found) + 1) where
  abbrev books : List Book
  books = map (λ (x : LockedHeap). x.book) found

  -- the stamp of the call
  dated : {Does : List Book → List (List Step) → Type 0} (call : IsCall Does before after heaps) → call.found ≡ found → stamp ≡ after.stamp
  dated call same = next ∙ ap (λ f. max before.stamp (greatest_stamp f) + 1) (sym same) ∙ sym call.next

  pub have_run : (earlier later : List Word) → HasCalledOver site ps earlier later before after heaps found → are_untouched watch.vectors watch.keys (map (begun stamp) books) ≡ true →
      HaveRun site watch ps earlier later before after heaps
  have_run earlier later over kept =
      let call = over.2.0 in
      let known : stays watch after.stamp (map (λ (x : LockedHeap). x.book) call.found) ≡ true =
      ap (λ (f : List LockedHeap). stays watch after.stamp (map (λ (x : LockedHeap). x.book) f)) over.2.1 ∙ ap (λ n. stays watch n books) (sym (dated call over.2.1)) ∙ kept in (
        over.0,
        over.1,
        (
          record { found = call.found; left = call.left; steps = call.steps; next = call.next; worked = call.worked; others = call.others; done = (known, call.done) },
          over.2.2,
        ),
      )

  pub not_run : IsIdleOver before after heaps found → are_untouched watch.vectors watch.keys (map (begun stamp) books) ≡ false → AreWatched site watch ps None before after heaps
  not_run over touched =
      let call = over.0 in
      let known : stays watch after.stamp (map (λ (x : LockedHeap). x.book) call.found) ≡ false =
      ap (λ (f : List LockedHeap). stays watch after.stamp (map (λ (x : LockedHeap). x.book) f)) over.1 ∙ ap (λ n. stays watch n books) (sym (dated call over.1)) ∙ touched in (
        record { found = call.found; left = call.left; steps = call.steps; next = call.next; worked = call.worked; others = call.others; done = (known, call.done) },
        over.2,
      )
