-- What a new site is.

use Rattle.std.specs.Prelude.{List, Some, length, slice_get, ℕ, ◌≡◌, ◌≤◌}
use Rattle.zq_dots.specs.Rule.{rule_of}
use Rattle.zq_model.specs.Books.{Book}
use Rattle.zq_journal.specs.Books.{opened}
use Rattle.zq_model.specs.Image.{empty_image}
use Rattle.zq_model.specs.Limits.{TailLimits, standard}
use Rattle.zq_model.specs.Rule.{Rule}
use Rattle.zq_spread.specs.Companies.{AreAllPasses, opening_at}
use Rattle.zq_spread.specs.Passes.{seen_at, steps_at}
use Rattle.zq_spread.specs.declared.locked_heap.LockedHeap.{LockedHeap}
use Rattle.zq_spread.specs.declared.pass.Pass.{Pass}
use Rattle.zq_spread.specs.declared.site.Site.{Site}

-- a site may have so many heaps and so many passes
abbrev pub IsInBounds : ℕ → ℕ → Type 0
IsInBounds heaps passes = (2 ≤ heaps) × (heaps ≤ 16) × (1 ≤ passes) × (passes ≤ 128)

-- each book is that of the heap of its place, of as many heaps as there are books, and all have one
-- rule
pub record AreOfHeaps (books : List Book) : Type 0 where
  pub heap : (h : ℕ) (book : Book) → slice_get books h ≡ Some book → book.heap ≡ h
  pub heaps : (h : ℕ) (book : Book) → slice_get books h ≡ Some book → book.heaps ≡ length books
  pub rule : (h k : ℕ) (one other : Book) → slice_get books h ≡ Some one →
      slice_get books k ≡ Some other → one.rule ≡ other.rule

-- the book of a heap of so many, of this rule and with these limits, in which nothing was done
abbrev pub empty_book : TailLimits → Rule → ℕ → ℕ → Book
empty_book limits rule heaps h =
    record (opened (record { heap = h; heaps = heaps; rule = rule; image = empty_image }) 0 0) {
      limits = limits;
    }

-- such books, of as many heaps
pub record AreEmptyWithin (limits : TailLimits) (heaps : ℕ) (rule : Rule)
    (books : List Book) : Type 0 where
  pub number : length books ≡ heaps
  pub empty : (h : ℕ) (book : Book) → slice_get books h ≡ Some book →
      book ≡ empty_book limits rule heaps h

-- such books with the standard limits
abbrev pub AreEmptyBooks : ℕ → Rule → List Book → Type 0
AreEmptyBooks heaps rule books = AreEmptyWithin standard heaps rule books

-- the pass has made no call, and has seen these books
pub record IsNewPass (books : List Book) (pass : Pass) : Type 0 where
  pub stamp : pass.stamp ≡ 0
  pub steps : (h : ℕ) → steps_at pass h ≡ 0
  pub seen : (h : ℕ) (book : Book) → slice_get books h ≡ Some book → (kept : LockedHeap)
      × (seen_at pass h ≡ Some kept) × (kept.book ≡ book)

-- a new site of this number over these books, with all its passes
pub record IsMade (number : ℕ) (books : List Book) (n : ℕ) (site : Site)
    (passes : List Pass) : Type 0 where
  pub number_is : site.number ≡ number
  pub heaps : length site.slots.items ≡ length books
  pub rule : (h : ℕ) (book : Book) → slice_get books h ≡ Some book → rule_of site.rule ≡ book.rule
  pub opening : (h : ℕ) (book : Book) → slice_get books h ≡ Some book →
      opening_at site h ≡ book.count
  pub passes_are : length passes ≡ n
  pub all : AreAllPasses site passes
  pub new : (i : ℕ) (pass : Pass) → slice_get passes i ≡ Some pass → IsNewPass books pass
