-- A run leaves each book of a site at its place.

use Rattle.std.proofs.Common.{Bool, List, Some, [], false, length, refl, subst, suc, sym, take, true, zero, ℕ, ◌∙◌, ◌∷◌, ◌≡◌, ◌≤◌}
use Rattle.std.proofs.lemmas.Option.{same_Some}
use Rattle.std.specs.Prelude.{if◌then◌else◌, slice_get}
use Rattle.zq_commands.specs.Lending.{IsLending}
use Rattle.zq_commands.specs.SiteBooks.{AreOfSite}
use Rattle.zq_commands.specs.VecBooks.{heaps_in, lending_of}
use Rattle.zq_model.specs.Books.{Book}
use Rattle.zq_model.specs.Bounded.{IsBounded}
use Rattle.zq_model.proofs.Homes.{lent_each}
use Rattle.zq_model.proofs.Read.{in_place}
use Rattle.zq_model.specs.Lent.{books_after, is_home, made, made_in}
use Rattle.zq_model.specs.Moves.{Move}
use Rattle.zq_semantics.specs.Plan.{Plan}
use Rattle.zq_semantics.specs.Replies.{Reply}
use Rattle.zq_semantics.specs.Run.{Runs, Takes, Want, part, whole}
use Rattle.zq_words.specs.Words.{Word}

-- the book is of the heap that the one before it was of
record IsAlike (old new : Book) : Type 0 where
  heap : new.heap ≡ old.heap
  heaps : new.heaps ≡ old.heaps

-- each book has one before it at its place
abbrev AreAlike : List Book → List Book → Type 0
AreAlike old new = (i : ℕ) (b : Book) → slice_get new i ≡ Some b → (a : Book) × (slice_get old i ≡ Some a) × IsAlike a b

module _ (site stamp : ℕ) where
  moved_alike : (move : Move) (home : Bool) (b : Book) → IsAlike b (if home then made_in site stamp move b else b)
  moved_alike move true b = record { heap = refl; heaps = refl }
  moved_alike move false b = record { heap = refl; heaps = refl }

  made_alike : (move : Move) (books : List Book) → AreAlike books (made site stamp move books)
  made_alike move [] i b at = absurd (cc)
  made_alike move (c ∷ books) zero b at = (c, refl, subst (IsAlike c) (same_Some _ b at) (moved_alike move (is_home move c) c))
  made_alike move (c ∷ books) (suc i) b at = made_alike move books i b at

  after_alike : (moves : List Move) (books : List Book) → AreAlike books (books_after site stamp moves books)
  after_alike [] books i b at = (b, at, record { heap = refl; heaps = refl })
  after_alike (move ∷ moves) books i b at =
      let last = after_alike moves (made site stamp move books) i b at in
      let first = made_alike move books i last.0 last.1 in
      (first.0, first.1, record { heap = last.2.heap ∙ first.2.heap; heaps = last.2.heaps ∙ first.2.heaps })

  run_alike : (takes : Takes) (plan : Plan) (cut : ℕ → Want → Reply) (old new : List Book) (reply : Word) → Runs site stamp takes plan cut old new reply → AreAlike old new
  run_alike takes plan cut old new reply (whole books _) = subst (AreAlike old) (sym books) (after_alike plan.moves old)
  run_alike takes plan cut old new reply (part k want _ books _ _) = subst (AreAlike old) (sym books) (after_alike (take k plan.moves) old)

  pub of_site_run : (takes : Takes) (plan : Plan) (cut : ℕ → Want → Reply) (old new : List Book) (reply : Word) → Runs site stamp takes plan cut old new reply →
      AreOfSite old → length new ≡ length old → IsLending (lending_of new) → AreOfSite new
  of_site_run takes plan cut old new reply runs are number lent = record {
    number = subst (λ n. (1 ≤ n) × (n ≤ 16)) (sym number) are.number;
    each = λ i b at.
        let was = run_alike takes plan cut old new reply runs i b at in
        let before = are.each i was.0 was.1 in
        let here = in_place new i b at in
        let its = lent_each (heaps_in new) new b lent.books here in
        let heaps : b.heaps ≡ length new = was.2.heaps ∙ before.heaps ∙ sym number in
        record {
          heap_is = was.2.heap ∙ before.heap_is;
          heaps = heaps;
          ruled = lent.ruled b here;
          bounded = subst (λ (k : ℕ). IsBounded k b.heap b.state) (sym its.heaps ∙ heaps) its.bounded;
        };
  }
