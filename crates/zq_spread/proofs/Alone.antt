-- The book of one heap, as it is lent: what a move makes of it.

use Rattle.std.proofs.Common.{Bool, None, Some, [], ap, arith, false, inl, inr, length, refl, suc, sym, true, zero, ℕ, ◌<◌, ◌∙◌, ◌∷◌, ◌≡◌, ◌≤◌, ◌||◌}
use Rattle.std.proofs.lemmas.Bool.{cond-true}
use Rattle.std.proofs.lemmas.Option.{same_Some}
use Rattle.std.specs.List.{list_any}
use Rattle.std.specs.Prelude.{if◌then◌else◌, slice_get}
use Rattle.zq_commands.specs.Lending.{IsDated, IsLending, lent_after}
use Rattle.zq_commands.specs.VecBooks.{lending_of}
use Rattle.zq_model.specs.Books.{Book}
use Rattle.zq_model.specs.Bounded.{IsBounded}
use Rattle.zq_model.specs.Sets.{IsIn}
use Rattle.zq_model.specs.Lent.{is_home, made_in}
use Rattle.zq_model.specs.Moves.{Move}
use Rattle.zq_semantics.specs.Run.{LAST_COUNT, is_worn}

-- the one book at a place
pub only_at : (place : ℕ) (x y : Book) → slice_get (x ∷ []) place ≡ Some y → x ≡ y
only_at zero x y is = same_Some x y is
only_at (suc place) x y is = absurd (cc)

pub only_place : (place : ℕ) (x : Book) → place < length (x ∷ []) → slice_get (x ∷ []) place ≡ Some x
only_place zero x within = refl
only_place (suc place) x within = absurd (omega arith)

pub only_in : (x y : Book) → IsIn y (x ∷ []) → y ≡ x
only_in x y is = elim is [ inl e ↦ sym e | inr none ↦ absurd none ]

-- a book within bounds may be lent,
pub lends : (book : Book) → IsBounded book.heaps book.heap book.state → IsLending (lending_of (book ∷ []))
lends book bounded = record {
  books = (record { heaps = refl; bounded = bounded }, (λ later none. absurd none), tt);
  ruled = λ b here. ap (λ (x : Book). x.rule) (only_in book b here);
}

-- to a call whose stamp is not below its own
pub dated : (stamp : ℕ) (book : Book) → stamp ≤ LAST_COUNT → book.stamp ≤ stamp → IsDated stamp (lending_of (book ∷ []))
dated stamp book last below = (last, λ b here. let same = ap (λ (x : Book). x.stamp) (only_in book b here) in omega (arith, same, below))

-- a move in the book is what the move makes of what is lent
pub lent_made : (site stamp : ℕ) (move : Move) (b : Book) → is_home move b ≡ true → lending_of (made_in site stamp move b ∷ []) ≡ lent_after site stamp move (lending_of (b ∷ []))
lent_made site stamp move b home =
    let one : made_in site stamp move b ≡ (if is_home move b then made_in site stamp move b else b) = sym (cond-true (is_home move b) (made_in site stamp move b) b home) in
    λ i. record { rule = b.rule; heaps = b.heaps; books = one i ∷ []; told = None }

-- ---- a number at its last value

abbrev is_why : ℕ → Move → Book → Bool
is_why site move b = if is_home move b then is_worn site b else false

or_false : (a : Bool) → (a || false) ≡ a
or_false true = refl
or_false false = refl

-- it is so in what is lent where it is so in the book
pub worn_why : (site : ℕ) (move : Move) (b : Book) → is_home move b ≡ true → is_worn site b ≡ true → list_any (is_why site move) (b ∷ []) ≡ true
worn_why site move b home worn = or_false (is_why site move b) ∙ cond-true (is_home move b) (is_worn site b) false home ∙ worn

pub why_worn : (site : ℕ) (move : Move) (b : Book) → is_home move b ≡ true → list_any (is_why site move) (b ∷ []) ≡ true → is_worn site b ≡ true
why_worn site move b home why = sym (cond-true (is_home move b) (is_worn site b) false home) ∙ sym (or_false (is_why site move b)) ∙ why
