-- The stamps and the queues of a site, by its books.

use Rattle.std.proofs.Common.{List, Some, [], ap, arith, inl, inr, length, map, refl, suc, zero, ℕ, ◌+◌, ◌<◌, ◌∙◌, ◌∷◌, ◌≡◌, ◌≤◌}
use Rattle.std.proofs.lemmas.Bool.{cases_eq}
use Rattle.std.proofs.lemmas.Option.{none-some, same_Some, slice_get_within}
use Rattle.std.specs.List.{range_with_len}
use Rattle.std.specs.Prelude.{slice_get}
use Rattle.zq_model.specs.Books.{Book}
use Rattle.zq_model.specs.Image.{image_of}
use Rattle.zq_model.specs.Operation.{Operation}
use Rattle.zq_model.specs.Queue.{queue_of}
use Rattle.zq_model.specs.Rule.{Rule}
use Rattle.zq_model.specs.Lent.{queues_of}
use Rattle.zq_semantics.proofs.MovedBooks.{read_within}
use Rattle.zq_semantics.specs.Books.{AreBooksOf, greatest_stamp}
use Rattle.zq_semantics.specs.Reading.{heaps_in, queues_over}
use Rattle.zq_semantics.specs.State.{State, greatest}

-- ---- stamps

greatest_above : (n : ℕ) (f : ℕ → ℕ) (i : ℕ) → i < n → f i ≤ greatest n f
greatest_above zero f i inside = absurd (omega (arith, inside))
greatest_above (suc n) f i inside = elim (cases_eq i n) [
  | inl same ↦ let is : f i ≡ f n = ap f same in omega (arith, is)
  | inr apart ↦ let rest = greatest_above n f i (omega (arith, inside, apart)) in omega (arith, rest)
]

greatest_below : (n : ℕ) (f : ℕ → ℕ) (most : ℕ) → ((i : ℕ) → i < n → f i ≤ most) → greatest n f ≤ most
greatest_below zero f most each = omega arith
greatest_below (suc n) f most each =
    let last = each n (omega arith) in
    let rest = greatest_below n f most (λ i inside. each i (omega (arith, inside))) in omega (arith, last, rest)

stamp_above : (books : List Book) (i : ℕ) (b : Book) → slice_get books i ≡ Some b → b.stamp ≤ greatest_stamp books
stamp_above [] i b at = absurd (none-some b at)
stamp_above (c ∷ books) zero b at = let is = ap (λ (d : Book). d.stamp) (same_Some c b at) in omega (arith, is)
stamp_above (c ∷ books) (suc i) b at = let rest = stamp_above books i b at in omega (arith, rest)

stamp_below : (books : List Book) (most : ℕ) → ((i : ℕ) (b : Book) → slice_get books i ≡ Some b → b.stamp ≤ most) → greatest_stamp books ≤ most
stamp_below [] most each = omega arith
stamp_below (c ∷ books) most each =
    let first = each 0 c refl in
    let rest = stamp_below books most (λ i b at. each (suc i) b at) in omega (arith, first, rest)

pub stamps_are : (rule : Rule) (K : ℕ) (st : State) (site : ℕ) (books : List Book) → AreBooksOf rule K st site books → greatest K (st.stamps site) ≡ greatest_stamp books
stamps_are rule K st site books are =
    let number = are.number in
    let low = greatest_below K (st.stamps site) (greatest_stamp books) (λ i inside.
    let found = read_within books i (omega (arith, number, inside)) in
    let above = stamp_above books i found.0 found.1 in
    let is = (are.each i found.0 found.1).stamp in omega (arith, above, is)) in
    let high = stamp_below books (greatest K (st.stamps site)) (λ i b at.
    let inside = slice_get_within books i b at in
    let above = greatest_above K (st.stamps site) i (omega (arith, number, inside)) in
    let is = (are.each i b at).stamp in omega (arith, above, is)) in
    omega (arith, low, high)

-- ---- queues

members_from : (S : List Operation) (a : ℕ) (books : List Book) → ((i : ℕ) (b : Book) → slice_get books i ≡ Some b → b.state ≡ image_of S (a + i)) →
    map (λ (b : Book). b.state.members) books ≡ map (λ h. (image_of S h).members) (range_with_len a (length books))
members_from S a [] each = refl
members_from S a (b ∷ books) each =
    let first : b.state ≡ image_of S a = each 0 b refl ∙ ap (image_of S) (omega arith) in
    let rest = members_from S (a + 1) books (λ i c at. each (suc i) c at ∙ ap (image_of S) (omega arith)) in
    λ i. (first i).members ∷ rest i

pub queues_are : (rule : Rule) (K : ℕ) (st : State) (site : ℕ) (books : List Book) → AreBooksOf rule K st site books → queues_of rule books ≡ queues_over rule (st.sets site) (heaps_in K)
queues_are rule K st site books are =
    let members = members_from (st.sets site) 0 books (λ i b at. (are.each i b at).state ∙ ap (image_of (st.sets site)) (omega arith))
    ∙ ap (λ n. map (λ h. (image_of (st.sets site) h).members) (range_with_len 0 n)) are.number in
    λ i key. queue_of rule key (members i)
