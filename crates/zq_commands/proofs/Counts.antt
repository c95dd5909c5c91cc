-- What is counted over the books, book by book.

use Rattle.std.proofs.Common.{Bool, List, Some, [], ap, arith, length, suc, sym, zero, ℕ, ◌+◌, ◌<◌, ◌∙◌, ◌∷◌, ◌≡◌, ◌≤◌}
use Rattle.std.proofs.lemmas.List.{take_all}
use Rattle.std.proofs.lemmas.List.Sums.{count_by-le-length, sum_by-append, sum_by-cons}
use Rattle.std.specs.Prelude.{count_by, slice_get, sum_by, take}
use Rattle.zq_commands.proofs.InTurn.{take_next}
use Rattle.zq_commands.specs.Lending.{IsLending, Lending, queues_in}
use Rattle.zq_model.specs.Books.{Book}
use Rattle.zq_model.specs.Meaning.{Scored}
use Rattle.zq_model.proofs.Counted.{counted, measured}
use Rattle.zq_model.specs.Lent.{queues_of}
use Rattle.zq_posheap.proofs.Lists.{there_is}

-- the number of members of a key in a book
abbrev pub members_in : Lending → List ℕ → Book → ℕ
members_in lent key book = length (queues_of lent.rule (book ∷ []) key)

-- the number of pairs of a key in a book that pass
abbrev pub pairs_in : Lending → List ℕ → (Scored → Bool) → Book → ℕ
pairs_in lent key passes book = count_by passes (queues_of lent.rule (book ∷ []) key)

-- what is counted in the first so many of the books
abbrev pub upto : (Book → ℕ) → List Book → ℕ → ℕ
upto count books place = sum_by count (take place books)

pub upto_next : (count : Book → ℕ) (books : List Book) (place n : ℕ) → place < length books → ((book : Book) → slice_get books place ≡ Some book → n ≡ count book) →
    upto count books (place + 1) ≡ upto count books place + n
upto_next count books place n within each =
    let book = there_is books place within in
    let its = each book.0 book.1 in
    let longer = ap (sum_by count) (take_next books place book.0 book.1) ∙ sum_by-append count (take place books) (book.0 ∷ []) in
    let last = sum_by-cons count book.0 [] in
    omega (arith, its, longer, last)

upto_all : (count : Book → ℕ) (books : List Book) (place : ℕ) → place ≡ length books → sum_by count books ≡ upto count books place
upto_all count books place all = ap (sum_by count) (sym (take_all place books (omega (arith, all))))

pub members_all : (lent : Lending) (key : List ℕ) (place : ℕ) → IsLending lent → place ≡ length lent.books → upto (members_in lent key) lent.books place ≡ length (queues_in lent key)
members_all lent key place are all = sym (measured lent.rule key lent.heaps lent.books are.books ∙ upto_all (members_in lent key) lent.books place all)

pub pairs_all : (lent : Lending) (key : List ℕ) (passes : Scored → Bool) (place : ℕ) → IsLending lent → place ≡ length lent.books →
    upto (pairs_in lent key passes) lent.books place ≡ count_by passes (queues_in lent key)
pairs_all lent key passes place are all = sym (counted lent.rule key lent.heaps passes lent.books are.books ∙ upto_all (pairs_in lent key passes) lent.books place all)

-- what is counted in some of the books is no more than in all of them
upto_most : (count : Book → ℕ) (books : List Book) (place : ℕ) → upto count books place ≤ sum_by count books
upto_most count books zero = omega arith
upto_most count [] (suc place) = omega arith
upto_most count (book ∷ books) (suc place) =
    omega (arith, sum_by-cons count book (take place books), sum_by-cons count book books, upto_most count books place)

pub members_most : (lent : Lending) (key : List ℕ) (place : ℕ) → IsLending lent → upto (members_in lent key) lent.books place ≤ length (queues_in lent key)
members_most lent key place are =
    let all = measured lent.rule key lent.heaps lent.books are.books in
    let most = upto_most (members_in lent key) lent.books place in
    omega (arith, all, most)

pub pairs_most : (lent : Lending) (key : List ℕ) (passes : Scored → Bool) (place : ℕ) → IsLending lent → upto (pairs_in lent key passes) lent.books place ≤ length (queues_in lent key)
pairs_most lent key passes place are =
    let all = counted lent.rule key lent.heaps passes lent.books are.books in
    let most = upto_most (pairs_in lent key passes) lent.books place in
    omega (arith, all, most, count_by-le-length passes (queues_in lent key))
