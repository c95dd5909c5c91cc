use Rattle.std.proofs.Common.{ap, sym, ◌∙◌, ◌≡◌}
use Rattle.std.proofs.lemmas.Bool.{eq-eqb, eqb-true}
use Rattle.zq_commands.specs.VecBooks.{heaps_in}
use Rattle.zq_model.specs.Books.{Book}
use Rattle.zq_model.specs.Heaps.{heap_of}
use Rattle.zq_model.specs.Sets.{IsIn}
use Rattle.zq_model.proofs.Homes.{lent_each}
use Rattle.zq_model.proofs.Read.{in_place, placed_in}
use Rattle.zq_shard.specs.Shard.{HeapImage}
use Rattle.zq_spread.proofs.lending_all.LockedHeapsBooks.home.Goals as goal
use Rattle.zq_spread.proofs.lending_all.LockedHeapsBooks.home.Goals.{After-heap_of}
use Rattle.zq_spread.specs.Several.{books_of, helds_of}

-- the heap that is looked for is that of the member, among as many heaps as each of the books has
heap_is : (c : After-heap_of) (book : Book) → IsIn book (books_of (helds_of c.args.self.now)) → c.heap_of.result ≡ heap_of c.args.key.now c.args.member.now book.heaps
heap_is c book here =
    let books = books_of (helds_of c.args.self.now) in
    let first = c.book_at.result.now in
    let first_here = in_place books 0 first c.book_at.ensures in
    let heaps : first.heaps ≡ book.heaps = (lent_each (heaps_in books) books first c.requires.lent.books first_here).heaps ∙ sym (lent_each (heaps_in books) books book c.requires.lent.books here).heaps in
    c.heap_of.ensures.heap ∙ ap (heap_of c.args.key.now c.args.member.now) (c.heaps.ensures.same ∙ ap (λ (s : HeapImage). s.heaps) c.shard.ensures.same ∙ heaps)

pub place_of-requires : goal.place_of-requires
place_of-requires c =
    let books = books_of (helds_of c.args.self.now) in
    let home = c.requires.home in
    let at = placed_in home.0 books home.1 in
    let heap : home.0.heap ≡ c.heap_of.result = sym (eqb-true _ _ home.2) ∙ sym (heap_is c home.0 home.1) in
    (at.0, home.0, at.1, heap)

pub returns-clause-home : goal.returns-clause-home
returns-clause-home c = λ book is.
    let books = books_of (helds_of c.args.self.now) in
    let heap : book.heap ≡ c.heap_of.result = c.place_of.ensures.heap book is in
    eq-eqb _ _ (sym (heap_is (goal.at.returns-clause-home c).After-heap_of book (in_place books c.place_of.result book is)) ∙ sym heap)
