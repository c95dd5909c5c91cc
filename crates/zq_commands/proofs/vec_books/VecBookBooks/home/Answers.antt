use Rattle.std.proofs.Common.{List, ap, arith, get_or, length, refl, subst, sym, ◌∙◌, ◌≡◌, ◌≤◌}
use Rattle.std.proofs.lemmas.Bool.{eq-eqb, eqb-true}
use Rattle.std.proofs.lemmas.Option.{slice_get_read}
use Rattle.std.specs.Prelude.{map, slice_get}
use Rattle.zq_commands.specs.VecBooks.{heaps_in}
use Rattle.zq_model.specs.Books.{Book}
use Rattle.zq_model.proofs.Maps.{in_map}
use Rattle.zq_model.specs.Heaps.{heap_of}
use Rattle.zq_model.specs.Sets.{IsIn}
use Rattle.zq_model.proofs.Homes.{lent_each}
use Rattle.zq_model.proofs.Read.{in_place}
use Rattle.zq_shard.specs.Shard.{HeapImage}
use Rattle.zq_commands.proofs.vec_books.VecBookBooks.home.Goals as goal
use Rattle.zq_commands.proofs.vec_books.VecBookBooks.home.Goals.{After-heap_of}

-- the first book is one of them
first_in : (books : List Book) (first : Book) → 2 ≤ length books → first ≡ get_or books 0 first → IsIn first books
first_in books first most is = in_place books 0 first (slice_get_read books (length books) 0 first refl (omega (arith, most)) is)

-- the heap that is looked for is that of the member, among as many heaps as each of the books has
heap_is : (c : After-heap_of) (book : Book) → IsIn book c.args.self.now.items → c.heap_of.result ≡ heap_of c.args.key.now c.args.member.now book.heaps
heap_is c book here =
    let books = c.args.self.now.items in
    let value = c.as_slice.ensures.value in
    let first = c.first-item.result in
    let first_here : IsIn first books = subst (IsIn first) value (first_in c.as_slice.result.now first c.in-len2-up.len_at_least c.first-item.is) in
    let heaps : first.heaps ≡ book.heaps = (lent_each (heaps_in books) books first c.requires.lent.books first_here).heaps ∙ sym (lent_each (heaps_in books) books book c.requires.lent.books here).heaps in
    c.heap_of.ensures.heap ∙ ap (heap_of c.args.key.now c.args.member.now) (c.heaps.ensures.same ∙ ap (λ (s : HeapImage). s.heaps) c.shard.ensures.same ∙ heaps)

pub place_of-requires : goal.place_of-requires
place_of-requires c =
    let books = c.args.self.now.items in
    let home = c.requires.home in
    let heap : home.0.heap ≡ c.heap_of.result = sym (eqb-true _ _ home.2) ∙ sym (heap_is c home.0 home.1) in
    subst (λ (xs : List Book). IsIn c.heap_of.result (map (λ (b : Book). b.heap) xs)) (sym c.deref.ensures.value)
    (subst (λ h. IsIn h (map (λ (b : Book). b.heap) books)) heap (in_map (λ (b : Book). b.heap) home.0 books home.1))

pub returns-in-len2-up-clause-home : goal.returns-in-len2-up-clause-home
returns-in-len2-up-clause-home c = λ book is.
    let books = c.args.self.now.items in
    let heap : book.heap ≡ c.heap_of.result = c.place_of.ensures.heap book (ap (λ (xs : List Book). slice_get xs c.place_of.result) c.deref.ensures.value ∙ is) in
    eq-eqb _ _ (sym (heap_is (goal.at.returns-in-len2-up-clause-home c).After-heap_of book (in_place books c.place_of.result book is)) ∙ sym heap)
