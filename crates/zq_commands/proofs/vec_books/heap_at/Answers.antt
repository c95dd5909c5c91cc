use Rattle.std.proofs.Common.{ap, length, refl, sym, ◌∙◌, ◌≡◌}
use Rattle.std.proofs.lemmas.Option.{same_Some, slice_get_read}
use Rattle.zq_journal.specs.Books.{state_of}
use Rattle.zq_model.proofs.Read.{in_place}
use Rattle.zq_commands.proofs.vec_books.heap_at.Goals as goal

pub returns : goal.returns
returns c = λ book is.
    let books = c.args.books.now in
    let place = c.args.place in
    let its = c.index-books-place.result in
    let here : its ≡ book = same_Some its book (sym (slice_get_read books (length books) place its refl c.requires.inside c.index-books-place.is) ∙ is) in
    let ruled = c.requires.lent.ruled book (in_place books place book is) in
    c.shard.ensures.same ∙ ap state_of here ∙ (λ i. record { heap = book.heap; heaps = book.heaps; rule = ruled i; image = book.state })
