use Rattle.std.proofs.Common.{ap, sym, ◌∙◌, ◌≡◌}
use Rattle.std.proofs.lemmas.Option.{same_Some}
use Rattle.zq_journal.specs.Books.{state_of}
use Rattle.zq_model.proofs.Read.{in_place}
use Rattle.zq_spread.proofs.lending_all.shard_at.Goals as goal
use Rattle.zq_spread.specs.Several.{books_of, helds_of}

pub returns : goal.returns
returns c = λ book is.
    let books = books_of (helds_of c.args.holds.now) in
    let its = c.book_at.result.now in
    let here : its ≡ book = same_Some its book (sym c.book_at.ensures ∙ is) in
    let ruled = c.requires.lent.ruled book (in_place books c.args.place book is) in
    c.shard.ensures.same ∙ ap state_of here ∙ (λ i. record { heap = book.heap; heaps = book.heaps; rule = ruled i; image = book.state })
