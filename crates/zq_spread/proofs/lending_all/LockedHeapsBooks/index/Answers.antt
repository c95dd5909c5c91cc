use Rattle.std.proofs.Common.{List, Some, ap, arith, length, set, ◌<◌, ◌∙◌, ◌≡◌}
use Rattle.std.specs.Prelude.{slice_get}
use Rattle.zq_commands.specs.VecBooks.{lending_of}
use Rattle.zq_model.specs.Books.{Book}
use Rattle.zq_posheap.proofs.Lists.{set_again}
use Rattle.zq_spread.proofs.Turned.{as_many, book_stands, books_changed, held_changed}
use Rattle.zq_spread.proofs.lending_all.LockedHeapsBooks.index.Goals as goal
use Rattle.zq_spread.proofs.lending_all.LockedHeapsBooks.index.Goals.{After-index_mut}
use Rattle.zq_spread.specs.Several.{books_of, helds_of}
use Rattle.zq_ticketlock.specs.Seats.{value_of}

abbrev books_in : After-index_mut → List Book
books_in c = books_of (helds_of c.args.self.now)

abbrev old_in : After-index_mut → Book
old_in c = (value_of c.index_mut.result.now).book

many : (c : After-index_mut) → length c.as_slice.result.now ≡ length c.args.self.now.helds.items
many c = ap length c.as_slice.ensures.value

within : (c : After-index_mut) → c.args.place < length c.args.self.now.helds.items
within c = let low = c.requires.inside in let long = as_many c.args.self.now.helds.items in omega (arith, low, long)

stands : (c : After-index_mut) → slice_get (books_in c) c.args.place ≡ Some (old_in c)
stands c = book_stands c.args.self.now.helds.items c.args.place (length c.as_slice.result.now) c.index_mut.result.now (many c) (within c) c.index_mut.ensures.value

-- the same list, with its own book at the place
same_set : (c : After-index_mut) → set (books_in c) c.args.place (old_in c) ≡ books_in c
same_set c = set_again (books_in c) c.args.place (old_in c) (stands c)

pub returns-clause-same : goal.returns-clause-same
returns-clause-same c =
    let d = (goal.at.returns-clause-same c).After-index_mut in
    let changed = books_changed c.args.self.now.helds.items c.args.place (length c.as_slice.result.now) c.index_mut.result.now (many d) (within d) c.index_mut.ensures.value c.index_held.new.held in
    ap lending_of (changed ∙ ap (λ (b : Book). set (books_in d) c.args.place b) c.index_held.ensures.same ∙ same_set d)

pub returns-clause-keeps : goal.returns-clause-keeps
returns-clause-keeps c =
    let d = (goal.at.returns-clause-keeps c).After-index_mut in
    held_changed c.args.self.now.helds.items c.args.place (length c.as_slice.result.now) c.index_mut.result.now (many d) (within d) c.index_mut.ensures.value c.index_held.new.held c.index_held.ensures.held
