use Rattle.std.proofs.Common.{List, Some, ap, arith, length, refl, set, subst, sym, ◌∙◌, ◌≡◌}
use Rattle.std.proofs.lemmas.Option.{same_Some, slice_get_read, slice_get_within}
use Rattle.std.specs.Prelude.{slice_get}
use Rattle.zq_commands.proofs.SitePlaces.{dated_set, of_site_set}
use Rattle.zq_commands.specs.Lending.{IsDated}
use Rattle.zq_commands.specs.SiteBooks.{IsTaken}
use Rattle.zq_commands.specs.VecBooks.{lending_of}
use Rattle.zq_model.specs.Books.{Book}
use Rattle.zq_journal.specs.Books.{LAST_STAMP}
use Rattle.zq_model.specs.Sets.{IsIn}
use Rattle.zq_model.proofs.Read.{in_place}
use Rattle.zq_commands.proofs.site_books.SiteBooks.take.Goals as goal
use Rattle.zq_commands.proofs.site_books.SiteBooks.take.Goals.{After-index_mut}

-- the book stands at the place
stands : (c : After-index_mut) → slice_get c.self.inside.books.items c.heap-place.result ≡ Some c.index_mut.result.now
stands c =
    let books = c.self.inside.books.items in
    slice_get_read books (length books) c.heap-place.result c.index_mut.result.now refl (omega (arith, c.if-place-len.true, c.len.ensures)) c.index_mut.ensures.value

-- it is the book of the heap
here : (c : After-index_mut) (book : Book) → slice_get c.args.self.now c.args.op.now.operation.heap ≡ Some book → c.index_mut.result.now ≡ book
here c book is =
    let same : slice_get c.self.inside.books.items c.heap-place.result ≡ slice_get c.args.self.now c.args.op.now.operation.heap = λ i. slice_get (c.self.view_is i) (c.heap-place.ensures.same i) in
    same_Some c.index_mut.result.now book (sym (stands c) ∙ same ∙ is)

pub take_in-requires-clause-stamp : goal.take_in-requires-clause-stamp
take_in-requires-clause-stamp c =
    let its = c.index_mut.result.now in
    c.requires.dated.1 its (subst (IsIn its) c.self.view_is (in_place c.self.inside.books.items c.heap-place.result its (stands c)))

pub take_in-requires-clause-bounded : goal.take_in-requires-clause-bounded
unfolding LAST_STAMP
take_in-requires-clause-bounded c = c.requires.dated.0

pub invariant_of-self : goal.invariant_of-self
invariant_of-self c =
    let d = (goal.at.invariant_of-self c).After-index_mut in
    of_site_set c.self.inside.books.items c.heap-place.result c.index_mut.result.now c.take_in.new.book (stands d) c.self.invariant c.take_in.ensures.kept

pub returns-then-place-len-clause-taken : goal.returns-then-place-len-clause-taken
returns-then-place-len-clause-taken c = λ book is.
    let d = (goal.at.returns-then-place-len-clause-taken c).After-index_mut in
    let new = c.take_in.new.book in (
      new,
      subst (λ (b : Book). IsTaken c.take_in.result c.args.stamp c.args.op.now b new) (here d book is) c.take_in.ensures.taken,
      λ i. set (c.self.view_is i) (c.heap-place.ensures.same i) new,
    )

pub returns-then-place-len-clause-dated : goal.returns-then-place-len-clause-dated
returns-then-place-len-clause-dated c =
    let d = (goal.at.returns-then-place-len-clause-dated c).After-index_mut in
    let dated = subst (λ (xs : List Book). IsDated c.args.stamp (lending_of xs)) (sym c.self.view_is) c.requires.dated in
    dated_set c.self.inside.books.items c.heap-place.result c.index_mut.result.now c.take_in.new.book (stands d) c.args.stamp dated c.take_in.ensures.stamp

pub returns-else-place-len-clause-taken : goal.returns-else-place-len-clause-taken
returns-else-place-len-clause-taken c = λ book is.
    let inside = slice_get_within c.args.self.now c.args.op.now.operation.heap book is in
    let long = ap length c.self.view_is in
    absurd (omega (arith, inside, long, c.if-place-len.false, c.len.ensures, c.heap-place.ensures.same))
