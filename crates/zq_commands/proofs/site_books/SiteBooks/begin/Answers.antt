use Rattle.std.proofs.Common.{List, ap, arith, drop, length, map, subst, sym, take, ℕ, ◌++◌, ◌∙◌, ◌≡◌}
use Rattle.std.proofs.lemmas.List.{append-nil, drop_all, length-map, take_all}
use Rattle.zq_commands.proofs.Begun.{dated_begun, of_site_begun}
use Rattle.zq_commands.specs.Beginning.{begun}
use Rattle.zq_commands.specs.Lending.{IsDated}
use Rattle.zq_commands.specs.SiteBooks.{AreOfSite}
use Rattle.zq_commands.specs.VecBooks.{lending_of}
use Rattle.zq_model.specs.Books.{Book}
use Rattle.zq_journal.specs.Books.{LAST_STAMP}
use Rattle.zq_model.specs.Sets.{IsIn}
use Rattle.zq_model.proofs.Read.{in_place}
use Rattle.zq_commands.proofs.site_books.SiteBooks.begin.Goals as goal

-- the elements lent, all of them mapped, are the list then
all_mapped : {X : Type 0} (f : X → X) (items lent new : List X) (len : ℕ) → lent ≡ items → length lent ≡ len → new ≡ map f lent → take len (new ++ drop (length new) items) ≡ map f items
all_mapped f items lent new len same number is =
    let long : length new ≡ length lent = ap length is ∙ length-map lent f in
    let all = ap length same in
    ap (λ xs. take len (new ++ xs)) (drop_all (length new) items (omega (arith, long, all)))
    ∙ ap (take len) (append-nil new) ∙ take_all len new (omega (arith, long, number)) ∙ is ∙ ap (map f) same

pub begin_all-requires-clause-below : goal.begin_all-requires-clause-below
begin_all-requires-clause-below c = λ place book is.
    c.requires.dated.1 book (subst (IsIn book) (c.deref_mut.ensures.value ∙ c.self.view_is) (in_place c.deref_mut.result.now place book is))

pub begin_all-requires-clause-bounded : goal.begin_all-requires-clause-bounded
unfolding LAST_STAMP
begin_all-requires-clause-bounded c = c.requires.dated.0

pub invariant_of-self : goal.invariant_of-self
invariant_of-self c =
    let items = c.self.inside.books.items in
    let all = all_mapped (begun c.args.stamp) items c.deref_mut.result.now c.begin_all.new.books c.self.inside.books.len c.deref_mut.ensures.value c.deref_mut.ensures.len c.begin_all.ensures in
    subst AreOfSite (sym all) (of_site_begun c.args.stamp items c.self.invariant)

pub returns-clause-dated : goal.returns-clause-dated
returns-clause-dated c =
    let items = c.self.inside.books.items in
    let all = all_mapped (begun c.args.stamp) items c.deref_mut.result.now c.begin_all.new.books c.self.inside.books.len c.deref_mut.ensures.value c.deref_mut.ensures.len c.begin_all.ensures in
    let dated = subst (λ (xs : List Book). IsDated c.args.stamp (lending_of xs)) (sym c.self.view_is) c.requires.dated in
    subst (λ (xs : List Book). IsDated c.args.stamp (lending_of xs)) (sym all) (dated_begun c.args.stamp items dated)
