use Rattle.std.proofs.Common.{List, Some, ap, arith, length, set, subst, sym, ◌<◌, ◌∙◌, ◌≡◌}
use Rattle.std.proofs.lemmas.Option.{same_Some}
use Rattle.std.proofs.lemmas.Result.{IfOk-weaker, on_err_weaker, on_ok_weaker}
use Rattle.std.specs.FinMap.{get}
use Rattle.std.specs.Prelude.{is_some, slice_get}
use Rattle.zq_commands.proofs.BookMoves.{set_dated, set_lending, set_lent_after, why_worn, worn_why}
use Rattle.zq_commands.proofs.OnOk.{both_ok, on_both}
use Rattle.zq_commands.specs.Lending.{IsDated, IsLending}
use Rattle.zq_commands.specs.VecBooks.{lending_of}
use Rattle.zq_dots.specs.Act.{act_of}
use Rattle.zq_model.specs.Books.{Book}
use Rattle.zq_model.specs.Bounded.{IsBounded}
use Rattle.zq_model.proofs.Read.{in_place}
use Rattle.zq_model.specs.Lent.{made_in}
use Rattle.zq_model.specs.Moves.{Move}
use Rattle.zq_posheap.proofs.Lists.{set_again}
use Rattle.zq_spread.proofs.Turned.{as_many, book_stands, books_changed, held_changed}
use Rattle.zq_spread.proofs.lending_all.LockedHeapsBooks.make.Goals as goal
use Rattle.zq_spread.proofs.lending_all.LockedHeapsBooks.make.Goals.{After-index_mut}
use Rattle.zq_spread.specs.Several.{books_of, helds_of}
use Rattle.zq_ticketlock.specs.Seats.{value_of}

abbrev books_in : After-index_mut → List Book
books_in c = books_of (helds_of c.args.self.now)

abbrev old_in : After-index_mut → Book
old_in c = (value_of c.index_mut.result.now).book

abbrev move_in : After-index_mut → Move
move_in c = record { key = c.args.key.now; member = c.args.member.now; act = act_of c.args.act }

many : (c : After-index_mut) → length c.as_slice.result.now ≡ length c.args.self.now.helds.items
many c = ap length c.as_slice.ensures.value

within : (c : After-index_mut) → c.args.place < length c.args.self.now.helds.items
within c = let low = c.requires.inside in let long = as_many c.args.self.now.helds.items in omega (arith, low, long)

stands : (c : After-index_mut) → slice_get (books_in c) c.args.place ≡ Some (old_in c)
stands c = book_stands c.args.self.now.helds.items c.args.place (length c.as_slice.result.now) c.index_mut.result.now (many c) (within c) c.index_mut.ensures.value

-- the same list, with its own book at the place
same_set : (c : After-index_mut) → set (books_in c) c.args.place (old_in c) ≡ books_in c
same_set c = set_again (books_in c) c.args.place (old_in c) (stands c)

pub make_held-requires-clause-home : goal.make_held-requires-clause-home
make_held-requires-clause-home c = c.requires.home (old_in c) (stands c)

pub make_held-requires-clause-stamp : goal.make_held-requires-clause-stamp
make_held-requires-clause-stamp c = c.requires.dated.1 (old_in c) (in_place (books_in c) c.args.place (old_in c) (stands c))

pub returns-clause-made : goal.returns-clause-made
returns-clause-made c =
    let d = (goal.at.returns-clause-made c).After-index_mut in
    let y = c.make_held.new.held in
    let changed = books_changed c.args.self.now.helds.items c.args.place (length c.as_slice.result.now) c.index_mut.result.now (many d) (within d) c.index_mut.ensures.value y in
    on_ok_weaker c.make_held.result (λ made. ap lending_of changed ∙ ap (λ (b : Book). lending_of (set (books_in d) c.args.place b)) made
    ∙ set_lent_after c.args.site c.args.stamp (move_in d) (books_in d) c.args.place (old_in d) c.requires.lent (stands d) (c.requires.home (old_in d) (stands d))) c.make_held.ensures.made

pub returns-clause-stood : goal.returns-clause-stood
returns-clause-stood c =
    let d = (goal.at.returns-clause-stood c).After-index_mut in
    IfOk-weaker c.make_held.result _ _ (λ stood is book at. subst (λ (b : Book). stood ≡ is_some (get b.state.members (c.args.key.now, c.args.member.now))) (same_Some _ _ (sym (stands d) ∙ at)) is)
    c.make_held.ensures.stood

pub returns-clause-refused : goal.returns-clause-refused
returns-clause-refused c =
    let d = (goal.at.returns-clause-refused c).After-index_mut in
    let y = c.make_held.new.held in
    let changed = books_changed c.args.self.now.helds.items c.args.place (length c.as_slice.result.now) c.index_mut.result.now (many d) (within d) c.index_mut.ensures.value y in
    on_err_weaker c.make_held.result (λ same. ap lending_of (changed ∙ ap (λ (b : Book). set (books_in d) c.args.place b) same ∙ same_set d)) c.make_held.ensures.refused

pub returns-clause-worn : goal.returns-clause-worn
returns-clause-worn c = λ fault.
    let d = (goal.at.returns-clause-worn c).After-index_mut in
    worn_why c.args.site c.args.stamp (move_in d) (books_in d) c.args.place (old_in d) c.requires.lent (stands d) (c.requires.home (old_in d) (stands d)) (c.make_held.ensures.worn.0 fault)

pub returns-clause-memory : goal.returns-clause-memory
returns-clause-memory c = λ fault why.
    let d = (goal.at.returns-clause-memory c).After-index_mut in
    let other = c.make_held.ensures.worn.1 (why_worn c.args.site c.args.stamp (move_in d) (books_in d) c.args.place (old_in d) c.requires.lent (stands d) (c.requires.home (old_in d) (stands d)) why) in
    absurd (cc)

pub returns-clause-lent : goal.returns-clause-lent
returns-clause-lent c =
    let d = (goal.at.returns-clause-lent c).After-index_mut in
    let books = books_in d in
    let place = c.args.place in
    let old = old_in d in
    let y = c.make_held.new.held in
    let new : Book = (value_of y).book in
    let changed = books_changed c.args.self.now.helds.items place (length c.as_slice.result.now) c.index_mut.result.now (many d) (within d) c.index_mut.ensures.value y in
    let made = made_in c.args.site c.args.stamp (move_in d) old in
    let P = λ (b : Book). IsLending (lending_of (set books place b)) in
    subst (λ l. IsLending (lending_of l)) (sym changed) (on_both c.make_held.result
    (λ (both : (new ≡ made) × IsBounded new.heaps new.heap new.state).
    let bounded : IsBounded old.heaps old.heap made.state = subst (λ (b : Book). IsBounded b.heaps b.heap b.state) both.0 both.1 in
    subst P (sym both.0) (set_lending c.args.site c.args.stamp (move_in d) books place old c.requires.lent (stands d) (c.requires.home old (stands d)) bounded))
    (λ (same : new ≡ old). subst P (sym same) (subst (λ (xs : List Book). IsLending (lending_of xs)) (sym (same_set d)) c.requires.lent))
    (both_ok (new ≡ made) (IsBounded new.heaps new.heap new.state) c.make_held.result c.make_held.ensures.made c.make_held.ensures.bounded) c.make_held.ensures.refused)

pub returns-clause-dated : goal.returns-clause-dated
returns-clause-dated c =
    let d = (goal.at.returns-clause-dated c).After-index_mut in
    let books = books_in d in
    let place = c.args.place in
    let stamp = c.args.stamp in
    let old = old_in d in
    let y = c.make_held.new.held in
    let new : Book = (value_of y).book in
    let changed = books_changed c.args.self.now.helds.items place (length c.as_slice.result.now) c.index_mut.result.now (many d) (within d) c.index_mut.ensures.value y in
    let P = λ (b : Book). IsDated stamp (lending_of (set books place b)) in
    subst (λ l. IsDated stamp (lending_of l)) (sym changed) (on_both c.make_held.result
    (λ (made : new ≡ made_in c.args.site stamp (move_in d) old).
    subst P (sym made) (set_dated c.args.site stamp (move_in d) books place old c.requires.lent (stands d) (c.requires.home old (stands d)) c.requires.dated))
    (λ (same : new ≡ old). subst P (sym same) (subst (λ (xs : List Book). IsDated stamp (lending_of xs)) (sym (same_set d)) c.requires.dated))
    c.make_held.ensures.made c.make_held.ensures.refused)

pub returns-clause-keeps : goal.returns-clause-keeps
returns-clause-keeps c =
    let d = (goal.at.returns-clause-keeps c).After-index_mut in
    held_changed c.args.self.now.helds.items c.args.place (length c.as_slice.result.now) c.index_mut.result.now (many d) (within d) c.index_mut.ensures.value c.make_held.new.held c.make_held.ensures.held
