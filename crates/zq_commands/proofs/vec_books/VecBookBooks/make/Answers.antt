use Rattle.std.proofs.Common.{List, Some, ap, length, refl, set, subst, sym, ◌∙◌, ◌≡◌}
use Rattle.std.proofs.lemmas.List.{set-get_or}
use Rattle.std.proofs.lemmas.Option.{slice_get_read}
use Rattle.std.proofs.lemmas.Result.{on_ok_weaker}
use Rattle.std.specs.Prelude.{slice_get}
use Rattle.zq_commands.proofs.BookMoves.{set_dated, set_lending, set_lent_after, why_worn, worn_why}
use Rattle.zq_commands.proofs.OnOk.{both_ok, on_both}
use Rattle.zq_commands.proofs.VecBooks.{recorded_at}
use Rattle.zq_commands.specs.Lending.{IsDated, IsLending}
use Rattle.zq_commands.specs.VecBooks.{lending_of}
use Rattle.zq_dots.specs.Act.{act_of}
use Rattle.zq_model.specs.Books.{Book}
use Rattle.zq_model.specs.Bounded.{IsBounded}
use Rattle.zq_model.proofs.Read.{in_place}
use Rattle.zq_model.specs.Lent.{made_in}
use Rattle.zq_model.specs.Moves.{Move}
use Rattle.zq_commands.proofs.vec_books.VecBookBooks.make.Goals as goal
use Rattle.zq_commands.proofs.vec_books.VecBookBooks.make.Goals.{After-index_mut}

-- the book stands at the place
stands : (c : After-index_mut) → slice_get c.args.self.now.items c.args.place ≡ Some c.index_mut.result.now
stands c = slice_get_read c.args.self.now.items (length c.args.self.now.items) c.args.place c.index_mut.result.now refl c.requires.inside c.index_mut.ensures.value

abbrev move_in : After-index_mut → Move
move_in c = record { key = c.args.key.now; member = c.args.member.now; act = act_of c.args.act }

-- the same list, with its own book at the place
same_set : (c : After-index_mut) → set c.args.self.now.items c.args.place c.index_mut.result.now ≡ c.args.self.now.items
same_set c = ap (set c.args.self.now.items c.args.place) c.index_mut.ensures.value ∙ set-get_or c.args.self.now.items c.args.place c.index_mut.result.now

pub make_in-requires-clause-stamp : goal.make_in-requires-clause-stamp
make_in-requires-clause-stamp c = c.requires.dated.1 c.index_mut.result.now (in_place c.args.self.now.items c.args.place c.index_mut.result.now (stands c))

pub returns-clause-made : goal.returns-clause-made
returns-clause-made c =
    let d = (goal.at.returns-clause-made c).After-index_mut in
    let books = c.args.self.now.items in
    let place = c.args.place in
    let old = c.index_mut.result.now in
    let is = stands d in
    on_ok_weaker c.make_in.result (λ made. ap (λ (b : Book). lending_of (set books place b)) made
    ∙ set_lent_after c.args.site c.args.stamp (move_in d) books place old c.requires.lent is (c.requires.home old is)) c.make_in.ensures.made

pub returns-clause-worn : goal.returns-clause-worn
returns-clause-worn c = λ fault.
    let d = (goal.at.returns-clause-worn c).After-index_mut in
    let old = c.index_mut.result.now in
    let is = stands d in
    worn_why c.args.site c.args.stamp (move_in d) c.args.self.now.items c.args.place old c.requires.lent is (c.requires.home old is) (c.make_in.ensures.worn.0 fault)

pub returns-clause-memory : goal.returns-clause-memory
returns-clause-memory c = λ fault why.
    let d = (goal.at.returns-clause-memory c).After-index_mut in
    let old = c.index_mut.result.now in
    let is = stands d in
    let other = c.make_in.ensures.worn.1 (why_worn c.args.site c.args.stamp (move_in d) c.args.self.now.items c.args.place old c.requires.lent is (c.requires.home old is) why) in
    absurd (cc)

pub returns-clause-lent : goal.returns-clause-lent
returns-clause-lent c =
    let d = (goal.at.returns-clause-lent c).After-index_mut in
    let books = c.args.self.now.items in
    let place = c.args.place in
    let old = c.index_mut.result.now in
    let new = c.make_in.new.book in
    let is = stands d in
    let made = made_in c.args.site c.args.stamp (move_in d) old in
    let P = λ (b : Book). IsLending (lending_of (set books place b)) in
    on_both c.make_in.result
    (λ (both : (new ≡ made) × IsBounded new.heaps new.heap new.state).
    let bounded : IsBounded old.heaps old.heap made.state = subst (λ (b : Book). IsBounded b.heaps b.heap b.state) both.0 both.1 in
    subst P (sym both.0) (set_lending c.args.site c.args.stamp (move_in d) books place old c.requires.lent is (c.requires.home old is) bounded))
    (λ (same : new ≡ old). subst P (sym same) (subst (λ (xs : List Book). IsLending (lending_of xs)) (sym (same_set d)) c.requires.lent))
    (both_ok (new ≡ made) (IsBounded new.heaps new.heap new.state) c.make_in.result c.make_in.ensures.made c.make_in.ensures.bounded) c.make_in.ensures.refused

pub returns-clause-dated : goal.returns-clause-dated
returns-clause-dated c =
    let d = (goal.at.returns-clause-dated c).After-index_mut in
    let books = c.args.self.now.items in
    let place = c.args.place in
    let stamp = c.args.stamp in
    let old = c.index_mut.result.now in
    let new = c.make_in.new.book in
    let is = stands d in
    let P = λ (b : Book). IsDated stamp (lending_of (set books place b)) in
    on_both c.make_in.result
    (λ (made : new ≡ made_in c.args.site stamp (move_in d) old).
    subst P (sym made) (set_dated c.args.site stamp (move_in d) books place old c.requires.lent is (c.requires.home old is) c.requires.dated))
    (λ (same : new ≡ old). subst P (sym same) (subst (λ (xs : List Book). IsDated stamp (lending_of xs)) (sym (same_set d)) c.requires.dated))
    c.make_in.ensures.made c.make_in.ensures.refused

pub returns-clause-keeps : goal.returns-clause-keeps
returns-clause-keeps c =
    recorded_at c.args.self.now.items c.args.place c.index_mut.result.now c.make_in.new.book (stands (goal.at.returns-clause-keeps c).After-index_mut) c.make_in.ensures.recorded
