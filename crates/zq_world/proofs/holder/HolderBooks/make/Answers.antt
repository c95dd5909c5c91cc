use Rattle.std.proofs.Common.{Err, List, Ok, Result, Some, [], ap, inl, inr, length, refl, set, subst, sym, ℕ, ◌++◌, ◌∙◌, ◌∷◌, ◌≡◌}
use Rattle.std.proofs.lemmas.List.{set-get_or}
use Rattle.std.proofs.lemmas.Option.{slice_get_read}
use Rattle.std.proofs.lemmas.Result.{on_err_weaker, on_ok_weaker}
use Rattle.std.specs.Prelude.{slice_get}
use Rattle.std.specs.Result.{OnErr}
use Rattle.zq_commands.proofs.BookMoves.{set_dated, set_lending, set_lent_after, why_worn, worn_why}
use Rattle.zq_commands.proofs.OnOk.{both_ok, on_both}
use Rattle.zq_commands.specs.Lending.{IsDated, IsLending, Lending}
use Rattle.zq_commands.specs.VecBooks.{heaps_in, lending_of}
use Rattle.zq_dots.specs.Act.{act_of}
use Rattle.zq_dots.specs.Placed.{Placed}
use Rattle.zq_model.specs.Books.{Book}
use Rattle.zq_model.specs.Bounded.{IsBounded}
use Rattle.zq_model.proofs.Homes.{lent_each}
use Rattle.zq_model.proofs.Read.{in_place}
use Rattle.zq_model.specs.Lent.{made_in}
use Rattle.zq_model.specs.Moves.{Move}
use Rattle.zq_world.proofs.Homes.{told_after_move}
use Rattle.zq_world.proofs.Lendings.{bare_lending, told_lending}
use Rattle.zq_world.specs.Told.{AreAmong, lending_told, told_in}
use Rattle.zq_world.proofs.holder.HolderBooks.make.Goals as goal
use Rattle.zq_world.proofs.holder.HolderBooks.make.Goals.{After-index_mut}

-- the book stands at the place
stands : (c : After-index_mut) → slice_get c.args.self.now.books.items c.args.place ≡ Some c.index_mut.result.now
stands c = slice_get_read c.args.self.now.books.items (length c.args.self.now.books.items) c.args.place c.index_mut.result.now refl c.requires.inside c.index_mut.ensures.value

abbrev move_in : After-index_mut → Move
move_in c = record { key = c.args.key.now; member = c.args.member.now; act = act_of c.args.act }

-- the same list, with its own book at the place
same_set : (c : After-index_mut) → set c.args.self.now.books.items c.args.place c.index_mut.result.now ≡ c.args.self.now.books.items
same_set c = ap (set c.args.self.now.books.items c.args.place) c.index_mut.ensures.value ∙ set-get_or c.args.self.now.books.items c.args.place c.index_mut.result.now

both_err : (P Q : Type 0) {T E : Type 0} (r : Result T E) → OnErr r P → OnErr r Q → OnErr r (P × Q)
both_err P Q (Ok x) p q = tt
both_err P Q (Err e) p q = (p, q)

-- one operation more of as many heaps
among_next : (K : ℕ) (made : List Placed) (p : Placed) → AreAmong K made → p.heaps ≡ K → AreAmong K (made ++ p ∷ [])
among_next K [] p are is = λ q here. elim here [ inl same ↦ sym (ap (λ (x : Placed). x.heaps) same) ∙ is | inr none ↦ absurd none ]
among_next K (x ∷ made) p are is = λ q here. elim here [
  | inl same ↦ are q (inl same)
  | inr there ↦ among_next K made p (λ y at. are y (inr at)) is q there
]

pub make_in-requires-clause-stamp : goal.make_in-requires-clause-stamp
make_in-requires-clause-stamp c =
    c.requires.dated.1 c.index_mut.result.now (in_place c.args.self.now.books.items c.args.place c.index_mut.result.now (stands (goal.at.make_in-requires-clause-stamp c).After-index_mut))

pub returns-clause-made : goal.returns-clause-made
returns-clause-made c =
    let d = (goal.at.returns-clause-made c).After-index_mut in
    let books = c.args.self.now.books.items in
    let made = c.args.self.now.made.items in
    let place = c.args.place in
    let old = c.index_mut.result.now in
    let is = stands d in
    let new = c.make_in.new.book in
    let later = c.make_in.new.made.items in
    on_ok_weaker c.make_in.result
    (λ (both : (new ≡ made_in c.args.site c.args.stamp (move_in d) old) × (later ≡ made ++ told_in c.args.site (move_in d) old ∷ [])).
    (λ i. lending_told (set books place (both.0 i)) (both.1 i))
    ∙ told_after_move c.args.site c.args.stamp (move_in d) books made place old (bare_lending books made c.requires.lent) is (c.requires.home old is))
    (both_ok _ _ c.make_in.result c.make_in.ensures.made c.make_in.ensures.listed)

pub returns-clause-worn : goal.returns-clause-worn
returns-clause-worn c = λ fault.
    let d = (goal.at.returns-clause-worn c).After-index_mut in
    let books = c.args.self.now.books.items in
    let old = c.index_mut.result.now in
    let is = stands d in
    worn_why c.args.site c.args.stamp (move_in d) books c.args.place old (bare_lending books c.args.self.now.made.items c.requires.lent) is (c.requires.home old is) (c.make_in.ensures.worn.0 fault)

pub returns-clause-memory : goal.returns-clause-memory
returns-clause-memory c = λ fault why.
    let d = (goal.at.returns-clause-memory c).After-index_mut in
    let books = c.args.self.now.books.items in
    let old = c.index_mut.result.now in
    let is = stands d in
    let other = c.make_in.ensures.worn.1 (why_worn c.args.site c.args.stamp (move_in d) books c.args.place old (bare_lending books c.args.self.now.made.items c.requires.lent) is (c.requires.home old is) why) in
    absurd (cc)

pub returns-clause-lent : goal.returns-clause-lent
returns-clause-lent c =
    let d = (goal.at.returns-clause-lent c).After-index_mut in
    let books = c.args.self.now.books.items in
    let place = c.args.place in
    let old = c.index_mut.result.now in
    let new = c.make_in.new.book in
    let is = stands d in
    let made = made_in c.args.site c.args.stamp (move_in d) old in
    let lent = bare_lending books c.args.self.now.made.items c.requires.lent in
    let P = λ (b : Book). IsLending (lending_of (set books place b)) in
    told_lending (set books place new) c.make_in.new.made.items
    (on_both c.make_in.result
    (λ (both : (new ≡ made) × IsBounded new.heaps new.heap new.state).
    let bounded : IsBounded old.heaps old.heap made.state = subst (λ (b : Book). IsBounded b.heaps b.heap b.state) both.0 both.1 in
    subst P (sym both.0) (set_lending c.args.site c.args.stamp (move_in d) books place old lent is (c.requires.home old is) bounded))
    (λ (same : new ≡ old). subst P (sym same) (subst (λ (xs : List Book). IsLending (lending_of xs)) (sym (same_set d)) lent))
    (both_ok (new ≡ made) (IsBounded new.heaps new.heap new.state) c.make_in.result c.make_in.ensures.made c.make_in.ensures.bounded) c.make_in.ensures.refused)

pub returns-clause-dated : goal.returns-clause-dated
returns-clause-dated c =
    let d = (goal.at.returns-clause-dated c).After-index_mut in
    let books = c.args.self.now.books.items in
    let place = c.args.place in
    let stamp = c.args.stamp in
    let old = c.index_mut.result.now in
    let new = c.make_in.new.book in
    let is = stands d in
    let lent = bare_lending books c.args.self.now.made.items c.requires.lent in
    let P = λ (b : Book). IsDated stamp (lending_of (set books place b)) in
    on_both c.make_in.result
    (λ (made : new ≡ made_in c.args.site stamp (move_in d) old).
    subst P (sym made) (set_dated c.args.site stamp (move_in d) books place old lent is (c.requires.home old is) c.requires.dated))
    (λ (same : new ≡ old). subst P (sym same) (subst (λ (xs : List Book). IsDated stamp (lending_of xs)) (sym (same_set d)) c.requires.dated))
    c.make_in.ensures.made c.make_in.ensures.refused

pub returns-clause-refused : goal.returns-clause-refused
returns-clause-refused c =
    let d = (goal.at.returns-clause-refused c).After-index_mut in
    let books = c.args.self.now.books.items in
    let made = c.args.self.now.made.items in
    let place = c.args.place in
    let new = c.make_in.new.book in
    let later = c.make_in.new.made.items in
    on_err_weaker c.make_in.result
    (λ (both : (new ≡ c.index_mut.result.now) × (later ≡ made)).
    (λ i. lending_told (set books place (both.0 i)) (both.1 i)) ∙ ap (λ (xs : List Book). lending_told xs made) (same_set d))
    (both_err _ _ c.make_in.result c.make_in.ensures.refused c.make_in.ensures.unlisted)

pub returns-clause-keeps : goal.returns-clause-keeps
returns-clause-keeps c = λ K heaps are.
    let d = (goal.at.returns-clause-keeps c).After-index_mut in
    let books = c.args.self.now.books.items in
    let made = c.args.self.now.made.items in
    let place = c.args.place in
    let old = c.index_mut.result.now in
    let new = c.make_in.new.book in
    let later = c.make_in.new.made.items in
    let is = stands d in
    let lent = bare_lending books made c.requires.lent in
    let P = λ (xs : List Book) (ps : List Placed). (heaps_in xs ≡ K) × AreAmong K ps in
    on_both c.make_in.result
    (λ (both : (new ≡ made_in c.args.site c.args.stamp (move_in d) old) × (later ≡ made ++ told_in c.args.site (move_in d) old ∷ [])).
    let at : heaps_in (set books place new) ≡ K
    = ap (λ (b : Book). heaps_in (set books place b)) both.0 ∙ ap (λ (l : Lending). l.heaps) (set_lent_after c.args.site c.args.stamp (move_in d) books place old lent is (c.requires.home old is)) ∙ heaps in
    let its : old.heaps ≡ K = (lent_each (heaps_in books) books old lent.books (in_place books place old is)).heaps ∙ heaps in
    (at, subst (AreAmong K) (sym both.1) (among_next K made (told_in c.args.site (move_in d) old) are its)))
    (λ (both : (new ≡ old) × (later ≡ made)).
    (ap (λ (b : Book). heaps_in (set books place b)) both.0 ∙ ap heaps_in (same_set d) ∙ heaps, subst (AreAmong K) (sym both.1) are))
    (both_ok _ _ c.make_in.result c.make_in.ensures.made c.make_in.ensures.listed)
    (both_err _ _ c.make_in.result c.make_in.ensures.refused c.make_in.ensures.unlisted)
