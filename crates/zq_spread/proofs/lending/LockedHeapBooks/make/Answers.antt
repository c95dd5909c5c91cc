use Rattle.std.proofs.Common.{[], ap, arith, inl, refl, subst, sym, ◌∙◌, ◌∷◌, ◌≡◌}
use Rattle.std.proofs.lemmas.Result.{on_ok_weaker}
use Rattle.zq_commands.proofs.OnOk.{both_ok, on_both}
use Rattle.zq_commands.specs.Lending.{IsDated, IsLending}
use Rattle.zq_commands.specs.VecBooks.{lending_of}
use Rattle.zq_dots.specs.Act.{act_of}
use Rattle.zq_model.specs.Books.{Book}
use Rattle.zq_model.specs.Bounded.{IsBounded}
use Rattle.zq_model.specs.Lent.{made_in}
use Rattle.zq_model.specs.Moves.{Move}
use Rattle.zq_spread.proofs.Alone.{dated, lends, lent_made, only_place, why_worn, worn_why}
use Rattle.zq_spread.proofs.lending.LockedHeapBooks.make.Goals as goal

pub make_in-requires-clause-home : goal.make_in-requires-clause-home
make_in-requires-clause-home c = c.requires.home c.args.self.now.book (only_place _ c.args.self.now.book c.requires.inside)

pub make_in-requires-clause-stamp : goal.make_in-requires-clause-stamp
make_in-requires-clause-stamp c = c.requires.dated.1 c.args.self.now.book (inl refl)

pub returns-clause-made : goal.returns-clause-made
returns-clause-made c =
    let old : Book = c.args.self.now.book in
    let move : Move = record { key = c.args.key.now; member = c.args.member.now; act = act_of c.args.act } in
    let home = c.requires.home old (only_place _ old c.requires.inside) in
    on_ok_weaker c.make_in.result (λ made. ap (λ (b : Book). lending_of (b ∷ [])) made ∙ lent_made c.args.site c.args.stamp move old home) c.make_in.ensures.made

pub returns-clause-worn : goal.returns-clause-worn
returns-clause-worn c = λ fault.
    let old : Book = c.args.self.now.book in
    let move : Move = record { key = c.args.key.now; member = c.args.member.now; act = act_of c.args.act } in
    let home = c.requires.home old (only_place _ old c.requires.inside) in
    worn_why c.args.site move old home (c.make_in.ensures.worn.0 fault)

pub returns-clause-memory : goal.returns-clause-memory
returns-clause-memory c = λ fault why.
    let old : Book = c.args.self.now.book in
    let move : Move = record { key = c.args.key.now; member = c.args.member.now; act = act_of c.args.act } in
    let home = c.requires.home old (only_place _ old c.requires.inside) in
    let other = c.make_in.ensures.worn.1 (why_worn c.args.site move old home why) in
    absurd (cc)

pub returns-clause-lent : goal.returns-clause-lent
returns-clause-lent c =
    let old : Book = c.args.self.now.book in
    let new : Book = c.make_in.new.book in
    let move : Move = record { key = c.args.key.now; member = c.args.member.now; act = act_of c.args.act } in
    let made : Book = made_in c.args.site c.args.stamp move old in
    let P = λ (b : Book). IsLending (lending_of (b ∷ [])) in
    on_both c.make_in.result
    (λ (both : (new ≡ made) × IsBounded new.heaps new.heap new.state).
    let bounded : IsBounded old.heaps old.heap made.state = subst (λ (b : Book). IsBounded b.heaps b.heap b.state) both.0 both.1 in
    subst P (sym both.0) (lends made bounded))
    (λ (same : new ≡ old). subst P (sym same) c.requires.lent)
    (both_ok (new ≡ made) (IsBounded new.heaps new.heap new.state) c.make_in.result c.make_in.ensures.made c.make_in.ensures.bounded) c.make_in.ensures.refused

pub returns-clause-dated : goal.returns-clause-dated
returns-clause-dated c =
    let old : Book = c.args.self.now.book in
    let new : Book = c.make_in.new.book in
    let move : Move = record { key = c.args.key.now; member = c.args.member.now; act = act_of c.args.act } in
    let P = λ (b : Book). IsDated c.args.stamp (lending_of (b ∷ [])) in
    on_both c.make_in.result
    (λ (made : new ≡ made_in c.args.site c.args.stamp move old).
    subst P (sym made) (dated c.args.stamp (made_in c.args.site c.args.stamp move old) c.requires.dated.0 (omega arith)))
    (λ (same : new ≡ old). subst P (sym same) c.requires.dated)
    c.make_in.ensures.made c.make_in.ensures.refused

pub returns-clause-keeps : goal.returns-clause-keeps
returns-clause-keeps c = (refl, c.make_in.ensures.recorded)
