use Rattle.std.proofs.Common.{arith, subst, sym, ◌<◌, ◌≡◌}
use Rattle.std.proofs.lemmas.Result.{IfOk-weaker, on_ok_weaker}
use Rattle.zq_commands.proofs.AtPlace.{has_book, home_kept, queues_moved}
use Rattle.zq_commands.proofs.OnOk.{on_both}
use Rattle.zq_commands.proofs.Stood.{stood_in}
use Rattle.zq_commands.specs.Lending.{HasBook, lent_after}
use Rattle.zq_dots.specs.Act.{act_of}
use Rattle.zq_model.specs.Sets.{SITES}
use Rattle.zq_model.specs.Moves.{Move}
use Rattle.zq_commands.proofs.making.make_at.Goals as goal

pub returns-clause-queues : goal.returns-clause-queues
returns-clause-queues g c =
    let move : Move = record { key = c.args.key.now; member = c.args.member.now; act = act_of c.args.act } in
    let below : c.args.call.now.site < SITES = omega (arith, c.value-number.ensures.same, c.value-number.ensures.below) in
    on_ok_weaker c.make.result (queues_moved c.args.call.now.site c.args.call.now.stamp move (g.B.Books.lent c.args.books.now) (g.B.Books.lent c.make.new.self) below c.requires.lent (has_book c.args.key.now c.args.member.now c.args.place (g.B.Books.lent c.args.books.now) c.requires.home)) c.make.ensures.made

pub returns-clause-stood : goal.returns-clause-stood
returns-clause-stood g c =
    let lent = g.B.Books.lent c.args.books.now in
    IfOk-weaker c.make.result _ _ (λ stood is. stood_in lent c.args.key.now c.args.member.now c.args.place stood c.requires.lent c.requires.home is) c.make.ensures.stood

pub returns-clause-homes : goal.returns-clause-homes
returns-clause-homes g c = λ key member home.
    let move : Move = record { key = c.args.key.now; member = c.args.member.now; act = act_of c.args.act } in
    let old = g.B.Books.lent c.args.books.now in
    let new = g.B.Books.lent c.make.new.self in
    on_both c.make.result
    (λ (is : new ≡ lent_after c.args.call.now.site c.args.call.now.stamp move old). subst (HasBook key member) (sym is) (home_kept c.args.call.now.site c.args.call.now.stamp move key member old home))
    (λ (same : new ≡ old). subst (HasBook key member) (sym same) home)
    c.make.ensures.made c.make.ensures.refused
