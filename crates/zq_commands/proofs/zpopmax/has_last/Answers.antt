use Rattle.std.proofs.Common.{ap, arith, sym, ◌∙◌, ◌≡◌}
use Rattle.zq_commands.proofs.Ended.{last_there}
use Rattle.zq_commands.specs.Lending.{queues_in}
use Rattle.zq_semantics.specs.Plan.{is_there}
use Rattle.zq_semantics.specs.Procedures.{last_pairs}
use Rattle.zq_commands.proofs.zpopmax.has_last.Goals as goal

pub returns-then-count-eq0 : goal.returns-then-count-eq0
returns-then-count-eq0 g c =
    let none : 0 ≡ c.args.count = omega (arith, c.if-count-eq0.true) in
    ap (λ n. is_there (last_pairs n (queues_in (g.B.Books.lent c.args.books.now) c.args.key.now))) none

pub returns : goal.returns
returns g c = c.has_members.ensures ∙ sym (last_there c.args.count (queues_in (g.B.Books.lent c.args.books.now) c.args.key.now) (omega arith))
