use Rattle.std.proofs.Common.{Some, arith, subst, sym, ◌≡◌}
use Rattle.std.proofs.lemmas.Int.{to_z-of_z}
use Rattle.zq_commands.proofs.RanPlans.{ends_shorter}
use Rattle.zq_commands.specs.Commands.{IsRunOver}
use Rattle.zq_commands.specs.Lending.{queues_in}
use Rattle.zq_commands.specs.Running.{EndsOver}
use Rattle.zq_semantics.specs.Plan as plan
use Rattle.zq_semantics.specs.Ranges.{from_zero}
use Rattle.zq_semantics.specs.Run.{ForCopies, cut_pop}
use Rattle.zq_resp.specs.Reply.{reply_bytes}
use Rattle.zq_words.specs.Shown.{shown}
use Rattle.zq_commands.proofs.running.run_kind.Goals as goal

pub returns-in-Zpopnear-clause-ran : goal.returns-in-Zpopnear-clause-ran
returns-in-Zpopnear-clause-ran g c =
    let out = c.of_ran-in-Zpopnear.result in
    subst (λ kind. IsRunOver c.args.call.now.site c.args.call.now.stamp (shown kind) (g.B.Books.lent c.args.books.now) (g.B.Books.lent c.pop-in-Zpopnear.new.books) (reply_bytes (g.O.Outcome.reply out)) (g.O.Outcome.is_short out))
    (sym c.in-Zpopnear.is)
    (ends_shorter c.args.call.now.site c.args.call.now.stamp _ _ _ _ _ c.pop-in-Zpopnear.result.reply _ c.pop-in-Zpopnear.result.is_short _ c.of_ran-in-Zpopnear.ensures.reply c.of_ran-in-Zpopnear.ensures.short c.pop-in-Zpopnear.ensures.ran)

pub returns-in-Zpopmin-clause-ran : goal.returns-in-Zpopmin-clause-ran
returns-in-Zpopmin-clause-ran g c =
    let old = g.B.Books.lent c.args.books.now in
    let new = g.B.Books.lent c.pop.new.books in
    let key = c.in-Zpopmin.key.now in
    let ran = c.pop.result in
    let out = c.of_ran.result in
    let same : c.from_zero-count.result ≡ from_zero c.in-Zpopmin.count = grind (arith, to_z-of_z, c.from_zero-count.ensures.value) in
    subst (λ kind. IsRunOver c.args.call.now.site c.args.call.now.stamp (shown kind) old new (reply_bytes (g.O.Outcome.reply out)) (g.O.Outcome.is_short out)) (sym c.in-Zpopmin.is)
    (ends_shorter c.args.call.now.site c.args.call.now.stamp _ _ _ _ _ ran.reply _ ran.is_short _ c.of_ran.ensures.reply c.of_ran.ensures.short
    (subst (λ n. EndsOver c.args.call.now.site c.args.call.now.stamp ForCopies (plan.pop key n (queues_in old)) (cut_pop (Some (key, n)) (queues_in old)) old new (reply_bytes ran.reply) ran.is_short) same c.pop.ensures.ran))
