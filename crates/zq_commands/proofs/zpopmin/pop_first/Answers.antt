use Rattle.std.proofs.Common.{Err, Some, ap, subst, sym}
use Rattle.zq_commands.proofs.FirstPairs.{copied_there}
use Rattle.zq_commands.proofs.Popped.{popped_none}
use Rattle.zq_commands.specs.Lending.{queues_in}
use Rattle.zq_commands.specs.Running.{EndsOver}
use Rattle.zq_semantics.specs.Plan as plan
use Rattle.zq_semantics.specs.Run.{ForCopies, cut_pop}
use Rattle.zq_resp.specs.Reply.{reply_bytes}
use Rattle.zq_commands.proofs.zpopmin.pop_first.Goals as goal

pub returns-in-Err-clause-ran : goal.returns-in-Err-clause-ran
returns-in-Err-clause-ran g c =
    popped_none c.args.call.now.site c.args.call.now.stamp c.args.key.now (g.B.Books.lent c.args.books.now) (reply_bytes c.of_cut.result.reply) c.in-Err.cut c.of_cut.result.is_short
    (λ e. absurd (c.in-Err.ensures.refused (ap (λ cut. Err cut) e))) c.in-Err.ensures.there c.of_cut.ensures.bytes c.of_cut.ensures.short

pub returns-in-Err-drop_top-clause-ran : goal.returns-in-Err-drop_top-clause-ran
returns-in-Err-drop_top-clause-ran g c =
    let s = g.B.Books.lent c.args.books.now in
    let ran = c.of_cut-in-Err-drop_top.result in
    subst (λ l. EndsOver c.args.call.now.site c.args.call.now.stamp ForCopies (plan.pop c.args.key.now 1 (queues_in s)) (cut_pop (Some (c.args.key.now, 1)) (queues_in s)) s l (reply_bytes ran.reply) ran.is_short)
    (sym c.in-Err-drop_top.ensures.refused)
    (popped_none c.args.call.now.site c.args.call.now.stamp c.args.key.now s (reply_bytes ran.reply) c.in-Err-drop_top.cut ran.is_short
    (λ e. c.in-Err-drop_top.ensures.worn (ap (λ cut. Err cut) e))
    (copied_there (queues_in s c.args.key.now) _ c.in-Ok-Some.pair (ap (λ o. o) c.in-Ok-Some.field-0-is) c.in-Ok-Some.ensures.copied) c.of_cut-in-Err-drop_top.ensures.bytes c.of_cut-in-Err-drop_top.ensures.short)
