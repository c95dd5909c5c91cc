use Rattle.std.proofs.Common.{Err, ap, subst, sym, ◌∙◌}
use Rattle.zq_commands.proofs.Ended.{ends_kept, ends_popped}
use Rattle.zq_commands.specs.Lending.{IsHomeAt, queues_in}
use Rattle.zq_commands.specs.Running.{EndsOver}
use Rattle.zq_resp.specs.Reply.{reply_bytes}
use Rattle.zq_semantics.specs.Procedures.{popping_from}
use Rattle.zq_semantics.specs.Run.{ForCopies, cut_error}
use Rattle.zq_words.specs.Limits.{IsShort}
use Rattle.std.specs.Prelude.{Some}
use Rattle.zq_commands.proofs.pop_leftmost.drop_end.Goals as goal

pub make_at-made-requires-clause-home : goal.make_at-made-requires-clause-home
make_at-made-requires-clause-home g c = subst (λ m. IsHomeAt c.args.key.now m c.args.end.place (g.B.Books.lent c.args.books.now)) (sym c.deref.ensures.value) c.requires.home

pub make_at-made-requires-clause-member : goal.make_at-made-requires-clause-member
make_at-made-requires-clause-member g c = subst IsShort (sym c.deref.ensures.value) c.requires.member

pub returns-in-Ok-clause-ran : goal.returns-in-Ok-clause-ran
returns-in-Ok-clause-ran g c = λ t is.
    ends_popped c.args.call.now.site c.args.call.now.stamp t (g.B.Books.lent c.args.books.now) c.args.key.now c.deref.result.now is.0 is.1 (c.deref.ensures.value ∙ is.2.member)
    (g.B.Books.lent c.make_at-made.new.books) (reply_bytes (g.O.Outcome.reply c.of_reply.result)) _ (g.O.Outcome.is_short c.of_reply.result) c.in-Ok.ensures.made is.2.parts (ap reply_bytes c.of_reply.ensures ∙ c.array_reply.ensures.bytes)

pub returns-in-Err-clause-ran : goal.returns-in-Err-clause-ran
returns-in-Err-clause-ran g c = λ t is.
    let old = g.B.Books.lent c.args.books.now in
    subst (λ l. EndsOver c.args.call.now.site c.args.call.now.stamp ForCopies (popping_from t (Some c.args.key.now) (queues_in old)) (λ k. cut_error k) old l (reply_bytes (g.O.Outcome.reply c.of_cut.result)) (g.O.Outcome.is_short c.of_cut.result))
    (sym c.in-Err.ensures.refused)
    (ends_kept c.args.call.now.site c.args.call.now.stamp t old c.args.key.now c.deref.result.now is.0 is.1 (c.deref.ensures.value ∙ is.2.member) c.in-Err.cut _ _
    (λ e. c.in-Err.ensures.worn (ap (λ cut. Err cut) e)) c.of_cut.ensures.bytes c.of_cut.ensures.short)
