use Rattle.std.proofs.Common.{None, Some, ap, refl, subst, sym, ◌∙◌, ◌≡◌}
use Rattle.std.specs.Option.{option_map}
use Rattle.zq_commands.proofs.PoppedParts.{null_array_bytes}
use Rattle.zq_commands.specs.Lending.{queues_in}
use Rattle.zq_commands.specs.Running.{EndsOver, whole}
use Rattle.zq_resp.specs.Reply.{reply_bytes}
use Rattle.zq_semantics.specs.Procedures.{leftmost, popping_from}
use Rattle.zq_semantics.specs.Run.{ForCopies, cut_error}
use Rattle.zq_words.specs.Words.{views}
use Rattle.zq_commands.proofs.pop_leftmost.pop_leftmost.Goals as goal

pub returns-in-Some-clause-ran : goal.returns-in-Some-clause-ran
returns-in-Some-clause-ran g c =
    let old = g.B.Books.lent c.args.books.now in
    let first : leftmost (views c.args.keys.now) (queues_in old) ≡ Some c.in-Some.key.now = sym c.leftmost.ensures.first ∙ ap (option_map (λ k. k.now)) c.in-Some.is in
    subst (λ o. EndsOver c.args.call.now.site c.args.call.now.stamp ForCopies (popping_from c.args.is_turned o (queues_in old)) (λ k. cut_error k) old (g.B.Books.lent c.pop_end.new.books) (reply_bytes (g.O.Outcome.reply c.pop_end.result)) (g.O.Outcome.is_short c.pop_end.result))
    (sym first) c.pop_end.ensures.ran

pub returns-in-None-clause-ran : goal.returns-in-None-clause-ran
returns-in-None-clause-ran g c =
    let old = g.B.Books.lent c.args.books.now in
    let first : leftmost (views c.args.keys.now) (queues_in old) ≡ None = sym c.leftmost.ensures.first ∙ ap (option_map (λ k. k.now)) c.in-None.is in
    subst (λ o. EndsOver c.args.call.now.site c.args.call.now.stamp ForCopies (popping_from c.args.is_turned o (queues_in old)) (λ k. cut_error k) old old (reply_bytes (g.O.Outcome.reply c.of_reply.result)) (g.O.Outcome.is_short c.of_reply.result))
    (sym first) (whole refl (ap reply_bytes c.of_reply.ensures ∙ null_array_bytes))

pub returns-in-None-clause-keeps : goal.returns-in-None-clause-keeps
returns-in-None-clause-keeps g c = g.met.B.Books.keeps_itself _
