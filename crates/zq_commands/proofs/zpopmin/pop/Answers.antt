use Rattle.std.proofs.Common.{Err, Ok, Some, ap, arith, map, rules, subst, sym, ◌∙◌, ◌≡◌}
use Rattle.zq_commands.proofs.Popped.{popped_cut, popped_next, popped_out}
use Rattle.zq_commands.specs.Arrays.{array_bytes}
use Rattle.zq_commands.specs.Lending.{queues_in}
use Rattle.zq_commands.specs.Running.{EndsOver}
use Rattle.zq_semantics.specs.Plan as plan
use Rattle.zq_semantics.specs.Run.{ForCopies, cut_pop}
use Rattle.zq_resp.specs.Reply.{reply_bytes}
use Rattle.zq_commands.proofs.zpopmin.pop.Goals as goal

pub loop-done-preserved : goal.loop-done-preserved
loop-done-preserved g c =
    let popped = c.in-Ok-true.ensures.popped (ap (λ b. Ok b) c.in-Ok-true.field-0-test) in
    record {
      popped = popped_next c.args.call.now.site c.args.call.now.stamp c.args.key.now (g.B.Books.lent c.args.books.now) (g.B.Books.lent c.loop-done.books) (g.B.Books.lent c.pop_one.new.books) c.loop-done.done
          (map reply_bytes c.loop-done.parts.items) (map reply_bytes c.pop_one.new.parts.items) c.loop-done.invariant.popped popped;
      most = omega (arith, c.loop-done-test.true);
      lent = c.in-Ok-true.ensures.lent;
      dated = c.in-Ok-true.ensures.dated;
      keeps = g.met.B.Books.keeps_through _ _ _ c.loop-done.invariant.keeps c.in-Ok-true.ensures.keeps;
      writable = c.in-Ok-true.ensures.writable c.loop-done.invariant.writable;
    }

pub returns-in-Ok-false-clause-ran : goal.returns-in-Ok-false-clause-ran
returns-in-Ok-false-clause-ran g c =
    let none = ap (λ b. Ok b) c.in-Ok-false.field-0-test in
    let s = g.B.Books.lent c.args.books.now in
    subst (λ l. EndsOver c.args.call.now.site c.args.call.now.stamp ForCopies (plan.pop c.args.key.now c.args.count (queues_in s)) (cut_pop (Some (c.args.key.now, c.args.count)) (queues_in s)) s l (reply_bytes c.whole.result.reply) c.whole.result.is_short)
    (sym (c.in-Ok-false.ensures.idle none))
    (popped_out c.args.call.now.site c.args.call.now.stamp c.args.key.now c.args.count s (g.B.Books.lent c.loop-done.books) c.loop-done.done (map reply_bytes c.loop-done.parts.items) c.loop-done.invariant.popped (reply_bytes c.whole.result.reply) c.whole.result.is_short
    c.loop-done.invariant.most (c.in-Ok-false.ensures.empty none)
    (c.whole.ensures.bytes ∙ ap (λ ps. array_bytes (map reply_bytes ps)) (c.in-Ok-false.ensures.same none)))

pub returns-in-Err-clause-ran : goal.returns-in-Err-clause-ran
returns-in-Err-clause-ran g c =
    let s = g.B.Books.lent c.args.books.now in
    subst (λ l. EndsOver c.args.call.now.site c.args.call.now.stamp ForCopies (plan.pop c.args.key.now c.args.count (queues_in s)) (cut_pop (Some (c.args.key.now, c.args.count)) (queues_in s)) s l (reply_bytes c.cut_pop_reply.result) c.is_memory.result)
    (sym c.in-Err.ensures.refused)
    (popped_cut c.args.call.now.site c.args.call.now.stamp c.args.key.now c.args.count s (g.B.Books.lent c.loop-done.books) c.loop-done.done (map reply_bytes c.loop-done.parts.items) c.loop-done.invariant.popped (reply_bytes c.cut_pop_reply.result)
    c.in-Err.cut c.is_memory.result (omega (arith, c.loop-done-test.true)) (λ e. c.in-Err.ensures.worn (ap (λ cut. Err cut) e)) c.in-Err.ensures.there
    (λ some. c.cut_pop_reply.ensures.some some ∙ ap (λ ps. array_bytes (map reply_bytes ps)) c.in-Err.ensures.kept) c.cut_pop_reply.ensures.none c.is_memory.ensures)

pub returns-then-count-eq1-clause-ran : goal.returns-then-count-eq1-clause-ran
returns-then-count-eq1-clause-ran g c =
    let s = g.B.Books.lent c.args.books.now in
    let one : c.args.count ≡ 1 = search rules in
    subst (λ n. EndsOver c.args.call.now.site c.args.call.now.stamp ForCopies (plan.pop c.args.key.now n (queues_in s)) (cut_pop (Some (c.args.key.now, n)) (queues_in s)) s (g.B.Books.lent c.pop_first.new.books) (reply_bytes c.pop_first.result.reply) c.pop_first.result.is_short)
    (sym one) c.pop_first.ensures.ran
