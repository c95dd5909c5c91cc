use Rattle.std.proofs.Common.{Some, [], ap, arith, length, map, subst, sym, ◌∙◌, ◌∷◌}
use Rattle.std.proofs.lemmas.List.{length-append, length-map, map-append, take_all}
use Rattle.std.proofs.lemmas.List.Elements.{All-get_or}
use Rattle.std.proofs.lemmas.Option.{slice_get-get_or, slice_get-map}
use Rattle.std.specs.Option.{option_map}
use Rattle.zq_commands.proofs.CutPairs.{writable_more}
use Rattle.zq_commands.proofs.OneByOne.{answers_more, call_homes, home_ran}
use Rattle.zq_commands.specs.Calls.{AnswersAll, procedures}
use Rattle.zq_resp.specs.Reply.{reply_bytes}
use Rattle.zq_semantics.specs.Procedures.{RunsProcedure, procedure}
use Rattle.zq_words.specs.Calls.{IsCallWithinLimits, call_shown}
use Rattle.zq_words.specs.declared.site_call.SiteCall.{SiteCall}
use Rattle.zq_commands.proofs.each.run_each.Goals as goal

pub run_call-reply-requires-clause-lent : goal.run_call-reply-requires-clause-lent
run_call-reply-requires-clause-lent g c = c.loop-asked.invariant.lent

pub run_call-reply-requires-clause-dated : goal.run_call-reply-requires-clause-dated
run_call-reply-requires-clause-dated g c = c.loop-asked.invariant.dated

pub run_call-reply-requires-clause-homes : goal.run_call-reply-requires-clause-homes
run_call-reply-requires-clause-homes g c = call_homes _ _ c.loop-asked.invariant.homes

pub run_call-reply-requires-clause-limits : goal.run_call-reply-requires-clause-limits
run_call-reply-requires-clause-limits g c =
    subst (λ asked. IsCallWithinLimits (call_shown asked)) (sym c.asked-item.is)
    (All-get_or (λ asked. IsCallWithinLimits (call_shown asked)) c.args.calls.now c.loop-asked.asked-index c.asked-item.result c.loop-asked-test.true c.requires.limits)

pub push_reserved-requires : goal.push_reserved-requires
push_reserved-requires g c =
    let inv = c.loop-asked.invariant in
    omega (arith, inv.number, inv.room, c.requires.room, c.loop-asked-test.true)

pub loop-asked-preserved : goal.loop-asked-preserved
loop-asked-preserved g c =
    let inv = c.loop-asked.invariant in
    let calls = c.args.calls.now in
    let i = c.loop-asked.asked-index in
    let ran = c.run_call-reply.ensures in
    let asked = c.asked-item.result in
    let p = λ (x : SiteCall). procedure (call_shown x) in
    let at = slice_get-map p calls i ∙ ap (option_map p) (slice_get-get_or calls i asked c.loop-asked-test.true ∙ ap (λ x. Some x) (sym c.asked-item.is)) in
    record {
      ran = answers_more _ c.args.site c.args.stamp (procedures calls) i (p asked) _ _ _ (map reply_bytes c.args.replies.now.items) (map reply_bytes c.loop-asked.replies.items) _ _
          at inv.ran (subst (λ rule. RunsProcedure rule c.args.site c.args.stamp (p asked) (g.B.Books.lent c.loop-asked.books).books (g.B.Books.lent c.run_call-reply.new.books).books (reply_bytes c.run_call-reply.result)) inv.rule ran.ran)
          (ap (map reply_bytes) c.push_reserved.ensures.items ∙ map-append reply_bytes c.loop-asked.replies.items _);
      rule = ran.rule ∙ inv.rule;
      lent = ran.lent;
      dated = ran.dated;
      keeps = g.met.B.Books.keeps_through _ _ _ inv.keeps ran.keeps;
      homes = λ key member. home_ran c.args.site c.args.stamp (p asked) _ _ _ _ key member ran.told (inv.homes key member);
      number = let one = ap length c.push_reserved.ensures.items in let all = length-append c.loop-asked.replies.items (c.run_call-reply.result ∷ []) in omega (arith, one, all, inv.number);
      room = c.push_reserved.ensures.capacity ∙ inv.room;
      writable = λ are. writable_more c.loop-asked.replies.items c.push_reserved.new.self.items c.run_call-reply.result c.push_reserved.ensures.items ran.writable (inv.writable are);
    }

pub returns-clause-ran : goal.returns-clause-ran
returns-clause-ran g c =
    let ps = procedures c.args.calls.now in
    let number = length-map c.args.calls.now (λ (asked : SiteCall). procedure (call_shown asked)) in
    subst (λ front. AnswersAll (g.B.Books.lent c.args.books.now).rule c.args.site c.args.stamp front (g.B.Books.lent c.args.books.now).books (g.B.Books.lent c.loop-asked.books).books (map reply_bytes c.args.replies.now.items) (map reply_bytes c.loop-asked.replies.items))
    (take_all c.loop-asked.asked-index ps (omega (arith, number, c.loop-asked-test.false))) c.loop-asked.invariant.ran

pub returns-clause-rule : goal.returns-clause-rule
returns-clause-rule g c = c.loop-asked.invariant.rule

pub returns-clause-lent : goal.returns-clause-lent
returns-clause-lent g c = c.loop-asked.invariant.lent

pub returns-clause-dated : goal.returns-clause-dated
returns-clause-dated g c = c.loop-asked.invariant.dated

pub returns-clause-keeps : goal.returns-clause-keeps
returns-clause-keeps g c = c.loop-asked.invariant.keeps
