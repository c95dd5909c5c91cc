use Rattle.std.proofs.Common.{List, ap, false, refl, rules, subst, sym, ◌∙◌, ◌≡◌}
use Rattle.zq_model.specs.Books.{Book}
use Rattle.zq_resp.specs.Reply.{reply_bytes}
use Rattle.zq_session.proofs.PlainBooks.{begun_ruled, run_command, worn_command}
use Rattle.zq_session.specs.Plain.{RunsCommand, is_ping, pings}
use Rattle.zq_words.specs.Command.{Command}
use Rattle.zq_words.specs.Shown.{shown}
use Rattle.zq_session.proofs.plain.Plain.run.Goals as goal

pub returns-in-Ping-clause-ran : goal.returns-in-Ping-clause-ran
returns-in-Ping-clause-ran c = pings _ (sym c.kind.ensures.kind ∙ ap shown c.in-Ping.is) refl c.message_reply.ensures.read

pub returns-clause-ran : goal.returns-clause-ran
returns-clause-ran c =
    let plain : is_ping (shown c.kind.result.now) ≡ false = search rules in
    let apart = subst (λ (command : Command). is_ping command ≡ false) c.kind.ensures.kind plain in
    let bytes = reply_bytes c.run.result in
    subst (λ (old : List Book). RunsCommand old c.args.command.now c.run.new.self bytes) c.self.view_is
    (run_command c.self.inside.books c.args.command.now apart c.self.invariant c.in-Some.stamp c.site.result c.in-Some.ensures.next c.site.ensures c.begin.new.self c.run.new.self bytes
    c.begin.ensures.begun c.run.ensures.ran)

pub returns-in-None-clause-ran : goal.returns-in-None-clause-ran
returns-in-None-clause-ran c =
    let plain : is_ping (shown c.kind.result.now) ≡ false = search rules in
    let apart = subst (λ (command : Command). is_ping command ≡ false) c.kind.ensures.kind plain in
    let bytes = reply_bytes c.cut_reply.result in
    subst (λ (old : List Book). RunsCommand old c.args.command.now old bytes) c.self.view_is
    (worn_command c.self.inside.books c.args.command.now apart c.stamp-last.result c.stamp-last.ensures.dated (c.in-None.ensures.worn refl) bytes c.cut_reply.ensures.bytes)

pub invariant_of-self : goal.invariant_of-self
invariant_of-self c = c.run.ensures.rule ∙ begun_ruled c.in-Some.stamp c.self.inside.books c.begin.new.self c.self.invariant c.begin.ensures.begun
