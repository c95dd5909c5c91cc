use Rattle.std.proofs.Common.{subst}
use Rattle.zq_drill.proofs.calling.call_once.Goals as goal
use Rattle.zq_drill.specs.SiteHandles.{site_of}
use Rattle.zq_drill.specs.Rounds.{IsAsked}
use Rattle.zq_drill.proofs.Rounds.{on_ok}
use Rattle.zq_resp.specs.Reply.{reply_bytes}

pub returns-clause-called : goal.returns-clause-called
returns-clause-called g c =
    let handle = c.args.handle.now in
    let asked = subst (λ words. IsAsked (site_of handle) words c.args.draw.now (reply_bytes c.in_ok-reply.reply) handle.pass c.ask.new.handle.pass) c.in_ok-request.ensures c.in_ok-reply.ensures.asked in
    on_ok c.check_reply.result (reply_bytes c.in_ok-reply.reply, asked)
