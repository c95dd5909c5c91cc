use Rattle.zq_semantics.specs.Procedures.{procedure}
use Rattle.zq_session.proofs.FurtherAnswers.{one_came}
use Rattle.zq_words.specs.Calls.{call_shown}
use Rattle.zq_session.proofs.site_pass.SitePass.ask.Goals as goal

pub only-requires : goal.only-requires
only-requires g c =
    one_came c.args.self.now.site.now (procedure (call_shown c.args.asked)) c.new-replies.result.items c.call_each.new.replies.items c.args.self.now.pass c.call_each.new.pass
    c.new-replies.ensures.items c.in-Ok.ensures.called
