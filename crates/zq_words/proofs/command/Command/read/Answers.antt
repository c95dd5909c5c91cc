use Rattle.std.proofs.Common.{subst, sym}
use Rattle.zq_resp.specs.Request.{IsRequest}
use Rattle.zq_words.specs.Shown.{shown}
use Rattle.zq_words.specs.Words.{views}
use Rattle.zq_words.proofs.CommandLimits.{within_limits}
use Rattle.zq_words.proofs.command.Command.read.Goals as goal

pub invariant_of-result : goal.invariant_of-result
invariant_of-result c =
    let request = subst IsRequest (sym c.words.ensures.words) c.words.ensures.limits in
    within_limits (views c.words.result.now) (shown c.in_ok-kind.kind) request.limits.each request.limits.count c.in_ok-kind.ensures
