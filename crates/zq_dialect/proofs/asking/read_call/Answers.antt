use Rattle.std.proofs.Common.{subst, sym}
use Rattle.zq_dialect.proofs.CallLimits.{found_within}
use Rattle.zq_resp.specs.Request.{IsRequest}
use Rattle.zq_words.specs.Words.{views}
use Rattle.zq_dialect.proofs.asking.read_call.Goals as goal

pub returns-clause-limits : goal.returns-clause-limits
returns-clause-limits c =
    let request = subst IsRequest (sym c.words.ensures.words) c.words.ensures.limits in
    found_within (views c.words.result.now) c.find_call.result request.limits.each request.limits.count c.find_call.ensures
