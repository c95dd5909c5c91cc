use Rattle.std.proofs.Common.{sym, ap, ◌∙◌}
use Rattle.zq_resp.specs.Grammar.{request_at}
use Rattle.zq_resp.proofs.Spelled.{request_again}
use Rattle.zq_resp.proofs.Stable.{got_stays, wrong_stays}
use Rattle.zq_resp.proofs.laws.more_bytes_change_nothing.Goals as goal

pub returns-clause-found : goal.returns-clause-found
returns-clause-found c = got_stays

pub returns-clause-wrong : goal.returns-clause-wrong
returns-clause-wrong c = wrong_stays

pub returns-clause-none : goal.returns-clause-none
returns-clause-none c = λ bytes more text rest words why wrong is same.
    let both = sym (wrong_stays bytes more why wrong) ∙ (ap request_at same ∙ request_again text rest words is) in
    absurd cc
