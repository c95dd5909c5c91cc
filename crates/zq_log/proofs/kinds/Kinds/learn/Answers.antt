use Rattle.std.proofs.Common.{ap, inr, ◌∙◌}
use Rattle.zq_log.specs.Limits.{limited}
use Rattle.zq_log.proofs.kinds.Kinds.learn.Goals as goal

pub returns : goal.returns
returns c =
    inr (
      record { words = c.in_ok-words.words; limiter = c.admit.new.self },
      c.in_ok-words.ensures.items,
      c.admit.ensures.after ∙ ap (limited c.args.now) c.new-limiter.ensures,
      c.in_ok-push.ensures.items,
    )
