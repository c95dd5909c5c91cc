use Rattle.std.proofs.Common.{subst, sym}
use Rattle.zq_shard.specs.Shard.{HoldsImage}
use Rattle.zq_stage.specs.Piece.{Staged}
use Rattle.zq_stage.proofs.stage.Stage.finish.Goals as goal

pub returns-then-self-clause-set : goal.returns-then-self-clause-set
returns-then-self-clause-set c = λ v rows S is all.
    subst (λ (t : Staged). HoldsImage t.held S) (sym c.self.view_is) (c.staging.ensures.ends v rows S c.args.self.held is all)
