use Rattle.std.proofs.Common.{◌+◌}
use Rattle.zq_keeper.proofs.pieces.go_on.Goals as goal

pub returns : goal.returns
returns c = record {
  goes_on = record {
    later = c.requires;
    same_life = c.in_ok-judge_next.ensures.life;
    is_next = c.in_ok-judge_next.ensures.number;
    few = c.in_ok-judge_next.ensures.few;
    vector = c.in_ok-judge_next.ensures.vector;
    outline = λ k. record {
      vector = c.args.outline.now.vector;
      life = c.args.outline.now.life;
      next = c.args.piece.now.number + 1;
      whole = c.is_over-outline.ensures k;
    };
  };
}
