use Rattle.std.proofs.Common.{sym, ◌∙◌}
use Rattle.zq_model.proofs.CatchingUp.{peer_catches_up}
use Rattle.zq_model.proofs.JoinImages.{join-union}
use Rattle.zq_model.proofs.TailSets.{tail_closed}
use Rattle.zq_model.proofs.Worlds.{world_left, world_swapped}
use Rattle.zq_model.specs.Tail.{tail_set}
use Rattle.zq_model.proofs.tails.catching_up.Goals as goal

pub returns : goal.returns
returns c = record {
  new = λ K h S T tail world first second tailed all. (peer_catches_up K h S T tail world first second tailed all).0;
  union = λ K h S T tail world first second tailed all. (peer_catches_up K h S T tail world first second tailed all).1;
  joins = λ K h S T tail world first second tailed all.
      (peer_catches_up K h S T tail world first second tailed all).1
      ∙ sym (join-union K T (tail_set S tail) h (world_swapped K (tail_set S tail) T world) second
      (tail_closed K h S tail (world_left K (tail_set S tail) T world) first tailed));
}
