use Rattle.zq_model.proofs.TailSets.{new_is_tail, tail_closed, tail_is_new, tail_replayed}
use Rattle.zq_model.proofs.tails.replaying.Goals as goal

pub returns : goal.returns
returns c = record {
  closed = tail_closed;
  image = tail_replayed;
  new = tail_is_new;
  tail = new_is_tail;
}
