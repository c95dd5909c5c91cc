use Rattle.std.proofs.Common.{ap, arith, length, ◌≤◌, ◌∙◌}
use Rattle.std.proofs.lemmas.List.{take_all}
use Rattle.zq_model.specs.Books.{replayed}
use Rattle.zq_journal.proofs.Replaying.{image_here, new_here, own_here, rest_here}
use Rattle.zq_journal.proofs.Wholes.{length_over}
use Rattle.zq_journal.specs.Records.{records_in, written_in}
use Rattle.zq_journal.proofs.audit.replay.Goals as goal

pub put_in-requires-clause-own : goal.put_in-requires-clause-own
put_in-requires-clause-own c =
    own_here c.args.shard.now c.loop-place.shard c.args.tail.now.items c.loop-place.place c.index.result.now (omega arith) c.index.ensures c.loop-place.invariant.heap
    c.loop-place.invariant.heaps c.loop-place.invariant.image c.loop-place.invariant.rest c.requires.each

pub put_in-requires-clause-new : goal.put_in-requires-clause-new
put_in-requires-clause-new c =
    new_here c.args.shard.now c.loop-place.shard c.args.tail.now.items c.loop-place.place c.index.result.now (omega arith) c.index.ensures c.loop-place.invariant.heap
    c.loop-place.invariant.heaps c.loop-place.invariant.image c.loop-place.invariant.rest c.requires.over

pub loop-place-preserved : goal.loop-place-preserved
loop-place-preserved c = record {
  heap = c.in_ok-put_in.ensures.heap ∙ c.loop-place.invariant.heap;
  heaps = c.in_ok-put_in.ensures.heaps ∙ c.loop-place.invariant.heaps;
  rule = c.in_ok-put_in.ensures.rule ∙ c.loop-place.invariant.rule;
  image =
      image_here c.args.shard.now c.loop-place.shard c.args.tail.now.items c.loop-place.place c.index.result.now (omega arith) c.index.ensures c.loop-place.invariant.heap
      c.loop-place.invariant.heaps c.loop-place.invariant.image c.loop-place.invariant.rest c.put_in.new.shard c.in_ok-put_in.ensures.image;
  rest =
      rest_here c.args.shard.now c.loop-place.shard c.args.tail.now.items c.loop-place.place c.index.result.now (omega arith) c.index.ensures c.loop-place.invariant.heap
      c.loop-place.invariant.heaps c.loop-place.invariant.image c.loop-place.invariant.rest c.put_in.new.shard c.in_ok-put_in.ensures.image;
}

pub returns-clause-image : goal.returns-clause-image
returns-clause-image c =
    let long : length (records_in c.args.shard.now c.args.shard.now.image.vector c.args.tail.now.items) ≤ c.loop-place.place =
    omega (arith, c.loop-place-test.false, length_over c.args.shard.now.heap c.args.shard.now.heaps c.args.shard.now.image.vector c.args.tail.now.items) in
    c.loop-place.invariant.image
    ∙ ap (λ rs. replayed (written_in rs) c.args.shard.now.image) (take_all c.loop-place.place (records_in c.args.shard.now c.args.shard.now.image.vector c.args.tail.now.items) long)
