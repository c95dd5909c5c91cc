use Rattle.std.proofs.lemmas.Int.{to_z-of_z}
use Rattle.std.specs.Int.{w128}
use Rattle.std.specs.Prelude.{FitsSigned}
use Rattle.zq_posheap.proofs.Listed.{scored_listing}
use Rattle.zq_posheap.proofs.ScoresOf.{score_in_range}
use Rattle.zq_posheap.specs.Members.{scores_of}
use Rattle.zq_queue.proofs.Indexes.{row_got, row_lists, row_rises}
use Rattle.zq_ranked.proofs.Sorted.{none_ranked}
use Rattle.zq_queue.proofs.index.index_of.Goals as goal

pub loop-score-init : goal.loop-score-init
loop-score-init c = rw (c.new-pairs.ensures, c.into_iter-score-iterator.ensures.into_iter_gives) (record {
  lists = scored_listing c.args.members.now.held _ c.iter-score-items.ensures.lists;
  rises = none_ranked.sorted;
})

pub loop-score-preserved : goal.loop-score-preserved
loop-score-preserved c =
    let held = c.args.members.now.held in
    let scores = scores_of held in
    let lists = c.loop-score.invariant.lists in
    let next = c.in-Some.ensures.steps in
    let fits : FitsSigned w128 c.in-Some.score = score_in_range held c.iter-score-items.ensures.in_range c.in-Some.member.now c.in-Some.score (row_got scores c.loop-score.pairs c.loop-score.score-iterator c.next.new.self _ next lists) in
    let same = to_z-of_z w128 c.in-Some.score fits in
    let put = rw same at c.in-Ok.ensures.put in
    let absent = rw same at c.in-Ok.ensures.absent in
    record {
      lists = row_lists scores c.loop-score.pairs c.loop-score.score-iterator c.next.new.self _ next lists c.in-Ok.field-0 c.insert.new.self put absent;
      rises = row_rises scores c.loop-score.pairs c.loop-score.score-iterator c.next.new.self _ next lists c.in-Ok.field-0 c.insert.new.self put absent c.loop-score.invariant.rises;
    }
