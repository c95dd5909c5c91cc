use Rattle.std.proofs.Common.{ap, ap₂, rules, subst, sym, tests, ◌∙◌, ◌≡◌}
use Rattle.zq_model.proofs.BoundedImages.{bounded_join}
use Rattle.zq_model.specs.Bounded.{IsBounded}
use Rattle.zq_model.specs.Image.{join}
use Rattle.zq_shard.proofs.SetSteps.{merged_holds}
use Rattle.zq_shard.specs.Shard.{HeapImage, IsSameHeap}
use Rattle.zq_shard.specs.ShardView.{heap_image_of}
use Rattle.zq_shard.proofs.shard.Shard.merge.Goals as goal
use Rattle.zq_shard.proofs.shard.Shard.merge.Goals.{After-join_with}

-- the join of the two
image_is : (c : After-join_with) → record { vector = c.join_with.new.self; members = c.in_ok-queues.queues.members } ≡ join (heap_image_of c.self.inside).image (heap_image_of c.other.inside).image
image_is c = λ i. record { vector = c.join_with.ensures i; members = c.in_ok-queues.ensures.joined i }

one_heap : (c : After-join_with) → IsSameHeap c.args.self.now c.args.other.now
one_heap c =
    let heap : c.self.inside.heap ≡ c.other.inside.heap = search (rules, tests) in
    let heaps : c.self.inside.heaps ≡ c.other.inside.heaps = search (rules, tests) in
    record {
      heap = sym (ap (λ (s : HeapImage). s.heap) c.self.view_is) ∙ heap ∙ ap (λ (s : HeapImage). s.heap) c.other.view_is;
      heaps = sym (ap (λ (s : HeapImage). s.heaps) c.self.view_is) ∙ heaps ∙ ap (λ (s : HeapImage). s.heaps) c.other.view_is;
    }

pub invariant_of-self : goal.invariant_of-self
invariant_of-self c =
    let d = (goal.at.invariant_of-self c).After-join_with in
    let heap : c.self.inside.heap ≡ c.other.inside.heap = search (rules, tests) in
    let heaps : c.self.inside.heaps ≡ c.other.inside.heaps = search (rules, tests) in
    let theirs : IsBounded c.self.inside.heaps c.self.inside.heap (heap_image_of c.other.inside).image
    = subst (λ K. IsBounded K c.self.inside.heap (heap_image_of c.other.inside).image) (sym heaps)
    (subst (λ h. IsBounded c.other.inside.heaps h (heap_image_of c.other.inside).image) (sym heap) c.other.invariant.bounded) in
    record {
      heaps = c.self.invariant.heaps;
      heap = c.self.invariant.heap;
      bounded =
          subst (IsBounded c.self.inside.heaps c.self.inside.heap) (sym (image_is d))
          (bounded_join c.self.inside.heaps c.self.inside.heap (heap_image_of c.self.inside).image (heap_image_of c.other.inside).image c.self.invariant.bounded theirs);
    }

pub returns-clause-joined : goal.returns-clause-joined
returns-clause-joined c =
    image_is (goal.at.returns-clause-joined c).After-join_with
    ∙ ap₂ (λ (s t : HeapImage). join s.image t.image) c.self.view_is c.other.view_is

pub returns-clause-set : goal.returns-clause-set
returns-clause-set c = λ S T first second world.
    let d = (goal.at.returns-clause-set c).After-join_with in
    merged_holds c.args.self.now c.args.other.now _ S T (one_heap d) (ap (λ (s : HeapImage). s.heap) c.self.view_is) (ap (λ (s : HeapImage). s.heaps) c.self.view_is)
    (image_is d ∙ ap₂ (λ (s t : HeapImage). join s.image t.image) c.self.view_is c.other.view_is) first second world
