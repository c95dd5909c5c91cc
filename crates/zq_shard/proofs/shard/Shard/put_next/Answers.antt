use Rattle.std.proofs.Common.{ap, refl, subst, sym, ◌+◌, ◌∙◌, ◌≡◌}
use Rattle.std.specs.Prelude.{slice_index}
use Rattle.zq_dots.specs.Act.{act_of}
use Rattle.zq_dots.specs.Placed.{IsRanged, Placed}
use Rattle.zq_model.specs.Bounded.{IsBounded}
use Rattle.zq_model.specs.Image.{image_after}
use Rattle.zq_shard.proofs.Nexts.{made_bounded, made_has_room, made_image}
use Rattle.zq_shard.proofs.Outcomes.{either, err_map₂, ok_map, ok_map₂}
use Rattle.zq_shard.proofs.SetSteps.{made_holds}
use Rattle.zq_shard.specs.Shard.{HeapImage, IsHeapImage, IsOfHeap, next_operation}
use Rattle.zq_shard.specs.ShardView.{heap_image_of}
use Rattle.zq_shard.proofs.shard.Shard.put_next.Goals as goal
use Rattle.zq_shard.proofs.shard.Shard.put_next.Goals.{After-self}

abbrev made : After-self → HeapImage → Placed
made c s = next_operation s c.args.dot.site c.args.key.now c.args.member.now (act_of c.args.act)

is_next : (c : After-self) → c.args.dot.n ≡ slice_index c.self.inside.vector c.args.dot.site + 1
is_next c = c.requires.next ∙ ap (λ (s : HeapImage). slice_index s.image.vector c.args.dot.site + 1) (sym c.self.view_is)

sound : (c : After-self) → IsRanged (made c (heap_image_of c.self.inside))
sound c = subst (λ s. IsRanged (made c s)) (sym c.self.view_is) c.requires.sound

here : (c : After-self) → IsOfHeap (heap_image_of c.self.inside) (made c (heap_image_of c.self.inside))
here c = subst (λ s. IsOfHeap s (made c s)) (sym c.self.view_is) c.requires.placed

pub put-requires-clause-room : goal.put-requires-clause-room
put-requires-clause-room c = λ bump.
    let d = (goal.at.put-requires-clause-room c).After-self in
    made_has_room (heap_image_of c.self.inside) c.args.dot.site c.args.dot.n c.args.key.now c.args.member.now (act_of c.args.act) (is_next d) c.self.invariant (sound d)

pub invariant_of-self : goal.invariant_of-self
invariant_of-self c =
    let d = (goal.at.invariant_of-self c).After-self in
    let s : HeapImage = heap_image_of c.self.inside in
    either {Q = (c.put.new.vector ≡ c.self.inside.vector) × (c.put.new.queues ≡ c.self.inside.queues)} c.put.result
    (ok_map₂ c.put.result c.put.ensures.vector c.put.ensures.members (made_image s c.args.dot.site c.args.dot.n c.args.key.now c.args.member.now (act_of c.args.act) (is_next d) c.put.new.vector c.put.new.queues.members))
    (err_map₂ c.put.result c.put.ensures.same_vector c.put.ensures.same_queues (λ v q. (v, q)))
    (λ is. record {
      heaps = c.self.invariant.heaps;
      heap = c.self.invariant.heap;
      bounded = subst (IsBounded c.self.inside.heaps c.self.inside.heap) (sym is)
          (made_bounded s c.args.dot.site c.args.dot.n c.args.key.now c.args.member.now (act_of c.args.act) (is_next d) c.self.invariant (sound d) (here d));
    })
    (λ same. subst IsHeapImage (λ i. heap_image_of (record { heap = c.self.inside.heap; heaps = c.self.inside.heaps; vector = (sym same.0) i; queues = (sym same.1) i })) c.self.invariant)

pub returns-clause-taken : goal.returns-clause-taken
returns-clause-taken c =
    let d = (goal.at.returns-clause-taken c).After-self in
    ok_map₂ c.put.result c.put.ensures.vector c.put.ensures.members (λ v m.
    made_image (heap_image_of c.self.inside) c.args.dot.site c.args.dot.n c.args.key.now c.args.member.now (act_of c.args.act) (is_next d) c.put.new.vector c.put.new.queues.members v m
    ∙ ap (λ (s : HeapImage). image_after (made d s).operation s.image) c.self.view_is)

pub returns-clause-set : goal.returns-clause-set
returns-clause-set c =
    ok_map c.put.result (returns-clause-taken c) (λ taken. λ S holds.
    made_holds c.args.self.now (heap_image_of (record { heap = c.self.inside.heap; heaps = c.self.inside.heaps; vector = c.put.new.vector; queues = c.put.new.queues }))
    (next_operation c.args.self.now c.args.dot.site c.args.key.now c.args.member.now (act_of c.args.act)) S c.requires.sound c.requires.placed refl
    (ap (λ (s : HeapImage). s.heap) c.self.view_is) (ap (λ (s : HeapImage). s.heaps) c.self.view_is) taken holds)
