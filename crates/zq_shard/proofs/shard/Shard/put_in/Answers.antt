use Rattle.std.proofs.Common.{ap, ap₂, length, rules, subst, sym, ◌+◌, ◌<◌, ◌∙◌, ◌≡◌, ◌≤◌}
use Rattle.std.specs.Prelude.{slice_index, slice_set}
use Rattle.zq_dots.specs.Placed.{IsRanged, LONGEST}
use Rattle.zq_model.specs.Bounded.{IsBounded}
use Rattle.zq_model.specs.Image.{entry_after, entry_at, image_after, put_entry}
use Rattle.zq_model.specs.Operation.{IsAct}
use Rattle.zq_model.specs.Sets.{IsCounters, LAST, New, SITES, taken_of}
use Rattle.zq_shard.proofs.BoundedSteps.{is_ranged, new_bounded, new_has_room}
use Rattle.zq_shard.proofs.SetSteps.{new_holds}
use Rattle.zq_shard.specs.Shard.{HeapImage, IsOfHeap}
use Rattle.zq_shard.specs.ShardView.{heap_image_of}
use Rattle.zq_shard.proofs.shard.Shard.put_in.Goals as goal
use Rattle.zq_shard.proofs.shard.Shard.put_in.Goals.{After-member, After-set}

-- the operation's numbers are in range
ranged : (c : After-member) → IsRanged c.args.op.now
ranged c =
    let o = c.args.op.now.operation in
    let below : c.dot.result.site < SITES = search rules in
    is_ranged (heap_image_of c.self.inside) c.args.op.now c.self.invariant
    (subst (λ (s : HeapImage). IsOfHeap s c.args.op.now) (sym c.self.view_is) c.requires.placed)
    (subst (λ site. site < SITES) c.dot.ensures.site below)
    (subst IsCounters c.seen.ensures.same c.seen.ensures.counters)
    (sym c.dot.ensures.n ∙ c.dot.ensures.next ∙ ap (λ site. slice_index o.seen site + 1) c.dot.ensures.site)
    (subst (λ n. n ≤ LAST) c.dot.ensures.n c.dot.ensures.bounded)
    (subst (λ key. length key ≤ LONGEST) c.key.ensures.same c.key.ensures.short)
    (subst (λ member. length member ≤ LONGEST) c.member.ensures.same c.member.ensures.short)
    (subst IsAct c.act.ensures.same c.act.ensures.range)

-- the image after the operation
image_is : (c : After-set) → record { vector = c.set.new.self; members = c.take.new.self.members } ≡ image_after c.args.op.now.operation (heap_image_of c.self.inside).image
image_is c =
    let old = c.self.inside.queues.members in
    let vector = c.set.ensures ∙ ap₂ (slice_set c.self.inside.vector) c.dot-dot.ensures.site c.dot-dot.ensures.n in
    let members = c.in_ok-before.ensures.taken
    ∙ (λ i. put_entry old (c.key.ensures.same i, c.member.ensures.same i)
    (entry_after (c.act.ensures.same i) (c.dot.ensures.site i) (c.dot.ensures.n i) (c.seen.ensures.same i) (entry_at old (c.key.ensures.same i, c.member.ensures.same i)))) in
    λ i. record { vector = vector i; members = members i }

pub take-requires-clause-room : goal.take-requires-clause-room
take-requires-clause-room c = λ bump.
    let d = (goal.at.take-requires-clause-room c).After-member in
    rw (c.dot.ensures.site, c.dot.ensures.n, c.key.ensures.same, c.member.ensures.same)
    (new_has_room (heap_image_of c.self.inside) c.args.op.now c.self.invariant (ranged d)
    (subst (λ (s : HeapImage). taken_of s.image.vector c.args.op.now.operation ≡ New) (sym c.self.view_is) c.requires.new))

pub invariant_of-self-2 : goal.invariant_of-self-2
invariant_of-self-2 c =
    let d = (goal.at.invariant_of-self-2 c).After-set in
    record {
      heaps = c.self.invariant.heaps;
      heap = c.self.invariant.heap;
      bounded =
          subst (IsBounded c.self.inside.heaps c.self.inside.heap) (sym (image_is d))
          (new_bounded (heap_image_of c.self.inside) c.args.op.now c.self.invariant (ranged (goal.at.invariant_of-self-2 c).After-member)
          (subst (λ (s : HeapImage). IsOfHeap s c.args.op.now) (sym c.self.view_is) c.requires.placed)
          (subst (λ (s : HeapImage). taken_of s.image.vector c.args.op.now.operation ≡ New) (sym c.self.view_is) c.requires.new));
    }

pub returns-clause-set : goal.returns-clause-set
returns-clause-set c = λ S holds world.
    let d = (goal.at.returns-clause-set c).After-set in
    let o = c.args.op.now.operation in
    new_holds c.args.self.now _ o S c.requires.placed.heap (ap (λ (s : HeapImage). s.heap) c.self.view_is) (ap (λ (s : HeapImage). s.heaps) c.self.view_is)
    (image_is d ∙ ap (λ (s : HeapImage). image_after o s.image) c.self.view_is) c.requires.new holds world
