use Rattle.std.proofs.Common.{ap, subst, sym, ◌∙◌, ◌≡◌}
use Rattle.zq_model.specs.Bounded.{IsBounded, IsBoundedRow}
use Rattle.zq_model.specs.Rows.{row_of}
use Rattle.zq_shard.proofs.Outcomes.{either, ok_map}
use Rattle.zq_shard.proofs.Rowed.{row_more, with_entry_bounded}
use Rattle.zq_shard.specs.Shard.{HeapImage, IsHeapImage, with_entry}
use Rattle.zq_shard.specs.ShardView.{heap_image_of}
use Rattle.zq_shard.proofs.shard.Shard.push_row.Goals as goal

pub invariant_of-self : goal.invariant_of-self
invariant_of-self c =
    let s : HeapImage = heap_image_of c.self.inside in
    let row = subst (λ (t : HeapImage). IsBoundedRow t.heaps t.heap t.image.vector (row_of ((c.args.key.now, c.args.member.now), c.args.entry))) (sym c.self.view_is) c.requires.bounded in
    either {Q = c.put_back.new.self ≡ c.self.inside.queues} c.put_back.result c.put_back.ensures.back c.put_back.ensures.refused
    (λ back. record {
      heaps = c.self.invariant.heaps;
      heap = c.self.invariant.heap;
      bounded = subst (λ members. IsBounded s.heaps s.heap (record { vector = s.image.vector; members = members })) (sym back)
          (with_entry_bounded s.heaps s.heap s.image c.args.key.now c.args.member.now c.args.entry c.self.invariant.bounded c.requires.wide c.requires.full row);
    })
    (λ same. subst IsHeapImage (λ i. heap_image_of (record { heap = c.self.inside.heap; heaps = c.self.inside.heaps; vector = c.self.inside.vector; queues = (sym same) i })) c.self.invariant)

pub returns-clause-image : goal.returns-clause-image
returns-clause-image c = ok_map c.put_back.result c.put_back.ensures.back (λ back.
    (λ i. record { vector = c.self.inside.vector; members = back i })
    ∙ ap (λ (s : HeapImage). with_entry (c.args.key.now, c.args.member.now) c.args.entry s.image) c.self.view_is)

pub returns-clause-rows : goal.returns-clause-rows
returns-clause-rows c = ok_map c.put_back.result (returns-clause-image c) (λ image before is order.
    image ∙ ap (with_entry (c.args.key.now, c.args.member.now) c.args.entry) is
    ∙ row_more c.args.self.now.image.vector c.args.key.now c.args.member.now c.args.entry before c.requires.wide c.requires.full order)
