use Rattle.std.proofs.Common.{inl, inr, refl}
use Rattle.zq_node.proofs.Changed.{put_here, room_left}
use Rattle.zq_node.proofs.taking.keep.Goals as goal

pub returns-then-has_place_of-clause-put : goal.returns-then-has_place_of-clause-put
returns-then-has_place_of-clause-put c = inl (c.has_place_of.ensures.0 c.if-has_place_of.true, refl)

pub returns-then-is_full-clause-put : goal.returns-then-is_full-clause-put
returns-then-is_full-clause-put c = inr (inl ((λ has. let e = c.has_place_of.ensures.1 has in absurd (cc)), c.is_full.ensures.0 c.if-is_full.true, refl))

pub returns-clause-put : goal.returns-clause-put
returns-clause-put c =
    put_here c.args.parked.now.most c.args.parked.now.entries c.park.new.self.entries c.args.op.now c.in_ok-copy.copy c.in_ok-park.field-0 (λ has. let e = c.has_place_of.ensures.1 has in absurd (cc)) (room_left _ _ _ c.is_full.ensures c.if-is_full.false) c.in_ok-copy.ensures c.in_ok-park.ensures.full c.in_ok-park.ensures.parked c.in_ok-park.ensures.more
