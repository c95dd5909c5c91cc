use Rattle.std.proofs.Common.{ap, inl, inr, refl, ◌∙◌, ◌≡◌}
use Rattle.std.specs.Prelude.{[]}
use Rattle.zq_dots.specs.Placed.{Placed, renamed}
use Rattle.zq_node.proofs.Changed.{put_here, room_left}
use Rattle.zq_node.proofs.taking.keep_own.Goals as goal

-- a bare operation to which the names were given is the operation
whole : (op bare own : Placed) → bare ≡ renamed op [] [] → own ≡ renamed bare op.operation.key op.operation.member → own ≡ op
whole op bare own made given = given ∙ ap (λ (p : Placed). renamed p op.operation.key op.operation.member) made

pub returns-then-has_place_of-clause-put : goal.returns-then-has_place_of-clause-put
returns-then-has_place_of-clause-put c = inl (c.has_place_of.ensures.0 c.if-has_place_of.true, refl)

pub returns-then-is_full-clause-put : goal.returns-then-is_full-clause-put
returns-then-is_full-clause-put c = inr (inl ((λ has. let e = c.has_place_of.ensures.1 has in absurd (cc)), c.is_full.ensures.0 c.if-is_full.true, refl))

pub returns-in-Ok-clause-put : goal.returns-in-Ok-clause-put
returns-in-Ok-clause-put c =
    put_here c.args.parked.now.most c.args.parked.now.entries c.park_or_return.new.self.entries c.args.op.now c.swap_names.new.self c.in-Ok.field-0 (λ has. let e = c.has_place_of.ensures.1 has in absurd (cc)) (room_left _ _ _ c.is_full.ensures c.if-is_full.false)
    (whole c.args.op.now c.bare-own.result c.swap_names.new.self c.bare-own.ensures c.swap_names.ensures.own) c.in-Ok.ensures.full c.in-Ok.ensures.parked c.in-Ok.ensures.more

-- the names went there and back
pub returns-in-Err-clause-kept : goal.returns-in-Err-clause-kept
returns-in-Err-clause-kept c =
    let own = c.in-Err.failed.value in
    c.swap_names-in-Err.ensures.other
    ∙ ap (λ (p : Placed). renamed p own.operation.key own.operation.member) c.swap_names.ensures.other
    ∙ ap (λ (p : Placed). renamed c.args.op.now p.operation.key p.operation.member) (c.in-Err.ensures.given_back ∙ whole c.args.op.now c.bare-own.result c.swap_names.new.self c.bare-own.ensures c.swap_names.ensures.own)
