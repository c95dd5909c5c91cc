use Rattle.std.proofs.Common.{Ok, Result, ap, length, sym, ◌∙◌, ◌≡◌}
use Rattle.std.specs.Prelude.{ℕ}
use Rattle.zq_delta.specs.Reading.{found_at}
use Rattle.zq_delta.specs.Spelling.{op_spelling}
use Rattle.zq_delta.specs.declared.fault.OpFault.{OpFault}
use Rattle.zq_delta.specs.declared.version.Version.TheVariants as delta
use Rattle.zq_dots.specs.Placed.{Placed}
use Rattle.zq_world.proofs.frames.carry.Goals as goal

same_Ok : {X E : Type 0} (x y : X) → ◌≡◌ {A = Result X E} (Ok x) (Ok y) → x ≡ y
same_Ok x y e = cc

-- what is written is read as the same operation
pub returns-in-Ok-clause-same : goal.returns-in-Ok-clause-same
returns-in-Ok-clause-same c is =
    let o : Placed = c.args.op.now in
    let written : Placed × ℕ = (o, length (op_spelling delta.Two o)) in
    let found : Placed × ℕ = (c.in-Ok.op, c.in-Ok.field-0-1) in
    let read = sym c.in-Ok.ensures.exact ∙ ap found_at (c.as_slice.ensures.value ∙ c.in_ok-bytes.ensures.written) ∙ is in
    ap (λ (p : Placed × ℕ). p.0) (same_Ok {E = OpFault} found written read)
