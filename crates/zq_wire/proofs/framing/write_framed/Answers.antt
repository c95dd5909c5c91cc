use Rattle.std.proofs.Common.{◌≡◌, ◌++◌, length, ap, ◌∙◌, append_assoc}
use Rattle.std.proofs.lemmas.Result.{on_ok_weaker}
use Rattle.std.specs.Int.{to_be_bytes, w32}
use Rattle.zq_wire.specs.Framed.{framed}
use Rattle.zq_wire.proofs.framing.write_framed.Goals as goal

pub returns-clause-written : goal.returns-clause-written
unfolding framed
returns-clause-written c =
    let size = to_be_bytes w32 (length c.args.frame.now) in
    on_ok_weaker c.write_bytes.result
    (λ (is : c.write_bytes.new.out.items ≡ c.write_u32.new.out.items ++ c.args.frame.now).
    is ∙ (ap (λ out. out ++ c.args.frame.now) (c.in_ok-write_u32.ensures.written ∙ ap (λ out. out ++ size) c.in_ok-reserve.ensures.items)
    ∙ append_assoc c.args.out.now.items size c.args.frame.now))
    c.write_bytes.ensures.written
