use Rattle.std.proofs.Common.{◌≡◌, ℕ, ◌++◌, length, take, ap, sym, ◌∙◌, append_assoc, arith}
use Rattle.std.proofs.lemmas.List.{length-take}
use Rattle.std.specs.Int.{to_be_bytes, w32}
use Rattle.zq_wire.proofs.Framed.{framed_of}
use Rattle.zq_wire.proofs.unfinished.read_body.Goals as goal

pub returns-clause-step : goal.returns-clause-step
returns-clause-step c =
    let size = c.args.size in
    let body = c.extend_from_slice.new.self.items in
    let whole : length body ≡ size = omega (arith, c.in_ok-extend_from_slice.ensures.len, length-take {A = ℕ}) in
    let added = c.in_ok-extend_from_slice.ensures.items in (
      omega arith,
      framed_of size body whole ∙ (ap (λ body. to_be_bytes w32 size ++ body) added
          ∙ sym (append_assoc (to_be_bytes w32 size) c.args.body.items (take c.min-taken.result c.args.bytes.now))),
    )
