use Rattle.std.proofs.Common.{ap, arith, sym, take, ◌∙◌, ◌≡◌}
use Rattle.zq_commands.proofs.CutPairs.{cut_some}
use Rattle.zq_commands.proofs.Popped.{shown_bytes}
use Rattle.zq_commands.specs.Arrays.{array_bytes}
use Rattle.zq_commands.specs.Stopped.{want_of}
use Rattle.zq_semantics.specs.Procedures.{cut_pairs}
use Rattle.zq_semantics.specs.Replies.{bytes_of}
use Rattle.zq_commands.proofs.zpopmax.cut_parts.Goals as goal

pub returns-then-done-eq0-clause-bytes : goal.returns-then-done-eq0-clause-bytes
returns-then-done-eq0-clause-bytes c = λ pairs are.
    let none : 0 ≡ c.args.done = omega (arith, c.if-done-eq0.true) in
    c.cut_reply.ensures.bytes ∙ ap (λ k. bytes_of (cut_pairs pairs k (want_of c.args.cut))) none

pub returns-clause-bytes : goal.returns-clause-bytes
returns-clause-bytes c = λ pairs are.
    c.array_reply.ensures.bytes ∙ ap array_bytes (c.first_parts.ensures.parts pairs are) ∙ shown_bytes (take c.args.done pairs)
    ∙ sym (ap bytes_of (cut_some pairs c.args.done (want_of c.args.cut) (omega arith)))
