use Rattle.std.proofs.Common.{ap, arith, map, subst, sym, true, ◌*◌, ◌∙◌, ◌≡◌}
use Rattle.zq_commands.proofs.CutPairs.{all_parts, taken_parts, writable_taken}
use Rattle.zq_commands.specs.Arrays.{are_writable}
use Rattle.zq_resp.specs.Reply.{reply_bytes}
use Rattle.zq_commands.proofs.zpopmax.first_parts.Goals as goal

pub returns-then-done-len-clause-parts : goal.returns-then-done-len-clause-parts
returns-then-done-len-clause-parts c = λ pairs are. all_parts pairs c.args.parts.items are c.args.done (omega arith)

pub returns-clause-parts : goal.returns-clause-parts
returns-clause-parts c = λ pairs are. ap (map reply_bytes) c.truncate.ensures.items ∙ taken_parts pairs c.args.parts.items are c.args.done

pub returns-clause-writable : goal.returns-clause-writable
returns-clause-writable c = subst (λ ps. are_writable ps ≡ true) (sym c.truncate.ensures.items) (writable_taken (2 * c.args.done) c.args.parts.items c.requires)
