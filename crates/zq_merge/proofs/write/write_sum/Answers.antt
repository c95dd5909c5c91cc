use Rattle.std.proofs.Common.{ap, of_z, to_z, ◌++◌, ◌∙◌, ◌≡◌, ◌∷◌, []}
use Rattle.std.proofs.lemmas.Int.{to_z-of_z}
use Rattle.std.specs.Int.{w128}
use Rattle.zq_entry.proofs.SumLemmas.{sum-fits}
use Rattle.zq_fields.specs.Fields.{signed}
use Rattle.zq_merge.proofs.Written.{both_written}
use Rattle.zq_merge.proofs.write.write_sum.Goals as goal

pub returns : goal.returns
returns c =
    let back : to_z w128 (of_z w128 c.args.sum.now) ≡ c.args.sum.now = to_z-of_z w128 c.args.sum.now (sum-fits c.args.sum.now c.requires) in
    let second : c.write_i128.new.out.items ≡ c.write_byte.new.out.items ++ signed w128 c.args.sum.now = c.in_ok-write_i128.ensures.written ∙ ap (λ z. c.write_byte.new.out.items ++ signed w128 z) back in
    let first : c.write_byte.new.out.items ≡ c.args.out.now.items ++ c.args.site ∷ [] = c.in_ok-write_byte.ensures.written ∙ ap (λ s. c.args.out.now.items ++ s ∷ []) c.value.ensures.same in
    both_written c.args.out.now.items c.write_byte.new.out.items c.write_i128.new.out.items (c.args.site ∷ []) (signed w128 c.args.sum.now) first second
