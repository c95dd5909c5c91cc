use Rattle.std.proofs.Common.{ap, [], ◌++◌, ◌∙◌, ◌∷◌, ◌≡◌}
use Rattle.std.specs.Int.{to_be_bytes, w64}
use Rattle.zq_entry.proofs.SumLemmas.{nonzero-dense}
use Rattle.zq_fields.specs.Fields.{signed}
use Rattle.zq_merge.proofs.Written.{both_written}
use Rattle.zq_merge.specs.Spelling.{addition_bytes, listed_sums}
use Rattle.zq_merge.proofs.write.write_addition.Goals as goal

pub returns : goal.returns
unfolding addition_bytes
returns c =
    let a = c.args.addition.now in
    let old = c.args.out.now.items in
    let first : c.write_byte.new.out.items ≡ old ++ a.dot.site ∷ [] = c.in_ok-write_byte.ensures.written ∙ ap (λ s. old ++ s ∷ []) c.value.ensures.same in
    let sums : c.write_sums.new.out.items ≡ c.write_score.new.out.items ++ listed_sums a.sums = c.in_ok-write_sums.ensures ∙ ap (λ s. c.write_score.new.out.items ++ listed_sums s) c.as_slice.ensures in
    let last = both_written c.write_u64.new.out.items c.write_score.new.out.items c.write_sums.new.out.items (signed w64 a.score) (listed_sums a.sums) c.in_ok-write_score.ensures.written sums in
    let more = both_written c.write_byte.new.out.items c.write_u64.new.out.items c.write_sums.new.out.items (to_be_bytes w64 a.dot.n) (signed w64 a.score ++ listed_sums a.sums) c.in_ok-write_u64.ensures.written last in
    rw (nonzero-dense a.sums c.requires) (both_written old c.write_byte.new.out.items c.write_sums.new.out.items (a.dot.site ∷ []) (to_be_bytes w64 a.dot.n ++ (signed w64 a.score ++ listed_sums a.sums)) first more)
