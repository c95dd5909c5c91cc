use Rattle.std.proofs.Common.{ap, rules, sym, ◌++◌, ◌∙◌, ◌∷◌, ◌≡◌}
use Rattle.std.specs.List.{flat_map}
use Rattle.zq_entry.proofs.SumLemmas.{nonzero-dense}
use Rattle.zq_merge.specs.Spelling.{listed_sums, sum_bytes}
use Rattle.zq_merge.proofs.sums.read_listed_sums.Goals as goal

pub returns-clause-found : goal.returns-clause-found
unfolding listed_sums
returns-clause-found c =
    let items = c.in_ok-sums.sums.items in
    let rest = c.read_some_sums.new.bytes.now in
    let first : c.args.bytes.now.now ≡ c.in_ok-count.count ∷ c.read_byte_in.new.bytes.now = search rules in
    let kept = nonzero-dense c.in_ok-sums.sums.items c.in_ok-sums.ensures.sums in
    rw kept (first ∙ (ap (λ x. c.in_ok-count.count ∷ x) c.in_ok-sums.ensures.found ∙ ap (λ n. n ∷ (flat_map sum_bytes items ++ rest)) (sym c.in_ok-sums.ensures.count)))
