use Rattle.std.proofs.Common.{ap, length, ◌%◌, ◌++◌, ◌∙◌}
use Rattle.std.proofs.lemmas.List.Sums.{fold-append}
use Rattle.std.specs.Int.{bytes_high_first}
use Rattle.zq_model.specs.Heaps.{fnv1a64, fnv1a64_step, heap_of}
use Rattle.zq_dots.proofs.heaps.heap_of.Goals as goal

pub returns-clause-heap : goal.returns-clause-heap
unfolding fnv1a64 heap_of
returns-clause-heap c =
    let start = bytes_high_first 4 (length c.args.key.now) in
    let all = fold-append fnv1a64_step 14695981039346656037 start (c.args.key.now ++ c.args.member.now) in
    let key = fold-append fnv1a64_step c.hash_from.result c.args.key.now c.args.member.now in
    c.remainder.ensures ∙ ap (λ n. n % c.args.heaps) (cc key)
