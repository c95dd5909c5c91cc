use Rattle.std.proofs.Common.{ap, rules, sym, ◌∙◌, ◌≡◌}
use Rattle.std.proofs.lemmas.List.{drop-map, length-map}
use Rattle.std.specs.List.{take-map}
use Rattle.std.specs.Prelude.{drop, length, map, min, take, ◌-◌}
use Rattle.std.specs.Vec.{vec_len}
use Rattle.zq_dots.specs.Rule.{rule_of}
use Rattle.zq_queue.proofs.Parts.{part_within}
use Rattle.zq_queue.specs.Few.{entries_by}
use Rattle.zq_queue.specs.Lent.{lent_pair}
use Rattle.zq_queue.specs.Listed.{listed}
use Rattle.zq_queue.proofs.scanned.slice.Goals as goal

pub returns : goal.returns
returns c =
    let xs = c.in_ok-pairs.pairs.items in
    let queue = listed (rule_of c.args.rule) (entries_by c.args.list.now) in
    let are : map lent_pair xs ≡ queue = c.in_ok-pairs.ensures in
    let count : vec_len c.in_ok-pairs.pairs ≡ length xs = search rules in
    let long : length queue ≡ length xs = sym (ap length are) ∙ length-map xs lent_pair in
    let high : c.min-to.result ≡ min c.args.to (length queue) = c.min-to.ensures ∙ ap (min c.args.to) (c.len.ensures ∙ count ∙ sym long) in
    let low : c.min.result ≡ min c.args.from (min c.args.to (length queue)) = c.min.ensures ∙ ap (min c.args.from) high in
    let n = c.min-to.result - c.min.result in
    let same = c.in_ok-slice.ensures.items_if_clones_equal (λ x y same k. (same.0 k, same.1 k)) in
    ap (map lent_pair) (same ∙ ap (λ ys. take n (drop c.min.result ys)) c.deref.ensures.value)
    ∙ sym (take-map lent_pair n (drop c.min.result xs)) ∙ ap (take n) (sym (drop-map lent_pair c.min.result xs))
    ∙ (λ k. take (high k - low k) (drop (low k) (are k))) ∙ part_within queue c.args.from c.args.to
