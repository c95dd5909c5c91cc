use Rattle.std.proofs.Common.{ap, arith, ◌∙◌, ◌≡◌}
use Rattle.std.proofs.lemmas.List.{map-append}
use Rattle.std.specs.Prelude.{[], map, take, vec_len, ◌++◌, ◌+◌, ◌-◌, ◌∷◌}
use Rattle.zq_posheap.specs.Listing.{lent_pair}
use Rattle.zq_queue.proofs.Parts.{one_taken}
use Rattle.zq_queue.proofs.orders.firsts.Goals as goal

pub loop-pairs-preserved : goal.loop-pairs-preserved
loop-pairs-preserved c =
    let before = c.loop-pairs.firsts in
    let after = c.push.new.self in
    let more : c.args.count - vec_len before ≡ (c.args.count - vec_len after) + 1 = omega (arith, c.loop-pairs-test.true, c.len.ensures, c.in_ok-push.ensures.len) in
    ap (λ xs. map lent_pair xs ++ take (c.args.count - vec_len after) c.next.new.self) c.in_ok-push.ensures.items
    ∙ ap (λ xs. xs ++ take (c.args.count - vec_len after) c.next.new.self) (map-append lent_pair before.items (c.in-Some.pair ∷ []))
    ∙ one_taken (map lent_pair before.items) c.loop-pairs.pairs c.next.new.self (take c.args.count c.args.pairs) (c.args.count - vec_len before) (c.args.count - vec_len after) (lent_pair c.in-Some.pair)
    c.in-Some.ensures.steps more c.loop-pairs.invariant
