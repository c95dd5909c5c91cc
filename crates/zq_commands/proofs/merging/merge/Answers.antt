use Rattle.std.proofs.Common.{ap, arith, length, map, min, rules, sym, ◌+◌, ◌∙◌, ◌≡◌}
use Rattle.std.proofs.lemmas.List.{length-map, take_all}
use Rattle.std.proofs.lemmas.Result.{IfOk-weaker}
use Rattle.zq_commands.proofs.Woven.{woven_alone, woven_most}
use Rattle.zq_commands.specs.FirstPairs.{lent_pair}
use Rattle.zq_commands.specs.Weaving.{woven}
use Rattle.zq_shard.proofs.AtKeys.{nil_from_length}
use Rattle.zq_commands.proofs.merging.merge.Goals as goal

pub returns-then-is_empty : goal.returns-then-is_empty
returns-then-is_empty c =
    let first = map lent_pair c.args.first.items in
    let none : length c.args.second.items ≡ 0 = search rules in
    sym (ap (λ q. woven c.args.is_turned c.args.most first (map lent_pair q)) (nil_from_length c.args.second.items none) ∙ woven_alone c.args.is_turned c.args.most first
    ∙ take_all c.args.most first (omega (arith, c.requires.few, length-map c.args.first.items lent_pair)))

pub returns : goal.returns
returns c =
    let first = map lent_pair c.args.first.items in
    let second = map lent_pair c.args.second.items in
    let few : c.min-few.result ≡ min c.args.most (length first + length second) =
    omega (arith, c.min-few.ensures, c.len.ensures, c.len-2.ensures, length-map c.args.first.items lent_pair, length-map c.args.second.items lent_pair) in
    let t = c.args.is_turned in
    let most = c.min-few.result in
    IfOk-weaker c.weave.result (λ pairs. map lent_pair pairs.items ≡ woven t most (map lent_pair c.deref.result.now) (map lent_pair c.deref-2.result.now))
    (λ pairs. map lent_pair pairs.items ≡ woven t c.args.most first second)
    (λ pairs are.
    are ∙ ap (λ xs. woven t most (map lent_pair xs) (map lent_pair c.deref-2.result.now)) c.deref.ensures.value
    ∙ ap (λ ys. woven t most first (map lent_pair ys)) c.deref-2.ensures.value ∙ woven_most t c.args.most first second most few)
    c.weave.ensures
