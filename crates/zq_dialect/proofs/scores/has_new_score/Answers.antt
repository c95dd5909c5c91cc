use Rattle.std.proofs.Common.{arith, false, is_some, length-drop, sym, true, ◌∙◌, ◌≡◌}
use Rattle.std.proofs.lemmas.List.{take_all}
use Rattle.zq_dialect.proofs.Copies.{new_behind, new_here, new_short}
use Rattle.zq_dialect.specs.Spelled.{has_new, new_score}
use Rattle.zq_words.specs.Words.{views}
use Rattle.zq_dialect.proofs.scores.has_new_score.Goals as goal

pub returns : goal.returns
returns c = sym (c.loop-rest.invariant ∙ new_short c.loop-rest.rest.now c.in_default.len_below)

pub returns-then-is_some : goal.returns-then-is_some
returns-then-is_some c =
    let some : is_some (new_score c.score-item.result.items) ≡ true = cc (c.deref.ensures.value, c.find_score.ensures, c.is_some.ensures, c.if-is_some.true) in
    new_here (has_new (views c.args.pairs.now)) c.loop-rest.rest.now c.score-item.result c.loop-rest.invariant c.in-len2-up.len_at_least c.score-item.is some

pub loop-rest-preserved : goal.loop-rest-preserved
loop-rest-preserved c =
    let none : is_some (new_score c.score-item.result.items) ≡ false = cc (c.deref.ensures.value, c.find_score.ensures, c.is_some.ensures, c.if-is_some.false) in
    new_behind (has_new (views c.args.pairs.now)) c.loop-rest.rest.now _ c.score-item.result (take_all _ _ (omega (arith, length-drop 2 c.loop-rest.rest.now)))
    c.loop-rest.invariant c.in-len2-up.len_at_least c.score-item.is none
