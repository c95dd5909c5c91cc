use Rattle.std.proofs.Common.{Some, ap, arith, length-drop, map, subst, sym, ◌∙◌, ◌≡◌}
use Rattle.std.proofs.lemmas.List.{take_all}
use Rattle.std.specs.Option.{option_map}
use Rattle.zq_words.specs.Shown.{pair_shown}
use Rattle.zq_words.specs.Words.{Word, views, written_score}
use Rattle.zq_words.proofs.PairLists.{reads_next, reads_last}
use Rattle.zq_words.proofs.pairs.read_scored.Goals as goal

pub loop-rest-preserved : goal.loop-rest-preserved
loop-rest-preserved c =
    let shown = λ (a b : Word). Some (pair_shown c.unwrap.result) ≡ option_map (λ score. (score, b)) (written_score a) in
    let read = ap (option_map pair_shown) (sym c.unwrap.ensures) ∙ c.read.ensures.shown in
    let score = subst (λ a. shown a c.deref-in-len2-up.result.now) c.deref.ensures.value read in
    let is = subst (shown c.score-item.result.items) c.deref-in-len2-up.ensures.value score in
    reads_next (views c.args.words.now) c.loop-rest.pairs.items _ c.unwrap.result c.loop-rest.rest.now _ c.score-item.result c.member-item.result
    c.in_ok-push.ensures.items (take_all _ _ (omega (arith, length-drop 2 c.loop-rest.rest.now))) c.in-len2-up.len_at_least c.score-item.is c.member-item.is is c.loop-rest.invariant

pub returns : goal.returns
returns c = reads_last (views c.args.words.now) (map pair_shown c.loop-rest.pairs.items) c.loop-rest.rest.now c.in_default.len_below c.loop-rest.invariant
