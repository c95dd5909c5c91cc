use Rattle.std.proofs.Common.{ap, sym, take, ◌∙◌}
use Rattle.std.specs.List.{fold}
use Rattle.zq_posheap.proofs.ByWords.{word_first}
use Rattle.zq_posheap.specs.Hashing.{words_of}
use Rattle.zq_posheap.proofs.hashing.write_words.Goals as goal

pub loop-rest-preserved : goal.loop-rest-preserved
loop-rest-preserved g c =
    let first = ap (fold g.H.Hasher.write c.loop-rest.state) (word_first c.loop-rest.rest.now c.loop-rest-test.true) in
    let front = ap (g.H.Hasher.write c.loop-rest.state) c.split_at.ensures.front in
    let back = ap words_of c.split_at.ensures.back in
    ap (λ s. fold g.H.Hasher.write s (words_of c.split_at.result.1.now)) (c.write.ensures ∙ front)
    ∙ ap (fold g.H.Hasher.write (g.H.Hasher.write c.loop-rest.state (take 8 c.loop-rest.rest.now))) back
    ∙ sym first ∙ c.loop-rest.invariant
