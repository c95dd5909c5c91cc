use Rattle.std.proofs.Common.{refl, ◌∙◌, ◌∷◌}
use Rattle.zq_peers.specs.Moves.{end_of}
use Rattle.zq_peers.proofs.attending.Link.work.Goals as goal

pub loop-preserved : goal.loop-preserved
loop-preserved g c =
    let is = c.loop.invariant in
    let answered = c.answer.ensures in (
      answered.node,
      answered.home ∙ is.1,
      (
        c.next-message.result ∷ is.2.0,
        (c.loop.inbox, is.2.1, c.next-message.ensures),
        (c.if-not-answer.ensures.goes_on.0 refl, (end_of c.loop.node c.loop.sender c.loop.witness, is.2.2, answered.moved)),
      ),
    )
