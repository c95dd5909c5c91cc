use Rattle.std.proofs.Common.{ap, ◌∙◌}
use Rattle.zq_drill.proofs.draws.Draws.next.Goals as goal
use Rattle.zq_drill.specs.Draws.{after, word_of}

pub returns-clause-words : goal.returns-clause-words
returns-clause-words c =
    let second = ap (λ p. p.1) c.next_word-verb.ensures ∙ ap after c.self.view_is in
    let third = ap (λ p. p.1) c.next_word-amount.ensures ∙ ap after second in
    let fourth = ap (λ p. p.1) c.next_word-member.ensures ∙ ap after third in
    let fifth = ap (λ p. p.1) c.next_word-first.ensures ∙ ap after fourth in
    record {
      verb = ap (λ p. p.0) c.next_word-verb.ensures ∙ ap word_of c.self.view_is;
      amount = ap (λ p. p.0) c.next_word-amount.ensures ∙ ap word_of second;
      member = ap (λ p. p.0) c.next_word-member.ensures ∙ ap word_of third;
      first = ap (λ p. p.0) c.next_word-first.ensures ∙ ap word_of fourth;
      second = ap (λ p. p.0) c.next_word-second.ensures ∙ ap word_of fifth;
    }
