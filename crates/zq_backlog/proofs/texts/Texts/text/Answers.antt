use Rattle.std.proofs.Common.{[], ap, arith, get_or, length, sym, ◌∙◌, ◌≡◌}
use Rattle.zq_backlog.proofs.Chunked.{count_is, text_at}
use Rattle.zq_backlog.specs.TextsView.{texts_of}
use Rattle.zq_backlog.proofs.texts.Texts.text.Goals as goal

pub overflow_add-number : goal.overflow_add-number
overflow_add-number c =
    let same : length (texts_of c.self.inside) ≡ length c.args.self.now = ap length c.self.view_is in
    omega (arith, count_is c.self.inside c.self.invariant, same, c.requires, c.self.invariant.few)

pub chunk_of-chunk-requires-clause-to : goal.chunk_of-chunk-requires-clause-to
chunk_of-chunk-requires-clause-to c =
    let same : length (texts_of c.self.inside) ≡ length c.args.self.now = ap length c.self.view_is in
    omega (arith, count_is c.self.inside c.self.invariant, same, c.requires)

pub returns : goal.returns
returns c =
    c.text.ensures
    ∙ c.chunk_of-chunk.ensures.text
    ∙ sym (text_at c.self.inside c.args.number c.self.invariant)
    ∙ ap (λ texts. get_or texts c.args.number []) c.self.view_is
