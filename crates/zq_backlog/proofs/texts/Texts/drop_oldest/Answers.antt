use Rattle.std.proofs.Common.{[], ap, arith, drop, get_or, length, refl, sym, ◌+◌, ◌-◌, ◌<◌, ◌∙◌, ◌≡◌}
use Rattle.std.proofs.lemmas.List.{nil_from_length}
use Rattle.zq_backlog.proofs.Chunked.{AreChunkedAs, count_is, oldest_gone, oldest_within}
use Rattle.zq_backlog.specs.TextsView.{end_of, texts_of}
use Rattle.zq_backlog.specs.declared.texts.Texts.TheInside.{Inside}
use Rattle.zq_backlog.proofs.texts.Texts.drop_oldest.Goals as goal

pub text-requires : goal.text-requires
text-requires c =
    let same : length (texts_of c.self.inside) ≡ length c.args.self.now = ap length c.self.view_is in
    omega (arith, count_is c.self.inside c.self.invariant, c.end.ensures, c.if-self-end.true, same)

pub overflow_sub-self : goal.overflow_sub-self
overflow_sub-self c =
    let t = c.self.inside in
    let text : length c.text.result.now ≡ length (get_or (texts_of t) 0 []) = ap length c.text.ensures ∙ ap (λ ts. length (get_or ts 0 [])) (sym c.self.view_is) in
    omega (arith, text, oldest_within t c.self.invariant (omega (arith, c.end.ensures, c.if-self-end.true)))

pub invariant_of-self : goal.invariant_of-self
invariant_of-self c =
    let t = c.self.inside in
    let new : Inside = record { alloc = t.alloc; older = t.older; newest = t.newest; first = t.first + 1; bytes = t.bytes - length c.text.result.now } in
    let text : length c.text.result.now ≡ length (get_or (texts_of t) 0 []) = ap length c.text.ensures ∙ ap (λ ts. length (get_or ts 0 [])) (sym c.self.view_is) in
    let some : t.first < end_of t = omega (arith, c.end.ensures, c.if-self-end.true) in
    let enough = oldest_within t c.self.invariant some in
    let gone : AreChunkedAs new (drop 1 (texts_of t)) = oldest_gone t new c.self.invariant some refl refl refl (omega (arith, text, enough)) in
    gone.are

pub returns-then-self-end : goal.returns-then-self-end
returns-then-self-end c =
    let t = c.self.inside in
    let new : Inside = record { alloc = t.alloc; older = t.older; newest = t.newest; first = t.first + 1; bytes = t.bytes - length c.text.result.now } in
    let text : length c.text.result.now ≡ length (get_or (texts_of t) 0 []) = ap length c.text.ensures ∙ ap (λ ts. length (get_or ts 0 [])) (sym c.self.view_is) in
    let some : t.first < end_of t = omega (arith, c.end.ensures, c.if-self-end.true) in
    let enough = oldest_within t c.self.invariant some in
    let gone : AreChunkedAs new (drop 1 (texts_of t)) = oldest_gone t new c.self.invariant some refl refl refl (omega (arith, text, enough)) in
    c.drop_chunk.ensures ∙ gone.is ∙ ap (drop 1) c.self.view_is

pub returns-else-self-end : goal.returns-else-self-end
returns-else-self-end c =
    let same : length (texts_of c.self.inside) ≡ length c.args.self.now = ap length c.self.view_is in
    let none : c.args.self.now ≡ [] = nil_from_length c.args.self.now (omega (arith, count_is c.self.inside c.self.invariant, c.end.ensures, c.if-self-end.false, same)) in
    none ∙ ap (drop 1) (sym none)
