use Rattle.std.proofs.Common.{ap, arith, get_or, length, sym, ◌<◌, ◌∙◌}
use Rattle.std.proofs.lemmas.List.{take_more_same}
use Rattle.zq_entry.specs.Lent.{lent}
use Rattle.zq_entry.proofs.SparseLemmas.{rising-same}
use Rattle.zq_entry.proofs.entry.Entry.same.Goals as goal

pub returns-then-len : goal.returns-then-len
returns-then-len c = (
  λ off. absurd (cc),
  λ same. absurd (
      let lists = rising-same c.self.inside.additions c.other.inside.additions c.self.invariant c.other.invariant (c.self.view_is ∙ (same ∙ sym c.other.view_is)) in
      c.if-len.true (c.len.ensures ∙ (ap length lists ∙ sym c.len-2.ensures))),
)

pub returns-then-not-same : goal.returns-then-not-same
returns-then-not-same c = (
  λ off. absurd (cc),
  λ same. absurd (
      let lists = rising-same c.self.inside.additions c.other.inside.additions c.self.invariant c.other.invariant (c.self.view_is ∙ (same ∙ sym c.other.view_is)) in
      let p = lent c.at.result in
      let on = c.same.ensures.1 (c.at.ensures.addition p ∙ (ap (λ xs. get_or xs c.loop-place.place p) lists ∙ sym (c.at-in-loop-place.ensures.addition p))) in
      let off = c.if-not-same.true in cc),
)

pub loop-place-preserved : goal.loop-place-preserved
loop-place-preserved c =
    let mine = c.self.inside.additions in
    let theirs = c.other.inside.additions in
    let p = lent c.at.result in
    let inside : c.loop-place.place < length mine = omega arith in
    let also : c.loop-place.place < length theirs = omega arith in
    take_more_same mine theirs c.loop-place.place p inside also c.loop-place.invariant (sym (c.at.ensures.addition p) ∙ (c.same.ensures.0 c.if-not-same.false ∙ c.at-in-loop-place.ensures.addition p))
