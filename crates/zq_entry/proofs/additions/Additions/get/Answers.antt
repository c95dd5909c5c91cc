use Rattle.std.proofs.Common.{ap, arith, get_or, length, sym, Some, ◌<◌, ◌∙◌, ◌≢◌}
use Rattle.std.proofs.lemmas.Bool.Decides.{Decides-eqb}
use Rattle.zq_entry.specs.Lent.{lent}
use Rattle.zq_entry.proofs.EntryWalks.{first-at_end, first-not_place, first-of_place}
use Rattle.zq_entry.proofs.additions.Additions.get.Goals as goal
use Rattle.zq_entry.proofs.additions.Additions.get.Goals.{else-place-len, then-place-len+else-eq}

pub returns-then-eq-clause-first : goal.returns-then-eq-clause-first
returns-then-eq-clause-first c =
    let p = lent c.at-addition.result in
    let inside : c.args.place < length c.args.self.now = omega arith in
    let is = c.at-addition.ensures.addition p in
    let same = (Decides-eqb c.at-addition.result.dot.site c.args.site).0 (sym c.eq.ensures ∙ c.if-eq.true) in
    ap (λ q. Some q.1) is ∙ sym (first-of_place c.args.site c.args.self.now c.args.place p inside (sym (ap (λ q. q.0) is) ∙ same))

pub returns-clause-first : goal.returns-clause-first
returns-clause-first c =
    elim c.if-place-len.branch [
      | then-place-len+else-eq w ↦
          let p = lent w.at-addition.result in
          let inside : c.args.place < length c.args.self.now = omega (arith, w.if-place-len.true) in
          let is = w.at-addition.ensures.addition p in
          let other : (get_or c.args.self.now c.args.place p).0 ≢ c.args.site = λ e. absurd (let test = (Decides-eqb w.at-addition.result.dot.site c.args.site).1 (ap (λ q. q.0) is ∙ e) in let on = w.eq.ensures ∙ test in let off = w.if-eq.false in cc) in
          sym (first-not_place c.args.site c.args.self.now c.args.place p inside other)
      | else-place-len w ↦ sym (first-at_end c.args.site c.args.self.now c.args.place (omega (arith, w.if-place-len.false)))
    ]
