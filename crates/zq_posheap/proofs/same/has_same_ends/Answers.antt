use Rattle.std.proofs.Common.{ap, sym, ◌∙◌}
use Rattle.std.specs.Cmp.Lexicographic.{bytes_decides, same_text}
use Rattle.std.specs.Prelude.{drop, length, ◌-◌}
use Rattle.zq_posheap.proofs.Ends.{ends_make}
use Rattle.zq_posheap.proofs.same.has_same_ends.Goals as goal

pub returns-then-eq : goal.returns-then-eq
returns-then-eq g c =
    let a_first = c.in-Some-Some.ensures.cases in
    let b_first = c.in-Some-Some.ensures'.cases in
    let a_last = c.in-Some-Some-2.ensures.cases.1.same in
    let b_last = c.in-Some-Some-2.ensures'.cases.1.same in
    let first = same_text c.in-Some-Some.a_first.now c.in-Some-Some.b_first.now (sym c.if-eq.true ∙ c.eq-2.ensures) in (
      (λ is.
          let last = same_text c.in-Some-Some-2.a_last.now c.in-Some-Some-2.b_last.now (sym is ∙ c.eq-then-eq.ensures) in
          ends_make g.row.N c.args.a.now c.args.b.now c.requires.alike a_first.enough c.requires.short
          (sym a_first.same ∙ first ∙ b_first.same) (sym a_last ∙ last ∙ b_last)),
      (λ same. c.eq-then-eq.ensures ∙ (bytes_decides c.in-Some-Some-2.a_last.now c.in-Some-Some-2.b_last.now).1
          (a_last ∙ ap (λ xs. drop (length xs - g.row.N) xs) same ∙ sym b_last)),
    )
