use Rattle.std.proofs.Common.{ap, sym, true, ◌∙◌, ◌≡◌}
use Rattle.std.proofs.lemmas.Bool.{and_parts}
use Rattle.std.proofs.lemmas.Bool.Decides.{Decides-eqb, Decides-int_eq}
use Rattle.std.proofs.lemmas.Slice.Eq.{slice_eq-Decides}
use Rattle.zq_entry.specs.Lent.{lent}
use Rattle.zq_entry.specs.Placed.{placed_from}
use Rattle.zq_entry.specs.Sums.{nonzero_sums}
use Rattle.zq_entry.proofs.SumLemmas.{Decides-pair, nonzero-dense}
use Rattle.zq_entry.proofs.addition_ref.AdditionRef.same.Goals as goal
use Rattle.zq_entry.proofs.addition_ref.AdditionRef.same.Goals.{else-eq, then-eq}

-- their sums are the same where they stand for the same
sums : (c : goal.After-eq-then-eq-2) → lent c.args.self.now ≡ lent c.args.other.now → c.args.self.now.sums ≡ c.args.other.now.sums
sums c same =
    sym (nonzero-dense c.args.self.now.sums c.requires.mine) ∙ (ap (λ p. nonzero_sums p.1.sums) same ∙ nonzero-dense c.args.other.now.sums c.requires.theirs)

score : (c : goal.After-eq-then-eq-2) → c.args.self.now.score ≡ c.args.other.now.score
score c =
    elim c.if-eq.branch [
      | then-eq w ↦ (Decides-int_eq c.args.self.now.score c.args.other.now.score).0 (sym w.eq-then-eq.ensures ∙ (sym w.value-is ∙ c.if-eq-2.true))
      | else-eq w ↦ absurd (let off = sym w.value-is ∙ c.if-eq-2.true in cc)
    ]

dot : (c : goal.After-eq-then-eq-2) → c.eq.result ≡ true
dot c =
    elim c.if-eq.branch [
      | then-eq w ↦ w.if-eq.true
      | else-eq w ↦ absurd (let off = sym w.value-is ∙ c.if-eq-2.true in cc)
    ]

pub returns-then-eq-2 : goal.returns-then-eq-2
returns-then-eq-2 c =
    let mine = c.args.self.now in
    let theirs = c.args.other.now in
    let first = c.as_slice.ensures in
    let second = c.as_slice-then-eq-2.ensures in
    let test = slice_eq-Decides (λ a b. Decides-pair a b) c.as_slice.result.now c.as_slice-then-eq-2.result.now c.eq-then-eq-2.result c.eq-then-eq-2.ensures in
    let parts = and_parts _ _ (sym c.eq.ensures ∙ dot c) in
    let site = (Decides-eqb mine.dot.site theirs.dot.site).0 parts.0 in
    let counter = (Decides-eqb mine.dot.n theirs.dot.n).0 parts.1 in (
      λ same.
          ap (λ s. placed_from s mine.dot.n mine.score mine.sums) site ∙ (ap (λ n. placed_from theirs.dot.site n mine.score mine.sums) counter
          ∙ (ap (λ x. placed_from theirs.dot.site theirs.dot.n x mine.sums) (score c) ∙ ap (placed_from theirs.dot.site theirs.dot.n theirs.score) (sym first ∙ (test.0 same ∙ second)))),
      λ same. test.1 (first ∙ (sums c same ∙ sym second)),
    )
