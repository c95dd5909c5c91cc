use Rattle.std.proofs.Common.{Bool, List, [], ap, arith, pos, refl, sym, true, ◌+ℤ◌, ◌∙◌, ◌∷◌, ◌≡◌}
use Rattle.std.proofs.lemmas.Int.{to_z-of_z}
use Rattle.std.proofs.lemmas.List.Sums.{count_by-le-length, length-filter}
use Rattle.std.specs.Prelude.{filter, if◌then◌else◌, slice_range}
use Rattle.zq_semantics.specs.Ranges as ranges
use Rattle.zq_commands.proofs.range_section.Section.of_range.Goals as goal

kept : {X : Type 0} (p : X → Bool) (q : List X) → ((x : X) → p x ≡ true) → filter p q ≡ q
kept p [] all = refl
kept p (x ∷ q) all = ap (λ b. if b then x ∷ filter p q else filter p q) (all x) ∙ ap (λ r. x ∷ r) (kept p q all)

pub returns-in-ByPlace : goal.returns-in-ByPlace
returns-in-ByPlace c = λ queue all.
    let first : c.from_zero.result ≡ ranges.from_zero (ranges.placed c.args.size c.in-ByPlace.start) = grind (arith, to_z-of_z, c.from_zero.ensures.value, c.placed.ensures) in
    let last : c.past.result ≡ ranges.from_zero (ranges.placed c.args.size c.in-ByPlace.stop +ℤ pos 1) = grind (arith, to_z-of_z, c.past.ensures, c.placed-in-ByPlace.ensures) in
    ap (λ range. ranges.ranged range queue) c.in-ByPlace.is
    ∙ ap (λ n. slice_range queue (ranges.from_zero (ranges.placed n c.in-ByPlace.start)) (ranges.from_zero (ranges.placed n c.in-ByPlace.stop +ℤ pos 1))) all
    ∙ ap (λ n. slice_range queue n (ranges.from_zero (ranges.placed c.args.size c.in-ByPlace.stop +ℤ pos 1))) (sym first)
    ∙ ap (λ n. slice_range queue c.from_zero.result n) (sym last)
    ∙ ap (λ q. slice_range q c.from_zero.result c.past.result) (sym (kept _ queue (λ pair. refl)))

pub returns-in-ByScore : goal.returns-in-ByScore
returns-in-ByScore c = λ queue all.
    let within = ranges.is_within c.in-ByScore.min c.in-ByScore.max in
    ap (λ range. ranges.ranged range queue) c.in-ByScore.is
    ∙ c.ends_of-from.ensures (filter within queue) (omega (arith, all, length-filter within queue, count_by-le-length within queue))
