use Rattle.std.proofs.Common.{ap, refl, sym, ◌∙◌, ◌≡◌, ◌≢◌}
use Rattle.std.specs.Cmp.Lexicographic.{slice_cmp}
use Rattle.std.specs.Ordering.{nat_cmp, ordering_then}
use Rattle.std.specs.Prelude.{option_map}
use Rattle.zq_posheap.proofs.Scored.{pair_there}
use Rattle.zq_posheap.specs.Order.{scored_cmp}
use Rattle.std.specs.declared.cmp.Ordering.{Ordering}
use Rattle.std.specs.declared.cmp.Ordering.TheVariants.{Equal, Greater, Less}
use Rattle.zq_posheap.proofs.heap.Heap.compare.Goals as goal

pub returns-in-Equal : goal.returns-in-Equal
returns-in-Equal g c =
    let es = c.args.self.now.members.entries in
    let x = pair_there es c.args.x (c.unwrap.result.0.now, c.unwrap.result.1.now) (sym c.get_index.ensures.entry ∙ ap (option_map (λ p. (p.0.now, p.1.now))) c.unwrap.ensures) in
    let y = pair_there es c.args.y (c.unwrap-2.result.0.now, c.unwrap-2.result.1.now) (sym c.get_index-2.ensures.entry ∙ ap (option_map (λ p. (p.0.now, p.1.now))) c.unwrap-2.ensures) in
    let same = sym (sym c.cmp.ensures ∙ c.in-Equal.is) in
    c.cmp-in-Equal.ensures
    ∙ (λ k. ordering_then (same k) (slice_cmp nat_cmp (c.as_slice.ensures k) (c.as_slice-in-Equal.ensures k)))
    ∙ (λ k. scored_cmp (sym x k) (sym y k))

-- scores that differ decide
unlike : (r s : Ordering) → r ≢ Equal → r ≡ ordering_then r s
unlike Less s apart = refl
unlike Equal s apart = absurd (apart refl)
unlike Greater s apart = refl

pub returns-in_default : goal.returns-in_default
returns-in_default g c =
    let es = c.args.self.now.members.entries in
    let x = pair_there es c.args.x (c.unwrap.result.0.now, c.unwrap.result.1.now) (sym c.get_index.ensures.entry ∙ ap (option_map (λ p. (p.0.now, p.1.now))) c.unwrap.ensures) in
    let y = pair_there es c.args.y (c.unwrap-2.result.0.now, c.unwrap-2.result.1.now) (sym c.get_index-2.ensures.entry ∙ ap (option_map (λ p. (p.0.now, p.1.now))) c.unwrap-2.ensures) in
    let later = slice_cmp nat_cmp c.unwrap.result.0.now c.unwrap-2.result.0.now in
    unlike c.cmp.result later c.in_default.not-Equal
    ∙ ap (λ r. ordering_then r later) c.cmp.ensures
    ∙ (λ k. scored_cmp (sym x k) (sym y k))
