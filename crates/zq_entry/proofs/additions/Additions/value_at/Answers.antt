use Rattle.std.proofs.Common.{List, ap, arith, get_or, length, rules, sym, [], ℕ, ◌<◌, ◌∙◌, ◌≡◌, ◌∷◌}
use Rattle.std.proofs.lemmas.Int.{to_z-of_z}
use Rattle.std.specs.Int.{w128, w64}
use mir.Val.{SFits, of_z, to_z}
use Rattle.zq_model.specs.Rows.{OfSite}
use Rattle.zq_model.specs.Score.{value_of}
use Rattle.zq_entry.specs.Storage.{listed}
use Rattle.zq_entry.specs.Placed.{addition_of_put}
use Rattle.zq_entry.proofs.SumLemmas.{value-put}
use Rattle.zq_entry.proofs.additions.Additions.value_at.Goals as goal

-- the score, widened
score : (c : goal.After-from) → to_z w128 (of_z w128 c.from.result) ≡ c.in-One.score
score c =
    let narrow : SFits w64 c.value.result = search rules in
    let wide : SFits w128 c.from.result = search rules in
    to_z-of_z w128 c.from.result wide ∙ (c.from.ensures ∙ (to_z-of_z w64 c.value.result narrow ∙ c.value.ensures.same))

-- the one at a place in a list of one
only : (items : List OfSite) (p d : OfSite) (i : ℕ) → items ≡ p ∷ [] → i < length items → get_or items i d ≡ p
only items p d i is inside =
    let one = ap length is in
    let first : i ≡ 0 = omega (arith, inside, one) in
    ap (λ xs. get_or xs i d) is ∙ ap (λ j. get_or (p ∷ []) j d) first

pub returns-in-One-clause-value : goal.returns-in-One-clause-value
returns-in-One-clause-value c =
    let put : OfSite = (c.in-One.field-0.site, addition_of_put c.in-One.field-0.n c.in-One.score) in
    let list : c.args.self.now ≡ put ∷ [] = sym c.self.view_is ∙ ap listed c.in-One.is in
    λ d. score c ∙ (sym (value-put c.in-One.field-0.n c.in-One.score) ∙ ap (λ p. value_of p.1) (sym (only c.args.self.now put d c.args.place list c.requires)))
