use Rattle.std.proofs.Common.{ap, get_or, length, subst, sym, List, ◌<◌, ◌∙◌, ◌≡◌}
use Rattle.zq_entry.specs.Placed.{placed_of}
use Rattle.zq_model.specs.Rows.{OfSite}
use Rattle.zq_entry.proofs.EntryLemmas.{placed-dense}
use Rattle.zq_entry.proofs.entry.Entry.at.Goals as goal

-- the list is what stands
list : (c : goal.After-self) → placed_of c.args.self.now ≡ c.self.inside.additions
list c = ap placed_of (sym c.self.view_is) ∙ placed-dense c.self.inside.additions c.self.invariant

pub at-requires : goal.at-requires
at-requires c = subst (λ (xs : List OfSite). c.args.place < length xs) (list c) c.requires

pub returns-clause-addition : goal.returns-clause-addition
returns-clause-addition c =
    let same : placed_of c.args.self.now ≡ c.self.inside.additions = ap placed_of (sym c.self.view_is) ∙ placed-dense c.self.inside.additions c.self.invariant in
    λ d. c.at.ensures.addition d ∙ ap (λ xs. get_or xs c.args.place d) (sym same)
