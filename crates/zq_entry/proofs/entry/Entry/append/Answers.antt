use Rattle.std.proofs.Common.{ap, subst, sym, ◌++◌, ◌∙◌, ◌≡◌, List, [], ◌∷◌}
use Rattle.std.proofs.lemmas.Result.{on_ok_weaker}
use Rattle.zq_model.specs.Sets.{SITES}
use Rattle.zq_entry.specs.Placed.{dense_entry, placed_of}
use Rattle.zq_model.specs.Rows.{OfSite}
use Rattle.zq_model.specs.Sparse.{AreBySite}
use Rattle.zq_entry.proofs.EntryLemmas.{placed-dense, rising-either}
use Rattle.zq_entry.proofs.entry.Entry.append.Goals as goal

-- the list is what stood
list : (c : goal.After-push) → placed_of c.args.self.now ≡ c.self.inside.additions
list c = ap placed_of (sym c.self.view_is) ∙ placed-dense c.self.inside.additions c.self.invariant

-- with the addition it rises
rising : (c : goal.After-push) → AreBySite 0 SITES (c.self.inside.additions ++ c.args.addition ∷ [])
rising c = subst (λ (xs : List OfSite). AreBySite 0 SITES (xs ++ c.args.addition ∷ [])) (list c) c.requires

pub invariant_of-self : goal.invariant_of-self
invariant_of-self c = rising-either c.push.result c.push.new.self (c.self.inside.additions ++ c.args.addition ∷ []) c.self.inside.additions c.push.ensures.pushed c.push.ensures.refused (rising c) c.self.invariant

pub returns-clause-appended : goal.returns-clause-appended
returns-clause-appended c =
    on_ok_weaker c.push.result (λ e. ap (λ xs. placed_of (dense_entry xs)) e ∙ (placed-dense (c.self.inside.additions ++ c.args.addition ∷ []) (rising c) ∙ ap (λ xs. xs ++ c.args.addition ∷ []) (sym (list c)))) c.push.ensures.pushed
