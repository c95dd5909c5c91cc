use Rattle.std.proofs.Common.{ap, length, rules, tests, ◌∙◌}
use Rattle.std.proofs.lemmas.Iterator.{YieldsList-from_slice}
use Rattle.std.proofs.lemmas.Iterator.Search.{position_from_yields_List}
use Rattle.std.specs.Prelude.{nat_le, unwrap_or}
use Rattle.zq_entry.proofs.SparseLemmas.{place-or_end}
use Rattle.zq_entry.proofs.places.place_of.Goals as goal

pub returns-clause-place : goal.returns-clause-place
returns-clause-place c =
    let additions = c.args.additions.now in
    let found = position_from_yields_List (λ p. nat_le c.args.site p.0) _ _ c.position.result c.position.ensures.ran (YieldsList-from_slice additions cc) (λ x b q k. search (rules, tests)) in
    c.unwrap_or.ensures ∙ (ap (λ o. unwrap_or o (length additions)) found ∙ place-or_end c.args.site additions)
