use Rattle.std.proofs.Common.{ap, length, rules, tests, ◌∙◌}
use Rattle.std.proofs.lemmas.Iterator.{YieldsList-from_slice}
use Rattle.std.proofs.lemmas.Iterator.Search.{position_from_yields_List}
use Rattle.std.specs.Prelude.{nat_le, unwrap_or}
use Rattle.zq_entry.proofs.SparseLemmas.{place-or_end}
use Rattle.zq_entry.proofs.sums.place_of.Goals as goal

pub returns : goal.returns
returns c =
    let sums = c.args.sums.now in
    let found = position_from_yields_List (λ p. nat_le c.args.site p.0) _ _ c.position.result c.position.ensures.ran (YieldsList-from_slice sums cc) (λ x b q k. search (rules, tests)) in
    c.unwrap_or.ensures ∙ (ap (λ o. unwrap_or o (length sums)) found ∙ place-or_end c.args.site sums)
