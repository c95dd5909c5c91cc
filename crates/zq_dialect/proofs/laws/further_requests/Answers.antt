use Rattle.zq_dialect.proofs.FurtherNames.{bounds_inward, few_bounds_stay, further_stay, last_popped, names_apart, places_removed_so, scores_removed_so}
use Rattle.zq_dialect.proofs.laws.further_requests.Goals as goal

pub returns-clause-apart : goal.returns-clause-apart
returns-clause-apart c = names_apart

pub returns-clause-scores : goal.returns-clause-scores
returns-clause-scores c = scores_removed_so

pub returns-clause-places : goal.returns-clause-places
returns-clause-places c = places_removed_so

pub returns-clause-pops : goal.returns-clause-pops
returns-clause-pops c = last_popped

pub returns-clause-bounds : goal.returns-clause-bounds
returns-clause-bounds c = bounds_inward

pub returns-clause-few : goal.returns-clause-few
returns-clause-few c = few_bounds_stay

pub returns-clause-others : goal.returns-clause-others
returns-clause-others c = further_stay
