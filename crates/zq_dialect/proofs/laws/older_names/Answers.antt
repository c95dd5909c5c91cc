use Rattle.zq_dialect.proofs.OlderNames.{few_words_stay, keys_unlinked, options_refused, places_turned, scores_ranged, scores_turned}
use Rattle.zq_dialect.proofs.laws.older_names.Goals as goal

pub returns-clause-places : goal.returns-clause-places
returns-clause-places c = places_turned

pub returns-clause-scores : goal.returns-clause-scores
returns-clause-scores c = scores_ranged

pub returns-clause-turned : goal.returns-clause-turned
returns-clause-turned c = scores_turned

pub returns-clause-keys : goal.returns-clause-keys
returns-clause-keys c = keys_unlinked

pub returns-clause-options : goal.returns-clause-options
returns-clause-options c = options_refused

pub returns-clause-few : goal.returns-clause-few
returns-clause-few c = few_words_stay
