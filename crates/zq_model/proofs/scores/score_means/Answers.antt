use Rattle.std.proofs.Common.{refl}
use Rattle.zq_model.proofs.MeantScores.{no_score, none_score, score_is, score_there}
use Rattle.zq_model.proofs.scores.score_means.Goals as goal
use Rattle.zq_model.specs.Heaps.{heap_of}

pub returns-clause-some : goal.returns-clause-some
returns-clause-some c rule K S k m x world = (score_is rule K S (heap_of k m K) k m world x, score_there rule K S (heap_of k m K) k m world x refl)

pub returns-clause-none : goal.returns-clause-none
returns-clause-none c rule K S k m world = (no_score rule K S (heap_of k m K) k m world refl, none_score rule K S (heap_of k m K) k m world)
