-- Places in a queue.

use Rattle.std.specs.Ordering.{is_lt}
use Rattle.std.specs.Prelude.{Bool, List, Option, count_by, option_map, ℕ}
use Rattle.zq_model.specs.Meaning.{Scored, scored_cmp}
use Rattle.zq_model.specs.Moves.{Queue, score_in}

abbrev pub is_before : Scored → Scored → Bool
is_before p q = is_lt (scored_cmp p q)

-- the number of pairs before the member's
abbrev pub rank_in : Queue → List ℕ → Option ℕ
rank_in queue member = option_map (λ score. count_by (λ p. is_before p (score, member)) queue)
    (score_in queue member)

-- the number of pairs after it
abbrev pub turned_rank_in : Queue → List ℕ → Option ℕ
turned_rank_in queue member =
    option_map (λ score. count_by (λ p. is_before (score, member) p) queue) (score_in queue member)
