-- Pairs whose members are lent.
use Rattle.std.specs.Borrow.{Bor}
use Rattle.std.specs.Prelude.{List, ℕ, ℤ}
use Rattle.zq_ranked.specs.Order.{Scored}
use Rattle.zq_ranked.specs.declared.pair.Key.{Key}

-- the pair that is sought
abbrev pub pair_of_key : Key → Scored
pair_of_key key = (key.score, key.member.now)

-- a score with the member that is lent
abbrev pub lent_pair : ℤ × Bor (List ℕ) → Scored
lent_pair pair = (pair.0, pair.1.now)
