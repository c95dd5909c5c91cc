-- The heaps that a command works in.

use Rattle.std.proofs.Common.{mod-lt, subst, ◌<◌}
use Rattle.std.specs.Prelude.{List, [], ℕ, ◌∷◌, ◌≡◌}
use Rattle.zq_model.specs.Heaps.{fnv1a64, heap_of, placing_bytes}
use Rattle.zq_model.specs.Rule.{Rule}
use Rattle.zq_semantics.specs.Run.{IsRun}
use Rattle.zq_words.specs.Command.{Command, Del, Ping, Zadd, ZaddIncr, Zcard, Zcount, Zincrby, Zpopmin, Zpopnear, Zrange, Zrank, Zrem, Zrevrank, Zscore}
use Rattle.zq_words.specs.Heaps.{heaps_of}
use Rattle.zq_words.specs.Words.{Word}
use Rattle.zq_words.specs.declared.heaps.Heaps.TheVariants.{NoHeap, One}

-- a command that needs no heap runs over no books alike, whatever the rule
pub ran_alone : (command : Command) (K : ℕ) → heaps_of command K ≡ NoHeap → (rule other : Rule) (site stamp : ℕ) (reply : Word) → IsRun rule site stamp command [] [] reply → IsRun other site stamp command [] [] reply
ran_alone (Ping message) K is rule other site stamp reply ran = ran
ran_alone (Zadd key flags []) K is rule other site stamp reply ran = absurd (cc)
ran_alone (Zadd key flags ((score, member) ∷ [])) K is rule other site stamp reply ran = absurd (cc)
ran_alone (Zadd key flags (a ∷ b ∷ pairs)) K is rule other site stamp reply ran = absurd (cc)
ran_alone (ZaddIncr key flags increment member) K is rule other site stamp reply ran = absurd (cc)
ran_alone (Zincrby key increment member) K is rule other site stamp reply ran = absurd (cc)
ran_alone (Zrem key []) K is rule other site stamp reply ran = absurd (cc)
ran_alone (Zrem key (member ∷ [])) K is rule other site stamp reply ran = absurd (cc)
ran_alone (Zrem key (a ∷ b ∷ members)) K is rule other site stamp reply ran = absurd (cc)
ran_alone (Zscore key member) K is rule other site stamp reply ran = absurd (cc)
ran_alone (Zrank key member) K is rule other site stamp reply ran = absurd (cc)
ran_alone (Zrevrank key member) K is rule other site stamp reply ran = absurd (cc)
ran_alone (Zcard key) K is rule other site stamp reply ran = absurd (cc)
ran_alone (Zcount key min max) K is rule other site stamp reply ran = absurd (cc)
ran_alone (Zrange key range is_turned with_scores) K is rule other site stamp reply ran = absurd (cc)
ran_alone (Zpopmin key count) K is rule other site stamp reply ran = absurd (cc)
ran_alone (Zpopnear key) K is rule other site stamp reply ran = absurd (cc)
ran_alone (Del keys) K is rule other site stamp reply ran = absurd (cc)

below : (key member : List ℕ) (K h : ℕ) → 0 < K → One (heap_of key member K) ≡ One h → h < K
unfolding heap_of
below key member K h some is = let same : heap_of key member K ≡ h = cc in let low = mod-lt (fnv1a64 (placing_bytes key member)) some in subst (λ n. n < K) same low

-- the one heap of a command is one of so many
pub one_heap : (command : Command) (K h : ℕ) → 0 < K → heaps_of command K ≡ One h → h < K
one_heap (Ping message) K h some is = absurd (cc)
one_heap (Zadd key flags []) K h some is = absurd (cc)
one_heap (Zadd key flags ((score, member) ∷ [])) K h some is = below key member K h some is
one_heap (Zadd key flags (a ∷ b ∷ pairs)) K h some is = absurd (cc)
one_heap (ZaddIncr key flags increment member) K h some is = below key member K h some is
one_heap (Zincrby key increment member) K h some is = below key member K h some is
one_heap (Zrem key []) K h some is = absurd (cc)
one_heap (Zrem key (member ∷ [])) K h some is = below key member K h some is
one_heap (Zrem key (a ∷ b ∷ members)) K h some is = absurd (cc)
one_heap (Zscore key member) K h some is = below key member K h some is
one_heap (Zrank key member) K h some is = absurd (cc)
one_heap (Zrevrank key member) K h some is = absurd (cc)
one_heap (Zcard key) K h some is = absurd (cc)
one_heap (Zcount key min max) K h some is = absurd (cc)
one_heap (Zrange key range is_turned with_scores) K h some is = absurd (cc)
one_heap (Zpopmin key count) K h some is = absurd (cc)
one_heap (Zpopnear key) K h some is = absurd (cc)
one_heap (Del keys) K h some is = absurd (cc)
