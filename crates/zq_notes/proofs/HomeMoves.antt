-- The moves of a command lie in the heaps that its call holds.

use Rattle.std.proofs.Common.{ap, arith, inl, inr, subst, sym, ◌∙◌}
use Rattle.std.specs.Prelude.{Bool, List, None, Option, [], codes, false, if◌then◌else◌, is_some, take, true, ℕ, ℤ, ◌++◌, ◌<◌, ◌∷◌, ◌≡◌}
use Rattle.zq_model.specs.Books.{Book}
use Rattle.zq_model.proofs.Listing.{in_map_from}
use Rattle.zq_model.proofs.MeantQueues.{heap_in_range, queue_is}
use Rattle.zq_model.proofs.Membership.{in_range_with_len, in_taken}
use Rattle.zq_model.specs.Heaps.{heap_of}
use Rattle.zq_model.specs.Meaning.{Scored}
use Rattle.zq_model.specs.Operation.{Act, Drop, Operation, Put}
use Rattle.zq_model.specs.Rule.{Rule}
use Rattle.zq_model.specs.Sets.{IsIn, IsWorld}
use Rattle.zq_model.specs.Moves.{Move, Queues, score_in}
use Rattle.zq_notes.proofs.SaidCommands.{is_near}
use Rattle.zq_notes.specs.Does.{AreHeapsFor}
use Rattle.zq_notes.specs.Readings.{IsRunOver, cut_off, in_full}
use Rattle.zq_semantics.proofs.Narrow.{same_heap}
use Rattle.zq_semantics.specs.Plan.{Part, Plan, counts, drops, lets, nothing, one, plan_of, raise, raising, reading, sum_of}
use Rattle.zq_semantics.specs.Replies.{Error, NullBulk, Reply, number_text}
use Rattle.zq_semantics.specs.Reading.{heaps_in, queues_over}
use Rattle.zq_words.specs.Command.{Command, Del, Ping, Zadd, ZaddIncr, Zcard, Zcount, Zincrby, Zpopmin, Zpopnear, Zrange, Zrank, Zrem, Zrevrank, Zscore}
use Rattle.zq_words.specs.Heaps.{heaps_of}
use Rattle.zq_words.specs.Words.{Word, is_in_range}
use Rattle.zq_words.specs.declared.heaps.Heaps.{Heaps}
use Rattle.zq_words.specs.declared.heaps.Heaps.TheVariants.{All, Near, NoHeap, One}

-- what a run makes is planned
planned : (queues : Queues) (command : Command) (moves : List Move) (reply : Word) → IsRunOver queues command moves reply → (m : Move) → IsIn m moves → IsIn m (plan_of command queues).moves
planned queues command moves reply (in_full are says) m i = subst (IsIn m) are i
planned queues command moves reply (cut_off k want few are says) m i = in_taken m k (plan_of command queues).moves (subst (IsIn m) are i)

-- ---- a command of one heap

abbrev part_if : Bool → Bool → Word → Word → Act → Part
part_if b counted key member act = if b then record { moves = one key member act; is_counted = counted } else nothing

abbrev plan_if : Bool → Word → Word → Act → Reply → Reply → Plan
plan_if b key member act says other = if b then record { moves = one key member act; reply = says } else reading other

-- the move is on this member
abbrev IsOn : Word → Word → Move → Type 0
IsOn key member m = (m.key ≡ key) × (m.member ≡ member)

part_on : (b counted : Bool) (key member : Word) (act : Act) (m : Move) → IsIn m ((part_if b counted key member act).moves ++ []) → IsOn key member m
part_on true counted key member act m (inl is) = (ap (λ (x : Move). x.key) (sym is), ap (λ (x : Move). x.member) (sym is))
part_on true counted key member act m (inr none) = absurd none
part_on false counted key member act m none = absurd none

plan_on : (b : Bool) (key member : Word) (act : Act) (says other : Reply) (m : Move) → IsIn m (plan_if b key member act says other).moves → IsOn key member m
plan_on true key member act says other m (inl is) = (ap (λ (x : Move). x.key) (sym is), ap (λ (x : Move). x.member) (sym is))
plan_on true key member act says other m (inr none) = absurd none
plan_on false key member act says other m none = absurd none

raise_on : (key member : Word) (old : Option ℤ) (increment : ℤ) (m : Move) → IsIn m (raise key member old increment).moves → IsOn key member m
raise_on key member old increment m i =
    plan_on (is_in_range (sum_of old increment)) key member (raising old increment) (number_text (sum_of old increment)) (Error (codes "ERR result out of range") None) m i

raise_if_on : (b : Bool) (key member : Word) (old : Option ℤ) (increment : ℤ) (m : Move) → IsIn m (if b then raise key member old increment else reading NullBulk).moves → IsOn key member m
raise_if_on true key member old increment m i = raise_on key member old increment m i
raise_if_on false key member old increment m none = absurd none

module _ (K h : ℕ) (queues : Queues) (m : Move) where
  home : (key member : Word) → One (heap_of key member K) ≡ One h → IsOn key member m → heap_of m.key m.member K ≡ h
  home key member is on = ap (λ k. heap_of k m.member K) on.0 ∙ ap (λ x. heap_of key x K) on.1 ∙ same_heap _ _ is

  in_one : (command : Command) → heaps_of command K ≡ One h → IsIn m (plan_of command queues).moves → heap_of m.key m.member K ≡ h
  in_one (Ping message) is i = absurd (cc)
  in_one (Zadd key flags []) is i = absurd (cc)
  in_one (Zadd key flags ((score, member) ∷ [])) is i =
      home key member is (part_on (lets flags (score_in (queues key) member) score) (counts flags (score_in (queues key) member) score) key member (Put score) m i)
  in_one (Zadd key flags (a ∷ b ∷ pairs)) is i = absurd (cc)
  in_one (ZaddIncr key flags increment member) is i =
      home key member is (raise_if_on (lets flags (score_in (queues key) member) (sum_of (score_in (queues key) member) increment)) key member (score_in (queues key) member) increment m i)
  in_one (Zincrby key increment member) is i = home key member is (raise_on key member (score_in (queues key) member) increment m i)
  in_one (Zrem key []) is i = absurd (cc)
  in_one (Zrem key (member ∷ [])) is i = home key member is (part_on (is_some (score_in (queues key) member)) true key member Drop m i)
  in_one (Zrem key (a ∷ b ∷ members)) is i = absurd (cc)
  in_one (Zscore key member) is i = absurd i
  in_one (Zcard key) is i = absurd i
  in_one (Zcount key min max) is i = absurd i
  in_one (Zrank key member) is i = absurd i
  in_one (Zrevrank key member) is i = absurd i
  in_one (Zrange key range is_turned with_scores) is i = absurd i
  in_one (Zpopmin key count) is i = absurd (cc)
  in_one (Zpopnear key) is i = absurd (cc)
  in_one (Del keys) is i = absurd (cc)

-- ---- any command

module _ (rule : Rule) (K : ℕ) (S : List Operation) (world : IsWorld K S) (some : 0 < K) (heaps : List ℕ) (m : Move) where
  -- a pair that is dropped was found in these heaps
  dropped : (key : Word) (n : ℕ) → IsIn m (drops key (take n (queues_over rule S heaps key))) → IsIn (heap_of m.key m.member K) heaps
  dropped key n i =
      let from = in_map_from (λ (pair : Scored). record { key = key; member = pair.1; act = Drop }) m (take n (queues_over rule S heaps key)) i in
      let pair : Scored = from.0 in
      let here = in_taken pair n (queues_over rule S heaps key) from.1 in
      let there : IsIn (heap_of key pair.1 K) heaps = (((queue_is rule K S key heaps world).members pair.0 pair.1).0 here).0 in
      subst (λ (x : Move). IsIn (heap_of x.key x.member K) heaps) from.2 there

  anywhere : heaps ≡ heaps_in K → IsIn (heap_of m.key m.member K) heaps
  anywhere all = subst (IsIn (heap_of m.key m.member K)) (sym all) (in_range_with_len 0 K (heap_of m.key m.member K) (omega arith) (let below = heap_in_range m.key m.member K some in omega (arith, below)))

  pub at_home : (command : Command) (w1 w2 : ℕ) (found : List Book) (moves : List Move) (reply : Word) (hs : Heaps) → heaps_of command K ≡ hs → AreHeapsFor hs rule K command w1 w2 heaps found →
      IsRunOver (queues_over rule S heaps) command moves reply → IsIn m moves → IsIn (heap_of m.key m.member K) heaps
  at_home command w1 w2 found moves reply NoHeap named held is i = absurd held
  at_home command w1 w2 found moves reply (One h) named held is i =
      subst (IsIn (heap_of m.key m.member K)) (sym held) (inl (sym (in_one K h (queues_over rule S heaps) m command named (planned (queues_over rule S heaps) command moves reply is m i))))
  at_home command w1 w2 found moves reply Near named (inl few) is i =
      let near = is_near K command named in
      dropped near.0 1 (subst (λ c. IsIn m (plan_of c (queues_over rule S heaps)).moves) near.1 (planned (queues_over rule S heaps) command moves reply is m i))
  at_home command w1 w2 found moves reply Near named (inr all) is i = anywhere all
  at_home command w1 w2 found moves reply All named held is i = anywhere held
