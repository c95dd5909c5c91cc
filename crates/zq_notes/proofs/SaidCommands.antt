-- The command that the event of a call asks for, and over which queues a run plans it.

use Rattle.std.proofs.Common.{ap, arith, refl, suc, zero, ◌∙◌}
use Rattle.std.proofs.lemmas.List.{length-take-le, take_all}
use Rattle.std.specs.Prelude.{All, List, Ok, [], codes, false, if◌then◌else◌, length, pos, take, true, ℕ, ◌∷◌, ◌≡◌, ◌≤◌}
use Rattle.zq_model.specs.Operation.{LONGEST, Operation}
use Rattle.zq_model.specs.Rule.{Rule}
use Rattle.zq_model.specs.Moves.{Move, Queue, Queues}
use Rattle.zq_notes.specs.Readings.{IsCutAt, IsRunOver, cut_off, in_full}
use Rattle.zq_semantics.specs.Plan.{is_there, plan_of}
use Rattle.zq_semantics.specs.Run.{ForCopies, ForMoves, ForReply, Memory, Number, Takes, Want, takes_of}
use Rattle.zq_resp.specs.Request.{IsRequest, IsWord}
use Rattle.zq_semantics.specs.Doing.{drawn, is_ping, queues_for}
use Rattle.zq_semantics.specs.Reading.{heaps_in, queues_over}
use Rattle.zq_words.proofs.CommandLimits.{within_limits}
use Rattle.zq_words.specs.Command.{Command, Del, Ping, Zadd, ZaddIncr, Zcard, Zcount, Zincrby, Zpopmin, Zpopnear, Zrange, Zrank, Zrem, Zrevrank, Zscore, command_of}
use Rattle.zq_words.specs.Heaps.{heaps_of}
use Rattle.zq_words.specs.Limits.{IsWithinLimits}
use Rattle.zq_words.specs.Words.{Word}
use Rattle.zq_words.specs.declared.heaps.Heaps.TheVariants.{NoHeap, Near}

-- ---- moves

cut_within : (want : Want) (takes : Takes) (k moves : ℕ) → IsCutAt want takes k moves → k ≤ moves
cut_within Number takes k moves is = omega (arith, is)
cut_within Memory (ForReply is_long counted) k moves is = is.0
cut_within Memory ForMoves k moves is = omega (arith, is)
cut_within Memory ForCopies k moves is = omega (arith, is)

-- a run that made as many moves as it planned was not cut before one
pub all_made : (queues : Queues) (command : Command) (moves : List Move) (reply : Word) → IsRunOver queues command moves reply →
    length (plan_of command queues).moves ≤ length moves → moves ≡ (plan_of command queues).moves
all_made queues command moves reply (in_full are says) all = are
all_made queues command moves reply (cut_off k want few are says) all =
    let planned = (plan_of command queues).moves in
    let within = cut_within want (takes_of command queues) k (length planned) few in
    let same : length moves ≡ length (take k planned) = ap length are in
    let number : length (take k planned) ≡ k = length-take-le k planned within in
    are ∙ take_all k planned (omega (arith, all, same, number))

-- ---- kinds of commands

pub some_there : (q : Queue) → 1 ≤ length q → is_there q ≡ true
some_there [] some = absurd (omega (arith, some))
some_there (p ∷ q) some = refl

-- only PING needs no heap
pub not_ping : (K : ℕ) (command : Command) → (heaps_of command K ≡ NoHeap → ⊥) → is_ping command ≡ false
not_ping K (Ping message) some = absurd (some refl)
not_ping K (Zadd key flags pairs) some = refl
not_ping K (ZaddIncr key flags increment member) some = refl
not_ping K (Zincrby key increment member) some = refl
not_ping K (Zrem key members) some = refl
not_ping K (Zscore key member) some = refl
not_ping K (Zcard key) some = refl
not_ping K (Zcount key min max) some = refl
not_ping K (Zrank key member) some = refl
not_ping K (Zrevrank key member) some = refl
not_ping K (Zrange key range is_turned with_scores) some = refl
not_ping K (Zpopmin key count) some = refl
not_ping K (Zpopnear key) some = refl
not_ping K (Del keys) some = refl

-- only ZPOPNEAR draws heaps
pub is_near : (K : ℕ) (command : Command) → heaps_of command K ≡ Near → (key : Word) × (command ≡ Zpopnear key)
is_near K (Ping message) is = absurd (cc)
is_near K (Zadd key flags []) is = absurd (cc)
is_near K (Zadd key flags ((score, member) ∷ [])) is = absurd (cc)
is_near K (Zadd key flags (a ∷ b ∷ pairs)) is = absurd (cc)
is_near K (ZaddIncr key flags increment member) is = absurd (cc)
is_near K (Zincrby key increment member) is = absurd (cc)
is_near K (Zrem key []) is = absurd (cc)
is_near K (Zrem key (member ∷ [])) is = absurd (cc)
is_near K (Zrem key (a ∷ b ∷ members)) is = absurd (cc)
is_near K (Zscore key member) is = absurd (cc)
is_near K (Zcard key) is = absurd (cc)
is_near K (Zcount key min max) is = absurd (cc)
is_near K (Zrank key member) is = absurd (cc)
is_near K (Zrevrank key member) is = absurd (cc)
is_near K (Zrange key range is_turned with_scores) is = absurd (cc)
is_near K (Zpopmin key count) is = absurd (cc)
is_near K (Zpopnear key) is = (key, refl)
is_near K (Del keys) is = absurd (cc)

-- ---- the queues over which a run plans

module _ (rule : Rule) (K : ℕ) (S : List Operation) (w1 w2 : ℕ) where
  pub for_drawn : (key : Word) → is_there (queues_over rule S (drawn K w1 w2) key) ≡ true → queues_for rule K S w1 w2 (Zpopnear key) ≡ queues_over rule S (drawn K w1 w2)
  for_drawn key some = ap (λ b. if b then queues_over rule S (drawn K w1 w2) else queues_over rule S (heaps_in K)) some

  pub for_rest : (key : Word) → is_there (queues_over rule S (drawn K w1 w2) key) ≡ false → queues_for rule K S w1 w2 (Zpopnear key) ≡ queues_over rule S (heaps_in K)
  for_rest key none = ap (λ b. if b then queues_over rule S (drawn K w1 w2) else queues_over rule S (heaps_in K)) none

  pub for_other : (command : Command) → (heaps_of command K ≡ Near → ⊥) → queues_for rule K S w1 w2 command ≡ queues_over rule S (heaps_in K)
  for_other (Ping message) far = refl
  for_other (Zadd key flags pairs) far = refl
  for_other (ZaddIncr key flags increment member) far = refl
  for_other (Zincrby key increment member) far = refl
  for_other (Zrem key members) far = refl
  for_other (Zscore key member) far = refl
  for_other (Zcard key) far = refl
  for_other (Zcount key min max) far = refl
  for_other (Zrank key member) far = refl
  for_other (Zrevrank key member) far = refl
  for_other (Zrange key range is_turned with_scores) far = refl
  for_other (Zpopmin key count) far = refl
  for_other (Zpopnear key) far = absurd (far refl)
  for_other (Del keys) far = refl

-- ---- ZPOPMIN with count 1

abbrev pub popping : Word → List Word
popping key = codes "ZPOPMIN" ∷ key ∷ []

pub popping_reads : (key : Word) → command_of (popping key) ≡ Ok (Zpopmin key (pos 1))
popping_reads key = refl

pub popping_plans : (key : Word) (queues : Queues) → plan_of (Zpopmin key (pos 1)) queues ≡ plan_of (Zpopnear key) queues
popping_plans key queues = refl

each_word : (key : Word) → length key ≤ LONGEST → All IsWord (popping key)
each_word key short zero d inside = omega arith
each_word key short (suc zero) d inside = short
each_word key short (suc (suc k)) d inside = absurd (omega (arith, inside))

pub popping_asks : (key : Word) (words : List Word) → IsRequest words → command_of words ≡ Ok (Zpopnear key) → IsRequest (popping key)
popping_asks key words is read =
    let limits : IsWithinLimits (Zpopnear key) = within_limits words (Zpopnear key) is.limits.each is.limits.count read in
    record { some = omega arith; limits = record { count = omega arith; each = each_word key limits } }
