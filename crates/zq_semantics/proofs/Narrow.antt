-- A command that works in one heap plans over its book what it plans over all.
use Rattle.std.proofs.Common.{List, Option, [], ap, inl, true, refl, sym, ℕ, ℤ, ◌++◌, ◌+◌, ◌∙◌, ◌∷◌, ◌≡◌}
use Rattle.std.proofs.lemmas.Bool.{eq-eqb}
use Rattle.std.specs.Prelude.{if◌then◌else◌, is_some}
use Rattle.zq_model.specs.Books.{Book}
use Rattle.zq_model.specs.Heaps.{heap_of}
use Rattle.zq_model.specs.Operation.{Drop, Put}
use Rattle.zq_model.specs.Rule.{Rule}
use Rattle.zq_model.specs.Sets.{IsIn}
use Rattle.zq_model.proofs.Homes.{lent_each}
use Rattle.zq_model.proofs.Read.{read_score}
use Rattle.zq_model.specs.Lent.{AreLent, queues_of}
use Rattle.zq_model.specs.Moves.{Queues, score_in}
use Rattle.zq_semantics.specs.Plan.{Part, Plan, counts, lets, nothing, one, plan_of, raise, raise_if, reading}
use Rattle.zq_semantics.specs.Replies.{count_reply, score_reply}
use Rattle.zq_words.specs.Command.{Command, Del, Ping, Zadd, ZaddIncr, Zcard, Zcount, Zincrby, Zpopmin, Zpopnear, Zrange, Zrank, Zrem, Zrevrank, Zscore}
use Rattle.zq_words.specs.Heaps.{heaps_of}
use Rattle.zq_words.specs.Words.{Word}
use Rattle.zq_words.specs.declared.flags.Flags.{Flags}
use Rattle.zq_words.specs.declared.heaps.Heaps.TheVariants.{NoHeap, One}

pub same_heap : (a b : ℕ) → One a ≡ One b → a ≡ b
same_heap a b e = cc

-- ---- plans by a member's score

abbrev put_given : Word → Flags → ℤ × Word → Option ℤ → Part
put_given key flags pair old = if lets flags old pair.0 then record { moves = one key pair.1 (Put pair.0); is_counted = counts flags old pair.0 } else nothing

abbrev drop_given : Word → Word → Option ℤ → Part
drop_given key member old = if is_some old then record { moves = one key member Drop; is_counted = true } else nothing

abbrev plan_given : Part → Plan
plan_given part = record { moves = part.moves ++ []; reply = count_reply ((if part.is_counted then 1 else 0) + 0) }

-- queues that have the same score at a place give commands on it one plan
module _ (queues others : Queues) (K h : ℕ) (same : (key m : List ℕ) → heap_of key m K ≡ h → score_in (queues key) m ≡ score_in (others key) m) where
  pub plans_same : (command : Command) → heaps_of command K ≡ One h → plan_of command queues ≡ plan_of command others
  plans_same (Ping message) is = absurd (cc)
  plans_same (Zadd key flags []) is = absurd (cc)
  plans_same (Zadd key flags ((score, member) ∷ [])) is =
      ap (λ old. plan_given (put_given key flags (score, member) old)) (same key member (same_heap _ _ is))
  plans_same (Zadd key flags (a ∷ b ∷ pairs)) is = absurd (cc)
  plans_same (ZaddIncr key flags increment member) is = ap (λ old. raise_if flags key member old increment) (same key member (same_heap _ _ is))
  plans_same (Zincrby key increment member) is = ap (λ old. raise key member old increment) (same key member (same_heap _ _ is))
  plans_same (Zrem key []) is = absurd (cc)
  plans_same (Zrem key (member ∷ [])) is = ap (λ old. plan_given (drop_given key member old)) (same key member (same_heap _ _ is))
  plans_same (Zrem key (a ∷ b ∷ members)) is = absurd (cc)
  plans_same (Zscore key member) is = ap (λ old. reading (score_reply old)) (same key member (same_heap _ _ is))
  plans_same (Zcard key) is = absurd (cc)
  plans_same (Zcount key min max) is = absurd (cc)
  plans_same (Zrank key member) is = absurd (cc)
  plans_same (Zrevrank key member) is = absurd (cc)
  plans_same (Zrange key range is_turned with_scores) is = absurd (cc)
  plans_same (Zpopmin key count) is = absurd (cc)
  plans_same (Zpopnear key) is = absurd (cc)
  plans_same (Del keys) is = absurd (cc)

-- a member's score over its book is its score over all
score_alone : (rule : Rule) (K : ℕ) (books : List Book) (book : Book) (key m : List ℕ) → AreLent K books → IsIn book books → heap_of key m K ≡ book.heap →
    score_in (queues_of rule (book ∷ []) key) m ≡ score_in (queues_of rule books key) m
score_alone rule K books book key m are here heap =
    let lent = lent_each K books book are here in
    let home = eq-eqb _ _ (ap (heap_of key m) lent.heaps ∙ heap) in
    read_score rule K (book ∷ []) key m book (lent, λ later none. absurd none, tt) (inl refl) home
    ∙ sym (read_score rule K books key m book are here home)

pub plan_alone : (rule : Rule) (K : ℕ) (command : Command) (books : List Book) (book : Book) → AreLent K books → IsIn book books → heaps_of command K ≡ One book.heap →
    plan_of command (queues_of rule (book ∷ [])) ≡ plan_of command (queues_of rule books)
plan_alone rule K command books book are here is =
    plans_same (queues_of rule (book ∷ [])) (queues_of rule books) K book.heap (λ key m heap. score_alone rule K books book key m are here heap) command is

pub plan_nowhere : (K : ℕ) (command : Command) (queues others : Queues) → heaps_of command K ≡ NoHeap → plan_of command queues ≡ plan_of command others
plan_nowhere K (Ping message) queues others is = refl
plan_nowhere K (Zadd key flags []) queues others is = absurd (cc)
plan_nowhere K (Zadd key flags ((score, member) ∷ [])) queues others is = absurd (cc)
plan_nowhere K (Zadd key flags (a ∷ b ∷ pairs)) queues others is = absurd (cc)
plan_nowhere K (ZaddIncr key flags increment member) queues others is = absurd (cc)
plan_nowhere K (Zincrby key increment member) queues others is = absurd (cc)
plan_nowhere K (Zrem key []) queues others is = absurd (cc)
plan_nowhere K (Zrem key (member ∷ [])) queues others is = absurd (cc)
plan_nowhere K (Zrem key (a ∷ b ∷ members)) queues others is = absurd (cc)
plan_nowhere K (Zscore key member) queues others is = absurd (cc)
plan_nowhere K (Zcard key) queues others is = absurd (cc)
plan_nowhere K (Zcount key min max) queues others is = absurd (cc)
plan_nowhere K (Zrank key member) queues others is = absurd (cc)
plan_nowhere K (Zrevrank key member) queues others is = absurd (cc)
plan_nowhere K (Zrange key range is_turned with_scores) queues others is = absurd (cc)
plan_nowhere K (Zpopmin key count) queues others is = absurd (cc)
plan_nowhere K (Zpopnear key) queues others is = absurd (cc)
plan_nowhere K (Del keys) queues others is = absurd (cc)
