-- Commands that only read.

use Rattle.std.proofs.Common.{Bool, Err, List, None, Ok, Option, Some, [], cond, false, refl, subst, sym, true, true≢false, ℕ, ◌∷◌, ◌≡◌}
use Rattle.std.specs.List.{list_any}
use Rattle.std.specs.Prelude.{length, nat_le}
use Rattle.zq_semantics.specs.Reading.{answer_over, answer_of, heaps_in, is_question, is_reading, only_reads, reads_if}
use Rattle.zq_model.specs.Rule.{Rule}
use Rattle.zq_semantics.specs.Doing.{done, unchanged}
use Rattle.zq_semantics.specs.State.{State, is_worn}
use Rattle.zq_semantics.specs.Reading.{queues_over}
use Rattle.std.proofs.lemmas.Bool.{cond-false}
use Rattle.zq_words.specs.Bounds.{bound_of}
use Rattle.zq_words.specs.Command.{Command, Reading, Zcount, Zrange, Zscore, Zcard, Zrank, Zrevrank, Ping, Zadd, ZaddIncr, Zincrby, Zrem, Zpopmin, Zpopnear, Del, by_score, command, command_of, name_of, or_else, zrange}
use Rattle.zq_words.specs.Options.{RangeOption, is_by_scores, is_rev, is_with_scores, limit_in, limits_in, options_of}
use Rattle.zq_words.specs.Words.{Word, whole_of}
use Rattle.zq_words.specs.declared.name.Name.{Name}
use Rattle.zq_words.specs.declared.name.Name.TheVariants as name
use Rattle.zq_words.specs.declared.refused.Refused.{Refused}
use Rattle.zq_words.specs.declared.refused.Refused.TheVariants as refused

-- what is read is a command that only reads
OnlyReads : Reading → Type 0
OnlyReads (Err why) = Unit {0}
OnlyReads (Ok c) = is_reading c ≡ true

or_else_reads : {X : Type 0} (why : Refused) (o : Option X) (f : X → Reading) → ((x : X) → OnlyReads (f x)) → OnlyReads (or_else why o f)
unfolding OnlyReads
or_else_reads why None f each = tt
or_else_reads why (Some x) f each = each x

cond_reads : (b : Bool) (x y : Reading) → OnlyReads x → OnlyReads y → OnlyReads (cond b x y)
cond_reads true x y first second = first
cond_reads false x y first second = second

zrange_reads : (key a b : Word) (options : List RangeOption) → OnlyReads (zrange key a b options)
unfolding OnlyReads
zrange_reads key a b options =
    cond_reads (list_any is_by_scores options) (by_score key a b (limit_in (limits_in options) None) (list_any is_rev options) (list_any is_with_scores options)) _
    (or_else_reads _ (bound_of a) _ (λ first. or_else_reads _ (bound_of b) _ (λ second. or_else_reads _ (limit_in (limits_in options) None) _ (λ window. refl))))
    (cond_reads (nat_le 1 (length (limits_in options))) _ _ tt
    (or_else_reads _ (whole_of a) _ (λ first. or_else_reads _ (whole_of b) _ (λ last. refl))))

named_reads : (known : Name) (words : List Word) → only_reads known ≡ true → OnlyReads (command known words)
unfolding OnlyReads
named_reads name.Ping words is = absurd (true≢false (sym is))
named_reads name.Zadd words is = absurd (true≢false (sym is))
named_reads name.Zincrby words is = absurd (true≢false (sym is))
named_reads name.Zrem words is = absurd (true≢false (sym is))
named_reads name.Zpopmin words is = absurd (true≢false (sym is))
named_reads name.Zpopnear words is = absurd (true≢false (sym is))
named_reads name.Del words is = absurd (true≢false (sym is))
named_reads name.Zscore [] is = tt
named_reads name.Zscore (k ∷ []) is = tt
named_reads name.Zscore (k ∷ m ∷ []) is = refl
named_reads name.Zscore (k ∷ m ∷ n ∷ words) is = tt
named_reads name.Zcard [] is = tt
named_reads name.Zcard (k ∷ []) is = refl
named_reads name.Zcard (k ∷ m ∷ words) is = tt
named_reads name.Zcount [] is = tt
named_reads name.Zcount (k ∷ []) is = tt
named_reads name.Zcount (k ∷ a ∷ []) is = tt
named_reads name.Zcount (k ∷ a ∷ b ∷ []) is = or_else_reads _ (bound_of a) _ (λ low. or_else_reads _ (bound_of b) _ (λ high. refl))
named_reads name.Zcount (k ∷ a ∷ b ∷ c ∷ words) is = tt
named_reads name.Zrank [] is = tt
named_reads name.Zrank (k ∷ []) is = tt
named_reads name.Zrank (k ∷ m ∷ []) is = refl
named_reads name.Zrank (k ∷ m ∷ n ∷ words) is = tt
named_reads name.Zrevrank [] is = tt
named_reads name.Zrevrank (k ∷ []) is = tt
named_reads name.Zrevrank (k ∷ m ∷ []) is = refl
named_reads name.Zrevrank (k ∷ m ∷ n ∷ words) is = tt
named_reads name.Zrange [] is = tt
named_reads name.Zrange (k ∷ []) is = tt
named_reads name.Zrange (k ∷ a ∷ []) is = tt
named_reads name.Zrange (k ∷ a ∷ b ∷ words) is = or_else_reads refused.Syntax (options_of words) (zrange k a b) (λ options. zrange_reads k a b options)

words_read : (words : List Word) → is_question words ≡ true → OnlyReads (command_of words)
unfolding OnlyReads
words_read [] is = absurd (true≢false (sym is))
words_read (word ∷ words) is =
    elim (name_of word) as (λ o. reads_if o ≡ true → OnlyReads (or_else refused.Unknown o (λ known. command known words))) [
      | None ↦ λ none. absurd (true≢false (sym none))
      | Some known ↦ λ reads. named_reads known words reads
    ] is

-- a request whose name is that of a command that only reads is such a command, or is refused
pub questions_read : (words : List Word) (c : Command) → is_question words ≡ true → command_of words ≡ Ok c → is_reading c ≡ true
unfolding OnlyReads
questions_read words c is read = subst OnlyReads read (words_read words is)

-- ---- what a site does that is asked one

module _ (rule : Rule) (K site w1 w2 : ℕ) (st : State) (worn : is_worn K st site ≡ false) where
  reading_done : (c : Command) → is_reading c ≡ true → done rule K site w1 w2 st (Ok c) ≡ unchanged st (answer_over (queues_over rule (st.sets site) (heaps_in K)) (Ok c))
  reading_done (Zscore key member) is = cond-false _ _ _ worn
  reading_done (Zcard key) is = cond-false _ _ _ worn
  reading_done (Zcount key min max) is = cond-false _ _ _ worn
  reading_done (Zrank key member) is = cond-false _ _ _ worn
  reading_done (Zrevrank key member) is = cond-false _ _ _ worn
  reading_done (Zrange key range is_turned with_scores) is = cond-false _ _ _ worn
  reading_done (Ping message) is = absurd (true≢false (sym is))
  reading_done (Zadd key flags pairs) is = absurd (true≢false (sym is))
  reading_done (ZaddIncr key flags increment member) is = absurd (true≢false (sym is))
  reading_done (Zincrby key increment member) is = absurd (true≢false (sym is))
  reading_done (Zrem key members) is = absurd (true≢false (sym is))
  reading_done (Zpopmin key count) is = absurd (true≢false (sym is))
  reading_done (Zpopnear key) is = absurd (true≢false (sym is))
  reading_done (Del keys) is = absurd (true≢false (sym is))

  pub questions_done : (words : List Word) → is_question words ≡ true → done rule K site w1 w2 st (command_of words) ≡ unchanged st (answer_of rule K (st.sets site) words)
  questions_done words is =
      elim (command_of words) as (λ r. command_of words ≡ r → done rule K site w1 w2 st r ≡ unchanged st (answer_over (queues_over rule (st.sets site) (heaps_in K)) r)) [
        | Err refused ↦ λ _. refl
        | Ok c ↦ λ read. reading_done c (questions_read words c is read)
      ] refl
