-- A command keeps the limits of its request.

use Rattle.std.proofs.Common.{arith, length-drop, subst, sym}
use Rattle.std.proofs.lemmas.List.Elements.{All-drop, All-head, All-tail}
use Rattle.std.specs.Int.Signed.{lt_z_no}
use Rattle.std.specs.List.{list_any, prefix_len}
use Rattle.std.specs.Prelude.{All, Bool, Err, List, None, Ok, Option, Some, T, [], codes, cond, drop, int_lt, length, nat_le, not, pos, take, true, false, ℤ, ◌∷◌, ◌≡◌, ◌≤◌}
use Rattle.zq_words.proofs.Limits.{bound_within, else_ok, err_ok, if_not, is_that, pairs_within, score_within}
use Rattle.zq_words.specs.Bounds.{bound_of}
use Rattle.zq_words.specs.Command.{Command, Del, Ping, Reading, Zadd, ZaddIncr, Zcard, Zcount, Zincrby, Zpopmin, Zpopnear, Zrange, Zrank, Zrem, Zrevrank, Zscore, by_place, by_score, command, command_of, exclude, flags_of, is_flag, is_paired, name_of, or_else, pairs_of, zadd, zadd_incr, zadd_words, zpopmin, zrange}
use Rattle.zq_words.specs.Limits.{IsLimit, IsRange, IsShort, IsWithinLimits}
use Rattle.zq_words.specs.Options.{is_by_scores, is_rev, is_with_scores, limit_in, limits_in, options_of}
use Rattle.zq_words.specs.Words.{Word, has, whole_of, written_score}
use Rattle.zq_words.specs.declared.bound.Bound.{Bound}
use Rattle.zq_words.specs.declared.flags.Flags.{Flags}
use Rattle.zq_words.specs.declared.name.Name.{Name}
use Rattle.zq_words.specs.declared.name.Name.TheVariants as name
use Rattle.zq_words.specs.declared.range.Range.TheVariants.{ByPlace, ByScore}
use Rattle.zq_words.specs.declared.range.Window.{Window}
use Rattle.zq_words.specs.declared.refused.Refused.TheVariants as refused

incr_within : (key : Word) (flags : Flags) (words : List Word) (c : Command) → IsShort key → All IsShort words → zadd_incr key flags words ≡ Ok c → IsWithinLimits c
incr_within key flags [] c k short e = absurd (err_ok e)
incr_within key flags (a ∷ []) c k short e = absurd (err_ok e)
incr_within key flags (a ∷ m ∷ []) c k short e =
    let parts = else_ok _ (written_score a) (λ amount. Ok (ZaddIncr key flags amount m)) c e in
    is_that (ZaddIncr key flags parts.0 m) c (k, (score_within a parts.0 parts.1, All-head IsShort m [] (All-tail IsShort a (m ∷ []) short))) parts.2
incr_within key flags (a ∷ m ∷ b ∷ words) c k short e = absurd (err_ok e)

scored_within : (key : Word) (flags : Flags) (words : List Word) (c : Command) → IsShort key → All IsShort words → length words ≤ 65536 →
    or_else refused.Score (pairs_of words) (λ scored. Ok (Zadd key flags scored)) ≡ Ok c → IsWithinLimits c
scored_within key flags words c k short few e =
    let parts = else_ok _ (pairs_of words) (λ scored. Ok (Zadd key flags scored)) c e in
    let pairs = pairs_within words parts.0 short parts.1 in
    is_that (Zadd key flags parts.0) c (k, pairs.0, omega (arith, pairs.1, few)) parts.2

either_within : (has_incr : Bool) (key : Word) (flags : Flags) (words : List Word) (c : Command) → IsShort key → All IsShort words → length words ≤ 65536 →
    cond has_incr (zadd_incr key flags words) (or_else refused.Score (pairs_of words) (λ scored. Ok (Zadd key flags scored))) ≡ Ok c → IsWithinLimits c
either_within true key flags words c k short few e = incr_within key flags words c k short e
either_within false key flags words c k short few e = scored_within key flags words c k short few e

zadd_within : (key : Word) (words pairs : List Word) (c : Command) → IsShort key → All IsShort pairs → length pairs ≤ 65536 → zadd key words pairs ≡ Ok c → IsWithinLimits c
zadd_within key words pairs c k short few e =
    let paired = if_not (not (is_paired pairs)) refused.Syntax _ c e in
    let allowed = if_not (exclude (flags_of words)) refused.Flags _ c paired.1 in
    either_within (has (codes "INCR") words) key (flags_of words) pairs c k short few allowed.1

zadd_words_within : (key : Word) (words : List Word) (c : Command) → IsShort key → All IsShort words → length words ≤ 65536 → zadd_words key words ≡ Ok c → IsWithinLimits c
zadd_words_within key words c k short few e =
    let n = prefix_len is_flag words in
    zadd_within key (take n words) (drop n words) c k (All-drop IsShort n words short) (omega (arith, length-drop n words, few)) e

placed_within : (key a b : Word) (is_turned with_scores : Bool) (c : Command) → IsShort key → by_place key a b is_turned with_scores ≡ Ok c → IsWithinLimits c
placed_within key a b is_turned with_scores c k e =
    let first = else_ok refused.Whole (whole_of a) (λ first. or_else refused.Whole (whole_of b) (λ last. Ok (Zrange key (ByPlace first last) is_turned with_scores))) c e in
    let last = else_ok refused.Whole (whole_of b) (λ last. Ok (Zrange key (ByPlace first.0 last) is_turned with_scores)) c first.2 in
    is_that (Zrange key (ByPlace first.0 last.0) is_turned with_scores) c (k, tt) last.2

turned_within : (is_turned : Bool) (a b : Bound) (window : Option Window) → IsLimit a.limit → IsLimit b.limit →
    IsRange (cond is_turned (ByScore b a window) (ByScore a b window))
turned_within true a b window p q = (q, p)
turned_within false a b window p q = (p, q)

by_score_within : (key a b : Word) (window : Option (Option Window)) (is_turned with_scores : Bool) (c : Command) → IsShort key →
    by_score key a b window is_turned with_scores ≡ Ok c → IsWithinLimits c
by_score_within key a b window is_turned with_scores c k e =
    let made : Bound → Bound → Option Window → Reading = λ x y given. Ok (Zrange key (cond is_turned (ByScore y x given) (ByScore x y given)) is_turned with_scores) in
    let first = else_ok refused.Bound (bound_of a) (λ x. or_else refused.Bound (bound_of b) (λ y. or_else refused.Whole window (made x y))) c e in
    let second = else_ok refused.Bound (bound_of b) (λ y. or_else refused.Whole window (made first.0 y)) c first.2 in
    let given = else_ok refused.Whole window (made first.0 second.0) c second.2 in
    is_that (Zrange key (cond is_turned (ByScore second.0 first.0 given.0) (ByScore first.0 second.0 given.0)) is_turned with_scores) c
    (k, turned_within is_turned first.0 second.0 given.0 (bound_within a first.0 first.1) (bound_within b second.0 second.1)) given.2

ranged_within : (by_scores has_limit : Bool) (key a b : Word) (window : Option (Option Window)) (is_turned with_scores : Bool) (c : Command) → IsShort key →
    cond by_scores (by_score key a b window is_turned with_scores) (cond has_limit (Err refused.Syntax) (by_place key a b is_turned with_scores)) ≡ Ok c → IsWithinLimits c
ranged_within true has_limit key a b window is_turned with_scores c k e = by_score_within key a b window is_turned with_scores c k e
ranged_within false true key a b window is_turned with_scores c k e = absurd (err_ok e)
ranged_within false false key a b window is_turned with_scores c k e = placed_within key a b is_turned with_scores c k e

zrange_within : (key a b : Word) (words : List Word) (c : Command) → IsShort key → or_else refused.Syntax (options_of words) (zrange key a b) ≡ Ok c → IsWithinLimits c
zrange_within key a b words c k e =
    let read = else_ok refused.Syntax (options_of words) (zrange key a b) c e in
    let os = read.0 in
    ranged_within (list_any is_by_scores os) (nat_le 1 (length (limits_in os))) key a b (limit_in (limits_in os) None) (list_any is_rev os) (list_any is_with_scores os) c k read.2

counted_within : (key : Word) (count : ℤ) (c : Command) → IsShort key → zpopmin key count ≡ Ok c → IsWithinLimits c
counted_within key count c k e =
    let checked = if_not (int_lt count (pos 0)) refused.Negative _ c e in
    is_that (Zpopmin key count) c (k, lt_z_no (subst (λ b. T (not b)) (sym checked.0) tt)) checked.1

zcount_within : (key a b : Word) (c : Command) → IsShort key →
    or_else refused.Bound (bound_of a) (λ low. or_else refused.Bound (bound_of b) (λ high. Ok (Zcount key low high))) ≡ Ok c → IsWithinLimits c
zcount_within key a b c k e =
    let low = else_ok refused.Bound (bound_of a) (λ low. or_else refused.Bound (bound_of b) (λ high. Ok (Zcount key low high))) c e in
    let high = else_ok refused.Bound (bound_of b) (λ high. Ok (Zcount key low.0 high)) c low.2 in
    is_that (Zcount key low.0 high.0) c (k, bound_within a low.0 low.1, bound_within b high.0 high.1) high.2

first_short : (a : Word) (words : List Word) → All IsShort (a ∷ words) → IsShort a
first_short a words short = All-head IsShort a words short

second_short : (a b : Word) (words : List Word) → All IsShort (a ∷ b ∷ words) → IsShort b
second_short a b words short = All-head IsShort b words (All-tail IsShort a (b ∷ words) short)

named_within : (known : Name) (words : List Word) (c : Command) → All IsShort words → length words ≤ 65536 → command known words ≡ Ok c → IsWithinLimits c
named_within name.Ping [] c short few e = is_that (Ping None) c tt e
named_within name.Ping (m ∷ []) c short few e = is_that (Ping (Some m)) c tt e
named_within name.Ping (m ∷ n ∷ words) c short few e = absurd (err_ok e)
named_within name.Zadd [] c short few e = absurd (err_ok e)
named_within name.Zadd (k ∷ []) c short few e = absurd (err_ok e)
named_within name.Zadd (k ∷ a ∷ []) c short few e = absurd (err_ok e)
named_within name.Zadd (k ∷ a ∷ b ∷ words) c short few e =
    zadd_words_within k (a ∷ b ∷ words) c (first_short k (a ∷ b ∷ words) short) (All-tail IsShort k (a ∷ b ∷ words) short) (omega (arith, few)) e
named_within name.Zincrby [] c short few e = absurd (err_ok e)
named_within name.Zincrby (k ∷ []) c short few e = absurd (err_ok e)
named_within name.Zincrby (k ∷ i ∷ []) c short few e = absurd (err_ok e)
named_within name.Zincrby (k ∷ i ∷ m ∷ []) c short few e =
    let parts = else_ok _ (written_score i) (λ amount. Ok (Zincrby k amount m)) c e in
    is_that (Zincrby k parts.0 m) c (first_short k (i ∷ m ∷ []) short, (score_within i parts.0 parts.1, second_short i m [] (All-tail IsShort k (i ∷ m ∷ []) short))) parts.2
named_within name.Zincrby (k ∷ i ∷ m ∷ n ∷ words) c short few e = absurd (err_ok e)
named_within name.Zrem [] c short few e = absurd (err_ok e)
named_within name.Zrem (k ∷ []) c short few e = absurd (err_ok e)
named_within name.Zrem (k ∷ m ∷ members) c short few e =
    is_that (Zrem k (m ∷ members)) c (first_short k (m ∷ members) short, All-tail IsShort k (m ∷ members) short, omega (arith, few)) e
named_within name.Zscore [] c short few e = absurd (err_ok e)
named_within name.Zscore (k ∷ []) c short few e = absurd (err_ok e)
named_within name.Zscore (k ∷ m ∷ []) c short few e = is_that (Zscore k m) c (first_short k (m ∷ []) short, second_short k m [] short) e
named_within name.Zscore (k ∷ m ∷ n ∷ words) c short few e = absurd (err_ok e)
named_within name.Zcard [] c short few e = absurd (err_ok e)
named_within name.Zcard (k ∷ []) c short few e = is_that (Zcard k) c (first_short k [] short) e
named_within name.Zcard (k ∷ m ∷ words) c short few e = absurd (err_ok e)
named_within name.Zcount [] c short few e = absurd (err_ok e)
named_within name.Zcount (k ∷ []) c short few e = absurd (err_ok e)
named_within name.Zcount (k ∷ a ∷ []) c short few e = absurd (err_ok e)
named_within name.Zcount (k ∷ a ∷ b ∷ []) c short few e = zcount_within k a b c (first_short k (a ∷ b ∷ []) short) e
named_within name.Zcount (k ∷ a ∷ b ∷ d ∷ words) c short few e = absurd (err_ok e)
named_within name.Zrank [] c short few e = absurd (err_ok e)
named_within name.Zrank (k ∷ []) c short few e = absurd (err_ok e)
named_within name.Zrank (k ∷ m ∷ []) c short few e = is_that (Zrank k m) c (first_short k (m ∷ []) short, second_short k m [] short) e
named_within name.Zrank (k ∷ m ∷ n ∷ words) c short few e = absurd (err_ok e)
named_within name.Zrevrank [] c short few e = absurd (err_ok e)
named_within name.Zrevrank (k ∷ []) c short few e = absurd (err_ok e)
named_within name.Zrevrank (k ∷ m ∷ []) c short few e = is_that (Zrevrank k m) c (first_short k (m ∷ []) short, second_short k m [] short) e
named_within name.Zrevrank (k ∷ m ∷ n ∷ words) c short few e = absurd (err_ok e)
named_within name.Zrange [] c short few e = absurd (err_ok e)
named_within name.Zrange (k ∷ []) c short few e = absurd (err_ok e)
named_within name.Zrange (k ∷ a ∷ []) c short few e = absurd (err_ok e)
named_within name.Zrange (k ∷ a ∷ b ∷ words) c short few e = zrange_within k a b words c (first_short k (a ∷ b ∷ words) short) e
named_within name.Zpopmin [] c short few e = absurd (err_ok e)
named_within name.Zpopmin (k ∷ []) c short few e = is_that (Zpopmin k (pos 1)) c (first_short k [] short, lt_z_no tt) e
named_within name.Zpopmin (k ∷ n ∷ []) c short few e =
    let parts = else_ok refused.Whole (whole_of n) (zpopmin k) c e in
    counted_within k parts.0 c (first_short k (n ∷ []) short) parts.2
named_within name.Zpopmin (k ∷ n ∷ m ∷ words) c short few e = absurd (err_ok e)
named_within name.Zpopnear [] c short few e = absurd (err_ok e)
named_within name.Zpopnear (k ∷ []) c short few e = is_that (Zpopnear k) c (first_short k [] short) e
named_within name.Zpopnear (k ∷ m ∷ words) c short few e = absurd (err_ok e)
named_within name.Del [] c short few e = absurd (err_ok e)
named_within name.Del (k ∷ keys) c short few e = is_that (Del (k ∷ keys)) c (short, few) e

pub within_limits : (words : List Word) (c : Command) → All IsShort words → length words ≤ 65536 → command_of words ≡ Ok c → IsWithinLimits c
within_limits [] c short few e = absurd (err_ok e)
within_limits (first ∷ words) c short few e =
    let parts = else_ok refused.Unknown (name_of first) (λ known. command known words) c e in
    named_within parts.0 words c (All-tail IsShort first words short) (omega (arith, few)) parts.2
