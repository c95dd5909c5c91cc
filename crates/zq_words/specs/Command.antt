-- Commands, and the command or the first refusal of a request's words.
use Rattle.std.specs.Prelude.{◌==◌, ◌%◌, nat_le, int_lt, ◌&&◌, ◌||◌, not, Bool, List, ℤ, pos, [], ◌∷◌, length, take, drop, codes, Option, None, Some, Result, Ok, Err, if◌then◌else◌}
use Rattle.std.specs.List.{find, list_any, prefix_len}
use Rattle.std.specs.Option.{option_map}
use Rattle.zq_words.specs.Bounds.{bound_of}
use Rattle.zq_words.specs.Options.{RangeOption, is_by_scores, is_rev, is_with_scores, limit_in, limits_in, options_of}
use Rattle.zq_words.specs.Words.{Word, has, is, whole_of, written_score}
use Rattle.zq_words.specs.declared.bound.Bound.{Bound}
use Rattle.zq_words.specs.declared.flags.Flags.{Flags}
use Rattle.zq_words.specs.declared.name.Name.{Name}
use Rattle.zq_words.specs.declared.name.Name.TheVariants as name
use Rattle.zq_words.specs.declared.range.Range.{Range}
use Rattle.zq_words.specs.declared.range.Range.TheVariants.{ByPlace, ByScore}
use Rattle.zq_words.specs.declared.range.Window.{Window}
use Rattle.zq_words.specs.declared.refused.Refused.{Refused}
use Rattle.zq_words.specs.declared.refused.Refused.TheVariants as refused

pub data Command : Type 0 where
  Ping : (message : Option Word) → Command
  Zadd : (key : Word) (flags : Flags) (pairs : List (ℤ × Word)) → Command
  ZaddIncr : (key : Word) (flags : Flags) (increment : ℤ) (member : Word) → Command
  Zincrby : (key : Word) (increment : ℤ) (member : Word) → Command
  Zrem : (key : Word) (members : List Word) → Command
  Zscore : (key member : Word) → Command
  Zcard : (key : Word) → Command
  Zcount : (key : Word) (min max : Bound) → Command
  Zrank : (key member : Word) → Command
  Zrevrank : (key member : Word) → Command
  Zrange : (key : Word) (range : Range) (is_turned with_scores : Bool) → Command
  Zpopmin : (key : Word) (count : ℤ) → Command
  Zpopnear : (key : Word) → Command
  Del : (keys : List Word) → Command

-- a command, or the first refusal, which is never want of memory
abbrev pub Reading : Type 0
Reading = Result Command Refused

-- what comes of a value where there is one, and else the refusal
abbrev pub or_else : {X : Type 0} → Refused → Option X → (X → Reading) → Reading
or_else why None f = Err why
or_else why (Some x) f = f x

abbrev pub is_flag : Word → Bool
is_flag word = is word (codes "NX") || is word (codes "XX") || is word (codes "GT") || is word
    (codes "LT") || is word (codes "CH") || is word (codes "INCR")

abbrev pub flags_of : List Word → Flags
flags_of words = record {
  nx = has (codes "NX") words;
  xx = has (codes "XX") words;
  gt = has (codes "GT") words;
  lt = has (codes "LT") words;
  ch = has (codes "CH") words;
}

-- NX excludes XX, GT and LT; GT excludes LT
abbrev pub exclude : Flags → Bool
exclude flags = flags.nx && (flags.xx || flags.gt || flags.lt) || flags.gt && flags.lt

abbrev pub is_paired : List Word → Bool
is_paired words = nat_le 1 (length words) && (length words % 2 == 0)

abbrev pub pair_onto : Option ℤ → Word → Option (List (ℤ × Word)) → Option (List (ℤ × Word))
pair_onto (Some score) member (Some pairs) = Some ((score, member) ∷ pairs)
pair_onto _ member _ = None

-- scores and members in turn
abbrev pub pairs_of : List Word → Option (List (ℤ × Word))
pairs_of (score ∷ member ∷ words) = pair_onto (written_score score) member (pairs_of words)
pairs_of _ = Some []

-- with INCR there is one pair
abbrev pub zadd_incr : Word → Flags → List Word → Reading
zadd_incr key flags (increment ∷ member ∷ []) =
    or_else refused.Score (written_score increment)
    (λ amount. Ok (ZaddIncr key flags amount member))
zadd_incr key flags _ = Err refused.OnePair

-- ZADD's words after the key: flags, and then pairs
abbrev pub zadd : Word → List Word → List Word → Reading
zadd key words pairs =
    if not (is_paired pairs) then Err refused.Syntax else
    if exclude (flags_of words) then Err refused.Flags else
    if has (codes "INCR") words then zadd_incr key (flags_of words) pairs else
    or_else refused.Score (pairs_of pairs) (λ scored. Ok (Zadd key (flags_of words) scored))

-- the flags stand up to the first word that is none
abbrev pub zadd_words : Word → List Word → Reading
zadd_words key words = zadd key (take (prefix_len is_flag words) words)
    (drop (prefix_len is_flag words) words)

abbrev pub by_place : Word → Word → Word → Bool → Bool → Reading
by_place key start stop is_turned with_scores =
    or_else refused.Whole (whole_of start) (λ first. or_else refused.Whole (whole_of stop) (λ last.
    Ok (Zrange key (ByPlace first last) is_turned with_scores)))

-- the two words are min and max, and with REV max and min
abbrev pub by_score : Word → Word → Word → Option (Option Window) → Bool → Bool → Reading
by_score key a b window is_turned with_scores =
    or_else refused.Bound (bound_of a)
    (λ first. or_else refused.Bound (bound_of b)
    (λ second. or_else refused.Whole window (λ given.
    Ok (Zrange key (if is_turned then ByScore second first given else ByScore first second given)
    is_turned with_scores))))

abbrev pub zrange : Word → Word → Word → List RangeOption → Reading
zrange key a b options =
    if list_any is_by_scores options then by_score key a b (limit_in (limits_in options) None)
    (list_any is_rev options) (list_any is_with_scores options) else
    if nat_le 1 (length (limits_in options)) then Err refused.Syntax else
    by_place key a b (list_any is_rev options) (list_any is_with_scores options)

abbrev pub zpopmin : Word → ℤ → Reading
zpopmin key count = if int_lt count (pos 0) then Err refused.Negative else Ok (Zpopmin key count)

abbrev pub names : List (Word × Name)
names =
    (codes "PING", name.Ping) ∷ (codes "ZADD", name.Zadd) ∷ (codes "ZINCRBY", name.Zincrby)
    ∷ (codes "ZREM", name.Zrem)
    ∷ (codes "ZSCORE", name.Zscore) ∷ (codes "ZCARD", name.Zcard) ∷ (codes "ZCOUNT", name.Zcount)
    ∷ (codes "ZRANK", name.Zrank)
    ∷ (codes "ZREVRANK", name.Zrevrank) ∷ (codes "ZRANGE", name.Zrange)
    ∷ (codes "ZPOPMIN", name.Zpopmin)
    ∷ (codes "ZPOPNEAR", name.Zpopnear) ∷ (codes "DEL", name.Del) ∷ []

abbrev pub name_of : Word → Option Name
name_of word = option_map (λ row. row.1) (find (λ row. is word row.0) names)

-- the command that has this name and these words after it
abbrev pub command : Name → List Word → Reading
command name.Ping [] = Ok (Ping None)
command name.Ping (message ∷ []) = Ok (Ping (Some message))
command name.Zadd (key ∷ first ∷ second ∷ words) = zadd_words key (first ∷ second ∷ words)
command name.Zincrby (key ∷ increment ∷ member ∷ []) =
    or_else refused.Score (written_score increment) (λ amount. Ok (Zincrby key amount member))
command name.Zrem (key ∷ member ∷ members) = Ok (Zrem key (member ∷ members))
command name.Zscore (key ∷ member ∷ []) = Ok (Zscore key member)
command name.Zcard (key ∷ []) = Ok (Zcard key)
command name.Zcount (key ∷ min ∷ max ∷ []) =
    or_else refused.Bound (bound_of min)
    (λ low. or_else refused.Bound (bound_of max) (λ high. Ok (Zcount key low high)))
command name.Zrank (key ∷ member ∷ []) = Ok (Zrank key member)
command name.Zrevrank (key ∷ member ∷ []) = Ok (Zrevrank key member)
command name.Zrange (key ∷ a ∷ b ∷ words) =
    or_else refused.Syntax (options_of words) (zrange key a b)
command name.Zpopmin (key ∷ []) = Ok (Zpopmin key (pos 1))
command name.Zpopmin (key ∷ count ∷ []) = or_else refused.Whole (whole_of count) (zpopmin key)
command name.Zpopnear (key ∷ []) = Ok (Zpopnear key)
command name.Del (key ∷ keys) = Ok (Del (key ∷ keys))
command _ _ = Err refused.Words

-- the command of a request's words, or the first refusal
abbrev pub command_of : List Word → Reading
command_of [] = Err refused.Unknown
command_of (name ∷ words) = or_else refused.Unknown (name_of name) (λ known. command known words)
