-- What a request's words say in the words that are read: first its numbers, then its name.
use Rattle.std.specs.Prelude.{◌+◌, nat_le, ◌&&◌, ◌||◌, not, Bool, true, false, List, ℕ, [], ◌∷◌, ◌++◌, length, take, drop, codes, Option, None, Some, Result, Ok, Err, if◌then◌else◌}
use Rattle.std.specs.List.{prefix_len}
use Rattle.std.specs.Option.{is_some}
use Rattle.zq_dialect.specs.Names.{ends_of, name_of}
use Rattle.zq_dialect.specs.Spelled.{new_bound, plain_bound, plain_pairs, plain_score}
use Rattle.zq_dialect.specs.declared.ends.Ends.{Ends}
use Rattle.zq_dialect.specs.declared.name.Name.{Name}
use Rattle.zq_dialect.specs.declared.name.Name.TheVariants as name
use Rattle.zq_words.specs.Command.{is_flag}
use Rattle.zq_words.specs.Words.{Word, has, is}
use Rattle.zq_words.specs.declared.refused.Refused.{Refused}
use Rattle.zq_words.specs.declared.refused.Refused.TheVariants as refused

-- the words that are read, or a refusal
abbrev pub Saying : Type 0
Saying = Result (List Word) Refused

-- how many words stand before the first score of ZADD: the key, and flags up to the first word that
-- is none
abbrev pub before_scores : List Word → ℕ
before_scores [] = 0
before_scores (key ∷ words) = 1 + prefix_len is_flag words

abbrev pub plain_zadd : List Word → List Word
plain_zadd words = take (before_scores words) words ++ plain_pairs (drop (before_scores words) words)

abbrev pub plain_zincrby : List Word → List Word
plain_zincrby (key ∷ increment ∷ words) = key ∷ plain_score increment ∷ words
plain_zincrby words = words

-- a bound, or a place, which stays
abbrev pub plain_end : Bool → Bool → Word → Word
plain_end by_score is_least text = if by_score then plain_bound is_least text else text

abbrev pub is_new_end : Bool → Bool → Word → Bool
is_new_end by_score is_least text = by_score && is_some (new_bound is_least text)

-- a key, two ends of a range, and what stands behind them
abbrev pub plain_ends : Ends → List Word → List Word
plain_ends ends (key ∷ a ∷ b ∷ words) =
    key ∷ plain_end ends.by_score (not ends.is_turned) a
    ∷ plain_end ends.by_score ends.is_turned b ∷ words
plain_ends ends words = words

-- what the options of ZRANGE make of its ends
abbrev pub asked_ends : List Word → Ends
asked_ends options = ends_of (has (codes "BYSCORE") options) (has (codes "REV") options)

-- the words behind a name, with their numbers as digits
abbrev pub plain : Name → List Word → List Word
plain name.Zadd words = plain_zadd words
plain name.Zincrby words = plain_zincrby words
plain name.Zcount words = plain_ends (ends_of true false) words
plain name.Zrange words = plain_ends (asked_ends (drop 3 words)) words
plain (name.Older ends) words = plain_ends ends words
plain name.Unlink words = words
plain name.Zremrangebyscore words = plain_ends (ends_of true false) words

-- what an older name of ZRANGE says by itself
abbrev pub is_own : Word → Bool
is_own word = is word (codes "BYSCORE") || is word (codes "REV")

-- one of the options says it, and not the two words behind a LIMIT
abbrev pub asks_again : List Word → Bool
asks_again [] = false
asks_again (a ∷ []) = is_own a
asks_again (a ∷ b ∷ []) = is_own a || asks_again (b ∷ [])
asks_again (a ∷ b ∷ c ∷ words) =
    if is a (codes "LIMIT") then asks_again words else is_own a || asks_again (b ∷ c ∷ words)

-- the options of ZRANGE that an older name of it stands for
abbrev pub own_options : Ends → List Word
own_options ends =
    (if ends.by_score then codes "BYSCORE" ∷ [] else [])
    ++ (if ends.is_turned then codes "REV" ∷ [] else [])

-- ZRANGE with these ends and options, of which there are few enough for a request
abbrev pub older_range : Ends → Word → Word → Word → List Word → Saying
older_range ends key a b options =
    if asks_again options then Err refused.Syntax else
    if nat_le (length options) 65530 then Ok
    (codes "ZRANGE" ∷ key ∷ a ∷ b ∷ own_options ends ++ options) else Err refused.Words

-- where the words are too few the name alone is another
abbrev pub older : Ends → List Word → Saying
older ends (key ∷ a ∷ b ∷ options) = older_range ends key a b options
older ends words = Ok (codes "ZRANGE" ∷ words)

abbrev pub said : Name → Word → List Word → Saying
said (name.Older ends) word words = older ends words
said name.Unlink word words = Ok (codes "DEL" ∷ words)
said _ word words = Ok (word ∷ words)

-- the words of a command whose name is known, or not
abbrev pub saying : Option Name → Word → List Word → Saying
saying None word words = Ok (word ∷ words)
saying (Some known) word words = said known word (plain known words)

-- the words that are read in place of a request's
abbrev pub said_of : List Word → Saying
said_of [] = Ok []
said_of (word ∷ words) = saying (name_of word) word words
