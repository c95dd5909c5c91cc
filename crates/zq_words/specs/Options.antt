-- The options that stand behind ZRANGE's start and stop.
use Rattle.std.specs.Prelude.{Bool, true, false, List, [], ◌∷◌, codes, Option, None, Some, filter_map, if◌then◌else◌}
use Rattle.std.specs.Option.{option_and_then}
use Rattle.zq_words.specs.Words.{Word, is, whole_of}
use Rattle.zq_words.specs.declared.range.Window.{Window}

pub data RangeOption : Type 0 where
  ByScores : RangeOption
  Rev : RangeOption
  WithScores : RangeOption
  LimitTo : (offset count : Word) → RangeOption

-- an option of one word
abbrev pub option_of : Word → Option RangeOption
option_of word =
    if is word (codes "BYSCORE") then Some ByScores else
    if is word (codes "REV") then Some Rev else
    if is word (codes "WITHSCORES") then Some WithScores else None

abbrev pub option_onto : Option RangeOption → Option (List RangeOption) → Option (List RangeOption)
option_onto (Some o) (Some os) = Some (o ∷ os)
option_onto _ _ = None

-- the options that the words are, LIMIT with the two words after it
abbrev pub options_of : List Word → Option (List RangeOption)
options_of [] = Some []
options_of (a ∷ []) = option_onto (option_of a) (Some [])
options_of (a ∷ b ∷ []) = option_onto (option_of a) (options_of (b ∷ []))
options_of (a ∷ b ∷ c ∷ words) =
    if is a (codes "LIMIT") then option_onto (Some (LimitTo b c)) (options_of words)
    else option_onto (option_of a) (options_of (b ∷ c ∷ words))

abbrev pub is_by_scores : RangeOption → Bool
is_by_scores ByScores = true
is_by_scores _ = false

abbrev pub is_rev : RangeOption → Bool
is_rev Rev = true
is_rev _ = false

abbrev pub is_with_scores : RangeOption → Bool
is_with_scores WithScores = true
is_with_scores _ = false

abbrev pub limit_words : RangeOption → Option (Word × Word)
limit_words (LimitTo offset count) = Some (offset, count)
limit_words _ = None

-- the two words of each LIMIT
abbrev pub limits_in : List RangeOption → List (Word × Word)
limits_in options = filter_map limit_words options

abbrev pub window_of : Word → Word → Option Window
window_of offset count =
    option_and_then (λ n. option_and_then (λ m. Some (record { offset = n; count = m }))
    (whole_of count)) (whole_of offset)

-- the numbers of each LIMIT, from left to right, of which the last count
abbrev pub limit_in : List (Word × Word) → Option Window → Option (Option Window)
limit_in [] last = Some last
limit_in ((offset, count) ∷ limits) last =
    option_and_then (λ window. limit_in limits (Some window)) (window_of offset count)
