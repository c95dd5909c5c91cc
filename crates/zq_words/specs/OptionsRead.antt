-- What the options read so far ask for.
use Rattle.std.specs.Prelude.{Bool, true, false, codes, ◌∷◌, List, Option, None, Some, Err, if◌then◌else◌}
use Rattle.std.specs.List.{fold}
use Rattle.std.specs.Option.{option_map}
use Rattle.zq_words.specs.Command.{Reading, by_place, by_score}
use Rattle.zq_words.specs.Options.{RangeOption, ByScores, Rev, WithScores, LimitTo, window_of}
use Rattle.zq_words.specs.Words.{Word, is}
use Rattle.zq_words.specs.declared.options.Options.{Options}
use Rattle.zq_words.specs.declared.range.Window.{Window}
use Rattle.zq_words.specs.declared.refused.Refused.TheVariants as refused

abbrev pub no_options : Options
no_options = record { by_score = false; is_turned = false; with_scores = false; has_limit = false; window = Some None }

-- the last window, unless one before it was none
abbrev pub next_window : Option (Option Window) → Option Window → Option (Option Window)
next_window None next = None
next_window (Some last) next = option_map Some next

abbrev pub with_limit : Options → Word → Word → Options
with_limit options offset count =
    record options {
      has_limit = true;
      window =
          next_window options.window (window_of offset count);
    }

abbrev pub with_option : Options → RangeOption → Options
with_option options ByScores = record options { by_score = true }
with_option options Rev = record options { is_turned = true }
with_option options WithScores = record options { with_scores = true }
with_option options (LimitTo offset count) = with_limit options offset count

abbrev pub read : Options → List RangeOption → Options
read options more = fold with_option options more

-- a LIMIT and two words stand first
abbrev pub is_limit : List Word → Bool
is_limit (a ∷ b ∷ c ∷ words) = is a (codes "LIMIT")
is_limit words = false

-- the command of a key, two ends and the options
abbrev pub ranged : Word → Word → Word → Options → Reading
ranged key a b options =
    if options.by_score then by_score key a b options.window options.is_turned options.with_scores
    else
    if options.has_limit then Err refused.Syntax else by_place key a b options.is_turned
    options.with_scores
