-- What options that are read one after the other ask for.

use Rattle.std.proofs.Common.{arith, subst, sym, ◌∙◌}
use Rattle.std.proofs.lemmas.Option.{same_Some}
use Rattle.std.specs.List.{list_any}
use Rattle.std.specs.Option.{option_and_then, option_map}
use Rattle.std.specs.Prelude.{Bool, List, None, Option, Some, [], false, length, nat_le, refl, true, ◌||◌, ◌∷◌, ◌≡◌}
use Rattle.zq_words.specs.Command.{or_else, zrange}
use Rattle.zq_words.specs.Options.{ByScores, LimitTo, RangeOption, Rev, WithScores, is_by_scores, is_rev, is_with_scores, limit_in, limits_in, window_of}
use Rattle.zq_words.specs.OptionsRead.{next_window, no_options, ranged, read, with_option}
use Rattle.zq_words.specs.Words.{Word}
use Rattle.zq_words.specs.declared.options.Options.{Options}
use Rattle.zq_words.specs.declared.range.Window.{Window}
use Rattle.zq_words.specs.declared.refused.Refused.TheVariants as refused

-- the flag of an option is set where it was, or where one of the options sets it
by_scores : (s : Options) (os : List RangeOption) → (read s os).by_score ≡ (s.by_score || list_any is_by_scores os)
by_scores s [] = elim s.by_score as (λ b. b ≡ (b || false)) [ true ↦ refl | false ↦ refl ]
by_scores s (ByScores ∷ os) = by_scores (with_option s ByScores) os ∙ elim s.by_score as (λ b. true ≡ (b || true)) [ true ↦ refl | false ↦ refl ]
by_scores s (Rev ∷ os) = by_scores (with_option s Rev) os
by_scores s (WithScores ∷ os) = by_scores (with_option s WithScores) os
by_scores s (LimitTo a b ∷ os) = by_scores (with_option s (LimitTo a b)) os

turned : (s : Options) (os : List RangeOption) → (read s os).is_turned ≡ (s.is_turned || list_any is_rev os)
turned s [] = elim s.is_turned as (λ b. b ≡ (b || false)) [ true ↦ refl | false ↦ refl ]
turned s (ByScores ∷ os) = turned (with_option s ByScores) os
turned s (Rev ∷ os) = turned (with_option s Rev) os ∙ elim s.is_turned as (λ b. true ≡ (b || true)) [ true ↦ refl | false ↦ refl ]
turned s (WithScores ∷ os) = turned (with_option s WithScores) os
turned s (LimitTo a b ∷ os) = turned (with_option s (LimitTo a b)) os

scored : (s : Options) (os : List RangeOption) → (read s os).with_scores ≡ (s.with_scores || list_any is_with_scores os)
scored s [] = elim s.with_scores as (λ b. b ≡ (b || false)) [ true ↦ refl | false ↦ refl ]
scored s (ByScores ∷ os) = scored (with_option s ByScores) os
scored s (Rev ∷ os) = scored (with_option s Rev) os
scored s (WithScores ∷ os) = scored (with_option s WithScores) os ∙ elim s.with_scores as (λ b. true ≡ (b || true)) [ true ↦ refl | false ↦ refl ]
scored s (LimitTo a b ∷ os) = scored (with_option s (LimitTo a b)) os

one_more : (b : Bool) (limit : Word × Word) (limits : List (Word × Word)) → true ≡ (b || nat_le 1 (length (limit ∷ limits)))
one_more true limit limits = refl
one_more false limit limits = grind arith

limited : (s : Options) (os : List RangeOption) → (read s os).has_limit ≡ (s.has_limit || nat_le 1 (length (limits_in os)))
limited s [] = elim s.has_limit as (λ b. b ≡ (b || false)) [ true ↦ refl | false ↦ refl ]
limited s (ByScores ∷ os) = limited (with_option s ByScores) os
limited s (Rev ∷ os) = limited (with_option s Rev) os
limited s (WithScores ∷ os) = limited (with_option s WithScores) os
limited s (LimitTo a b ∷ os) = limited (with_option s (LimitTo a b)) os ∙ one_more s.has_limit (a, b) (limits_in os)

-- the limits read on from a window
abbrev read_on : Option (Option Window) → List (Word × Word) → Option (Option Window)
read_on window limits = option_and_then (λ last. limit_in limits last) window

one_limit : (window : Option (Option Window)) (next : Option Window) (limits : List (Word × Word)) →
    read_on (next_window window next) limits ≡ option_and_then (λ last. option_and_then (λ given. limit_in limits (Some given)) next) window
one_limit None next limits = refl
one_limit (Some last) None limits = refl
one_limit (Some last) (Some given) limits = refl

windowed : (s : Options) (os : List RangeOption) → (read s os).window ≡ read_on s.window (limits_in os)
windowed s [] = elim s.window as (λ w. w ≡ option_and_then (λ last. Some last) w) [ None ↦ refl | Some last ↦ refl ]
windowed s (ByScores ∷ os) = windowed (with_option s ByScores) os
windowed s (Rev ∷ os) = windowed (with_option s Rev) os
windowed s (WithScores ∷ os) = windowed (with_option s WithScores) os
windowed s (LimitTo a b ∷ os) = windowed (with_option s (LimitTo a b)) os ∙ one_limit s.window (window_of a b) (limits_in os)

-- what options ask for, from none on
pub record Asks (options : Options) (os : List RangeOption) : Type 0 where
  pub by_score : options.by_score ≡ list_any is_by_scores os
  pub is_turned : options.is_turned ≡ list_any is_rev os
  pub with_scores : options.with_scores ≡ list_any is_with_scores os
  pub has_limit : options.has_limit ≡ nat_le 1 (length (limits_in os))
  pub window : options.window ≡ limit_in (limits_in os) None

pub asked : (os : List RangeOption) → Asks (read no_options os) os
asked os = record {
  by_score = by_scores no_options os;
  is_turned = turned no_options os;
  with_scores = scored no_options os;
  has_limit = limited no_options os;
  window = windowed no_options os;
}

by_asked : (key a b : Word) (options : Options) (os : List RangeOption) → Asks options os → ranged key a b options ≡ zrange key a b os
by_asked key a b options os asks = rw (asks.by_score, asks.is_turned, asks.with_scores, asks.has_limit, asks.window) refl

-- a range is what its options ask for
pub range_read : (key a b : Word) (found : Option (List RangeOption)) (options : Options) → Some options ≡ option_map (read no_options) found →
    ranged key a b options ≡ or_else refused.Syntax found (zrange key a b)
range_read key a b None options e = cc
range_read key a b (Some os) options e = subst (λ o. ranged key a b o ≡ zrange key a b os) (sym (same_Some _ _ e)) (by_asked key a b (read no_options os) os (asked os))
