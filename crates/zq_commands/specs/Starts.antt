-- Where the reading of a section starts: at its first pair, or at one deeper in the queue, so that
-- what goes before is left out.

use Rattle.std.specs.Prelude.{Bool, None, Option, Some, count_by, not, option_map, true, ◌&&◌, ◌≡◌, ◌≤◌}
use Rattle.zq_commands.specs.FirstPairs.{lent_pair}
use Rattle.zq_commands.specs.Sections.{is_entered}
use Rattle.zq_commands.specs.Weaving.{goes_before}
use Rattle.zq_commands.specs.declared.range_section.Section.{Section}
use Rattle.zq_commands.specs.declared.range_start.Start.{Start}
use Rattle.zq_model.specs.Meaning.{Scored}
use Rattle.zq_model.specs.Moves.{Queue}
use Rattle.zq_semantics.specs.Ranges.{is_within}
use Rattle.zq_words.specs.declared.bound.Bound.{Bound}

-- the pair does not go before the one that reading starts at, where there is one
abbrev pub is_from : Bool → Option Scored → Scored → Bool
is_from is_turned None pair = true
is_from is_turned (Some first) pair = not (goes_before is_turned pair first)

-- and it is past the bound that is met first
abbrev pub is_reached : Bool → Option Scored → Bound → Bound → Scored → Bool
is_reached is_turned first min max pair =
    is_from is_turned first pair && is_entered is_turned min max pair

-- the pairs that are read: within the bounds, from there on
abbrev pub is_read : Bool → Option Scored → Bound → Bound → Scored → Bool
is_read is_turned first min max pair = is_from is_turned first pair && is_within min max pair

-- those that are left out: past the bound that is met first, and before the pair that reading
-- starts at
abbrev pub is_left : Bool → Option Scored → Bound → Bound → Scored → Bool
is_left is_turned first min max pair =
    not (is_from is_turned first pair) && is_entered is_turned min max pair

-- so many are left out of a section of the queue, and none that the section takes
pub record IsStart (is_turned : Bool) (section : Section) (queue : Queue) (start : Start) : Type 0
  where
    pub skipped : start.skipped
        ≡ count_by (is_left is_turned (option_map lent_pair start.pair) section.min section.max)
        queue
    pub early : start.skipped ≤ section.from
