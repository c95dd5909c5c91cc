-- The part of a queue that a range takes.

use Rattle.std.specs.Prelude.{Bool, None, Option, Some, [], drop, false, filter, if◌then◌else◌, int_le, int_lt, length, negsuc, pos, reverse, slice_range, take, true, ℕ, ℤ, ◌&&◌, ◌+ℤ◌}
use Rattle.zq_model.specs.Meaning.{Scored}
use Rattle.zq_model.specs.Moves.{Queue}
use Rattle.zq_words.specs.declared.bound.Bound.{Bound}
use Rattle.zq_words.specs.declared.bound.Limit.{Limit}
use Rattle.zq_words.specs.declared.bound.Limit.TheVariants.{At, Highest, Lowest}
use Rattle.zq_words.specs.declared.range.Range.{Range}
use Rattle.zq_words.specs.declared.range.Range.TheVariants.{ByPlace, ByScore}
use Rattle.zq_words.specs.declared.range.Window.{Window}

abbrev pub is_above_limit : Bool → Limit → ℤ → Bool
is_above_limit is_out Lowest score = true
is_above_limit is_out (At least) score = if is_out then int_lt least score else int_le least score
is_above_limit is_out Highest score = false

abbrev pub is_above : Bound → ℤ → Bool
is_above min score = is_above_limit min.is_out min.limit score

abbrev pub is_below_limit : Bool → Limit → ℤ → Bool
is_below_limit is_out Lowest score = false
is_below_limit is_out (At greatest) score =
    if is_out then int_lt score greatest else int_le score greatest
is_below_limit is_out Highest score = true

abbrev pub is_below : Bound → ℤ → Bool
is_below max score = is_below_limit max.is_out max.limit score

abbrev pub is_within : Bound → Bound → Scored → Bool
is_within min max pair = is_above min pair.0 && is_below max pair.0

-- a number below 0 is 0
abbrev pub from_zero : ℤ → ℕ
from_zero (pos n) = n
from_zero (negsuc n) = 0

-- a negative place has the size added
abbrev pub placed : ℕ → ℤ → ℤ
placed size place = if int_lt place (pos 0) then place +ℤ pos size else place

-- the pairs from the place start to the place stop, both included
abbrev pub places : ℤ → ℤ → Queue → Queue
places start stop queue = slice_range queue (from_zero (placed (length queue) start))
    (from_zero (placed (length queue) stop +ℤ pos 1))

-- without the first offset, count of them: all where count is negative, none where offset is
abbrev pub limited : Option Window → Queue → Queue
limited None queue = queue
limited (Some window) queue =
    if int_lt window.offset (pos 0) then [] else
    if int_lt window.count (pos 0) then drop (from_zero window.offset) queue else
    take (from_zero window.count) (drop (from_zero window.offset) queue)

abbrev pub ranged : Range → Queue → Queue
ranged (ByPlace start stop) queue = places start stop queue
ranged (ByScore min max window) queue = limited window (filter (is_within min max) queue)

abbrev pub turned_if : Bool → Queue → Queue
turned_if is_turned queue = if is_turned then reverse queue else queue
