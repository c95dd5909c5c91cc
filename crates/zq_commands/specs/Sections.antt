-- Where the pairs within two bounds begin.

use Rattle.std.specs.Prelude.{Bool, if◌then◌else◌}
use Rattle.zq_model.specs.Meaning.{Scored}
use Rattle.zq_semantics.specs.Ranges.{is_above, is_below}
use Rattle.zq_words.specs.declared.bound.Bound.{Bound}

-- a pair is past the bound that is met first, which is the greatest where they are turned round
abbrev pub is_entered : Bool → Bound → Bound → Scored → Bool
is_entered is_turned min max pair = if is_turned then is_below max pair.0 else is_above min pair.0
