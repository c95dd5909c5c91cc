-- What a site can be asked, apart from where its words lie: a command, or a further request on
-- keys. And the limits that each keeps.
use Rattle.std.specs.Prelude.{All, Bool, List, None, Option, Some, length, pos, ℤ, ◌≤◌, ◌≤ℤ◌}
use Rattle.zq_words.specs.Command.{Command}
use Rattle.zq_words.specs.Limits.{IsRange, IsShort}
use Rattle.zq_words.specs.Words.{Word, views}
use Rattle.zq_words.specs.declared.range.Range.{Range}
use Rattle.zq_words.specs.declared.site_call.SiteCall.{SiteCall}
use Rattle.zq_words.specs.declared.site_call.SiteCall.TheVariants as asked

pub data Call : Type 0 where
  Plain : (command : Command) → Call
  Scores : (key : Word) (members : List Word) → Call
  Exist : (keys : List Word) → Call
  TypeOf : (key : Word) → Call
  PopLast : (key : Word) (count : ℤ) → Call
  RemoveRange : (key : Word) (range : Range) → Call
  PopLeftmost : (keys : List Word) (is_turned : Bool) → Call

abbrev pub call_shown : SiteCall → Call
call_shown (asked.Command command) = Plain command
call_shown (asked.Scores key members) = Scores key.now (views members.now)
call_shown (asked.Exist keys) = Exist (views keys.now)
call_shown (asked.TypeOf key) = TypeOf key.now
call_shown (asked.PopLast key count) = PopLast key.now count
call_shown (asked.RemoveRange key range) = RemoveRange key.now range
call_shown (asked.PopLeftmost keys is_turned) = PopLeftmost (views keys.now) is_turned

-- the command where it is one
abbrev pub plain_of : Call → Option Command
plain_of (Plain command) = Some command
plain_of asked = None

-- A command keeps its own limits. Of others keys and members are short, the scores of bounds in
-- range, a count to pop is not negative, and there are no more keys or members than a request has
-- words
abbrev pub IsCallWithinLimits : Call → Type 0
IsCallWithinLimits (Plain command) = Unit {0}
IsCallWithinLimits (Scores key members) =
    IsShort key × All IsShort members × (length members ≤ 65536)
IsCallWithinLimits (Exist keys) = All IsShort keys × (length keys ≤ 65536)
IsCallWithinLimits (TypeOf key) = IsShort key
IsCallWithinLimits (PopLast key count) = IsShort key × (pos 0 ≤ℤ count)
IsCallWithinLimits (RemoveRange key range) = IsShort key × IsRange range
IsCallWithinLimits (PopLeftmost keys is_turned) = All IsShort keys × (length keys ≤ 65536)
