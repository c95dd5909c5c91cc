-- What the code read.

use Rattle.std.specs.Borrow.{Bor}
use Rattle.std.specs.Prelude.{List, ℕ}
use Rattle.zq_dots.specs.Rule.{rule_of}
use Rattle.zq_merge.specs.Frame.{Frame}
use Rattle.zq_merge.specs.Keys.{MemberRow}
use Rattle.zq_merge.specs.declared.frame.Frame as code
use Rattle.zq_model.specs.Image.{Entry}
use Rattle.zq_model.specs.Rows.{additions_from}

abbrev pub frame_of : code.Frame → Frame
frame_of x = record { rule = rule_of x.rule; heap = x.heap; vector = x.vector }

-- the member that was read, with its entry
abbrev pub member_read : Bor (List ℕ) × Entry → MemberRow
member_read x = record { member = x.0.now; additions = additions_from 0 x.1 }

-- a member with its entry
abbrev pub member_of_entry : List ℕ → Entry → MemberRow
member_of_entry member entry = record { member = member; additions = additions_from 0 entry }
