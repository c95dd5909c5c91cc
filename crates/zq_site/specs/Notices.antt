-- What a site tells a peer by a frame of its own.

use Rattle.std.specs.List.{ends_with}
use Rattle.std.specs.Prelude.{List, None, Option, Some, [], codes, if◌then◌else◌, nat_eq, ℕ, ◌++◌, ◌∷◌}
use Rattle.std.specs.Str.{bytes_eq}
use Rattle.zq_site.specs.declared.notice.Notice.{Notice}
use Rattle.zq_site.specs.declared.notice.Notice.TheVariants.{Kept, Refused, Unwelcome}
use Rattle.zq_site.specs.declared.notice.Reason.{Reason}
use Rattle.zq_site.specs.declared.notice.Reason.TheVariants.{Secret, Unexpected}
use Rattle.zq_site.specs.declared.warning.Warning.TheVariants as warning
use Rattle.zq_site.specs.declared.outcome.Outcome.{Outcome}
use Rattle.zq_site.specs.declared.outcome.Outcome.TheVariants.{Ends, Nothing, Warns}
use Rattle.zq_wire.specs.Framed.{framed}
use Rattle.zq_wire.specs.declared.refusal.Refusal.{Refusal}
use Rattle.zq_wire.specs.declared.refusal.Refusal.TheVariants as refusal

-- a word, the end of its line, and a byte
abbrev pub notice_bytes : Notice → List ℕ
notice_bytes Refused = codes "zq-note\n" ++ 1 ∷ []
notice_bytes Kept = codes "zq-note\n" ++ 2 ∷ []
notice_bytes (Unwelcome Unexpected) = codes "zq-note\n" ++ 3 ∷ []
notice_bytes (Unwelcome Secret) = codes "zq-note\n" ++ 4 ∷ []

-- behind its length
abbrev pub notice_frame : Notice → List ℕ
notice_frame notice = framed (notice_bytes notice)

abbrev pub notice_in : List ℕ → Option Notice
notice_in bytes =
    if bytes_eq bytes (notice_bytes Refused) then Some Refused
    else if bytes_eq bytes (notice_bytes Kept) then Some Kept
    else if bytes_eq bytes (notice_bytes (Unwelcome Unexpected)) then Some (Unwelcome Unexpected)
    else if bytes_eq bytes (notice_bytes (Unwelcome Secret)) then Some (Unwelcome Secret)
    else None

-- whether all that came ends in the notice of this reason
abbrev pub reason_at_end : List ℕ → Option Reason
reason_at_end heard =
    if ends_with nat_eq heard (notice_frame (Unwelcome Unexpected)) then Some Unexpected
    else if ends_with nat_eq heard (notice_frame (Unwelcome Secret)) then Some Secret
    else None

-- what a peer is told that is refused for this: it sees all else in the greeting that it gets
abbrev pub reason_for : Refusal → Option Reason
reason_for (refusal.Unexpected number) = Some Unexpected
reason_for refusal.Answer = Some Secret
reason_for other = None

-- what a site does that this peer tells so, once their link is up
abbrev pub outcome_of : ℕ → Notice → Outcome
outcome_of peer Refused = Ends (warning.Dismissed peer)
outcome_of peer Kept = Warns (warning.Kept peer)
outcome_of peer (Unwelcome reason) = Nothing
