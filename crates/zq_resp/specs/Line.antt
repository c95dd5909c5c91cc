-- A number on a line, as far as it has come.
use Rattle.std.specs.Prelude.{ℕ, ◌≤◌, ◌==◌, if◌then◌else◌, List, [], ◌∷◌, ◌++◌, Result, Ok, Err, decimal}
use Rattle.zq_resp.specs.declared.fault.FeedFault.{FeedFault}
use Rattle.zq_resp.specs.declared.reader.line.Line.{Line}
use Rattle.zq_resp.specs.declared.reader.line.Line.TheVariants as line
use Rattle.zq_resp.specs.declared.reader.progress.Progress.{Progress}
use Rattle.zq_resp.specs.declared.reader.progress.Progress.TheVariants.{More, Whole}
use Rattle.zq_resp.specs.Front.{Front}
use Rattle.zq_resp.specs.Grammar.{end_at, zero_at, digits_at, line_at}
use Rattle.zq_resp.specs.Spelling.{number_line}
use Rattle.zq_resp.specs.Suspended.{IsWrong, Goes, Ends}

abbrev pub IsLine : ℕ → Line → Type 0
IsLine limit line.Start = Unit {0}
IsLine limit (line.Digits n) = n ≤ limit
IsLine limit (line.Ended n) = n ≤ limit

abbrev pub line_text : Line → List ℕ
line_text line.Start = []
line_text (line.Digits n) = decimal n
line_text (line.Ended n) = decimal n ++ 13 ∷ []

abbrev pub line_resume : ℕ → Line → List ℕ → Front (ℕ × List ℕ)
line_resume limit line.Start more = line_at limit more
line_resume limit (line.Digits n) more = if n == 0 then zero_at more else digits_at limit n more
line_resume limit (line.Ended n) more = end_at n more

abbrev pub LineStep : ℕ → Line → ℕ → Result (Progress Line ℕ) FeedFault → Type 0
LineStep limit old b (Ok (More new)) = IsLine limit new
    × Goes line_text (line_resume limit) old new (b ∷ [])
LineStep limit old b (Ok (Whole n)) = (n ≤ limit)
    × Ends line_text (line_resume limit) old (b ∷ []) n (number_line n)
LineStep limit old b (Err e) = (more : List ℕ) → IsWrong e (line_resume limit old (b ∷ more))
