-- A word, as far as it has come.
use Rattle.std.specs.Prelude.{ℕ, ◌-◌, ◌≤◌, List, [], ◌∷◌, ◌++◌, length, take, Result, Ok, Err}
use Rattle.std.specs.declared.vec.Vec.{Vec}
use Rattle.std.specs.declared.alloc.Global.{Global}
use Rattle.zq_resp.specs.declared.fault.FeedFault.{FeedFault}
use Rattle.zq_resp.specs.declared.reader.word.Word.{Word}
use Rattle.zq_resp.specs.declared.reader.word.Word.TheVariants as word
use Rattle.zq_resp.specs.declared.reader.progress.Progress.{Progress}
use Rattle.zq_resp.specs.declared.reader.progress.Progress.TheVariants.{More, Whole}
use Rattle.zq_resp.specs.Front.{Front, Got, ◌>>=◌}
use Rattle.zq_resp.specs.Grammar.{mark_at, body_at, ended_at, word_at}
use Rattle.zq_resp.specs.Request.{IsWord}
use Rattle.zq_resp.specs.Spelling.{number_line, word_text}
use Rattle.zq_resp.specs.Suspended.{Fails, Goes, Ends}
use Rattle.zq_resp.specs.Line.{IsLine, line_text, line_resume}

abbrev pub IsPart : Word → Type 0
IsPart word.Start = Unit {0}
IsPart (word.Length line) = IsLine 1048576 line
IsPart (word.Sized n) = n ≤ 1048576
IsPart (word.Cut begun n) = (length begun.value.items ≤ n) × (n ≤ 1048576)
IsPart (word.Ended bytes) = IsWord bytes.items

abbrev pub part_text : Word → List ℕ
part_text word.Start = []
part_text (word.Length line) = 36 ∷ line_text line
part_text (word.Sized n) = 36 ∷ number_line n
part_text (word.Cut begun n) = 36 ∷ number_line n ++ begun.value.items
part_text (word.Ended bytes) = 36 ∷ number_line (length bytes.items) ++ (bytes.items ++ 13 ∷ [])

abbrev pub part_resume : Word → List ℕ → Front (List ℕ × List ℕ)
part_resume word.Start more = word_at more
part_resume (word.Length line) more =
    line_resume 1048576 line more >>= λ n. body_at n.0 n.1 >>= λ word. ended_at word.0 word.1
part_resume (word.Sized n) more = body_at n more >>= λ word. ended_at word.0 word.1
part_resume (word.Cut begun n) more =
    body_at (n - length begun.value.items) more >>= λ word.
    ended_at (begun.value.items ++ word.0) word.1
part_resume (word.Ended bytes) more = mark_at 10 more >>= λ rest. Got (bytes.items, rest)

abbrev pub WordStep : Word → List ℕ → Result (Progress Word (Vec ℕ Global) × ℕ) FeedFault → Type 0
WordStep old bytes (Ok (More new, taken)) = IsPart new
    × Goes part_text part_resume old new (take taken bytes)
WordStep old bytes (Ok (Whole word, taken)) =
    IsWord word.items × Ends part_text part_resume old (take taken bytes) word.items
    (word_text word.items)
WordStep old bytes (Err e) = (more : List ℕ) → Fails e (part_resume old (bytes ++ more))
