-- A request, as far as it has come.
use Rattle.std.specs.Prelude.{◌≡◌, ℕ, ◌<◌, List, [], ◌∷◌, ◌++◌, length, take, Result, Ok, Err}
use Rattle.std.specs.declared.vec.Vec.{Vec}
use Rattle.std.specs.declared.alloc.Global.{Global}
use Rattle.zq_resp.specs.declared.fault.FeedFault.{FeedFault}
use Rattle.zq_resp.specs.declared.reader.line.Line.{Line}
use Rattle.zq_resp.specs.declared.reader.line.Line.TheVariants as line
use Rattle.zq_resp.specs.declared.reader.words.Words.{Words}
use Rattle.zq_resp.specs.declared.reader.partial.Partial.{Partial}
use Rattle.zq_resp.specs.declared.reader.partial.Partial.TheVariants as partial
use Rattle.zq_resp.specs.declared.reader.progress.Progress.{Progress}
use Rattle.zq_resp.specs.declared.reader.progress.Progress.TheVariants.{More, Whole}
use Rattle.zq_resp.specs.Front.{Front, Got, ◌>>=◌}
use Rattle.zq_resp.specs.Grammar.{words_at, count_at, asked_at}
use Rattle.zq_resp.specs.Request.{AreWords}
use Rattle.zq_resp.specs.Suspended.{views, IsWrong, Fails, Goes}
use Rattle.zq_resp.specs.Line.{IsLine, line_text, line_resume}
use Rattle.zq_resp.specs.Null.{null_text, null_resume}
use Rattle.zq_resp.specs.Words.{AreSome, words_text, words_resume}

abbrev pub IsPartial : Partial → Type 0
IsPartial partial.Start = Unit {0}
IsPartial (partial.Count line) = IsLine 65536 line
IsPartial (partial.Null null) = Unit {0}
IsPartial (partial.Words words) = AreSome words

abbrev pub text_so_far : Partial → List ℕ
text_so_far partial.Start = []
text_so_far (partial.Count line) = 42 ∷ line_text line
text_so_far (partial.Null null) = 42 ∷ null_text null
text_so_far (partial.Words words) = words_text words

abbrev pub resume : Partial → List ℕ → Front (List (List ℕ) × List ℕ)
resume partial.Start more = asked_at more
resume (partial.Count line.Start) more = count_at more
resume (partial.Count (line.Digits n)) more = line_resume 65536 (line.Digits n) more >>= λ n.
    words_at n.0 n.1
resume (partial.Count (line.Ended n)) more = line_resume 65536 (line.Ended n) more >>= λ n.
    words_at n.0 n.1
resume (partial.Null null) more = null_resume null more
resume (partial.Words words) more = words_resume words more

abbrev pub PartialStep : Partial → List ℕ →
    Result (Progress Partial (Vec (Vec ℕ Global) Global) × ℕ) FeedFault → Type 0
PartialStep old bytes (Ok (More new, taken)) = IsPartial new
    × Goes text_so_far resume old new (take taken bytes)
PartialStep old bytes (Ok (Whole words, taken)) =
    AreWords (views words)
    × ((more : List ℕ) → resume old (take taken bytes ++ more) ≡ Got (views words, more))
PartialStep old bytes (Err e) = (more : List ℕ) → Fails e (resume old (bytes ++ more))

-- no minus where the count may begin with one
abbrev pub IsPlain : Line → ℕ → Type 0
IsPlain old b = old ≡ line.Start → b ≡ 45 → ⊥

-- one byte
abbrev pub ByteStep : Partial → ℕ →
    Result (Progress Partial (Vec (Vec ℕ Global) Global)) FeedFault → Type 0
ByteStep old b (Ok (More new)) = IsPartial new × Goes text_so_far resume old new (b ∷ [])
ByteStep old b (Ok (Whole words)) =
    AreWords (views words) × ((more : List ℕ) → resume old (b ∷ more) ≡ Got (views words, more))
ByteStep old b (Err e) = (more : List ℕ) → IsWrong e (resume old (b ∷ more))

-- a step within the words is a step of the request
abbrev pub in_words : Progress Words (Vec (Vec ℕ Global) Global) →
    Progress Partial (Vec (Vec ℕ Global) Global)
in_words (More words) = More (partial.Words words)
in_words (Whole words) = Whole words

-- what ends no request takes all the bytes
abbrev pub ReadsAll : List ℕ → Progress Partial (Vec (Vec ℕ Global) Global) × ℕ → Type 0
ReadsAll bytes (More new, taken) = taken ≡ length bytes
ReadsAll bytes (Whole words, taken) = 0 < taken
