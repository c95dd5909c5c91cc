-- The line that stands for no words, as far as it has come.
use Rattle.std.specs.Prelude.{◌≡◌, ℕ, List, [], ◌∷◌, Result, Ok, Err}
use Rattle.zq_resp.specs.declared.fault.FeedFault.{FeedFault}
use Rattle.zq_resp.specs.declared.reader.null.Null.{Null}
use Rattle.zq_resp.specs.declared.reader.null.Null.TheVariants as null
use Rattle.zq_resp.specs.declared.reader.progress.Progress.{Progress}
use Rattle.zq_resp.specs.declared.reader.progress.Progress.TheVariants.{More, Whole}
use Rattle.zq_resp.specs.Front.{Front, Got, ◌>>=◌}
use Rattle.zq_resp.specs.Grammar.{mark_at, null_at}
use Rattle.zq_resp.specs.Suspended.{IsWrong, Goes}

abbrev pub null_text : Null → List ℕ
null_text null.Minus = 45 ∷ []
null_text null.One = 45 ∷ 49 ∷ []
null_text null.Ended = 45 ∷ 49 ∷ 13 ∷ []

abbrev pub null_resume : Null → List ℕ → Front (List (List ℕ) × List ℕ)
null_resume null.Minus more = null_at more
null_resume null.One more = mark_at 13 more >>= λ rest. mark_at 10 rest >>= λ rest. Got ([], rest)
null_resume null.Ended more = mark_at 10 more >>= λ rest. Got ([], rest)

abbrev pub NullStep : Null → ℕ → Result (Progress Null (Unit {0})) FeedFault → Type 0
NullStep old b (Ok (More new)) = Goes null_text null_resume old new (b ∷ [])
NullStep old b (Ok (Whole done)) = (more : List ℕ) → null_resume old (b ∷ more) ≡ Got ([], more)
NullStep old b (Err e) = (more : List ℕ) → IsWrong e (null_resume old (b ∷ more))
