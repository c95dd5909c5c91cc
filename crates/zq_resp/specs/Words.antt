-- The words of a request whose count is known, as far as they have come.
use Rattle.std.specs.Prelude.{◌≡◌, ℕ, ◌+◌, ◌≤◌, List, [], ◌∷◌, ◌++◌, length, take, All, Result, Ok, Err}
use Rattle.std.specs.List.{flat_map}
use Rattle.std.specs.declared.vec.Vec.{Vec}
use Rattle.std.specs.declared.alloc.Global.{Global}
use Rattle.zq_resp.specs.declared.fault.FeedFault.{FeedFault}
use Rattle.zq_resp.specs.declared.reader.words.Words.{Words}
use Rattle.zq_resp.specs.declared.reader.progress.Progress.{Progress}
use Rattle.zq_resp.specs.declared.reader.progress.Progress.TheVariants.{More, Whole}
use Rattle.zq_resp.specs.Front.{Front, Got, ◌>>=◌}
use Rattle.zq_resp.specs.Grammar.{words_at}
use Rattle.zq_resp.specs.Request.{IsWord, AreWords}
use Rattle.zq_resp.specs.Spelling.{number_line, word_text}
use Rattle.zq_resp.specs.Suspended.{views, Fails, Goes}
use Rattle.zq_resp.specs.Word.{IsPart, part_text, part_resume}

-- a word, and so many after it
abbrev pub others_at : ℕ → Front (List ℕ × List ℕ) → Front (List (List ℕ) × List ℕ)
others_at k read = read >>= λ first. words_at k first.1 >>= λ others.
    Got (first.0 ∷ others.0, others.1)

-- words before those that are found
abbrev pub with_front : List (List ℕ) → Front (List (List ℕ) × List ℕ) →
    Front (List (List ℕ) × List ℕ)
with_front front read = read >>= λ others. Got (front ++ others.0, others.1)

pub record AreSome (words : Words) : Type 0 where
  pub count : length words.found.items + 1 + words.after ≤ 65536
  pub found : All IsWord (views words.found)
  pub next : IsPart words.next

abbrev pub words_text : Words → List ℕ
words_text words =
    42 ∷ number_line (length words.found.items + 1 + words.after)
    ++ (flat_map word_text (views words.found) ++ part_text words.next)

abbrev pub words_resume : Words → List ℕ → Front (List (List ℕ) × List ℕ)
words_resume words more = with_front (views words.found)
    (others_at words.after (part_resume words.next more))

-- the words of a request of this count, before the first
abbrev pub BeginsWords : ℕ → Progress Words (Vec (Vec ℕ Global) Global) → Type 0
BeginsWords count (More new) =
    AreSome new × (words_text new ≡ 42 ∷ number_line count)
    × ((more : List ℕ) → words_at count more ≡ words_resume new more)
BeginsWords count (Whole words) = (views words ≡ [])
    × ((more : List ℕ) → words_at count more ≡ Got ([], more))

-- one word more, where so many are to come after it
abbrev pub AddsWord : List (List ℕ) → List ℕ → ℕ → Progress Words (Vec (Vec ℕ Global) Global) →
    Type 0
AddsWord found word after (More new) =
    AreSome new × (words_text new ≡ 42 ∷ number_line (length found + 1 + after)
    ++ (flat_map word_text found ++ word_text word))
    × ((more : List ℕ) → with_front found (others_at after (Got (word, more)))
    ≡ words_resume new more)
AddsWord found word after (Whole words) =
    AreWords (views words)
    × ((more : List ℕ) → with_front found (others_at after (Got (word, more)))
    ≡ Got (views words, more))

-- What bytes give that end a request or not: the value is the request's words.
abbrev pub WordsStep : Words → List ℕ →
    Result (Progress Words (Vec (Vec ℕ Global) Global) × ℕ) FeedFault → Type 0
WordsStep old bytes (Ok (More new, taken)) = AreSome new
    × Goes words_text words_resume old new (take taken bytes)
WordsStep old bytes (Ok (Whole words, taken)) =
    AreWords (views words)
    × ((more : List ℕ) → words_resume old (take taken bytes ++ more) ≡ Got (views words, more))
WordsStep old bytes (Err e) = (more : List ℕ) → Fails e (words_resume old (bytes ++ more))
