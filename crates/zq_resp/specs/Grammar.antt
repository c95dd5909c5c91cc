-- The grammar of requests, by cases on the bytes of a whole text. What is found comes with the
-- bytes after it.
use Rattle.std.specs.Prelude.{ℕ, zero, suc, ◌+◌, ◌-◌, ◌*◌, ◌==◌, nat_le, nat_lt, Bool, ◌&&◌, if◌then◌else◌, List, [], ◌∷◌, ◌++◌, length, take, drop}
use Rattle.zq_resp.specs.declared.fault.FeedFault.TheVariants.{Protocol, TooLong}
use Rattle.zq_resp.specs.Front.{Front, Got, Part, Wrong, ◌>>=◌}

-- one given byte
abbrev pub mark_at : ℕ → List ℕ → Front (List ℕ)
mark_at mark [] = Part
mark_at mark (b ∷ bytes) = if b == mark then Got bytes else Wrong Protocol

abbrev pub is_digit : ℕ → Bool
is_digit b = nat_le 48 b && nat_le b 57

-- the line feed of a line with this number
abbrev pub end_at : ℕ → List ℕ → Front (ℕ × List ℕ)
end_at n bytes = mark_at 10 bytes >>= λ rest. Got (n, rest)

-- the end of a line with the number 0
abbrev pub zero_at : List ℕ → Front (ℕ × List ℕ)
zero_at bytes = mark_at 13 bytes >>= λ rest. end_at 0 rest

-- a line goes on after digits that make n; it is too long where they make more than the limit
abbrev pub digits_at : ℕ → ℕ → List ℕ → Front (ℕ × List ℕ)
digits_at limit n [] = Part
digits_at limit n (b ∷ bytes) =
    if is_digit b then (if nat_lt limit (n * 10 + (b - 48)) then Wrong TooLong else digits_at limit
    (n * 10 + (b - 48)) bytes)
    else (if b == 13 then end_at n bytes else Wrong Protocol)

-- a number on a line: 0, or digits of which the first is not 0
abbrev pub line_at : ℕ → List ℕ → Front (ℕ × List ℕ)
line_at limit [] = Part
line_at limit (b ∷ bytes) =
    if b == 48 then zero_at bytes else
    (if is_digit b then digits_at limit (b - 48) bytes else Wrong Protocol)

-- n bytes
abbrev pub body_at : ℕ → List ℕ → Front (List ℕ × List ℕ)
body_at n bytes = if nat_lt (length bytes) n then Part else Got (take n bytes, drop n bytes)

-- the two bytes that end a word
abbrev pub ended_at : List ℕ → List ℕ → Front (List ℕ × List ℕ)
ended_at word bytes = mark_at 13 bytes >>= λ rest. mark_at 10 rest >>= λ rest. Got (word, rest)

-- a word: `$`, its length on a line, its bytes, CR LF
unfoldable pub word_at : List ℕ → Front (List ℕ × List ℕ)
word_at bytes = do
  rest ← mark_at 36 bytes
  n ← line_at 1048576 rest
  word ← body_at n.0 n.1
  ended_at word.0 word.1

-- so many words
unfoldable pub words_at : ℕ → List ℕ → Front (List (List ℕ) × List ℕ)
words_at zero bytes = Got ([], bytes)
words_at (suc k) bytes = do
  first ← word_at bytes
  others ← words_at k first.1
  Got (first.0 ∷ others.0, others.1)

-- after the minus: a request of no words
abbrev pub null_at : List ℕ → Front (List (List ℕ) × List ℕ)
null_at bytes = mark_at 49 bytes >>= λ rest. mark_at 13 rest >>= λ rest. mark_at 10 rest >>= λ rest.
    Got ([], rest)

-- the count of the words, and the words
abbrev pub counted_at : List ℕ → Front (List (List ℕ) × List ℕ)
counted_at bytes = line_at 65536 bytes >>= λ n. words_at n.0 n.1

abbrev pub count_at : List ℕ → Front (List (List ℕ) × List ℕ)
count_at [] = Part
count_at (b ∷ bytes) = if b == 45 then null_at bytes else counted_at (b ∷ bytes)

-- a request of any length
abbrev pub asked_at : List ℕ → Front (List (List ℕ) × List ℕ)
asked_at bytes = mark_at 42 bytes >>= λ rest. count_at rest

-- What was left out of the reading stands behind what is left of it; where a request needs it, it
-- is too long.
abbrev pub with_more : List ℕ → Front (List (List ℕ) × List ℕ) → Front (List (List ℕ) × List ℕ)
with_more more (Got x) = Got (x.0, x.1 ++ more)
with_more [] Part = Part
with_more (b ∷ more) Part = Wrong TooLong
with_more more (Wrong fault) = Wrong fault

-- a request of at most 16,777,216 bytes: too long at the first byte past them
unfoldable pub request_at : List ℕ → Front (List (List ℕ) × List ℕ)
request_at bytes = with_more (drop 16777216 bytes) (asked_at (take 16777216 bytes))
