-- Laws of the grammar and of streams.
use Rattle.std.specs.Prelude.{◌≡◌, ℕ, ◌<◌, ◌≤◌, List, [], ◌∷◌, ◌++◌, length, Option, Some, None, Result, Ok, Err}
use Rattle.std.specs.List.{flat_map}
use Rattle.zq_resp.specs.declared.fault.FeedFault.{FeedFault}
use Rattle.zq_resp.specs.Front.{Got, Part, Wrong}
use Rattle.zq_resp.specs.Grammar.{asked_at, request_at}
use Rattle.zq_resp.specs.Request.{AreWords}
use Rattle.zq_resp.specs.Spelling.{Spells}
use Rattle.zq_resp.specs.Stream.{Breaks, Feeds, Requests, Splits, Stops, handed}

-- a spelling of words within the limits, of at most 16,777,216 bytes
pub record IsSpelling (text : List ℕ) (words : List (List ℕ)) : Type 0 where
  pub limits : AreWords words
  pub spells : Spells text words
  pub small : length text ≤ 16777216

-- The text that a request is found in is a spelling of it, and the rest.
abbrev pub FoundIsSpelled : Type 0
FoundIsSpelled =
    (bytes rest : List ℕ) (words : List (List ℕ)) → request_at bytes ≡ Got (words, rest)
    → (text : List ℕ) × IsSpelling text words × (bytes ≡ text ++ rest)

-- A spelling is read again, whatever follows it.
abbrev pub SpellingIsFound : Type 0
SpellingIsFound = (text rest : List ℕ) (words : List (List ℕ)) → IsSpelling text words →
    request_at (text ++ rest) ≡ Got (words, rest)

-- A request that is found stays found with more bytes.
abbrev pub FoundStays : Type 0
FoundStays = (bytes more rest : List ℕ) (words : List (List ℕ)) →
    request_at bytes ≡ Got (words, rest) → request_at (bytes ++ more) ≡ Got (words, rest ++ more)

-- What begins no request begins none with more bytes, for the same reason.
abbrev pub WrongStays : Type 0
WrongStays = (bytes more : List ℕ) (why : FeedFault) → request_at bytes ≡ Wrong why →
    request_at (bytes ++ more) ≡ Wrong why

-- A wrong text begins no request, whatever follows it.
abbrev pub WrongBeginsNone : Type 0
WrongBeginsNone =
    (bytes more text rest : List ℕ) (words : List (List ℕ)) (why : FeedFault) →
    request_at bytes ≡ Wrong why
    → IsSpelling text words → bytes ++ more ≡ text ++ rest → ⊥

-- Less than a whole request is the beginning of one: some bytes behind it make it a request of the
-- grammar, and it is within the limit. (Its counts and lengths may ask for more than the limit: the
-- fault comes when the limit is passed.)
abbrev pub PartBeginsOne : Type 0
PartBeginsOne =
    (bytes : List ℕ) → request_at bytes ≡ Part
    → (length bytes ≤ 16777216)
    × ((more : List ℕ) × (words : List (List ℕ)) × (asked_at (bytes ++ more) ≡ Got (words, [])))

-- The beginning of a request, within the limit, is less than a whole one.
abbrev pub BeginningIsPart : Type 0
BeginningIsPart =
    (bytes more : List ℕ) (words : List (List ℕ)) → length bytes ≤ 16777216 → 0 < length more
    → asked_at (bytes ++ more) ≡ Got (words, []) → request_at bytes ≡ Part

-- A text is requests and less than a whole one in one way.
abbrev pub SplitsOnce : Type 0
SplitsOnce =
    (bytes rest left : List ℕ) (all others : Requests) → Splits bytes all rest →
    Splits bytes others left
    → (all ≡ others) × (rest ≡ left)

-- A text that breaks off does not split, and breaks off after the same requests for one reason.
abbrev pub BreaksOnce : Type 0
BreaksOnce =
    (bytes : List ℕ) (all others : Requests) (why reason : FeedFault) → Breaks bytes all why →
    Breaks bytes others reason
    → (all ≡ others) × (why ≡ reason)

abbrev pub BreaksAlone : Type 0
BreaksAlone = (bytes rest : List ℕ) (all others : Requests) (why : FeedFault) →
    Breaks bytes all why → Splits bytes others rest → ⊥

-- a piece and the answer to it
abbrev pub Turn : Type 0
Turn = List ℕ × Result Requests (FeedFault × Requests)

-- Pieces that are fed one after the other, from what a reader has to what it has in the end.
abbrev pub Run : Option (List ℕ) → List Turn → Option (List ℕ) → Type 0
Run had [] last = had ≡ last
Run had (turn ∷ turns) last = (has : Option (List ℕ)) × Feeds had turn.0 turn.1 has
    × Run has turns last

-- the whole text
abbrev pub stream : List Turn → List ℕ
stream turns = flat_map (λ turn. turn.0) turns

-- the requests that an answer hands out
abbrev pub given_by : Result Requests (FeedFault × Requests) → Requests
given_by (Ok requests) = requests
given_by (Err (why, before)) = before

abbrev pub given : List Turn → Requests
given turns = flat_map (λ turn. given_by turn.1) turns

abbrev pub or_else : Option FeedFault → Result Requests (FeedFault × Requests) → Option FeedFault
or_else later (Ok requests) = later
or_else later (Err (why, before)) = Some why

abbrev pub first_fault : List Turn → Option FeedFault
first_fault [] = None
first_fault (turn ∷ turns) = or_else (first_fault turns) turn.1

-- what the whole text gives, with its first fault and what is kept in the end
abbrev pub Gives : List ℕ → Requests → Option FeedFault → Option (List ℕ) → Type 0
Gives bytes requests None (Some rest) = (all : Requests) × Splits bytes all rest
    × (requests ≡ handed all)
Gives bytes requests (Some why) None = Stops bytes why requests
Gives bytes requests None None = ⊥
Gives bytes requests (Some why) (Some rest) = ⊥

-- It does not matter how a text is cut into pieces: what they give together is what the text gives.
abbrev pub PiecesGiveTheWhole : Type 0
PiecesGiveTheWhole =
    (turns : List Turn) (last : Option (List ℕ)) → Run (Some []) turns last →
    Gives (stream turns) (given turns) (first_fault turns) last
