-- A stream of requests on its whole text, and what a reader has of it.
use Rattle.std.specs.Prelude.{◌≡◌, ◌≤◌, ℕ, Bool, true, false, List, [], ◌∷◌, ◌++◌, filter, Option, Some, None, Result, Ok, Err}
use Rattle.std.specs.declared.vec.Vec.{Vec}
use Rattle.std.specs.declared.alloc.Global.{Global}
use Rattle.zq_resp.specs.declared.fault.FeedFault.{FeedFault}
use Rattle.zq_resp.specs.declared.fault.FeedFault.TheVariants as fault
use Rattle.zq_resp.specs.declared.fault.FeedError.{FeedError}
use Rattle.zq_resp.specs.Front.{Got, Part, Wrong}
use Rattle.zq_resp.specs.Grammar.{request_at}
use Rattle.zq_resp.specs.Spelling.{number_line}

-- requests by their words
abbrev pub Requests : Type 0
Requests = List (List (List ℕ))

-- The bytes begin with these requests, one after the other, and the rest follows them.
abbrev pub Reaches : List ℕ → Requests → List ℕ → Type 0
Reaches bytes [] rest = bytes ≡ rest
Reaches bytes (request ∷ requests) rest = (after : List ℕ)
    × (request_at bytes ≡ Got (request, after)) × Reaches after requests rest

-- The bytes are these requests and then less than a whole one.
pub record Splits (bytes : List ℕ) (requests : Requests) (rest : List ℕ) : Type 0 where
  pub reaches : Reaches bytes requests rest
  pub partial : request_at rest ≡ Part

-- The bytes are these requests and then what begins no request.
pub record Breaks (bytes : List ℕ) (requests : Requests) (why : FeedFault) : Type 0 where
  pub rest : List ℕ
  pub reaches : Reaches bytes requests rest
  pub wrong : request_at rest ≡ Wrong why

abbrev pub has_words : List (List ℕ) → Bool
has_words [] = false
has_words (word ∷ words) = true

-- the requests that are handed out: those of no words are left out
abbrev pub handed : Requests → Requests
handed requests = filter has_words requests

-- The line with the count of a request of some words stands at the front. Before its end no memory
-- is asked for.
pub record HasCount (bytes : List ℕ) : Type 0 where
  pub count : ℕ
  pub some : 1 ≤ count
  pub most : count ≤ 65536
  pub more : List ℕ
  pub is : bytes ≡ 42 ∷ number_line count ++ more

-- The requests before a fault: all up to what begins no request. Where memory was refused, all up
-- to the request that needed it, of which the count stands there.
abbrev pub Stops : List ℕ → FeedFault → Requests → Type 0
Stops bytes fault.Protocol before = (all : Requests) × Breaks bytes all fault.Protocol
    × (before ≡ handed all)
Stops bytes fault.TooLong before = (all : Requests) × Breaks bytes all fault.TooLong
    × (before ≡ handed all)
Stops bytes fault.NoMemory before = (all : Requests) × (rest : List ℕ) × Reaches bytes all rest
    × (before ≡ handed all) × HasCount rest
Stops bytes fault.Over before = ⊥

-- What a reader that has some bytes of an unfinished request answers to a piece, and what it has
-- then: None after a fault.
abbrev pub Feeds : Option (List ℕ) → List ℕ → Result Requests (FeedFault × Requests) →
    Option (List ℕ) → Type 0
Feeds (Some had) piece (Ok requests) (Some has) = (all : Requests) × Splits (had ++ piece) all has
    × (requests ≡ handed all)
Feeds (Some had) piece (Err (why, before)) None = Stops (had ++ piece) why before
Feeds None piece (Err (fault.Over, before)) None = before ≡ []
Feeds (Some had) piece (Ok requests) None = ⊥
Feeds (Some had) piece (Err (why, before)) (Some has) = ⊥
Feeds None piece (Ok requests) new = ⊥
Feeds None piece (Err (fault.Protocol, before)) new = ⊥
Feeds None piece (Err (fault.TooLong, before)) new = ⊥
Feeds None piece (Err (fault.NoMemory, before)) new = ⊥
Feeds None piece (Err (fault.Over, before)) (Some has) = ⊥

-- A fault in the first request that a piece goes on with or begins.
abbrev pub FailsFirst : Option (List ℕ) → List ℕ → FeedFault → Type 0
FailsFirst (Some had) piece fault.Protocol = request_at (had ++ piece) ≡ Wrong fault.Protocol
FailsFirst (Some had) piece fault.TooLong = request_at (had ++ piece) ≡ Wrong fault.TooLong
FailsFirst (Some had) piece fault.NoMemory = HasCount (had ++ piece)
FailsFirst (Some had) piece fault.Over = ⊥
FailsFirst None piece fault.Over = Unit {0}
FailsFirst None piece fault.Protocol = ⊥
FailsFirst None piece fault.TooLong = ⊥
FailsFirst None piece fault.NoMemory = ⊥

-- whether some bytes of an unfinished request are kept
abbrev pub is_inside : Option (List ℕ) → Bool
is_inside None = false
is_inside (Some []) = false
is_inside (Some (b ∷ bytes)) = true

-- a request, or none, as a list of requests
abbrev pub listed : Option (List (List ℕ)) → Requests
listed None = []
listed (Some request) = request ∷ []

-- an answer as lists
abbrev pub answered : Result (Vec (List (List ℕ)) Global) FeedError →
    Result Requests (FeedFault × Requests)
answered (Ok requests) = Ok requests.items
answered (Err error) = Err (error.fault, error.before.items)
