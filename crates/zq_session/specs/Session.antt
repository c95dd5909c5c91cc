-- What a session answers to a text.
use Rattle.std.specs.Prelude.{◌≡◌, ◌≢◌, ◌≤◌, ◌⊎◌, ℕ, List, [], ◌∷◌, ◌++◌, length, codes, Option, Result, Ok, Err}
use Rattle.std.specs.Io.KnownBytes.{IsAtEnd}
use Rattle.zq_resp.specs.declared.reply.Reply.{Reply}
use Rattle.zq_resp.specs.declared.fault.FeedFault.{FeedFault}
use Rattle.zq_resp.specs.Reply.{all_bytes}
use Rattle.zq_resp.specs.Front.{Wrong}
use Rattle.zq_resp.specs.Grammar.{request_at}
use Rattle.zq_resp.specs.Stream.{Requests, Reaches, Splits, Breaks, HasCount, handed}
use Rattle.zq_session.specs.declared.outcome.End.{End}
use Rattle.zq_session.specs.declared.outcome.End.TheVariants.{Clean, Inside, Protocol}
use Rattle.zq_session.specs.declared.outcome.SessionFault.{SessionFault}
use Rattle.zq_session.specs.declared.outcome.SessionFault.TheVariants.{Read, Write, NoMemory}

abbrev pub status_of : Result End SessionFault → ℕ
status_of (Ok Clean) = 0
status_of (Ok Inside) = 2
status_of (Ok Protocol) = 2
status_of (Err fault) = 4

-- how states answer: the state before, the request, the reply, the state after
abbrev pub Relation : Type 0 → Type 1
Relation S = S → List (List ℕ) → Reply → S → Type 0

-- The requests are answered one after the other.
abbrev pub Runs : {S : Type 0} → Relation S → S → Requests → List Reply → S → Type 0
Runs answers old [] [] new = old ≡ new
Runs {S} answers old (request ∷ requests) (reply ∷ replies) new = (mid : S)
    × answers old request reply mid × Runs answers mid requests replies new
Runs answers old [] (reply ∷ replies) new = ⊥
Runs answers old (request ∷ requests) [] new = ⊥

-- The bytes are the replies to all the requests.
abbrev pub IsAnswered : {S : Type 0} → Relation S → S → S → Requests → List ℕ → Type 0
IsAnswered answers old new requests bytes = (replies : List Reply)
    × Runs answers old requests replies new × (bytes ≡ all_bytes replies)

-- what is written where the input breaks the protocol
abbrev pub closing : List ℕ
closing = codes "-ERR Protocol error\r\n"

-- The bytes are the replies to all the requests, and the closing words.
abbrev pub IsClosed : {S : Type 0} → Relation S → S → S → Requests → List ℕ → Type 0
IsClosed answers old new requests bytes = (replies : List ℕ)
    × IsAnswered answers old new requests replies × (bytes ≡ replies ++ closing)

-- The bytes are the front of the replies to the first of the requests.
abbrev pub IsBegun : {S : Type 0} → Relation S → S → S → Requests → List ℕ → Type 0
IsBegun answers old new requests bytes =
    (first others : Requests) × (unwritten : List ℕ) × (requests ≡ first ++ others)
    × IsAnswered answers old new first (bytes ++ unwritten)

-- The bytes are the replies to the first of the requests, where memory was refused. At most one
-- reply that was made is missing, the last one. Where none is missing, all the requests are
-- answered.
pub record IsStopped {S : Type 0} (answers : Relation S) (old new : S) (requests : Requests)
    (bytes : List ℕ) (unwritten : List Reply) : Type 0 where
  pub first : Requests
  pub others : Requests
  pub split : requests ≡ first ++ others
  pub replies : List Reply
  pub runs : Runs answers old first (replies ++ unwritten) new
  pub at_most_one : length unwritten ≤ 1
  pub all_else : unwritten ≡ [] → others ≡ []
  pub written : bytes ≡ all_bytes replies

-- What memory was refused for: a reply that was made, the next request, or the words that close the
-- session.
abbrev pub IsWanting : List ℕ → List Reply → Type 0
IsWanting rest unwritten = (unwritten ≢ [])
    ⊎ (HasCount rest ⊎ ((why : FeedFault) × (request_at rest ≡ Wrong why)))

-- Memory was refused before anything was read.
pub record IsUnread {S : Type 0} (old new : S) (text bytes : List ℕ) : Type 0 where
  pub nothing_read : text ≡ []
  pub nothing_written : bytes ≡ []
  pub none_answered : old ≡ new

-- Memory was refused for what the last read brought. All that ended before that read is answered
-- and written.
pub record IsRefused {S : Type 0} (answers : Relation S) (old new : S)
    (text bytes : List ℕ) : Type 0 where
  pub before : List ℕ
  pub piece : List ℕ
  pub text_is : text ≡ before ++ piece
  pub one_read : length piece ≤ 65536
  pub all : Requests
  pub had : List ℕ
  pub splits : Splits before all had
  pub mid : S
  pub written : List ℕ
  pub answered : IsAnswered answers old mid (handed all) written
  pub more : Requests
  pub rest : List ℕ
  pub reaches : Reaches (had ++ piece) more rest
  pub last : List ℕ
  pub unwritten : List Reply
  pub stopped : IsStopped answers mid new (handed more) last unwritten
  pub wanting : IsWanting rest unwritten
  pub bytes_are : bytes ≡ written ++ last

-- The bytes are the front of what the text is owed.
abbrev pub IsOwed : {S : Type 0} → Relation S → S → S → List ℕ → List ℕ → Type 0
IsOwed answers old new text bytes =
    ((all : Requests) × (rest : List ℕ) × Reaches text all rest
    × IsBegun answers old new (handed all) bytes)
    ⊎ ((all : Requests) × (why : FeedFault) × (unwritten : List ℕ) × Breaks text all why
    × IsClosed answers old new (handed all) (bytes ++ unwritten))

-- What was written for the text that was read, by how the session ended.
abbrev pub Serves : {S : Type 0} → Relation S → S → S → List ℕ → List ℕ → Result End SessionFault →
    Type 0
Serves answers old new text bytes (Ok Clean) = (all : Requests) × Splits text all []
    × IsAnswered answers old new (handed all) bytes
Serves answers old new text bytes (Ok Inside) =
    (all : Requests) × (rest : List ℕ) × Splits text all rest × (rest ≢ [])
    × IsAnswered answers old new (handed all) bytes
Serves answers old new text bytes (Ok Protocol) =
    (all : Requests) × (why : FeedFault) × Breaks text all why
    × IsClosed answers old new (handed all) bytes
Serves answers old new text bytes (Err Read) =
    (all : Requests) × (rest : List ℕ) × Splits text all rest
    × IsAnswered answers old new (handed all) bytes
Serves answers old new text bytes (Err Write) = IsOwed answers old new text bytes
Serves answers old new text bytes (Err NoMemory) = IsUnread old new text bytes
    ⊎ IsRefused answers old new text bytes

-- An end that is no fault of the protocol comes where the reader has no more.
abbrev pub IsReadOff : Result End SessionFault → Option (List ℕ) → Type 0
IsReadOff (Ok Clean) remaining = IsAtEnd remaining
IsReadOff (Ok Inside) remaining = IsAtEnd remaining
IsReadOff (Ok Protocol) remaining = Unit {0}
IsReadOff (Err fault) remaining = Unit {0}
