-- What one piece of the input is answered with.
use Rattle.std.specs.Prelude.{◌≡◌, ◌≢◌, ℕ, List, [], ◌++◌, Option, Some, None, Result, Ok, Err}
use Rattle.zq_resp.specs.declared.reply.Reply.{Reply}
use Rattle.zq_resp.specs.declared.fault.FeedFault.{FeedFault}
use Rattle.zq_resp.specs.declared.fault.FeedFault.TheVariants.{Protocol, TooLong, Over, NoMemory}
use Rattle.zq_resp.specs.Stream.{Requests, Reaches, Splits, Breaks, handed}
use Rattle.zq_session.specs.declared.serving.Served.{Served}
use Rattle.zq_session.specs.declared.serving.Served.TheVariants.{More, Broken}
use Rattle.zq_session.specs.declared.outcome.End.{End}
use Rattle.zq_session.specs.declared.outcome.End.TheVariants.{Clean, Inside}
use Rattle.zq_session.specs.declared.outcome.End.TheVariants as end
use Rattle.zq_session.specs.declared.outcome.SessionFault.{SessionFault}
use Rattle.zq_session.specs.declared.outcome.SessionFault.TheVariants as stop
use Rattle.zq_session.specs.Session.{Relation, IsAnswered, IsBegun, IsClosed, IsStopped, IsOwed, IsWanting, Serves}

-- The bytes for some requests, where memory may be refused and nothing is written yet.
abbrev pub AnswersAll : {S : Type 0} → Relation S → S → S → Requests → List ℕ →
    Result (Unit {0}) SessionFault → Type 0
AnswersAll answers old new requests bytes (Ok done) = IsAnswered answers old new requests bytes
AnswersAll answers old new requests bytes (Err stop.Read) = ⊥
AnswersAll answers old new requests bytes (Err stop.Write) = ⊥
AnswersAll answers old new requests bytes (Err stop.NoMemory) =
    (unwritten : List Reply) × (unwritten ≢ []) × IsStopped answers old new requests bytes unwritten

-- a fault for which the input is closed
abbrev pub IsBreak : FeedFault → Type 0
IsBreak Protocol = Unit {0}
IsBreak TooLong = Unit {0}
IsBreak Over = ⊥
IsBreak NoMemory = ⊥

-- the requests before a fault
abbrev pub ServesLast : {S : Type 0} → Relation S → S → S → FeedFault → Requests → List ℕ →
    Result Served SessionFault → Type 0
ServesLast answers old new why requests bytes (Ok More) = ⊥
ServesLast answers old new why requests bytes (Ok Broken) = IsBreak why
    × IsClosed answers old new requests bytes
ServesLast answers old new why requests bytes (Err stop.Read) = ⊥
ServesLast answers old new why requests bytes (Err stop.Write) =
    IsBegun answers old new requests bytes
ServesLast answers old new why requests bytes (Err stop.NoMemory) =
    IsStopped answers old new requests bytes []

-- The bytes for a piece that follows the bytes of an unfinished request. After a fault of the
-- writer a front of what is owed.
abbrev pub ServesPiece : {S : Type 0} → Relation S → S → S → List ℕ → List ℕ → Option (List ℕ) →
    List ℕ → Result Served SessionFault → Type 0
ServesPiece answers old new had piece kept bytes (Ok More) =
    (all : Requests) × (has : List ℕ) × (kept ≡ Some has) × Splits (had ++ piece) all has
    × IsAnswered answers old new (handed all) bytes
ServesPiece answers old new had piece kept bytes (Ok Broken) =
    (all : Requests) × (why : FeedFault) × Breaks (had ++ piece) all why
    × IsClosed answers old new (handed all) bytes
ServesPiece answers old new had piece kept bytes (Err stop.Read) = ⊥
ServesPiece answers old new had piece kept bytes (Err stop.Write) =
    IsOwed answers old new (had ++ piece) bytes
ServesPiece answers old new had piece kept bytes (Err stop.NoMemory) =
    (all : Requests) × (rest : List ℕ) × (unwritten : List Reply) × Reaches (had ++ piece) all rest
    × IsStopped answers old new (handed all) bytes unwritten × IsWanting rest unwritten

-- how input ends that ends with these bytes of a request
abbrev pub EndsWith : List ℕ → End → Type 0
EndsWith had Clean = had ≡ []
EndsWith had Inside = had ≢ []
EndsWith had end.Protocol = ⊥

-- what was read, served until it ended, or until as many reads were made as a session makes
abbrev pub ServesAll : {S : Type 0} → Relation S → S → S → List ℕ → List ℕ →
    Result (Option End) SessionFault → Type 0
ServesAll answers old new text bytes (Ok (Some end)) = Serves answers old new text bytes (Ok end)
ServesAll answers old new text bytes (Ok None) = Serves answers old new text bytes (Err stop.Read)
ServesAll answers old new text bytes (Err fault) = Serves answers old new text bytes (Err fault)
