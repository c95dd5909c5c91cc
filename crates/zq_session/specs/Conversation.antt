-- A session step by step: the replies to what was read are written before the next read, and many
-- at once.
use Rattle.std.specs.Prelude.{◌≡◌, ◌⊎◌, ℕ, List, [], ◌∷◌, ◌++◌, Option, None, Some, Result, Ok, Err}
use Rattle.zq_resp.specs.Stream.{Requests, Splits, handed}
use Rattle.zq_session.specs.Serving.{ServesAll}
use Rattle.zq_session.specs.Session.{IsAnswered, Relation, Serves}
use Rattle.zq_session.specs.Steps.{AreGathered, Does, Failed, Heard, Said, Step, Talks, heard, reads, said}
use Rattle.zq_session.specs.declared.outcome.End.{End}
use Rattle.zq_session.specs.declared.outcome.End.TheVariants.{Clean, Inside, Protocol}
use Rattle.zq_session.specs.declared.outcome.SessionFault.{SessionFault}
use Rattle.zq_session.specs.declared.outcome.SessionFault.TheVariants.{Read, Write, NoMemory}

-- Of what was read every request is answered, and every reply is written.
abbrev pub IsPaid : {S : Type 0} → Relation S → S → List Step → Type 0
IsPaid {S} answers old steps =
    (all : Requests) × (rest : List ℕ) × (mid : S) × Splits (heard steps) all rest
    × IsAnswered answers old mid (handed all) (said steps)

-- After the steps before, whenever a read begins nothing more is owed for what was read before it.
abbrev pub InTime : {S : Type 0} → Relation S → S → List Step → List Step → Type 0
InTime answers old before [] = Unit {0}
InTime answers old before (Heard bytes ∷ steps) = IsPaid answers old before
    × InTime answers old (before ++ Heard bytes ∷ []) steps
InTime answers old before (Failed ∷ steps) = IsPaid answers old before
    × InTime answers old (before ++ Failed ∷ []) steps
InTime answers old before (Said bytes ∷ steps) =
    InTime answers old (before ++ Said bytes ∷ []) steps

-- the last of the steps
abbrev pub IsLast : Step → List Step → Type 0
IsLast step steps = (front : List Step) × (steps ≡ front ++ step ∷ [])

abbrev pub IsWrittenLast : List Step → Type 0
IsWrittenLast steps = (bytes : List ℕ) × IsLast (Said bytes) steps

-- What a session ends by: the input ended, or a read failed, or it was the last that a session
-- makes, or a write failed.
abbrev pub EndsBy : List Step → Result End SessionFault → Type 0
EndsBy steps (Ok Clean) = IsLast (Heard []) steps
EndsBy steps (Ok Inside) = IsLast (Heard []) steps
EndsBy steps (Ok Protocol) = Unit {0}
EndsBy steps (Err Read) = IsLast Failed steps ⊎ (reads steps ≡ 4611686018427387904)
EndsBy steps (Err Write) = IsWrittenLast steps
EndsBy steps (Err NoMemory) = Unit {0}

-- A session: what it did, one step after the other.
pub record IsConversation {E S : Type 0} (does : Does E) (answers : Relation S) (first last : E)
    (old new : S) (result : Result End SessionFault) : Type 0 where
  pub steps : List Step
  pub talks : Talks does first steps last
  pub serves : Serves answers old new (heard steps) (said steps) result
  pub in_time : InTime answers old [] steps
  pub gathered : AreGathered steps
  pub ends_by : EndsBy steps result

-- the same, where it is not yet said what comes after the last read
abbrev pub StopsBy : List Step → Result (Option End) SessionFault → Type 0
StopsBy steps (Ok (Some end)) = EndsBy steps (Ok end)
StopsBy steps (Ok None) = reads steps ≡ 4611686018427387904
StopsBy steps (Err Read) = IsLast Failed steps
StopsBy steps (Err Write) = IsWrittenLast steps
StopsBy steps (Err NoMemory) = Unit {0}

pub record IsTalk {E S : Type 0} (does : Does E) (answers : Relation S) (first last : E)
    (old new : S) (result : Result (Option End) SessionFault) : Type 0 where
  pub steps : List Step
  pub talks : Talks does first steps last
  pub serves : ServesAll answers old new (heard steps) (said steps) result
  pub in_time : InTime answers old [] steps
  pub gathered : AreGathered steps
  pub stops_by : StopsBy steps result
