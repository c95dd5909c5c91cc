-- What the front of a piece is answered with, where the rest of it is left for later.
use Rattle.std.specs.Prelude.{◌≡◌, ◌<◌, ◌+◌, ℕ, List, [], ◌++◌, length, Option, Some, Result, Ok, Err, take, Vec}
use Rattle.std.specs.Vec.{vec_capacity, vec_len}
use Rattle.std.specs.declared.alloc.Global.{Global}
use Rattle.zq_resp.specs.Reply.{reply_bytes}
use Rattle.zq_resp.specs.Stream.{FailsFirst}
use Rattle.zq_resp.specs.declared.fault.FeedFault.TheVariants.{NoMemory}
use Rattle.zq_resp.specs.declared.reply.Reply.{Reply}
use Rattle.zq_session.specs.declared.answering.Answered.{Answered}
use Rattle.zq_session.specs.declared.outcome.SessionFault.{SessionFault}
use Rattle.zq_session.specs.declared.outcome.SessionFault.TheVariants as stop
use Rattle.zq_session.specs.Session.{Relation, closing}
use Rattle.zq_session.specs.Serving.{ServesPiece}

-- The bytes for what was taken of a piece that follows the bytes of an unfinished request.
abbrev pub AnswersSome : {S : Type 0} → Relation S → S → S → List ℕ → List ℕ → Option (List ℕ) →
    List ℕ → Result Answered SessionFault → Type 0
AnswersSome answers old new had piece kept bytes (Ok answered) =
    ServesPiece answers old new had (take answered.taken piece) kept bytes (Ok answered.served)
AnswersSome answers old new had piece kept bytes (Err stop.Read) = ⊥
AnswersSome answers old new had piece kept bytes (Err stop.Write) = ⊥
AnswersSome answers old new had piece kept bytes (Err stop.NoMemory) =
    ServesPiece answers old new had piece kept bytes (Err stop.NoMemory)

-- the bytes of one reply, or the words that close the session, or nothing
pub data IsOneReply (bytes : List ℕ) : Type 0 where
  nothing : bytes ≡ [] → IsOneReply bytes
  a_reply : (reply : Reply) → bytes ≡ reply_bytes reply → IsOneReply bytes
  closes : bytes ≡ closing → IsOneReply bytes

-- one reply was put behind the bytes, or none
abbrev pub IsOneMore : List ℕ → List ℕ → Type 0
IsOneMore old new = (last : List ℕ) × (new ≡ old ++ last) × IsOneReply last

-- fewer bytes than so many, and one reply
abbrev pub IsFew : ℕ → List ℕ → Type 0
IsFew most bytes = (front : List ℕ) × (length front < most) × IsOneMore front bytes

-- A vector that had these bytes had no room for those behind them.
pub record HadNoRoom (bytes more : List ℕ) : Type 0 where
  pub kept : Vec ℕ Global
  pub has : kept.items ≡ bytes
  pub full : vec_capacity kept < vec_len kept + length more

-- What there was no memory for: a reply that was made, or the words that close the session, behind
-- these bytes; or a request, as its reader says.
pub data LacksMemory {S : Type 0} (answers : Relation S) (new : S) (bytes : List ℕ) : Type 0 where
  for_a_reply : (old : S) (request : List (List ℕ)) (reply : Reply) → answers old request reply new →
      HadNoRoom bytes (reply_bytes reply) → LacksMemory answers new bytes
  for_closing : HadNoRoom bytes closing → LacksMemory answers new bytes
  for_a_request : (had piece : List ℕ) → FailsFirst (Some had) piece NoMemory →
      LacksMemory answers new bytes
