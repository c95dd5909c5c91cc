-- Requests that wait to be answered as one.

use Rattle.std.specs.Prelude.{Err, IsTrue, List, Ok, Result, [], codes, length, min, ℕ, ◌+◌, ◌++◌, ◌-◌, ◌^◌, ◌∷◌, ◌≡◌, ◌⊎◌}
use Rattle.zq_resp.specs.Reply.{is_writable, line, reply_bytes}
use Rattle.zq_resp.specs.declared.reply.Reply.{Reply}
use Rattle.zq_serve.specs.Denials.{denied}
use Rattle.zq_serve.specs.declared.denial.Denial.TheVariants as denial
use Rattle.zq_serve.specs.declared.queue.Queue.{Queue}
use Rattle.zq_serve.specs.declared.queue.Queue.TheVariants as queue
use Rattle.zq_session.specs.Transacting.{refused_bytes}
use Rattle.zq_session.specs.declared.queued.Queued.{Queued}
use Rattle.zq_words.specs.Words.{Word}
use Rattle.zq_words.specs.declared.refused.Refused.TheVariants as reason

-- nothing waits, these requests wait, or none of those that did will be answered
pub data Line : Type 0 where
  Idle : Line
  Open : List Queued → Line
  Broken : Line

abbrev pub line_of : Queue → Line
line_of queue.Idle = Idle
line_of (queue.Open requests bytes) = Open requests.items
line_of queue.Broken = Broken

abbrev pub spoiled : Line → Line
spoiled Idle = Idle
spoiled (Open requests) = Broken
spoiled Broken = Broken

-- the answer to a request that waits
abbrev pub QUEUED : Word
QUEUED = 43 ∷ line (codes "QUEUED")

-- it is refused, for its size or for memory
abbrev pub IsTooMuch : Reply → Type 0
IsTooMuch reply = (reply_bytes reply ≡ denied denial.TooLarge)
    ⊎ (reply_bytes reply ≡ refused_bytes reason.NoMemory)

-- a request stands behind the others, or is refused
abbrev pub IsAppended : List Queued → Queued → Result (Unit {0}) Reply → List Queued → Type 0
IsAppended old q (Ok done) new = new ≡ old ++ q ∷ []
IsAppended old q (Err reply) new = IsTooMuch reply × IsTrue (is_writable reply)

-- a request waits behind the others, or none of them will be answered
abbrev pub IsPutOff : Line → Queued → Reply → Line → Type 0
IsPutOff (Open old) q reply (Open new) = (new ≡ old ++ q ∷ []) × (reply_bytes reply ≡ QUEUED)
IsPutOff (Open old) q reply Broken = IsTooMuch reply
IsPutOff (Open old) q reply Idle = ⊥
IsPutOff Idle q reply new = (new ≡ Idle) × (reply_bytes reply ≡ QUEUED)
IsPutOff Broken q reply new = (new ≡ Broken) × (reply_bytes reply ≡ QUEUED)

-- ---- what requests weigh

-- the sum, where 64 bits hold it
abbrev pub within : ℕ → ℕ
within sum = min sum (2 ^ 64 - 1)

-- what words weigh behind others that weigh so much: each its bytes, and 24 more
abbrev pub weight_behind : ℕ → List Word → ℕ
weight_behind others [] = others
weight_behind others (word ∷ words) = weight_behind (within (within (others + length word) + 24)) words

abbrev pub weight_of : List Word → ℕ
weight_of words = weight_behind 0 words
