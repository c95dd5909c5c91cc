-- How what answers requests reads, answers and guards several as one.

use Rattle.std.specs.Prelude.{List, Option, Result}
use Rattle.zq_resp.specs.declared.reply.Reply.{Reply}
use Rattle.zq_session.specs.Session.{Relation}
use Rattle.zq_session.specs.declared.queued.Queued.{Queued}
use Rattle.zq_session.specs.declared.queued.Transacted.{Transacted}
use Rattle.zq_spread.specs.Watches.{Watch}
use Rattle.zq_words.specs.Words.{Word}

-- the state, a request's words, and what waits for it, or the reply where it cannot wait
abbrev pub Preparing : Type 0 → Type 1
Preparing S = S → List Word → Result Queued Reply → Type 0

-- the state before, what waits, what is watched, what came of it, and the state after
abbrev pub Transacting : Type 0 → Type 1
Transacting S = S → List Queued → Option Watch → Transacted → S → Type 0

-- the state before, the keys, what is watched from now on or why not, and the state after
abbrev pub WatchingBy : Type 0 → Type 1
WatchingBy S = S → List Word → Result Watch Reply → S → Type 0

-- all that what answers inside does for a connection
pub record Inside (S : Type 0) : Type 1 where
  pub answers : Relation S
  pub prepares : Preparing S
  pub transacts : Transacting S
  pub watches : WatchingBy S

abbrev pub inside : {S : Type 0} → Relation S → Preparing S → Transacting S → WatchingBy S →
    Inside S
inside answers prepares transacts watches =
    record { answers = answers; prepares = prepares; transacts = transacts; watches = watches }
