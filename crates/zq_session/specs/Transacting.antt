-- How a server of a site answers several requests as one, by one pass of it.

use Rattle.std.specs.Prelude.{Bool, Err, List, None, Ok, Option, Result, Some, [], codes, false, map, true, ℕ, ◌∷◌, ◌≡◌, ◌⊎◌}
use Rattle.zq_dialect.specs.Further.{Finding, call_of}
use Rattle.zq_resp.specs.Reply.{line, reply_bytes}
use Rattle.zq_resp.specs.declared.reply.Reply.{Reply}
use Rattle.zq_semantics.specs.Procedures.{procedure}
use Rattle.zq_session.specs.Passing.{Passed}
use Rattle.zq_session.specs.declared.queued.Queued.{Queued}
use Rattle.zq_session.specs.declared.queued.Queued.TheVariants as queued
use Rattle.zq_session.specs.declared.queued.Transacted.{Transacted}
use Rattle.zq_session.specs.declared.queued.Transacted.TheVariants.{Ran, TurnedAway, Touched}
use Rattle.zq_spread.specs.Dispatch.{IsTurnedAway, all_heaps}
use Rattle.zq_spread.specs.Each.{AreCalled}
use Rattle.zq_spread.specs.Passes.{IsStopped}
use Rattle.zq_spread.specs.Watches.{Watch}
use Rattle.zq_spread.specs.Watching.{AreShown, AreWatched}
use Rattle.zq_spread.specs.declared.pass.Pass.{Pass}
use Rattle.zq_spread.specs.declared.site.Site.{Site}
use Rattle.zq_words.specs.Calls.{Call, Plain}
use Rattle.zq_words.specs.Command.{Reading, command_of}
use Rattle.zq_words.specs.Refused.{refused_text}
use Rattle.zq_words.specs.Words.{Word}
use Rattle.zq_words.specs.declared.refused.Refused.{Refused}
use Rattle.zq_words.specs.declared.refused.Refused.TheVariants as why

-- ---- what a request asks

abbrev pub asked_further : Finding → Result Call Refused
asked_further (Ok (Some call)) = Ok call
asked_further (Ok None) = Err why.Unknown
asked_further (Err refused) = Err refused

-- a command, or what else its words ask; or the first reason why they ask nothing
abbrev pub asked_by : Reading → List Word → Result Call Refused
asked_by (Ok command) words = Ok (Plain command)
asked_by (Err why.Unknown) words = asked_further (call_of words)
asked_by (Err refused) words = Err refused

abbrev pub asked_of : List Word → Result Call Refused
asked_of words = asked_by (command_of words) words

-- ---- what is queued

-- what has the place of a queued request: a call, or the bytes of an answer that needs none. What
-- the connection answers itself has the null array there, until it has answered
abbrev pub refused_bytes : Refused → Word
refused_bytes refused = 45 ∷ line (refused_text refused)

abbrev pub place_by : Result Call Refused → Result Call Word
place_by (Ok call) = Ok call
place_by (Err refused) = Err (refused_bytes refused)

abbrev pub place_of : Queued → Result Call Word
place_of (queued.Asked request) = place_by (asked_of request)
place_of (queued.Refused refused) = Err (refused_bytes refused)
place_of (queued.Own request) = Err (codes "*-1\r\n")

abbrev pub with_call : Result Call Word → List Call → List Call
with_call (Ok call) calls = call ∷ calls
with_call (Err bytes) calls = calls

-- what is called, in order
abbrev pub calls_in : List Queued → List Call
calls_in [] = []
calls_in (q ∷ queue) = with_call (place_of q) (calls_in queue)

-- the replies to the calls, with the other answers at their places
abbrev pub woven_in : Result Call Word → (List Word → List Word) → List Word → List Word
woven_in (Ok call) more [] = []
woven_in (Ok call) more (reply ∷ replies) = reply ∷ more replies
woven_in (Err bytes) more replies = bytes ∷ more replies

abbrev pub woven : List Queued → List Word → List Word
woven [] replies = []
woven (q ∷ queue) replies = woven_in (place_of q) (woven queue) replies

-- ---- what comes of it

-- they ran as one call of the site in all heaps, where something is watched only as long as that
-- was not changed
abbrev pub RunTogether : Site → Option Watch → List Call → List Word → Pass → Pass → Type 0
RunTogether site None calls replies before after =
    AreCalled site (map procedure calls) replies before after (all_heaps site)
RunTogether site (Some watch) calls replies before after =
    AreWatched site watch (map procedure calls) (Some replies) before after (all_heaps site)

-- nothing was done, since what is watched was changed
abbrev pub IsTouched : Site → Option Watch → List Call → Pass → Pass → Type 0
IsTouched site None calls before after = ⊥
IsTouched site (Some watch) calls before after =
    AreWatched site watch (map procedure calls) None before after (all_heaps site)

abbrev pub ComesOf : Site → List Queued → Option Watch → Transacted → Pass → Pass → Type 0
ComesOf site queue watch (Ran replies) before after = (said : List Word)
    × RunTogether site watch (calls_in queue) said before after
    × (map reply_bytes replies.items ≡ woven queue said)
ComesOf site queue watch Touched before after = IsTouched site watch (calls_in queue) before after
ComesOf site queue watch (TurnedAway reply) before after =
    IsTurnedAway (all_heaps site) (reply_bytes reply) before after

-- the server answers what is queued, and takes no words of its draws
pub record TransactsBy (old : Passed) (queue : List Queued) (watch : Option Watch)
    (result : Transacted) (new : Passed) : Type 0 where
  pub site : new.site ≡ old.site
  pub comes : ComesOf old.site queue watch result old.pass new.pass
  pub draws : new.draws ≡ old.draws

-- ---- what is watched

-- these keys are watched from now on; or they are not, and no heap was changed
abbrev pub WatchedFrom : Pass → List Word → Result Watch Reply → Pass → Type 0
WatchedFrom before keys (Ok watch) after = (watch.keys ≡ keys)
    × AreShown before 0 watch.vectors after
WatchedFrom before keys (Err reply) after = (shown : List (List ℕ)) × (mid : Pass)
    × AreShown before 0 shown mid × (IsStopped mid after ⊎ (after ≡ mid))

pub record WatchesBy (old : Passed) (keys : List Word) (result : Result Watch Reply)
    (new : Passed) : Type 0 where
  pub site : new.site ≡ old.site
  pub watched : WatchedFrom old.pass keys result new.pass
  pub draws : new.draws ≡ old.draws

-- ---- what is read as it is queued

-- refused at once, and not at its place later: nothing has its name, it does not take its number of
-- words, or there was no memory for it
abbrev pub is_at_once : Refused → Bool
is_at_once why.Unknown = true
is_at_once why.Words = true
is_at_once why.NoMemory = true
is_at_once refused = false

-- what is queued for a request that is refused, or the reply where that is at once
abbrev pub PreparesRefused : Refused → Result Queued Reply → Type 0
PreparesRefused refused (Ok (queued.Refused at)) = (at ≡ refused) × (is_at_once refused ≡ false)
PreparesRefused refused (Ok other) = ⊥
PreparesRefused refused (Err reply) = (is_at_once refused ≡ true)
    × (reply_bytes reply ≡ refused_bytes refused)

-- a request that asks something is queued as it is
abbrev pub PreparesAs : Result Call Refused → List Word → Result Queued Reply → Type 0
PreparesAs (Ok call) words (Ok (queued.Asked request)) = request ≡ words
PreparesAs (Ok call) words (Ok other) = ⊥
PreparesAs (Ok call) words (Err reply) = ⊥
PreparesAs (Err refused) words result = PreparesRefused refused result

-- or there was no memory for it
abbrev pub IsShort : Result Queued Reply → Type 0
IsShort (Ok q) = ⊥
IsShort (Err reply) = reply_bytes reply ≡ refused_bytes why.NoMemory
