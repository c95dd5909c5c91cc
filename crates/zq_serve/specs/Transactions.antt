-- How a connection has several requests answered as one.

use Rattle.std.specs.Option.{is_some}
use Rattle.std.specs.Prelude.{Bool, Err, List, None, Ok, Option, Result, Some, [], codes, false, if◌then◌else◌, true, ◌++◌, ◌||◌, ◌∷◌, ◌≡◌, ◌⊎◌}
use Rattle.std.specs.declared.alloc.Global.{Global}
use Rattle.std.specs.declared.vec.Vec.{Vec}
use Rattle.zq_client.specs.Answered.{AnswersItself}
use Rattle.zq_client.specs.Clients.{Client}
use Rattle.zq_client.specs.Names.{is_own}
use Rattle.zq_client.specs.Texts.{OK}
use Rattle.zq_client.specs.declared.moment.Moment.{Moment}
use Rattle.zq_client.specs.declared.profile.Profile.{Profile}
use Rattle.zq_resp.specs.Reply.{reply_bytes}
use Rattle.zq_resp.specs.declared.reply.Reply.{Array, Reply}
use Rattle.zq_serve.specs.Callers as callers
use Rattle.zq_serve.specs.Callers.{Caller, is_idle, queueing, resting}
use Rattle.zq_serve.specs.Controls.{are_shutdown_options, control_of, is_own_at_end, is_whole}
use Rattle.zq_serve.specs.Denials.{denied}
use Rattle.zq_serve.specs.Preparing.{Inside, Preparing, Transacting, WatchingBy}
use Rattle.zq_serve.specs.Queues.{Broken, Idle, IsPutOff, IsTooMuch, Line, Open, spoiled}
use Rattle.zq_serve.specs.declared.caller.Watching.{Watching}
use Rattle.zq_serve.specs.declared.caller.Watching.TheVariants.{Keys, Nothing, Touched}
use Rattle.zq_serve.specs.declared.control.Control.{Control}
use Rattle.zq_serve.specs.declared.control.Control.TheVariants as control
use Rattle.zq_serve.specs.declared.denial.Denial.TheVariants as denial
use Rattle.zq_session.specs.Transacting.{refused_bytes}
use Rattle.zq_session.specs.declared.queued.Queued.{Queued}
use Rattle.zq_session.specs.declared.queued.Queued.TheVariants as queued
use Rattle.zq_session.specs.declared.queued.Transacted.{Transacted}
use Rattle.zq_session.specs.declared.queued.Transacted.TheVariants as ended
use Rattle.zq_spread.specs.Watches.{Watch}
use Rattle.zq_words.specs.Words.{Word}
use Rattle.zq_words.specs.declared.refused.Refused.TheVariants as reason

-- ---- what waits

-- a request that the connection answers itself waits as it is, where there is memory
abbrev pub IsOwnRead : List Word → Result Queued Reply → Type 0
IsOwnRead words (Ok (queued.Own request)) = request ≡ words
IsOwnRead words (Ok other) = ⊥
IsOwnRead words (Err reply) = reply_bytes reply ≡ refused_bytes reason.NoMemory

-- with another number of words than it takes it is refused
abbrev pub IsRefusedForWords : Result Queued Reply → Type 0
IsRefusedForWords (Ok q) = ⊥
IsRefusedForWords (Err reply) = reply_bytes reply ≡ refused_bytes reason.Words

abbrev pub IsOwnReadBy : List Word → Result Queued Reply → Bool → Type 0
IsOwnReadBy words result true = IsOwnRead words result
IsOwnReadBy words result false = IsRefusedForWords result

-- another one that no call of the site answers is refused
abbrev pub IsRefusedInside : Result Queued Reply → Type 0
IsRefusedInside (Ok q) = ⊥
IsRefusedInside (Err reply) = reply_bytes reply ≡ denied denial.Inside

abbrev pub is_inside : List Word → Bool
is_inside words = is_own words || is_some (control_of words)

abbrev pub IsReadAsCall : {S : Type 0} → Preparing S → S → List Word → Result Queued Reply → Bool →
    Type 0
IsReadAsCall prepares state words result true = IsRefusedInside result
IsReadAsCall prepares state words result false = prepares state words result

abbrev pub IsReadBy : {S : Type 0} → Preparing S → S → List Word → Result Queued Reply → Bool →
    Type 0
IsReadBy prepares state words result true = IsOwnReadBy words result (is_whole words)
IsReadBy prepares state words result false =
    IsReadAsCall prepares state words result (is_inside words)

-- what waits for a request, or the reply where it cannot
abbrev pub IsReadAs : {S : Type 0} → Preparing S → S → List Word → Result Queued Reply → Type 0
IsReadAs prepares state words result =
    IsReadBy prepares state words result (is_own_at_end words)

-- the connection, but for what waits at it, is as it was
abbrev pub IsPutOffAs : Caller → Result Queued Reply → Reply → Caller → Type 0
IsPutOffAs before (Ok q) reply after = IsPutOff before.queue q reply after.queue
    × (after ≡ queueing after.queue before)
IsPutOffAs before (Err refused) reply after = (reply ≡ refused)
    × (after ≡ queueing (spoiled before.queue) before)

abbrev pub IsPutOffBy : {S : Type 0} → Preparing S → S → Caller → List Word → Reply → Caller →
    Type 0
IsPutOffBy prepares state before words reply after = (read : Result Queued Reply)
    × IsReadAs prepares state words read × IsPutOffAs before read reply after

-- ---- what is told, and leaves all as it was

pub record IsTold {S : Type 0} (bytes : Word) (reply : Reply) (old new : S)
    (before after : Caller) : Type 0
  where
    pub told : reply_bytes reply ≡ bytes
    pub inside : new ≡ old
    pub caller : after ≡ before

-- what is refused so that nothing of what waits will be answered; EXEC leaves it as it is
abbrev pub spoiled_by : Control → Caller → Caller
spoiled_by control.Exec caller = caller
spoiled_by other caller = queueing (spoiled caller.queue) caller

abbrev pub IsRefusedAs : {S : Type 0} → Control → Word → Reply → S → S → Caller → Caller → Type 0
IsRefusedAs what bytes reply old new before after =
    IsTold bytes reply old new (spoiled_by what before) after

-- ---- MULTI, DISCARD, UNWATCH

-- requests wait from now on, where none did; or there was no memory for that
abbrev pub IsOpened : Line → Caller → Reply → Caller → Type 0
IsOpened Idle before reply after =
    ((reply_bytes reply ≡ OK) × (after ≡ queueing (Open []) before))
    ⊎ ((reply_bytes reply ≡ refused_bytes reason.NoMemory) × (after ≡ before))
IsOpened other before reply after = (reply_bytes reply ≡ denied denial.Nested) × (after ≡ before)

-- nothing waits any more, and nothing is watched
abbrev pub IsDiscarded : Line → Caller → Reply → Caller → Type 0
IsDiscarded Idle before reply after =
    (reply_bytes reply ≡ denied denial.DiscardAlone) × (after ≡ before)
IsDiscarded other before reply after = (reply_bytes reply ≡ OK) × (after ≡ resting before.client)

abbrev pub unwatched : Caller → Caller
unwatched caller = if is_idle caller.queue then resting caller.client else caller

-- ---- EXEC

-- what the connection answers itself, once the others are answered
abbrev pub IsOwnReplyBy : Option Reply → Reply → Type 0
IsOwnReplyBy (Some own) reply = reply ≡ own
IsOwnReplyBy None reply = reply_bytes reply ≡ codes "*-1\r\n"

abbrev pub IsOwnReply : Profile → Client → List Word → Reply → Client → Type 0
IsOwnReply profile before words reply after = (now : Moment) × (own : Option Reply)
    × AnswersItself profile now before words own after × IsOwnReplyBy own reply

abbrev pub IsFilledAt : Profile → Client → Queued → Reply → Reply → Client → Type 0
IsFilledAt profile before (queued.Own request) was is after =
    IsOwnReply profile before request is after
IsFilledAt profile before other was is after = (is ≡ was) × (after ≡ before)

-- the replies, each of them to a request that waited, with those of the connection at their places
abbrev pub AreFilled : Profile → Client → List Queued → List Reply → List Reply → Client → Type 0
AreFilled profile before [] were are after = (are ≡ were) × (after ≡ before)
AreFilled profile before (q ∷ queue) [] are after = (are ≡ []) × (after ≡ before)
AreFilled profile before (q ∷ queue) (was ∷ were) are after = (first : Reply)
    × (others : List Reply) × (mid : Client) × (are ≡ first ∷ others)
    × IsFilledAt profile before q was first mid
    × AreFilled profile mid queue were others after

-- what is told of what came of them
abbrev pub IsToldOf : Profile → Client → List Queued → Transacted → Reply → Client → Type 0
IsToldOf profile before queue (ended.Ran replies) reply after = (filled : Vec Reply Global)
    × (reply ≡ Array filled) × AreFilled profile before queue replies.items filled.items after
IsToldOf profile before queue ended.Touched reply after =
    (reply_bytes reply ≡ codes "*-1\r\n") × (after ≡ before)
IsToldOf profile before queue (ended.TurnedAway why) reply after =
    (reply ≡ why) × (after ≡ before)

abbrev pub IsAnsweredTogether : {S : Type 0} → Transacting S → Profile → S → Client → List Queued →
    Option Watch → Reply → S → Client → Type 0
IsAnsweredTogether transacts profile old before queue watch reply new after = (come : Transacted)
    × transacts old queue watch come new × IsToldOf profile before queue come reply after

-- those that waited are answered as one where nothing is watched, or what is was not changed
abbrev pub IsRun : {S : Type 0} → Transacting S → Profile → S → Client → List Queued → Watching →
    Reply → S → Client → Type 0
IsRun transacts profile old before queue Nothing reply new after =
    IsAnsweredTogether transacts profile old before queue None reply new after
IsRun transacts profile old before queue (Keys watch) reply new after =
    IsAnsweredTogether transacts profile old before queue (Some watch) reply new after
IsRun transacts profile old before queue Touched reply new after =
    (reply_bytes reply ≡ codes "*-1\r\n") × (new ≡ old) × (after ≡ before)

-- nothing waits and nothing is watched afterwards
abbrev pub IsExecutedBy : {S : Type 0} → Transacting S → Profile → S → Caller → Line → Reply → S →
    Caller → Type 0
IsExecutedBy transacts profile old before Idle reply new after =
    IsTold (denied denial.ExecAlone) reply old new before after
IsExecutedBy transacts profile old before Broken reply new after =
    IsTold (denied denial.Aborted) reply old new (resting before.client) after
IsExecutedBy transacts profile old before (Open queue) reply new after = (client : Client)
    × IsRun transacts profile old before.client queue before.watching reply new client
    × (after ≡ resting client)

abbrev pub IsExecuted : {S : Type 0} → Transacting S → Profile → S → Caller → Reply → S → Caller →
    Type 0
IsExecuted transacts profile old before reply new after =
    IsExecutedBy transacts profile old before before.queue reply new after

-- ---- WATCH

-- these keys and those that were watched are watched from now on
abbrev pub IsWatchedAnew : {S : Type 0} → WatchingBy S → S → List Word → List Word →
    Result Watching Reply → S → Type 0
IsWatchedAnew watches old had keys (Ok watching) new = (watch : Watch) × (watching ≡ Keys watch)
    × watches old (had ++ keys) (Ok watch) new
IsWatchedAnew watches old had keys (Err reply) new = (IsTooMuch reply × (new ≡ old))
    ⊎ watches old (had ++ keys) (Err reply) new

-- then it is asked whether those that were watched were changed until now
abbrev pub IsStill : Watching → Transacted → Result Watching Reply → Type 0
IsStill next (ended.Ran replies) result = result ≡ Ok next
IsStill next ended.Touched result = result ≡ Ok Touched
IsStill next (ended.TurnedAway why) result = result ≡ Err why

abbrev pub GoesOn : {S : Type 0} → Transacting S → Watch → Result Watching Reply → S →
    Result Watching Reply → S → Type 0
GoesOn transacts had (Err reply) mid result new = (result ≡ Err reply) × (new ≡ mid)
GoesOn transacts had (Ok next) mid result new = (come : Transacted)
    × transacts mid [] (Some had) come new × IsStill next come result

-- what is watched from now on, beside what was
abbrev pub IsWatchedBeside : {S : Type 0} → Transacting S → WatchingBy S → S → Watching →
    List Word → Result Watching Reply → S → Type 0
IsWatchedBeside transacts watches old Nothing keys result new =
    IsWatchedAnew watches old [] keys result new
IsWatchedBeside transacts watches old Touched keys result new =
    (result ≡ Ok Touched) × (new ≡ old)
IsWatchedBeside {S} transacts watches old (Keys had) keys result new =
    (first : Result Watching Reply) × (mid : S)
    × IsWatchedAnew watches old had.keys keys first mid
    × GoesOn transacts had first mid result new

-- that is so from now on; where it is refused, what was watched still is
abbrev pub IsKept : Caller → Result Watching Reply → Reply → Caller → Type 0
IsKept before (Err why) reply after = (reply ≡ why) × (after ≡ before)
IsKept before (Ok watching) reply after =
    ((reply_bytes reply ≡ OK) × (after ≡ callers.watching watching before))
    ⊎ ((reply_bytes reply ≡ refused_bytes reason.NoMemory) × (after ≡ before))

abbrev pub IsWatchedBy : {S : Type 0} → Transacting S → WatchingBy S → S → Caller → List Word →
    Reply → S → Caller → Line → Type 0
IsWatchedBy transacts watches old before keys reply new after Idle =
    (result : Result Watching Reply)
    × IsWatchedBeside transacts watches old before.watching keys result new
    × IsKept before result reply after
IsWatchedBy transacts watches old before keys reply new after other =
    IsTold (denied denial.WatchInside) reply old new before after

abbrev pub IsWatched : {S : Type 0} → Transacting S → WatchingBy S → S → Caller → List Word →
    Reply → S → Caller → Type 0
IsWatched transacts watches old before keys reply new after =
    IsWatchedBy transacts watches old before keys reply new after before.queue

-- ---- SHUTDOWN

-- that the site ends, or that it does not for this connection; what is kept stays as it is
abbrev pub IsToldOfEnd : {S : Type 0} → Reply → S → S → Caller → Caller → Type 0
IsToldOfEnd reply old new before after =
    IsTold OK reply old new before after
    ⊎ IsTold (denied denial.Shutdown) reply old new before after

abbrev pub IsToldOfEndWith : {S : Type 0} → Bool → Reply → S → S → Caller → Caller → Type 0
IsToldOfEndWith true reply old new before after = IsToldOfEnd reply old new before after
IsToldOfEndWith false reply old new before after =
    IsRefusedAs control.Shutdown (refused_bytes reason.Syntax) reply old new before after

-- ---- all six

-- with no word behind the name
abbrev pub IsObeyedAlone : {S : Type 0} → Inside S → Profile → Control → S → Caller → Reply → S →
    Caller → Type 0
IsObeyedAlone i profile control.Multi old before reply new after =
    IsOpened before.queue before reply after × (new ≡ old)
IsObeyedAlone i profile control.Exec old before reply new after =
    IsExecuted i.transacts profile old before reply new after
IsObeyedAlone i profile control.Discard old before reply new after =
    IsDiscarded before.queue before reply after × (new ≡ old)
IsObeyedAlone i profile control.Watch old before reply new after =
    IsRefusedAs control.Watch (refused_bytes reason.Words) reply old new before after
IsObeyedAlone i profile control.Unwatch old before reply new after =
    IsTold OK reply old new (unwatched before) after
IsObeyedAlone i profile control.Shutdown old before reply new after =
    IsToldOfEnd reply old new before after

-- with these behind it
abbrev pub IsObeyedWith : {S : Type 0} → Inside S → Control → S → Caller → List Word → Reply → S →
    Caller → Type 0
IsObeyedWith i control.Watch old before keys reply new after =
    IsWatched i.transacts i.watches old before keys reply new after
IsObeyedWith i control.Shutdown old before options reply new after =
    IsToldOfEndWith (are_shutdown_options options) reply old new before after
IsObeyedWith i other old before keys reply new after =
    IsRefusedAs other (refused_bytes reason.Words) reply old new before after

abbrev pub IsObeyed : {S : Type 0} → Inside S → Profile → Control → S → Caller → List Word → Reply →
    S → Caller → Type 0
IsObeyed i profile what old before [] reply new after =
    IsRefusedAs what (refused_bytes reason.Words) reply old new before after
IsObeyed i profile what old before (name ∷ []) reply new after =
    IsObeyedAlone i profile what old before reply new after
IsObeyed i profile what old before (name ∷ key ∷ keys) reply new after =
    IsObeyedWith i what old before (key ∷ keys) reply new after
