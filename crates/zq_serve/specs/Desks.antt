-- How connections are answered that answer some of their requests themselves.

use Rattle.std.specs.Prelude.{Bool, List, None, Option, Some, false, if◌then◌else◌, not, ◌&&◌, ℤ, ◌≡◌}
use Rattle.zq_client.specs.Answered.{AnswersItself}
use Rattle.zq_client.specs.Clients.{Client, begun, needs_none}
use Rattle.zq_client.specs.declared.moment.Moment.{Moment}
use Rattle.zq_client.specs.declared.profile.Profile.{Profile}
use Rattle.zq_resp.specs.declared.reply.Reply.{Reply}
use Rattle.zq_serve.specs.Callers.{Caller, is_idle, resting}
use Rattle.zq_serve.specs.Controls.{control_of, ends_all, is_reset}
use Rattle.zq_serve.specs.Preparing.{Inside}
use Rattle.zq_serve.specs.Transactions.{IsObeyed, IsPutOffBy}
use Rattle.zq_serve.specs.declared.control.Control.{Control}
use Rattle.zq_serve.specs.declared.control.Control.TheVariants as control
use Rattle.zq_serve.specs.declared.desk.Desk.{Desk}
use Rattle.zq_serve.specs.declared.knowing.Way.{Way}
use Rattle.zq_serve.specs.declared.knowing.Way.TheVariants as way
use Rattle.zq_session.specs.Session.{Relation}
use Rattle.zq_words.specs.Words.{Word}

-- what a connection has before a request: what its last one left, or what it begins with
abbrev pub HasBegun : Profile → Option Caller → Caller → Type 0
HasBegun profile None caller = (number : ℤ) × (caller ≡ resting (begun profile.password number))
HasBegun profile (Some own) caller = caller ≡ own

-- a connection that has to show the password, and has not
abbrev pub IsStranger : Profile → Option Caller → Type 0
IsStranger profile None = needs_none profile.password ≡ false
IsStranger profile (Some own) = own.client.is_known ≡ false

-- who may have several requests answered as one
abbrev pub may_transact : Client → Bool
may_transact client = client.is_known && not client.is_over

-- the way of a request where nothing waits, and where others do
abbrev pub way_idle : Option Control → Way
way_idle (Some what) = way.Control what
way_idle None = way.Ask

abbrev pub way_queued : Option Control → List Word → Way
way_queued (Some control.Unwatch) words = way.PutOff
way_queued (Some control.Shutdown) words = way.PutOff
way_queued (Some what) words = way.Control what
way_queued None words = if ends_all words then way.Ask else way.PutOff

abbrev pub way_of : Caller → List Word → Way
way_of caller words =
    if may_transact caller.client then
    (if is_idle caller.queue then way_idle (control_of words)
    else way_queued (control_of words) words)
    else way.Ask

-- what a connection that answered itself keeps: with RESET it forgets what it has begun
abbrev pub left_by : List Word → Client → Caller → Caller
left_by words client before =
    if is_reset words then resting client else record before { client = client }

-- the connection answered itself, and the answerer inside was not asked; or it did not, and that
-- one answered
abbrev pub IsGiven : {S : Type 0} → Relation S → S → List Word → Option Reply → Reply → S → Type 0
IsGiven answers old words (Some own) reply new = (reply ≡ own) × (new ≡ old)
IsGiven answers old words None reply new = answers old words reply new

abbrev pub IsAskedOf : {S : Type 0} → Inside S → Profile → S → Caller → List Word → Reply → S →
    Caller → Type 0
IsAskedOf i profile old before words reply new after = (now : Moment) × (own : Option Reply)
    × (client : Client) × AnswersItself profile now before.client words own client
    × (after ≡ left_by words client before) × IsGiven i.answers old words own reply new

abbrev pub IsAnsweredBy : {S : Type 0} → Inside S → Profile → Way → S → Caller → List Word → Reply →
    S → Caller → Type 0
IsAnsweredBy i profile way.Ask old before words reply new after =
    IsAskedOf i profile old before words reply new after
IsAnsweredBy i profile way.PutOff old before words reply new after =
    IsPutOffBy i.prepares old before words reply after × (new ≡ old)
IsAnsweredBy i profile (way.Control what) old before words reply new after =
    IsObeyed i profile what old before words reply new after

-- an answer at a desk: to a connection that had this, and has that afterwards
pub record AnswersAtDesk {S : Type 0} (i : Inside S) (profile : Profile) (old : S)
    (own : Option Caller) (words : List Word) (reply : Reply) (new : S) (own_new : Option Caller) :
    Type 0
  where
    pub before : Caller
    pub has_begun : HasBegun profile own before
    pub after : Caller
    pub left : own_new ≡ Some after
    pub answered : IsAnsweredBy i profile (way_of before words) old before words reply new after

-- with no desk the answerer inside answers all, and a connection has nothing of its own
abbrev pub AnswersBy : {S : Type 0} → Inside S → Option Desk → S → Option Caller → List Word →
    Reply → S → Option Caller → Type 0
AnswersBy i None old own words reply new own_new =
    i.answers old words reply new × (own_new ≡ own)
AnswersBy i (Some desk) old own words reply new own_new =
    AnswersAtDesk i desk.profile old own words reply new own_new
