-- What a connection answers itself.

use Rattle.std.specs.Prelude.{Bool, Err, IsTrue, List, None, Ok, Option, Result, Some, [], codes, false, if◌then◌else◌, not, true, ◌&&◌, ◌⊎◌, ◌∷◌, ◌≡◌}
use Rattle.std.specs.declared.alloc.AllocError.{AllocError}
use Rattle.zq_client.specs.Asked as asked
use Rattle.zq_client.specs.Auth.{auth}
use Rattle.zq_client.specs.Clients.{Client, again, ended}
use Rattle.zq_client.specs.Config.{config}
use Rattle.zq_client.specs.Hello.{hello}
use Rattle.zq_client.specs.Info.{info}
use Rattle.zq_client.specs.Names.{is_open, named}
use Rattle.zq_client.specs.Outcomes.{IsReply, IsTold, Outcome, told}
use Rattle.zq_client.specs.Texts.{OK, denied, refused}
use Rattle.zq_client.specs.declared.moment.Moment.{Moment}
use Rattle.zq_client.specs.declared.name.Name.{Name}
use Rattle.zq_client.specs.declared.name.Name.TheVariants as name
use Rattle.zq_client.specs.declared.profile.Profile.{Profile}
use Rattle.zq_client.specs.declared.why.Why.TheVariants as why
use Rattle.zq_resp.specs.Reply.{line}
use Rattle.zq_resp.specs.declared.reply.Reply.{Reply}
use Rattle.zq_words.specs.Words.{Word}
use Rattle.zq_words.specs.declared.refused.Refused.TheVariants as reason

abbrev pub quit : Client → Outcome
quit client = told (ended client) OK

abbrev pub reset : Option Word → Client → List Word → Outcome
reset digest client [] = told (again digest client) (43 ∷ line (codes "RESET"))
reset digest client (word ∷ words) = told client (refused reason.Words)

-- the answer to a request of this name, with these words behind it
abbrev pub answer_named : Profile → Moment → Client → Name → List Word → Outcome
answer_named profile now client name.Auth words = auth profile.password client words
answer_named profile now client name.Hello words = hello profile client words
answer_named profile now client name.Quit words = quit client
answer_named profile now client name.Reset words = reset profile.password client words
answer_named profile now client name.Select words = told client (asked.select words)
answer_named profile now client name.Client words = asked.client client words
answer_named profile now client name.Echo words = told client (asked.echo words)
answer_named profile now client name.Time words = told client (asked.time now.time words)
answer_named profile now client name.Info words = told client (info profile.version.now now words)
answer_named profile now client name.Config words = told client (config profile words)
answer_named profile now client name.Command words =
    told client (asked.command profile.commands words)

abbrev pub answered_by : Profile → Moment → Client → Option Name → List Word → Option Outcome
answered_by profile now client None words = None
answered_by profile now client (Some name) [] = None
answered_by profile now client (Some name) (word ∷ words) =
    Some (answer_named profile now client name words)

-- What a connection answers itself: once it is over, that it ends; before it is known, all but four
-- requests by one error; and else the requests that are its own. The others are the site's to
-- answer.
abbrev pub answered : Profile → Moment → Client → List Word → Option Outcome
answered profile now client words =
    if client.is_over then Some (told (ended client) (denied why.Over)) else
    if not client.is_known && not (is_open (named words))
    then Some (told client (denied why.Unknown))
    else answered_by profile now client (named words) words

-- the requests that take no memory
abbrev pub takes_none : Option Name → Bool
takes_none None = true
takes_none (Some name.Auth) = true
takes_none (Some name.Quit) = true
takes_none (Some name.Reset) = true
takes_none (Some name.Select) = true
takes_none (Some name.Command) = true
takes_none _ = false

abbrev pub takes_memory : List Word → Bool
takes_memory words = not (takes_none (named words))

-- the outcome where there is one, and else the connection is as it was
abbrev pub IsOutcome : Option Outcome → Client → Option Reply → Client → Type 0
IsOutcome None old None new = new ≡ old
IsOutcome None old (Some reply) new = ⊥
IsOutcome (Some outcome) old None new = ⊥
IsOutcome (Some outcome) old (Some reply) new = IsTold outcome new reply

-- the same; where memory is refused, the request takes some, and the connection is as it was
abbrev pub MayCome : Option Outcome → Bool → Client → Result (Option Reply) AllocError → Client →
    Type 0
MayCome outcome takes old (Ok reply) new = IsOutcome outcome old reply new
MayCome outcome takes old (Err error) new = IsTrue takes × (new ≡ old)

-- memory was refused, which is said
pub record IsShort (old : Client) (reply : Option Reply) (new : Client) (words : List Word) : Type 0
  where
    pub takes : IsTrue (takes_memory words)
    pub client : new ≡ old
    pub said : (error : Reply) × (reply ≡ Some error) × IsReply (refused reason.NoMemory) error

abbrev pub AnswersItself : Profile → Moment → Client → List Word → Option Reply → Client → Type 0
AnswersItself profile now old words reply new =
    IsOutcome (answered profile now old words) old reply new ⊎ IsShort old reply new words
