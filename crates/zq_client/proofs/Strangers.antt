-- Who has not shown the password.

use Rattle.std.proofs.Common.{Bool, IsTrue, List, None, Option, Some, [], cond, false, not, refl, true, ◌&&◌, ◌∷◌, ◌≡◌}
use Rattle.std.specs.Option.{is_some}
use Rattle.zq_client.specs.Answered.{answered, answered_by}
use Rattle.zq_client.specs.Clients.{Client, ended}
use Rattle.zq_client.specs.Names.{is_open, name_of, named}
use Rattle.zq_client.specs.Outcomes.{Outcome, told}
use Rattle.zq_client.specs.Texts.{denied}
use Rattle.zq_client.specs.declared.moment.Moment.{Moment}
use Rattle.zq_client.specs.declared.name.Name.{Name}
use Rattle.zq_client.specs.declared.name.Name.TheVariants as name
use Rattle.zq_client.specs.declared.profile.Profile.{Profile}
use Rattle.zq_client.specs.declared.why.Why.TheVariants as why
use Rattle.zq_words.specs.Words.{Word}

-- what is answered, by whether the connection is over and known, and by what the words name
abbrev pub by : Profile → Moment → Client → Bool → Bool → Option Name → List Word → Option Outcome
by profile now client over known found words =
    cond over (Some (told (ended client) (denied why.Over)))
    (cond (not known && not (is_open found)) (Some (told client (denied why.Unknown))) (answered_by profile now client found words))

some_named : (profile : Profile) (now : Moment) (client : Client) (over : Bool) (found : Option Name) (word : Word) (words : List Word) → is_some (by profile now client over false found (word ∷ words)) ≡ true
some_named profile now client true found word words = refl
some_named profile now client false None word words = refl
some_named profile now client false (Some name.Auth) word words = refl
some_named profile now client false (Some name.Hello) word words = refl
some_named profile now client false (Some name.Quit) word words = refl
some_named profile now client false (Some name.Reset) word words = refl
some_named profile now client false (Some name.Select) word words = refl
some_named profile now client false (Some name.Client) word words = refl
some_named profile now client false (Some name.Echo) word words = refl
some_named profile now client false (Some name.Time) word words = refl
some_named profile now client false (Some name.Info) word words = refl
some_named profile now client false (Some name.Config) word words = refl
some_named profile now client false (Some name.Command) word words = refl

some_over : (profile : Profile) (now : Moment) (client : Client) (over : Bool) → is_some (by profile now client over false None []) ≡ true
some_over profile now client true = refl
some_over profile now client false = refl

some_of : (profile : Profile) (now : Moment) (client : Client) (known : Bool) (words : List Word) → known ≡ false → is_some (by profile now client client.is_over known (named words) words) ≡ true
some_of profile now client true words e = cc
some_of profile now client false [] e = some_over profile now client client.is_over
some_of profile now client false (word ∷ words) e = some_named profile now client client.is_over (name_of word) word words

-- each request is answered
pub turned_away : (profile : Profile) (now : Moment) (client : Client) (words : List Word) → client.is_known ≡ false → is_some (answered profile now client words) ≡ true
turned_away profile now client words e = some_of profile now client client.is_known words e

same_by : (profile : Profile) (now later : Moment) (client : Client) (over : Bool) (found : Option Name) (words : List Word) → by profile now client over false found words ≡ by profile later client over false found words
same_by profile now later client true found words = refl
same_by profile now later client false None words = refl
same_by profile now later client false (Some name.Auth) [] = refl
same_by profile now later client false (Some name.Auth) (word ∷ words) = refl
same_by profile now later client false (Some name.Hello) [] = refl
same_by profile now later client false (Some name.Hello) (word ∷ words) = refl
same_by profile now later client false (Some name.Quit) [] = refl
same_by profile now later client false (Some name.Quit) (word ∷ words) = refl
same_by profile now later client false (Some name.Reset) [] = refl
same_by profile now later client false (Some name.Reset) (word ∷ words) = refl
same_by profile now later client false (Some name.Select) words = refl
same_by profile now later client false (Some name.Client) words = refl
same_by profile now later client false (Some name.Echo) words = refl
same_by profile now later client false (Some name.Time) words = refl
same_by profile now later client false (Some name.Info) words = refl
same_by profile now later client false (Some name.Config) words = refl
same_by profile now later client false (Some name.Command) words = refl

same_of : (profile : Profile) (now later : Moment) (client : Client) (known : Bool) (words : List Word) → known ≡ false → by profile now client client.is_over known (named words) words ≡ by profile later client client.is_over known (named words) words
same_of profile now later client true words e = cc
same_of profile now later client false words e = same_by profile now later client client.is_over (named words) words

-- at each moment alike
pub tells_nothing : (profile : Profile) (now later : Moment) (client : Client) (words : List Word) → client.is_known ≡ false → answered profile now client words ≡ answered profile later client words
tells_nothing profile now later client words e = same_of profile now later client client.is_known words e

one_by : (profile : Profile) (now : Moment) (client : Client) (over known : Bool) (found : Option Name) (words : List Word) → known ≡ false → over ≡ false → is_open found ≡ false →
    by profile now client over known found words ≡ Some (told client (denied why.Unknown))
one_by profile now client true known found words k o f = cc
one_by profile now client false true found words k o f = cc
one_by profile now client false false found words k o f = rw f refl

-- all but four requests by one error
pub changes_nothing : (profile : Profile) (now : Moment) (client : Client) (words : List Word) → client.is_known ≡ false → client.is_over ≡ false → is_open (named words) ≡ false →
    answered profile now client words ≡ Some (told client (denied why.Unknown))
changes_nothing profile now client words k o f = one_by profile now client client.is_over client.is_known (named words) words k o f
