-- What the password keeps.

use Rattle.sha2.specs.Sha256.{sha256}
use Rattle.std.specs.Option.{is_some}
use Rattle.std.specs.Prelude.{Bool, IsTrue, List, None, Option, Some, [], codes, false, true, ℤ, ◌∷◌, ◌≡◌, ◌⊎◌}
use Rattle.zq_client.specs.Answered.{AnswersItself, answered}
use Rattle.zq_client.specs.Clients.{Client, begun}
use Rattle.zq_client.specs.Names.{is_open, name_of, named}
use Rattle.zq_client.specs.Options.{Asks, options_of}
use Rattle.zq_client.specs.Outcomes.{told}
use Rattle.zq_client.specs.Texts.{denied}
use Rattle.zq_client.specs.declared.moment.Moment.{Moment}
use Rattle.zq_client.specs.declared.name.Name.{Name}
use Rattle.zq_client.specs.declared.name.Name.TheVariants as name
use Rattle.zq_client.specs.declared.profile.Profile.{Profile}
use Rattle.zq_client.specs.declared.why.Why.TheVariants as why
use Rattle.zq_resp.specs.declared.reply.Reply.{Reply}
use Rattle.zq_words.specs.Words.{Word}

-- who is not known reaches nothing: the connection answers each of its requests itself
abbrev pub IsTurnedAway : Type 0
IsTurnedAway = (profile : Profile) (now : Moment) (client : Client) (words : List Word) →
    client.is_known ≡ false → IsTrue (is_some (answered profile now client words))

-- and what it is answered and becomes is the same at each moment
abbrev pub TellsNothing : Type 0
TellsNothing = (profile : Profile) (now later : Moment) (client : Client) (words : List Word) →
    client.is_known ≡ false →
    answered profile now client words ≡ answered profile later client words

-- all but four requests change nothing, and have one answer
abbrev pub ChangesNothing : Type 0
ChangesNothing = (profile : Profile) (now : Moment) (client : Client) (words : List Word) →
    client.is_known ≡ false → client.is_over ≡ false → is_open (named words) ≡ false →
    answered profile now client words ≡ Some (told client (denied why.Unknown))

-- the user and the password that options show, if they show some
abbrev pub entry_in : Option Asks → Option (Word × Word)
entry_in None = None
entry_in (Some asks) = asks.entry

-- those that a request shows: AUTH or HELLO, with these words behind it
abbrev pub entry_by : Option Name → List Word → Option (Word × Word)
entry_by (Some name.Auth) (text ∷ []) = Some (codes "default", text)
entry_by (Some name.Auth) (user ∷ text ∷ []) = Some (user, text)
entry_by (Some name.Hello) (version ∷ words) = entry_in (options_of words)
entry_by _ _ = None

abbrev pub entry_of : List Word → Option (Word × Word)
entry_of [] = None
entry_of (word ∷ words) = entry_by (name_of word) words

-- a request shows a text whose SHA-256 is the digest
abbrev pub Shows : Word → List Word → Type 0
Shows digest words = (user text : Word) × (entry_of words ≡ Some (user, text))
    × (sha256 text ≡ digest)

abbrev pub resets_by : Option Name → List Word → Bool
resets_by (Some name.Reset) [] = true
resets_by _ _ = false

-- RESET alone
abbrev pub is_reset : List Word → Bool
is_reset [] = false
is_reset (word ∷ words) = resets_by (name_of word) words

-- Of these requests, the last of which stands first, one shows such a text, and none after it is a
-- RESET.
abbrev pub HaveShown : Word → List (List Word) → Type 0
HaveShown digest [] = ⊥
HaveShown digest (words ∷ before) = Shows digest words
    ⊎ ((is_reset words ≡ false) × HaveShown digest before)

-- a connection has come so far by these requests, the last of which stands first
abbrev pub HasCome : Profile → List (List Word) → Client → Type 0
HasCome profile [] client = (number : ℤ) × (client ≡ begun profile.password number)
HasCome profile (words ∷ before) client = (now : Moment) × (old : Client) × (reply : Option Reply)
    × HasCome profile before old × AnswersItself profile now old words reply client

-- who is known at a site with a password has shown it
abbrev pub IsKnownByIt : Type 0
IsKnownByIt = (profile : Profile) (digest : Word) (requests : List (List Word)) (client : Client) →
    profile.password ≡ Some digest → HasCome profile requests client → client.is_known ≡ true →
    HaveShown digest requests
