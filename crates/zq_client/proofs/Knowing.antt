-- Who is known has shown the password.

use Rattle.sha2.specs.Sha256.{sha256}
use Rattle.std.proofs.Common.{Bool, List, None, Option, Some, [], ap, cond, false, inl, inr, not, refl, subst, sym, true, ◌&&◌, ◌-◌, ◌==◌, ◌∙◌, ◌∷◌, ◌≡◌, ◌⊎◌, ℤ}
use Rattle.std.proofs.lemmas.Bool.{and_parts}
use Rattle.std.proofs.lemmas.Slice.Eq.{bytes_eq-Decides}
use Rattle.std.specs.Ordering.{int_eq}
use Rattle.std.specs.Prelude.{codes, pos}
use Rattle.zq_client.specs.Answered.{AnswersItself, IsOutcome, answer_named, answered, answered_by, takes_memory, takes_none}
use Rattle.zq_client.specs.Auth.{auth, enter, is_right, is_shown, refuse, show, wrong}
use Rattle.zq_client.specs.Clients.{Client, ended, known, missed, named as called, needs_none}
use Rattle.zq_client.specs.Hello.{asked_by, entered_by, greet, hello, hello_options, versioned, welcome}
use Rattle.zq_client.specs.Laws.{HasCome, HaveShown, Shows, entry_by, entry_in, entry_of, is_reset, resets_by}
use Rattle.zq_client.specs.Names.{is_open, name_of, named}
use Rattle.zq_client.specs.Options.{Asks, options_of}
use Rattle.zq_client.specs.Outcomes.{Outcome, told}
use Rattle.zq_client.specs.Texts.{OK, denied, is_name}
use Rattle.zq_client.specs.declared.why.Why.TheVariants as why
use Rattle.zq_client.specs.declared.moment.Moment.{Moment}
use Rattle.zq_client.specs.declared.name.Name.{Name}
use Rattle.zq_client.specs.declared.name.Name.TheVariants as name
use Rattle.zq_client.specs.declared.name.Part.{Part}
use Rattle.zq_client.specs.declared.name.Part.TheVariants as part
use Rattle.zq_client.specs.declared.profile.Profile.{Profile}
use Rattle.zq_client.specs.Asked as asked
use Rattle.zq_client.specs.Names.{part_of}
use Rattle.zq_resp.specs.declared.reply.Reply.{Reply}
use Rattle.zq_words.specs.Words.{Word, whole_of}
use Rattle.zq_client.proofs.Strangers.{by}

-- an entry shows the text of this digest
IsEntry : Word → Option (Word × Word) → Type 0
IsEntry digest entry = (user text : Word) × (entry ≡ Some (user, text)) × (sha256 text ≡ digest)

-- a request shows it, or the connection was known and the request does not reset it
abbrev Because : Word → Option (Word × Word) → Bool → Bool → Type 0
Because digest entry resets was = IsEntry digest entry ⊎ ((resets ≡ false) × (was ≡ true))

an_entry : (digest user text : Word) → sha256 text ≡ digest → IsEntry digest (Some (user, text))
unfolding IsEntry
an_entry digest user text is = (user, text, refl, is)

-- for AUTH

right : (digest user text : Word) → is_right (Some digest) user text ≡ true → sha256 text ≡ digest
right digest user text e = (bytes_eq-Decides (sha256 text) digest).0 (and_parts _ _ e).0

missed_by : (client : Client) (is_last : Bool) → (cond is_last (ended (record client { left = 0 })) (record client { left = client.left - 1 })).is_known ≡ true → client.is_known ≡ true
missed_by client true e = cc
missed_by client false e = e

missed_known : (client : Client) → (missed client).is_known ≡ true → client.is_known ≡ true
missed_known client e = missed_by client (client.left - 1 == 0) e

wrong_known : (digest : Option Word) (client : Client) → (wrong digest client).is_known ≡ true → client.is_known ≡ true
wrong_known None client e = e
wrong_known (Some digest) client e = missed_known client e

entered : (digest user text : Word) (client : Client) (is : Bool) → is_right (Some digest) user text ≡ is → (cond is (told (known client) OK) (refuse (Some digest) client)).client.is_known ≡ true →
    (sha256 text ≡ digest) ⊎ (client.is_known ≡ true)
entered digest user text client true right_is e = inl (right digest user text right_is)
entered digest user text client false right_is e = inr (missed_known client e)

enter_known : (digest user text : Word) (client : Client) → (enter (Some digest) client user text).client.is_known ≡ true → IsEntry digest (Some (user, text)) ⊎ (client.is_known ≡ true)
enter_known digest user text client e = elim (entered digest user text client (is_right (Some digest) user text) refl e) [
  | inl is ↦ inl (an_entry digest user text is)
  | inr was ↦ inr was
]

auth_known : (digest : Word) (client : Client) (words : List Word) → (auth (Some digest) client words).client.is_known ≡ true → IsEntry digest (entry_by (Some name.Auth) words) ⊎ (client.is_known ≡ true)
auth_known digest client [] e = inr e
auth_known digest client (text ∷ []) e = enter_known digest (codes "default") text client e
auth_known digest client (user ∷ text ∷ []) e = enter_known digest user text client e
auth_known digest client (a ∷ b ∷ c ∷ words) e = inr e

-- for HELLO

greeted : (profile : Profile) (client : Client) (given : Option Word) (was : Bool) → client.is_known ≡ was → (cond was (welcome profile client given) (told client (denied why.UnknownHello))).client.is_known ≡ true → client.is_known ≡ true
greeted profile client given true is e = is
greeted profile client given false is e = e

greet_known : (profile : Profile) (client : Client) (given : Option Word) → (greet profile client given).client.is_known ≡ true → client.is_known ≡ true
greet_known profile client given e = greeted profile client given client.is_known refl e

shown_by : (profile : Profile) (digest user text : Word) (client : Client) (given : Option Word) (is : Bool) → profile.password ≡ Some digest → is_right profile.password user text ≡ is
    → (cond is (welcome profile client given) (refuse profile.password client)).client.is_known ≡ true → IsEntry digest (Some (user, text)) ⊎ (client.is_known ≡ true)
shown_by profile digest user text client given true has is e =
    let ours : is_right (Some digest) user text ≡ true = subst (λ p. is_right p user text ≡ true) has is in inl (an_entry digest user text (right digest user text ours))
shown_by profile digest user text client given false has is e = inr (wrong_known profile.password client e)

entry_known : (profile : Profile) (digest : Word) (client : Client) (entry : Option (Word × Word)) (given : Option Word) → profile.password ≡ Some digest → (entered_by profile client entry given).client.is_known ≡ true →
    IsEntry digest entry ⊎ (client.is_known ≡ true)
entry_known profile digest client None given has e = inr (greet_known profile client given e)
entry_known profile digest client (Some (user, text)) given has e = shown_by profile digest user text client given (is_right profile.password user text) has refl e

asked_known : (profile : Profile) (digest : Word) (client : Client) (asks : Option Asks) → profile.password ≡ Some digest → (asked_by profile client asks).client.is_known ≡ true → IsEntry digest (entry_in asks) ⊎ (client.is_known ≡ true)
asked_known profile digest client None has e = inr e
asked_known profile digest client (Some asks) has e = entry_known profile digest client asks.entry asks.name has e

spoken : (profile : Profile) (digest : Word) (client : Client) (words : List Word) (is : Bool) → profile.password ≡ Some digest → (cond is (hello_options profile client words) (told client (denied why.Protocol))).client.is_known ≡ true →
    IsEntry digest (entry_in (options_of words)) ⊎ (client.is_known ≡ true)
spoken profile digest client words true has e = asked_known profile digest client (options_of words) has e
spoken profile digest client words false has e = inr e

version_known : (profile : Profile) (digest : Word) (client : Client) (version : Option ℤ) (words : List Word) → profile.password ≡ Some digest → (versioned profile client version words).client.is_known ≡ true →
    IsEntry digest (entry_in (options_of words)) ⊎ (client.is_known ≡ true)
version_known profile digest client None words has e = inr e
version_known profile digest client (Some number) words has e = spoken profile digest client words (int_eq number (pos 2)) has e

hello_known : (profile : Profile) (digest : Word) (client : Client) (words : List Word) → profile.password ≡ Some digest → (hello profile client words).client.is_known ≡ true → IsEntry digest (entry_by (Some name.Hello) words) ⊎ (client.is_known ≡ true)
hello_known profile digest client [] has e = inr (greet_known profile client None e)
hello_known profile digest client (version ∷ words) has e = version_known profile digest client (whole_of version) words has e

-- for CLIENT, by which nobody is known

name_known : (client : Client) (given : Word) (is : Bool) → (cond is (told (called given client) OK) (told client (denied why.Name))).client.is_known ≡ client.is_known
name_known client given true = refl
name_known client given false = refl

part_known : (client : Client) (asks : Part) (words : List Word) → (asked.client_part client asks words).client.is_known ≡ client.is_known
part_known client part.Id [] = refl
part_known client part.Id (a ∷ words) = refl
part_known client part.GetName [] = refl
part_known client part.GetName (a ∷ words) = refl
part_known client part.SetName [] = refl
part_known client part.SetName (given ∷ []) = name_known client given (is_name given)
part_known client part.SetName (a ∷ b ∷ words) = refl
part_known client part.SetInfo [] = refl
part_known client part.SetInfo (a ∷ []) = refl
part_known client part.SetInfo (a ∷ b ∷ []) = refl
part_known client part.SetInfo (a ∷ b ∷ c ∷ words) = refl

by_part_known : (client : Client) (asks : Option Part) (words : List Word) → (asked.client_by client asks words).client.is_known ≡ client.is_known
by_part_known client None words = refl
by_part_known client (Some asks) words = part_known client asks words

client_known : (client : Client) (words : List Word) → (asked.client client words).client.is_known ≡ client.is_known
client_known client [] = refl
client_known client (word ∷ words) = by_part_known client (part_of word) words

-- for each request

because : (digest : Word) (entry : Option (Word × Word)) (was : Bool) → IsEntry digest entry ⊎ (was ≡ true) → Because digest entry false was
because digest entry was (inl shows) = inl shows
because digest entry was (inr is) = inr (refl, is)

named_known : (profile : Profile) (now : Moment) (digest : Word) (old : Client) (found : Name) (words : List Word) → profile.password ≡ Some digest → (answer_named profile now old found words).client.is_known ≡ true →
    Because digest (entry_by (Some found) words) (resets_by (Some found) words) old.is_known
named_known profile now digest old name.Auth words has e =
    because digest (entry_by (Some name.Auth) words) old.is_known (auth_known digest old words (subst (λ p. (auth p old words).client.is_known ≡ true) has e))
named_known profile now digest old name.Hello words has e = because digest (entry_by (Some name.Hello) words) old.is_known (hello_known profile digest old words has e)
named_known profile now digest old name.Quit words has e = absurd (cc e)
named_known profile now digest old name.Reset [] has e = let none : needs_none (Some digest) ≡ true = subst (λ p. needs_none p ≡ true) has e in absurd (cc none)
named_known profile now digest old name.Reset (word ∷ words) has e = inr (refl, e)
named_known profile now digest old name.Select words has e = inr (refl, e)
named_known profile now digest old name.Client words has e = inr (refl, sym (client_known old words) ∙ e)
named_known profile now digest old name.Echo words has e = inr (refl, e)
named_known profile now digest old name.Time words has e = inr (refl, e)
named_known profile now digest old name.Info words has e = inr (refl, e)
named_known profile now digest old name.Config words has e = inr (refl, e)
named_known profile now digest old name.Command words has e = inr (refl, e)

-- whoever was turned away was not known
away : (known free : Bool) → (not known && not free) ≡ true → known ≡ true → ⊥
away true free e k = cc
away false free e k = cc

-- the request that a name and words are, where the answer is this
by_known : (profile : Profile) (now : Moment) (digest : Word) (old : Client) (found : Option Name) (words : List Word) (outcome : Outcome) → profile.password ≡ Some digest → answered_by profile now old found words ≡ Some outcome → outcome.client.is_known ≡ true →
    (word : Word) (behind : List Word) → words ≡ word ∷ behind → Because digest (entry_by found behind) (resets_by found behind) old.is_known
by_known profile now digest old None words outcome has is e word behind are = absurd (cc is)
by_known profile now digest old (Some found) [] outcome has is e word behind are = absurd (cc is)
by_known profile now digest old (Some found) (first ∷ rest) outcome has is e word behind are =
    let same : answer_named profile now old found rest ≡ outcome = cc is in
    let tail : rest ≡ behind = cc are in
    subst (λ ws. Because digest (entry_by (Some found) ws) (resets_by (Some found) ws) old.is_known) tail
    (named_known profile now digest old found rest has (ap (λ (o : Outcome). o.client.is_known) same ∙ e))

gated : (profile : Profile) (now : Moment) (digest : Word) (old : Client) (over away_is : Bool) (found : Option Name) (words : List Word) (outcome : Outcome) → profile.password ≡ Some digest → (away_is ≡ true → old.is_known ≡ true → ⊥)
    → cond over (Some (told (ended old) (denied why.Over))) (cond away_is (Some (told old (denied why.Unknown))) (answered_by profile now old found words)) ≡ Some outcome → outcome.client.is_known ≡ true
    → (word : Word) (behind : List Word) → words ≡ word ∷ behind → Because digest (entry_by found behind) (resets_by found behind) old.is_known
gated profile now digest old true away_is found words outcome has never is e word behind are =
    let same : told (ended old) (denied why.Over) ≡ outcome = cc is in
    let none : false ≡ true = ap (λ (o : Outcome). o.client.is_known) same ∙ e in absurd (cc none)
gated profile now digest old false true found words outcome has never is e word behind are =
    let same : told old (denied why.Unknown) ≡ outcome = cc is in absurd (never refl (ap (λ (o : Outcome). o.client.is_known) same ∙ e))
gated profile now digest old false false found words outcome has never is e word behind are = by_known profile now digest old found words outcome has is e word behind are

answered_known : (profile : Profile) (now : Moment) (digest : Word) (old : Client) (word : Word) (words : List Word) (outcome : Outcome) → profile.password ≡ Some digest → answered profile now old (word ∷ words) ≡ Some outcome → outcome.client.is_known ≡ true →
    Because digest (entry_of (word ∷ words)) (is_reset (word ∷ words)) old.is_known
answered_known profile now digest old word words outcome has is e =
    gated profile now digest old old.is_over (not old.is_known && not (is_open (name_of word))) (name_of word) (word ∷ words) outcome has (away old.is_known (is_open (name_of word))) is e word words refl

-- no words are answered only where nobody is known

bare : (profile : Profile) (now : Moment) (old : Client) (over known : Bool) (outcome : Outcome) → known ≡ old.is_known → cond over (Some (told (ended old) (denied why.Over))) (cond (not known && true) (Some (told old (denied why.Unknown))) None) ≡ Some outcome → outcome.client.is_known ≡ true → ⊥
bare profile now old true known outcome same is e =
    let told_is : told (ended old) (denied why.Over) ≡ outcome = cc is in
    let none : false ≡ true = ap (λ (o : Outcome). o.client.is_known) told_is ∙ e in cc none
bare profile now old false true outcome same is e = cc is
bare profile now old false false outcome same is e =
    let told_is : told old (denied why.Unknown) ≡ outcome = cc is in
    let was : old.is_known ≡ true = ap (λ (o : Outcome). o.client.is_known) told_is ∙ e in cc (same, was)

answered_because : (profile : Profile) (now : Moment) (digest : Word) (old : Client) (words : List Word) (outcome : Outcome) → profile.password ≡ Some digest → answered profile now old words ≡ Some outcome → outcome.client.is_known ≡ true →
    Because digest (entry_of words) (is_reset words) old.is_known
answered_because profile now digest old [] outcome has is e = absurd (bare profile now old old.is_over old.is_known outcome refl is e)
answered_because profile now digest old (word ∷ words) outcome has is e = answered_known profile now digest old word words outcome has is e

-- RESET is answered, and takes no memory

unreset_by : (profile : Profile) (now : Moment) (old : Client) (over known : Bool) (found : Option Name) (word : Word) (words : List Word) → by profile now old over known found (word ∷ words) ≡ None → resets_by found words ≡ false
unreset_by profile now old over known None word words e = refl
unreset_by profile now old over known (Some name.Auth) word words e = refl
unreset_by profile now old over known (Some name.Hello) word words e = refl
unreset_by profile now old over known (Some name.Quit) word words e = refl
unreset_by profile now old true known (Some name.Reset) word [] e = cc
unreset_by profile now old false true (Some name.Reset) word [] e = cc
unreset_by profile now old false false (Some name.Reset) word [] e = cc
unreset_by profile now old over known (Some name.Reset) word (a ∷ words) e = refl
unreset_by profile now old over known (Some name.Select) word words e = refl
unreset_by profile now old over known (Some name.Client) word words e = refl
unreset_by profile now old over known (Some name.Echo) word words e = refl
unreset_by profile now old over known (Some name.Time) word words e = refl
unreset_by profile now old over known (Some name.Info) word words e = refl
unreset_by profile now old over known (Some name.Config) word words e = refl
unreset_by profile now old over known (Some name.Command) word words e = refl

unreset : (profile : Profile) (now : Moment) (old : Client) (words : List Word) → answered profile now old words ≡ None → is_reset words ≡ false
unreset profile now old [] e = refl
unreset profile now old (word ∷ words) e = unreset_by profile now old old.is_over old.is_known (name_of word) word words e

short_by : (found : Option Name) (words : List Word) → not (takes_none found) ≡ true → resets_by found words ≡ false
short_by None words e = refl
short_by (Some name.Auth) words e = refl
short_by (Some name.Hello) words e = refl
short_by (Some name.Quit) words e = refl
short_by (Some name.Reset) words e = cc
short_by (Some name.Select) words e = refl
short_by (Some name.Client) words e = refl
short_by (Some name.Echo) words e = refl
short_by (Some name.Time) words e = refl
short_by (Some name.Info) words e = refl
short_by (Some name.Config) words e = refl
short_by (Some name.Command) words e = refl

short_unreset : (words : List Word) → takes_memory words ≡ true → is_reset words ≡ false
short_unreset [] e = refl
short_unreset (word ∷ words) e = short_by (name_of word) words e

-- one request more

outcome_because : (profile : Profile) (now : Moment) (digest : Word) (old : Client) (words : List Word) (found : Option Outcome) (reply : Option Reply) (client : Client) → profile.password ≡ Some digest → answered profile now old words ≡ found
    → IsOutcome found old reply client → client.is_known ≡ true → Because digest (entry_of words) (is_reset words) old.is_known
outcome_because profile now digest old words None None client has is same e = inr (unreset profile now old words is, ap (λ (c : Client). c.is_known) (sym same) ∙ e)
outcome_because profile now digest old words None (Some reply) client has is same e = absurd same
outcome_because profile now digest old words (Some outcome) None client has is same e = absurd same
outcome_because profile now digest old words (Some outcome) (Some reply) client has is said e =
    answered_because profile now digest old words outcome has is (ap (λ (c : Client). c.is_known) (sym said.client) ∙ e)

step : (profile : Profile) (now : Moment) (digest : Word) (old : Client) (words : List Word) (reply : Option Reply) (client : Client) → profile.password ≡ Some digest → AnswersItself profile now old words reply client → client.is_known ≡ true →
    Because digest (entry_of words) (is_reset words) old.is_known
step profile now digest old words reply client has (inl outcome) e = outcome_because profile now digest old words (answered profile now old words) reply client has refl outcome e
step profile now digest old words reply client has (inr short) e = inr (short_unreset words short.takes, ap (λ (c : Client). c.is_known) (sym short.client) ∙ e)

-- who is known has shown it
pub known_by_it : (profile : Profile) (digest : Word) (requests : List (List Word)) (client : Client) → profile.password ≡ Some digest → HasCome profile requests client → client.is_known ≡ true → HaveShown digest requests
unfolding IsEntry
known_by_it profile digest [] client has come e =
    let first : client.is_known ≡ needs_none profile.password = ap (λ (c : Client). c.is_known) come.1 in
    let none : needs_none (Some digest) ≡ true = subst (λ p. needs_none p ≡ true) has (sym first ∙ e) in absurd (cc none)
known_by_it profile digest (words ∷ before) client has come e =
    elim (step profile come.0 digest come.1 words come.2 client has come.4 e) [
      | inl shows ↦ inl shows
      | inr was ↦ inr (was.0, known_by_it profile digest before come.1 has come.3 was.1)
    ]
