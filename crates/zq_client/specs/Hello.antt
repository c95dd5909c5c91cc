-- HELLO.

use Rattle.std.specs.Borrow.{Bor}
use Rattle.std.specs.Fmt.{signed_decimal}
use Rattle.std.specs.Option.{option_map}
use Rattle.std.specs.Ordering.{int_eq}
use Rattle.std.specs.Prelude.{List, None, Option, Some, [], codes, if◌then◌else◌, pos, ℕ, ℤ, ◌∷◌}
use Rattle.zq_client.specs.Auth.{is_right, refuse}
use Rattle.zq_client.specs.Clients.{Client, known, named}
use Rattle.zq_client.specs.Options.{Asks, options_of}
use Rattle.zq_client.specs.OptionsRead.{name_shown}
use Rattle.zq_client.specs.Outcomes.{Outcome, told}
use Rattle.zq_client.specs.Texts.{array_bytes, denied, is_name}
use Rattle.zq_client.specs.declared.profile.Profile.{Profile}
use Rattle.zq_client.specs.declared.why.Why.TheVariants as why
use Rattle.zq_resp.specs.Reply.{bulk, line}
use Rattle.zq_words.specs.Words.{Word, whole_of}

abbrev pub lent_name : Option (Bor (List ℕ)) → Option Word
lent_name name = option_map name_shown name

-- the line of a number
abbrev pub number_bytes : ℤ → Word
number_bytes number = 58 ∷ line (signed_decimal number)

-- the fourteen parts that tell of the server: the program, its version, the version of the
-- protocol, the number of the connection, and that it is one server, which takes writes and has no
-- modules
abbrev pub server_bytes : Word → ℤ → Word
server_bytes version number = array_bytes
    (bulk (codes "server") ∷ bulk (codes "zqueue") ∷ bulk (codes "version") ∷ bulk version
    ∷ bulk (codes "proto") ∷ number_bytes (pos 2) ∷ bulk (codes "id") ∷ number_bytes number
    ∷ bulk (codes "mode") ∷ bulk (codes "standalone") ∷ bulk (codes "role")
    ∷ bulk (codes "master") ∷ bulk (codes "modules") ∷ array_bytes [] ∷ [])

-- the connection is known, has the name that is given, and is told of the server; where that is no
-- name, it is known and told that
abbrev pub welcome : Profile → Client → Option Word → Outcome
welcome profile client None =
    told (known client) (server_bytes profile.version.now client.number)
welcome profile client (Some name) =
    if is_name name
    then told (named name (known client)) (server_bytes profile.version.now client.number)
    else told (known client) (denied why.Name)

abbrev pub greet : Profile → Client → Option Word → Outcome
greet profile client name =
    if client.is_known then welcome profile client name
    else told client (denied why.UnknownHello)

-- a connection that shows a password enters by it
abbrev pub entered_by : Profile → Client → Option (Word × Word) → Option Word → Outcome
entered_by profile client None name = greet profile client name
entered_by profile client (Some (user, text)) name =
    if is_right profile.password user text then welcome profile client name
    else refuse profile.password client

abbrev pub entered : Profile → Client → Asks → Outcome
entered profile client asks = entered_by profile client asks.entry asks.name

abbrev pub asked_by : Profile → Client → Option Asks → Outcome
asked_by profile client None = told client (denied why.Hello)
asked_by profile client (Some asks) = entered profile client asks

abbrev pub hello_options : Profile → Client → List Word → Outcome
hello_options profile client words = asked_by profile client (options_of words)

-- the version 2 of the protocol is spoken alone
abbrev pub versioned : Profile → Client → Option ℤ → List Word → Outcome
versioned profile client None words = told client (denied why.Version)
versioned profile client (Some number) words =
    if int_eq number (pos 2) then hello_options profile client words
    else told client (denied why.Protocol)

abbrev pub hello : Profile → Client → List Word → Outcome
hello profile client [] = greet profile client None
hello profile client (version ∷ words) = versioned profile client (whole_of version) words
