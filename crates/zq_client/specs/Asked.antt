-- CLIENT, SELECT, ECHO, TIME and COMMAND.

use Rattle.std.specs.Fmt.{signed_decimal}
use Rattle.std.specs.Ordering.{int_eq}
use Rattle.std.specs.Prelude.{List, None, Option, Some, [], codes, if◌then◌else◌, pos, ℕ, ℤ, ◌%◌, ◌/◌, ◌∷◌}
use Rattle.zq_client.specs.Clients.{Client, named}
use Rattle.zq_client.specs.Hello.{number_bytes}
use Rattle.zq_client.specs.Names.{part_of}
use Rattle.zq_client.specs.Outcomes.{Outcome, told}
use Rattle.zq_client.specs.Texts.{OK, array_bytes, denied, is_name, refused}
use Rattle.zq_client.specs.declared.name.Part.{Part}
use Rattle.zq_client.specs.declared.name.Part.TheVariants as part
use Rattle.zq_client.specs.declared.why.Why.TheVariants as why
use Rattle.zq_resp.specs.Reply.{bulk}
use Rattle.zq_words.specs.Words.{Word, is, whole_of}
use Rattle.zq_words.specs.declared.refused.Refused.TheVariants as reason

-- the name of a connection, and the null bulk where it has none
abbrev pub name_bytes : Word → Word
name_bytes [] = codes "$-1\r\n"
name_bytes (byte ∷ name) = bulk (byte ∷ name)

abbrev pub get_name : Client → Outcome
get_name client = told client (name_bytes client.name)

abbrev pub set_name : Client → Word → Outcome
set_name client name =
    if is_name name then told (named name client) OK else told client (denied why.Name)

-- SETINFO is taken, and not kept
abbrev pub client_part : Client → Part → List Word → Outcome
client_part client part.Id [] = told client (number_bytes client.number)
client_part client part.GetName [] = get_name client
client_part client part.SetName (name ∷ []) = set_name client name
client_part client part.SetInfo (name ∷ value ∷ []) = told client OK
client_part client _ _ = told client (refused reason.Words)

abbrev pub client_by : Client → Option Part → List Word → Outcome
client_by client None words = told client (denied why.Subcommand)
client_by client (Some part) words = client_part client part words

abbrev pub client : Client → List Word → Outcome
client of [] = told of (refused reason.Words)
client of (word ∷ words) = client_by of (part_of word) words

-- there is one database, whose number is 0
abbrev pub selected : Option ℤ → Word
selected None = refused reason.Whole
selected (Some index) = if int_eq index (pos 0) then OK else denied why.Index

abbrev pub select : List Word → Word
select (index ∷ []) = selected (whole_of index)
select _ = refused reason.Words

abbrev pub echo : List Word → Word
echo (message ∷ []) = bulk message
echo _ = refused reason.Words

-- seconds, and microseconds of the next one
abbrev pub clock : ℕ → Word
clock time = array_bytes
    (bulk (signed_decimal (pos (time / 1_000_000)))
    ∷ bulk (signed_decimal (pos (time % 1_000_000))) ∷ [])

abbrev pub time : ℕ → List Word → Word
time now [] = clock now
time now (word ∷ words) = refused reason.Words

abbrev pub count : ℕ → List Word → Word
count commands [] = number_bytes (pos commands)
count commands (word ∷ words) = refused reason.Words

-- how many commands there are, and that nothing is told of them
abbrev pub command : ℕ → List Word → Word
command commands [] = denied why.Subcommand
command commands (part ∷ words) =
    if is part (codes "COUNT") then count commands words else
    if is part (codes "DOCS") then array_bytes [] else denied why.Subcommand
