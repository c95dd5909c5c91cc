-- INFO.

use Rattle.std.specs.Prelude.{Bool, List, [], codes, decimal, false, if◌then◌else◌, true, ℕ, ◌++◌, ◌||◌, ◌∷◌}
use Rattle.zq_client.specs.declared.moment.Moment.{Moment}
use Rattle.zq_resp.specs.Reply.{bulk}
use Rattle.zq_words.specs.Words.{Word, has}

-- a number, and the end of its line
abbrev pub number : ℕ → Word
number n = decimal n ++ codes "\r\n"

-- the sections
abbrev pub server : Word → Moment → Word
server version now =
    codes "# Server\r\nredis_version:7.0.0\r\nzqueue_version:" ++ (version
    ++ (codes "\r\nredis_mode:standalone\r\nuptime_in_seconds:" ++ number now.uptime))

abbrev pub clients : Moment → Word
clients now = codes "# Clients\r\nconnected_clients:" ++ (number now.clients
    ++ codes "blocked_clients:0\r\n")

abbrev pub persistence : Word
persistence = codes "# Persistence\r\nloading:0\r\n"

abbrev pub stats : Moment → Word
stats now = codes "# Stats\r\ntotal_connections_received:" ++ (number now.connections
    ++ (codes "total_commands_processed:" ++ number now.requests))

abbrev pub replication : Word
replication = codes "# Replication\r\nrole:master\r\nconnected_slaves:0\r\n"

-- an empty line stands between two sections
abbrev pub gap : Word → Word
gap [] = []
gap (byte ∷ text) = codes "\r\n"

abbrev pub behind : Word → Word → Word
behind text section = text ++ (gap text ++ section)

abbrev pub asks_for_all : List Word → Bool
asks_for_all words = has (codes "default") words || (has (codes "all") words
    || has (codes "everything") words)

abbrev pub is_none : List Word → Bool
is_none [] = true
is_none (word ∷ words) = false

-- a section is asked for by its name, or where all are
abbrev pub is_asked : List Word → Word → Bool
is_asked words name = is_none words || (asks_for_all words || has name words)

-- a section behind the text, where it is asked for
abbrev pub with_section : List Word → Word → Word → Word → Word
with_section words name section text = if is_asked words name then behind text section else text

abbrev pub info_text : Word → Moment → List Word → Word
info_text version now words =
    with_section words (codes "replication") replication
    (with_section words (codes "stats") (stats now)
    (with_section words (codes "persistence") persistence
    (with_section words (codes "clients") (clients now)
    (with_section words (codes "server") (server version now) []))))

abbrev pub info : Word → Moment → List Word → Word
info version now words = bulk (info_text version now words)
