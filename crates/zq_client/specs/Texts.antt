-- The texts that a connection says itself, and the bytes of arrays.

use Rattle.std.specs.Char.{is_ascii_graphic}
use Rattle.std.specs.List.{list_all}
use Rattle.std.specs.Prelude.{Bool, List, codes, decimal, length, map, nat_le, ◌&&◌, ◌++◌, ◌∷◌}
use Rattle.zq_client.specs.declared.why.Why.{Why}
use Rattle.zq_client.specs.declared.why.Why.TheVariants as why
use Rattle.zq_resp.specs.Reply.{is_writable, joined, line}
use Rattle.zq_resp.specs.declared.reply.Reply.{Reply}
use Rattle.zq_words.specs.Refused.{refused_text}
use Rattle.zq_words.specs.Words.{Word}
use Rattle.zq_words.specs.declared.refused.Refused.{Refused}

abbrev pub why_text : Why → Word
why_text why.Unknown = codes "NOAUTH Authentication required."
why_text why.UnknownHello =
    codes "NOAUTH HELLO must be called with the client already authenticated, otherwise the "
    ++ (codes "HELLO AUTH <user> <pass> option can be used to authenticate the client and select "
    ++ codes "the RESP protocol version at the same time")
why_text why.WrongPassword =
    codes "WRONGPASS invalid username-password pair or user is disabled."
why_text why.NoPassword =
    codes "ERR AUTH <password> called without any password configured for the default user. "
    ++ codes "Are you sure your configuration is correct?"
why_text why.Version = codes "ERR Protocol version is not an integer or out of range"
why_text why.Protocol = codes "NOPROTO unsupported protocol version"
why_text why.Hello = codes "ERR Syntax error in HELLO"
why_text why.Index = codes "ERR DB index is out of range"
why_text why.Name =
    codes "ERR Client names cannot contain spaces, newlines or special characters."
why_text why.Subcommand = codes "ERR unknown subcommand"
why_text why.Over = codes "ERR the connection ends"

-- the bytes of the errors for a reason of a connection's own, and for one of a command's words
abbrev pub denied : Why → Word
denied why = 45 ∷ line (why_text why)

abbrev pub refused : Refused → Word
refused why = 45 ∷ line (refused_text why)

abbrev pub OK : Word
OK = 43 ∷ line (codes "OK")

abbrev pub array_bytes : List Word → Word
array_bytes parts = 42 ∷ line (decimal (length parts)) ++ joined parts

-- no text of a part ends a line before its own end
abbrev pub are_writable : List Reply → Bool
are_writable parts = list_all (λ is. is) (map is_writable parts)

-- the name of a connection: bytes of ASCII that can be seen
abbrev pub is_name : Word → Bool
is_name name = nat_le (length name) 256 && list_all is_ascii_graphic name
