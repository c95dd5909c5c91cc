-- The bytes of an array of replies, and of a pair's two texts.

use Rattle.std.specs.Fmt.{signed_decimal}
use Rattle.std.specs.List.{list_all}
use Rattle.std.specs.Prelude.{Bool, List, [], decimal, length, map, ◌++◌, ◌∷◌}
use Rattle.zq_commands.specs.declared.first_pair.Copied.{Copied}
use Rattle.zq_resp.specs.Reply.{is_writable, joined, line}
use Rattle.zq_resp.specs.declared.reply.Reply.{Reply}
use Rattle.zq_words.specs.Words.{Word}

abbrev pub array_bytes : List Word → Word
array_bytes parts = 42 ∷ line (decimal (length parts)) ++ joined parts

abbrev pub copied_parts : Copied → List Word
copied_parts copied = copied.member.items ∷ signed_decimal copied.score ∷ []

-- no text of a part ends a line before its own end
abbrev pub are_writable : List Reply → Bool
are_writable parts = list_all (λ is. is) (map is_writable parts)
