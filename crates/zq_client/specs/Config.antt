-- CONFIG GET.

use Rattle.std.specs.Fmt.{signed_decimal}
use Rattle.std.specs.Prelude.{List, [], codes, if◌then◌else◌, pos, ◌++◌, ◌||◌, ◌∷◌}
use Rattle.zq_client.specs.Texts.{array_bytes, denied, refused}
use Rattle.zq_client.specs.declared.profile.Profile.{Profile}
use Rattle.zq_client.specs.declared.why.Why.TheVariants as why
use Rattle.zq_resp.specs.Reply.{bulk}
use Rattle.zq_words.specs.Words.{Word, has, is}
use Rattle.zq_words.specs.declared.refused.Refused.TheVariants as reason

-- a parameter and the bytes of its value, where it is named, or all are
abbrev pub asked : List Word → Word → Word → List Word
asked names name value =
    if has name names || has (codes "*") names then bulk name ∷ value ∷ [] else []

-- the parameters in the order of their names
abbrev pub get : Profile → List Word → Word
get profile names = array_bytes
    (asked names (codes "appendonly") (bulk (codes "no"))
    ++ asked names (codes "databases") (bulk (signed_decimal (pos 1)))
    ++ asked names (codes "maxmemory") (bulk (signed_decimal (pos profile.max_memory)))
    ++ asked names (codes "save") (bulk [])
    ++ asked names (codes "timeout") (bulk (signed_decimal (pos profile.timeout))))

abbrev pub config : Profile → List Word → Word
config profile [] = refused reason.Words
config profile (part ∷ []) = denied why.Subcommand
config profile (part ∷ name ∷ names) =
    if is part (codes "GET") then get profile (name ∷ names) else denied why.Subcommand
