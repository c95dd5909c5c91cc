-- Who is at the other end of a stream, in words.

use Rattle.std.specs.Net.Text.{socket_text}
use Rattle.std.specs.Prelude.{List, None, Option, Some, codes, decimal, ℕ, ◌++◌}
use Rattle.zq_site.specs.declared.caller.Caller.{Caller}

abbrev pub words_of_number : Option ℕ → List ℕ
words_of_number (Some site) = codes "site " ++ decimal site
words_of_number None = codes "a peer"

abbrev pub words_of_caller : Caller → List ℕ
words_of_caller caller =
    words_of_number caller.site ++ (codes " at " ++ socket_text caller.address)
