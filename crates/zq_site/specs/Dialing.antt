-- Which addresses of a peer are dialled, and why it is not reached.

use Rattle.std.specs.Prelude.{Bool, List, codes, false, true, ℕ, ◌||◌}
use Rattle.std.specs.declared.net.socket_addr.SocketAddr.{SocketAddr}
use Rattle.zq_settings.specs.Addresses.{is_local}
use Rattle.zq_site.specs.declared.unreached.Unreached.{Unreached}
use Rattle.zq_site.specs.declared.unreached.Unreached.TheVariants.{Far, Silent, Unknown}

-- an address of a peer's name may be dialled where there is a secret, or where it is a loopback address
abbrev pub may_dial : Bool → SocketAddr → Bool
may_dial is_secured address = is_secured || is_local address

-- why nobody was reached, by whether the name has an address, and whether one was dialled
abbrev pub why_of : Bool → Bool → Unreached
why_of is_found true = Silent
why_of true false = Far
why_of false false = Unknown

-- and in words
abbrev pub words_of_unreached : Unreached → List ℕ
words_of_unreached Unknown = codes "its name is not found"
words_of_unreached Far = codes "its name has no loopback address, and there is no secret"
words_of_unreached Silent = codes "nobody accepts there"
