-- What is warned of at a port, after the site.

use Rattle.std.specs.Prelude.{List, codes, ℕ}
use Rattle.zq_loop.specs.declared.watch.PortFault.{PortFault}
use Rattle.zq_loop.specs.declared.watch.PortFault.TheVariants.{Device, Output, Protocol, Unread}

abbrev pub words_of : PortFault → List ℕ
words_of Protocol = codes " protocol fault"
words_of Device = codes " device fault"
words_of Unread = codes " unread replies"
words_of Output = codes " output limit"
