-- The texts by which a connection refuses what belongs to a transaction.

use Rattle.std.specs.Prelude.{codes, ◌∷◌}
use Rattle.zq_resp.specs.Reply.{line}
use Rattle.zq_serve.specs.declared.denial.Denial.{Denial}
use Rattle.zq_serve.specs.declared.denial.Denial.TheVariants as denial
use Rattle.zq_words.specs.Words.{Word}

abbrev pub denial_text : Denial → Word
denial_text denial.Nested = codes "ERR MULTI calls can not be nested"
denial_text denial.ExecAlone = codes "ERR EXEC without MULTI"
denial_text denial.DiscardAlone = codes "ERR DISCARD without MULTI"
denial_text denial.WatchInside = codes "ERR WATCH inside MULTI is not allowed"
denial_text denial.Inside = codes "ERR Command not allowed inside a transaction"
denial_text denial.TooLarge = codes "ERR transaction is too large"
denial_text denial.Aborted = codes "EXECABORT Transaction discarded because of previous errors."
denial_text denial.Shutdown = codes "ERR SHUTDOWN wants a password, or a site on loopback"

-- the bytes of the error
abbrev pub denied : Denial → Word
denied reason = 45 ∷ line (denial_text reason)
