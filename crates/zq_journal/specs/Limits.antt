-- The limits of a book, as the code has them.

use Rattle.zq_model.specs.Limits as book
use Rattle.zq_journal.specs.declared.limits.TailLimits.{TailLimits}

abbrev pub limits_of : TailLimits → book.TailLimits
limits_of limits = record { long = limits.long; kept = limits.kept; bytes = limits.bytes }
