use Rattle.std.proofs.Common.{arith}
use Rattle.zq_entry.proofs.Callers.{placed-no_additions}
use Rattle.image_tests.proofs.entry.is_remade.Goals as goal

pub append-requires : goal.append-requires
append-requires c = rw (c.new-entry.ensures, placed-no_additions) (omega arith, c.of-addition.ensures.site, tt)

pub of_additions-requires : goal.of_additions-requires
of_additions-requires c = rw (c.deref.ensures.value, c.in-Ok-additions.ensures, c.in-Ok.ensures.appended, c.new-entry.ensures, placed-no_additions) (omega arith, c.of-addition.ensures.site, tt)
