use Rattle.std.proofs.Common.{arith}
use Rattle.zq_entry.specs.Lent.{lent}
use Rattle.zq_entry.specs.Placed.{placed_of}
use Rattle.zq_merge.proofs.Written.{each_written}
use Rattle.zq_merge.specs.Spelling.{addition_bytes}
use Rattle.zq_merge.specs.declared.version.Version.TheVariants.{Three}
use Rattle.zq_merge.proofs.write.write_additions.Goals as goal

pub loop-place-preserved : goal.loop-place-preserved
loop-place-preserved c =
    each_written (addition_bytes Three) c.args.out.now.items c.loop-place.out.items c.write_addition.new.out.items (placed_of c.args.entry.now) c.loop-place.place (lent c.at.result) (omega (arith, c.len-place-end.ensures)) (c.at.ensures.addition (lent c.at.result)) c.loop-place.invariant c.in_ok-write_addition.ensures
