use Rattle.std.proofs.Common.{◌++◌, length}
use Rattle.zq_wire.proofs.Asking.{IsReading}
use Rattle.zq_wire.specs.Memory.{kept_after}
use Rattle.zq_wire.specs.Stream.{Reaches, frames_in}
use Rattle.zq_wire.specs.Unfinished.{Stands, text_so_far}
use Rattle.zq_wire.proofs.reader.read_on.Given as goal

abbrev pub invariant-loop-rest : goal.invariant-loop-rest
invariant-loop-rest l =
    record {
      stands : Stands l.most l.unfinished;
      asks : IsReading l.most (kept_after (frames_in l.frames) (text_so_far l.fn.unfinished)) (text_so_far l.unfinished) l.rest;
      reads : Reaches l.most (text_so_far l.fn.unfinished ++ l.fn.piece) (frames_in l.frames) (text_so_far l.unfinished ++ l.rest);
    }

abbrev pub decreases-loop-rest : goal.decreases-loop-rest
decreases-loop-rest l = length l.rest
