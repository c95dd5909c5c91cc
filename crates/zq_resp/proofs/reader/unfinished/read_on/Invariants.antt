use Rattle.std.proofs.Common.{◌≡◌, ◌++◌, length}
use Rattle.zq_resp.specs.Partial.{text_so_far}
use Rattle.zq_resp.specs.Unfinished.{Stands}
use Rattle.zq_resp.specs.Stream.{Requests, Reaches, handed}
use Rattle.zq_resp.proofs.reader.unfinished.read_on.Given as goal

abbrev pub invariant-loop-rest : goal.invariant-loop-rest
invariant-loop-rest l =
    record {
      stands : Stands l.unfinished;
      reads : (all : Requests)
          × Reaches (text_so_far l.fn.unfinished.partial ++ l.fn.piece) all (text_so_far l.unfinished.partial ++ l.rest)
          × (l.requests.items ≡ l.fn.requests.items ++ handed all);
    }

abbrev pub decreases-loop-rest : goal.decreases-loop-rest
decreases-loop-rest l = length l.rest
