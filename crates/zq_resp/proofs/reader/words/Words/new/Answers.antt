use Rattle.std.proofs.Common.{ap, map, arith}
use Rattle.zq_resp.proofs.Sequences.{begins_none, begun}
use Rattle.zq_resp.proofs.reader.words.Words.new.Goals as goal

pub returns-then-count-eq0 : goal.returns-then-count-eq0
returns-then-count-eq0 c =
    (ap (map (λ w. w.items)) c.new-found.ensures.items, λ more. begins_none c.args.count more (omega arith))

pub returns : goal.returns
returns c = begun c.new-found.result c.args.count c.new-found.ensures.items (omega arith) (omega arith)
