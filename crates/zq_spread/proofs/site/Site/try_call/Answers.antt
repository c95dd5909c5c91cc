use Rattle.std.proofs.Common.{ap, arith, sym, ◌∙◌}
use Rattle.zq_spread.proofs.Named.{one_heap}
use Rattle.zq_spread.proofs.site.Site.try_call.Goals as goal
use Rattle.zq_spread.specs.Calls.{heaps_of}
use Rattle.zq_words.specs.Heaps as named

pub try_call_one-requires-clause-heap : goal.try_call_one-requires-clause-heap
try_call_one-requires-clause-heap c =
    let site = c.args.self.now in
    let some = site.some in
    let long = c.len.ensures ∙ site.slots.ok.0 in
    one_heap c.args.command.now (heaps_of site) c.in-One.heap (omega (arith, some)) (ap (named.heaps_of c.args.command.now) (sym long) ∙ sym c.heaps.ensures ∙ c.in-One.is)
