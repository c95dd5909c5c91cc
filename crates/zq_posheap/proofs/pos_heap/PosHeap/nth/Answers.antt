use Rattle.std.proofs.Common.{ap, sym, ◌∙◌}
use Rattle.std.specs.FinMap.{get}
use Rattle.std.specs.Prelude.{option_map}
use Rattle.zq_posheap.proofs.Entries.{seen_is}
use Rattle.zq_posheap.specs.Moves.{shown}
use Rattle.zq_posheap.proofs.pos_heap.PosHeap.nth.Goals as goal

pub returns-clause-value : goal.returns-clause-value
returns-clause-value g c =
    let es = c.self.inside.heap.members.entries in
    let got = seen_is shown es c.in_ok-member.member.now c.in_ok-member.held.now (sym c.in_ok-member.ensures.value) in
    ap (option_map (λ e. e.1)) ((λ k. get ((sym c.self.view_is) k).held (c.as_slice.ensures k)) ∙ got)
