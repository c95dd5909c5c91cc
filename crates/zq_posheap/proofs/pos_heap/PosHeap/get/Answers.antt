use Rattle.std.proofs.Common.{ap, sym, ◌∙◌}
use Rattle.std.specs.FinMap.{get}
use Rattle.std.specs.Prelude.{option_map}
use Rattle.zq_posheap.proofs.Entries.{none_of}
use Rattle.zq_posheap.proofs.pos_heap.PosHeap.get.Goals as goal

pub returns-in_err-place : goal.returns-in_err-place
returns-in_err-place g c =
    ap (option_map (λ e. (e.0, e.1.now))) c.from_residual.ensures ∙ sym (none_of (get c.args.self.now.held c.args.member.now) c.in_err-place.ensures.there)

pub returns : goal.returns
returns g c = sym (c.at.ensures c.args.member.now c.in_ok-place.ensures.place)
