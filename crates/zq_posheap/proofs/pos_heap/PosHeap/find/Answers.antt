use Rattle.std.proofs.Common.{ap, sym, ◌∙◌}
use Rattle.std.specs.FinMap.{get}
use Rattle.std.specs.Prelude.{is_some, slice_get}
use Rattle.zq_posheap.proofs.Entries.{is_seen}
use Rattle.zq_posheap.specs.Moves.{shown}
use Rattle.zq_posheap.proofs.pos_heap.PosHeap.find.Goals as goal

pub returns-in_err-index-clause-there : goal.returns-in_err-index-clause-there
returns-in_err-index-clause-there g c =
    let es = c.self.inside.heap.members.entries in
    ap is_some c.from_residual.ensures ∙ c.in_err-index.ensures.found ∙ sym (is_seen shown es c.args.member.now)
    ∙ ap (λ m. is_some (get m.held c.args.member.now)) c.self.view_is

pub returns-clause-there : goal.returns-clause-there
returns-clause-there g c =
    let es = c.self.inside.heap.members.entries in
    c.in_ok-index.ensures.found ∙ sym (is_seen shown es c.args.member.now)
    ∙ ap (λ m. is_some (get m.held c.args.member.now)) c.self.view_is

pub returns-clause-place : goal.returns-clause-place
returns-clause-place g c = ap (λ m. slice_get m.places c.in_ok-index.index) (sym c.self.view_is) ∙ c.in_ok-index.ensures.there
