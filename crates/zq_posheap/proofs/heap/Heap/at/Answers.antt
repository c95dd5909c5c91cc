use Rattle.std.proofs.Common.{ap, subst, sym, ◌∙◌}
use Rattle.std.specs.FinMap.{get}
use Rattle.std.specs.Map.{lookup}
use Rattle.std.specs.Prelude.{IfSome, Some, option_map, ◌≡◌}
use Rattle.zq_posheap.proofs.Entries.{has_text, seen_is}
use Rattle.zq_posheap.proofs.Scored.{text_there}
use Rattle.zq_posheap.specs.Moves.{shown}
use Rattle.zq_posheap.specs.Whole.{entries_map}
use Rattle.zq_posheap.proofs.heap.Heap.at.Goals as goal

pub returns-clause-held : goal.returns-clause-held
returns-clause-held g c =
    let heap = c.args.self.now in
    let es = heap.members.entries in
    let key = c.unwrap.result.0.now in
    let held = c.unwrap.result.1.now in
    let entry = sym c.get_index.ensures.entry ∙ ap (option_map (λ p. (p.0.now, p.1.now))) c.unwrap.ensures in
    let found = subst (λ o. IfSome o (λ p. lookup (has_text p.0.now) es ≡ Some p.1.now)) c.unwrap.ensures c.get_index.ensures.value in
    ap (get (entries_map heap)) (sym (text_there es c.args.index key held entry)) ∙ seen_is shown es key held (sym found)
