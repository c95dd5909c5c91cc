use Rattle.std.proofs.Common.{ap, sym, ◌∙◌, ◌≡◌}
use Rattle.std.proofs.lemmas.Option.{slice_get-get_or}
use Rattle.std.specs.FinMap.{get}
use Rattle.std.specs.Prelude.{Some, slice_get}
use Rattle.zq_queue.proofs.Fews.{got_at}
use Rattle.zq_queue.specs.Few.{entries_by}
use Rattle.zq_queue.proofs.few.nth.Goals as goal

pub returns-clause-entry : goal.returns-clause-entry
returns-clause-entry c =
    let list = c.args.list.now in
    let member = c.in_ok-member.member.now in
    let at : slice_get list c.args.number ≡ Some member
    = slice_get-get_or list c.args.number member c.in_ok-member.ensures.lookup.3.0 ∙ ap (λ m. Some m) (sym c.in_ok-member.ensures.lookup.1) in
    ap (get (entries_by list)) c.as_slice.ensures ∙ got_at list c.requires.few.apart c.args.number member at
