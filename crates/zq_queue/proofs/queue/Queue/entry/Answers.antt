use Rattle.std.proofs.Common.{ap, sym, ◌∙◌}
use Rattle.std.specs.FinMap.{get}
use Rattle.std.specs.Prelude.{option_map}
use Rattle.zq_posheap.proofs.Entries.{none_of}
use Rattle.zq_queue.proofs.queue.Queue.entry.Goals as goal

pub returns-in_err-place-clause-entry : goal.returns-in_err-place-clause-entry
returns-in_err-place-clause-entry c =
    ap (option_map (λ e. e.now)) c.from_residual.ensures ∙ sym (none_of (get c.self.inside.members.entries c.args.member.now) c.in_err-place.ensures.there)
    ∙ ap (λ q. get q.entries c.args.member.now) c.self.view_is

pub returns-clause-entry : goal.returns-clause-entry
returns-clause-entry c = sym (c.at.ensures c.args.member.now c.in_ok-place.ensures.place) ∙ ap (λ q. get q.entries c.args.member.now) c.self.view_is

pub returns-clause-kept : goal.returns-clause-kept
returns-clause-kept c = c.find.ensures.kept c.args.member.now _ (c.at.ensures c.args.member.now c.in_ok-place.ensures.place)
