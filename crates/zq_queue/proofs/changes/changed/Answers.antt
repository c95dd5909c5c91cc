use Rattle.std.proofs.Common.{ap, subst, sym, ◌∙◌}
use Rattle.std.specs.Prelude.{◌*◌, ◌-◌}
use Rattle.zq_dots.specs.Act.{act_of}
use Rattle.zq_entry.specs.Within.{AreSumsWithin}
use Rattle.zq_model.specs.Image.{entry_after}
use Rattle.zq_model.specs.Operation.{MOST, Put, is_bump}
use Rattle.zq_queue.proofs.Changing.{put_of_unseen}
use Rattle.zq_queue.proofs.changes.changed.Goals as goal

pub bump-requires-clause-sums : goal.bump-requires-clause-sums
bump-requires-clause-sums c =
    let e = c.args.effect.now in
    subst (AreSumsWithin e.dot.site (MOST * (e.dot.n - 1))) (sym c.in_ok-changed-in-Bump.ensures) (c.requires.room (ap (λ a. is_bump (act_of a)) c.in-Bump.is))

pub returns-in_ok-put-in-Put : goal.returns-in_ok-put-in-Put
returns-in_ok-put-in-Put c =
    let e = c.args.effect.now in
    c.in_ok-put-in-Put.ensures.put
    ∙ ap (entry_after (Put c.in-Put.score) e.dot.site e.dot.n e.seen.now) (c.in_ok-changed-in-Put.ensures e.dot.site e.dot.n)
    ∙ put_of_unseen c.in-Put.score e.dot.site e.dot.n e.dot.site e.dot.n e.seen.now c.args.entry.now
    ∙ ap (λ a. entry_after (act_of a) e.dot.site e.dot.n e.seen.now c.args.entry.now) (sym c.in-Put.is)
