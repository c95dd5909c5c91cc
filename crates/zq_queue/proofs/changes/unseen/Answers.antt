use Rattle.std.proofs.Common.{sym, ◌∙◌, ◌≡◌}
use Rattle.std.proofs.lemmas.Result.{IfOk-weaker}
use Rattle.zq_entry.proofs.Callers.{join-none_right}
use Rattle.zq_model.specs.Image.{Entry, entry_after, join_entry}
use Rattle.zq_model.specs.Operation.{Drop}
use Rattle.zq_queue.proofs.Unseen.{nothing_left}
use Rattle.zq_queue.proofs.changes.unseen.Goals as goal

pub returns-then-has_all : goal.returns-then-has_all
returns-then-has_all c = λ site n.
    c.new.ensures ∙ sym (nothing_left c.args.seen.now c.args.entry.now site n (sym c.has_all.ensures ∙ c.if-has_all.true))

pub returns : goal.returns
returns c = λ site n.
    let seen = c.args.seen.now in
    let entry : Entry = c.args.entry.now in
    IfOk-weaker {X = Entry} c.merge-2.result (λ new. new ≡ join_entry seen seen entry c.new-2.result) (λ new. new ≡ entry_after Drop site n seen entry)
    (λ new is. is ∙ (λ k. join_entry seen seen entry (c.new-2.ensures k)) ∙ join-none_right seen seen entry site n) c.merge-2.ensures
