use Rattle.std.proofs.Common.{IsTrue, List, subst, sym, ◌∙◌}
use Rattle.std.proofs.lemmas.List.{with_items_is}
use Rattle.std.specs.Vec.{with_items}
use Rattle.zq_commands.specs.Arrays.{are_writable}
use Rattle.zq_resp.specs.declared.reply.Reply.{Reply}
use Rattle.zq_serve.proofs.knowing.Knowing.answer_together.Goals as goal
use Rattle.zq_serve.specs.Transactions.{AreFilled}
use Rattle.zq_session.specs.declared.queued.Transacted.TheVariants.{Ran}

pub returns-in-Ran-clause-related : goal.returns-in-Ran-clause-related
returns-in-Ran-clause-related g c =
    let filled = c.fill.new.replies in
    let long = c.fill.ensures.number ∙ c.deref_mut.ensures.len in
    let are : List Reply → List Reply → Type 0 = λ were is. AreFilled c.args.desk.now.profile c.args.client.now c.args.requests.now were is c.fill.new.client in (
      Ran c.in-Ran.replies,
      c.in-Ran.ensures.transacted,
      (
        with_items c.in-Ran.replies filled,
        c.array.ensures.array,
        subst (λ is. are c.in-Ran.replies.items is) (sym (with_items_is c.in-Ran.replies filled long)) (subst (λ were. are were filled) c.deref_mut.ensures.value c.fill.ensures.filled),
      ),
    )

pub returns-in-Ran-clause-writable : goal.returns-in-Ran-clause-writable
returns-in-Ran-clause-writable g c =
    let filled = c.fill.new.replies in
    let long = c.fill.ensures.number ∙ c.deref_mut.ensures.len in
    let had = subst (λ were. IsTrue (are_writable were)) (sym c.deref_mut.ensures.value) c.in-Ran.ensures.writable in
    c.array.ensures.writable (subst (λ is. IsTrue (are_writable is)) (sym (with_items_is c.in-Ran.replies filled long)) (c.fill.ensures.writable had))
