use Rattle.std.proofs.Common.{inl, inr, subst, ◌∙◌}
use Rattle.std.proofs.lemmas.List.{length-set}
use Rattle.zq_serve.proofs.Filled.{filled_all, filled_more, writable_at, writable_set}
use Rattle.zq_serve.proofs.knowing.Knowing.fill.Goals as goal
use Rattle.zq_serve.specs.Transactions.{IsFilledAt}
use Rattle.std.specs.Prelude.{get_or}

pub loop-place-preserved : goal.loop-place-preserved
loop-place-preserved g c =
    let at = c.loop-place in
    let q = c.index-requests-place.result in
    let was = c.index-replies-place.result in
    let is = c.fill_at.new.reply in
    let profile = c.args.desk.now.profile in
    record {
      number = length-set at.replies at.place is ∙ at.invariant.number;
      filled = filled_more profile c.args.client.now at.client c.fill_at.new.client c.args.requests.now c.args.replies.now at.replies at.place q was is c.loop-place-test.true c.if-place-replies.false
          at.invariant.filled (subst (λ x. IsFilledAt profile at.client x (get_or at.replies at.place was) is c.fill_at.new.client) c.index-requests-place.is c.fill_at.ensures.filled);
      writable = λ had.
          writable_set at.replies at.place is (at.invariant.writable had) (c.fill_at.ensures.writable (writable_at at.replies at.place was c.if-place-replies.false (at.invariant.writable had)));
    }

pub returns-clause-filled : goal.returns-clause-filled
returns-clause-filled g c =
    let at = c.loop-place in
    filled_all c.args.desk.now.profile c.args.client.now at.client c.args.requests.now c.args.replies.now at.replies at.place at.invariant.filled (inl c.loop-place-test.false)

pub returns-then-place-replies-clause-filled : goal.returns-then-place-replies-clause-filled
returns-then-place-replies-clause-filled g c =
    let at = c.loop-place in
    filled_all c.args.desk.now.profile c.args.client.now at.client c.args.requests.now c.args.replies.now at.replies at.place at.invariant.filled (inr c.if-place-replies.true)
