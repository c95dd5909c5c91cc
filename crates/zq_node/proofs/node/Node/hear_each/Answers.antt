use Rattle.std.proofs.Common.{List, ap, arith, drop, length, subst, sym, take, take-add, ℕ, ◌+◌, ◌++◌, ◌-◌, ◌∙◌, ◌≡◌}
use Rattle.std.proofs.lemmas.List.{length-drop, take-append-drop}
use Rattle.zq_dots.specs.Placed.{Placed}
use Rattle.zq_node.proofs.Batched.{heard_rest, stopped_rest}
use Rattle.zq_node.proofs.Parts.{rest_back, rest_lent}
use Rattle.zq_node.proofs.Told.{if_err}
use Rattle.zq_node.proofs.node.Node.hear_each.Goals as goal
use Rattle.zq_node.specs.Batches.{HasHeardSome, WasStoppedIn}

-- what was heard, and what is lent
split_at : (ops now : List Placed) (at : ℕ) → drop at now ≡ drop at ops → ops ≡ take at ops ++ take (length now - at) (drop at now)
split_at ops now at left = sym (take-append-drop at ops) ∙ ap (λ l. take at ops ++ l) (sym (rest_lent ops now at left))

pub loop-at-preserved : goal.loop-at-preserved
loop-at-preserved g c =
    let is = c.loop-at.invariant in
    let ops = c.args.ops.now in
    let now = c.loop-at.ops in
    let at = c.loop-at.at in
    let n = c.in_ok-at.field-0 in
    let lent : List Placed = take (length now - at) (drop at now) in
    let rest : lent ≡ drop at ops = rest_lent ops now at is.3 in
    let long = ap length rest in
    let all = length-drop at ops in
    let more : take at ops ++ take n lent ≡ take (at + n) ops = ap (λ l. take at ops ++ take n l) rest ∙ sym (take-add at n ops) in (
      c.in_ok-at.ensures.node,
      c.in_ok-at.ensures.home ∙ is.1,
      omega (arith, c.in_ok-at.ensures.most, long, all, is.2),
      rest_back ops now c.hear_some.new.ops at n (omega (arith, c.loop-at-test.true)) is.3 c.in_ok-at.ensures.left,
      subst (λ l. HasHeardSome ops l c.args.self.now c.hear_some.new.self) more
          (heard_rest ops (take at ops) lent (take n lent) c.args.self.now c.loop-at.self c.hear_some.new.self (split_at ops now at is.3) is.1 is.4 c.in_ok-at.ensures.heard),
    )

pub returns-in_err-at-clause-stopped : goal.returns-in_err-at-clause-stopped
returns-in_err-at-clause-stopped g c =
    let is = c.loop-at.invariant in
    let ops = c.args.ops.now in
    let now = c.loop-at.ops in
    let at = c.loop-at.at in
    let why = c.in_err-at.field-0.0 in
    if_err (WasStoppedIn ops c.args.self.now c.hear_some.new.self) c.from_residual.result why c.from_residual.ensures.1
    (stopped_rest ops (take at ops) (take (length now - at) (drop at now)) c.args.self.now c.loop-at.self c.hear_some.new.self why (split_at ops now at is.3) is.1 is.4 c.in_err-at.ensures.stopped)
