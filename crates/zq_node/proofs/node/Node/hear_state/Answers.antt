use Rattle.std.proofs.Common.{arith, inl, inr, refl, sym, ◌<◌, ◌∙◌, ◌≡◌, ◌⊎◌}
use Rattle.zq_links.specs.declared.frame.Frame.TheVariants as heard
use Rattle.zq_node.proofs.Called.{on_err, seen_after}
use Rattle.zq_node.proofs.Told.{Covers, covers_stays, if_err, merge_called, merge_stopped, merged_covers, own_fault, own_merge, state_fault}
use Rattle.zq_node.proofs.node.Node.hear_state.Goals as goal
use Rattle.zq_node.specs.Faults.{IsOwnFault, unmerged}
use Rattle.zq_node.specs.Hearing.{IsFaultOf, IsStateStopped}
use Rattle.zq_node.specs.declared.node.Node.{Node}
use Rattle.zq_spread.specs.Calls.{IsLikeSite, heaps_of}

pub returns-in_err-judge-clause-stopped : goal.returns-in_err-judge-clause-stopped
returns-in_err-judge-clause-stopped g c =
    let stopped : IsStateStopped c.args.shard.now c.args.self.now c.args.self.now = inl (refl, λ h. refl) in
    on_err _ _ stopped

pub returns-in_err-judge-clause-fault : goal.returns-in_err-judge-clause-fault
returns-in_err-judge-clause-fault g c =
    let site = c.args.self.now.home.site.now in
    if_err (IsFaultOf site (heard.State c.args.shard.now)) c.from_residual.result c.in_err-judge.field-0.0 c.from_residual.ensures.1
    (state_fault site c.args.shard.now c.heap.result c.heaps.result _ c.in_err-judge.field-0.0 c.heap.ensures.same c.heaps.ensures.same c.rule.ensures c.in_err-judge.ensures.wrong)

pub returns-in_err-judge-clause-unheard : goal.returns-in_err-judge-clause-unheard
returns-in_err-judge-clause-unheard g c = if_err (λ f. IsOwnFault f ⊎ (c.args.self.now ≡ c.args.self.now)) c.from_residual.result c.in_err-judge.field-0.0 c.from_residual.ensures.1 (inr refl)

pub returns-in_err-merge-clause-stopped : goal.returns-in_err-merge-clause-stopped
returns-in_err-merge-clause-stopped g c =
    let node = c.args.self.now in
    let new : Node = record { home = node.home; pass = c.merge.new.pass; parked = node.parked } in
    let like : IsLikeSite node.home.site.now c.args.shard.now = record { heaps = sym c.heaps.ensures.same ∙ c.in_ok-judge.ensures.right.0.0; rule = sym c.rule.ensures ∙ c.in_ok-judge.ensures.right.1 } in
    let stopped : IsStateStopped c.args.shard.now node new = inl (refl, merge_stopped node.pass c.merge.new.pass c.args.shard.now c.merge.result _ c.in_err-merge.was (c.merge.ensures.called like)) in
    on_err _ _ stopped

pub returns-in_err-merge-clause-fault : goal.returns-in_err-merge-clause-fault
returns-in_err-merge-clause-fault g c =
    let site = c.args.self.now.home.site.now in
    let s = c.args.shard.now in
    let like : IsLikeSite site s = record { heaps = sym c.heaps.ensures.same ∙ c.in_ok-judge.ensures.right.0.0; rule = sym c.rule.ensures ∙ c.in_ok-judge.ensures.right.1 } in
    let within : s.heap < heaps_of site = omega (arith, c.heap.ensures.same, c.in_ok-judge.ensures.right.0.1) in
    let own = own_merge site s c.merge.result c.in_err-merge.field-0.0 c.in_err-merge.was like c.merge.ensures.wrong_heap c.merge.ensures.wrong_rule in
    if_err (IsFaultOf site (heard.State s)) c.from_residual-in_err-merge.result (unmerged c.in_err-merge.field-0.0) c.from_residual-in_err-merge.ensures.1 (own_fault site (heard.State s) (unmerged c.in_err-merge.field-0.0) own (like.heaps, within) like.rule)

pub returns-in_err-merge-clause-unheard : goal.returns-in_err-merge-clause-unheard
returns-in_err-merge-clause-unheard g c =
    let site = c.args.self.now.home.site.now in
    let s = c.args.shard.now in
    let like : IsLikeSite site s = record { heaps = sym c.heaps.ensures.same ∙ c.in_ok-judge.ensures.right.0.0; rule = sym c.rule.ensures ∙ c.in_ok-judge.ensures.right.1 } in
    let own = own_merge site s c.merge.result c.in_err-merge.field-0.0 c.in_err-merge.was like c.merge.ensures.wrong_heap c.merge.ensures.wrong_rule in
    let new : Node = record { home = c.args.self.now.home; pass = c.merge.new.pass; parked = c.args.self.now.parked } in
    if_err (λ f. IsOwnFault f ⊎ (new ≡ c.args.self.now)) c.from_residual-in_err-merge.result (unmerged c.in_err-merge.field-0.0) c.from_residual-in_err-merge.ensures.1 (inl own)

pub returns-in_err-settle_all-clause-stopped : goal.returns-in_err-settle_all-clause-stopped
returns-in_err-settle_all-clause-stopped g c =
    let node = c.args.self.now in
    let like : IsLikeSite node.home.site.now c.args.shard.now = record { heaps = sym c.heaps.ensures.same ∙ c.in_ok-judge.ensures.right.0.0; rule = sym c.rule.ensures ∙ c.in_ok-judge.ensures.right.1 } in
    let call = merge_called node.home.site.now node.pass c.merge.new.pass c.args.shard.now c.merge.result c.in_ok-merge.was like (c.merge.ensures.called like) in
    let stopped : IsStateStopped c.args.shard.now node c.settle_all.new.self = inr (c.merge.new.pass, call, c.in_err-settle_all.ensures.stopped) in
    on_err _ _ stopped

pub returns-in_err-settle_all-clause-fault : goal.returns-in_err-settle_all-clause-fault
returns-in_err-settle_all-clause-fault g c =
    let site = c.args.self.now.home.site.now in
    let s = c.args.shard.now in
    let like : IsLikeSite site s = record { heaps = sym c.heaps.ensures.same ∙ c.in_ok-judge.ensures.right.0.0; rule = sym c.rule.ensures ∙ c.in_ok-judge.ensures.right.1 } in
    let within : s.heap < heaps_of site = omega (arith, c.heap.ensures.same, c.in_ok-judge.ensures.right.0.1) in
    if_err (IsFaultOf site (heard.State s)) c.from_residual-in_err-settle_all.result c.in_err-settle_all.field-0.0 c.from_residual-in_err-settle_all.ensures.1
    (own_fault site (heard.State s) c.in_err-settle_all.field-0.0 c.in_err-settle_all.ensures.fault (like.heaps, within) like.rule)

pub returns-in_err-settle_all-clause-unheard : goal.returns-in_err-settle_all-clause-unheard
returns-in_err-settle_all-clause-unheard g c =
    if_err (λ f. IsOwnFault f ⊎ (c.settle_all.new.self ≡ c.args.self.now)) c.from_residual-in_err-settle_all.result c.in_err-settle_all.field-0.0 c.from_residual-in_err-settle_all.ensures.1 (inl c.in_err-settle_all.ensures.fault)

pub returns-clause-heard : goal.returns-clause-heard
returns-clause-heard g c =
    let node = c.args.self.now in
    let site = node.home.site.now in
    let s = c.args.shard.now in
    let like : IsLikeSite site s = record { heaps = sym c.heaps.ensures.same ∙ c.in_ok-judge.ensures.right.0.0; rule = sym c.rule.ensures ∙ c.in_ok-judge.ensures.right.1 } in
    let call = merge_called site node.pass c.merge.new.pass s c.merge.result c.in_ok-merge.was like (c.merge.ensures.called like) in
    let work = c.in_ok-settle_all.ensures.work in
    record {
      merged = c.merge.new.pass;
      called = call;
      work = work;
      covered = seen_after (Covers s) (covers_stays s) site c.merge.new.pass c.settle_all.new.self.pass s.heap work.calls work.called (merged_covers site node.pass c.merge.new.pass s call);
      wait = c.in_ok-settle_all.ensures.wait;
    }

pub returns-clause-right : goal.returns-clause-right
returns-clause-right g c =
    let site = c.args.self.now.home.site.now in
    let s = c.args.shard.now in
    let like : IsLikeSite site s = record { heaps = sym c.heaps.ensures.same ∙ c.in_ok-judge.ensures.right.0.0; rule = sym c.rule.ensures ∙ c.in_ok-judge.ensures.right.1 } in
    let within : s.heap < heaps_of site = omega (arith, c.heap.ensures.same, c.in_ok-judge.ensures.right.0.1) in
    ((like.heaps, within), like.rule)
