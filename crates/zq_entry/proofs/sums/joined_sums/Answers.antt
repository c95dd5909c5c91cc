use Rattle.std.proofs.Common.{ap, None, rules, sym, Some, ◌∙◌, ◌≡◌, append-nil}
use Rattle.std.proofs.lemmas.Int.{to_z-of_z}
use Rattle.std.specs.Int.{w128}
use mir.Val.{SFits, of_z, to_z}
use Rattle.zq_entry.specs.Sparse.{head_of, lower}
use Rattle.zq_entry.specs.Sums.{dense_sums, sum_joined}
use Rattle.zq_entry.proofs.MergeLemmas.{merged-done, rising-merged}
use Rattle.zq_entry.proofs.SumLemmas.{joined-dense, nothing-joined}
use Rattle.zq_entry.proofs.SumWalks.{turn}
use Rattle.zq_entry.proofs.sums.joined_sums.Goals as goal

pub loop-site-preserved-in_ok-push : goal.loop-site-preserved-in_ok-push
loop-site-preserved-in_ok-push c =
    let u = c.args.mine.now in
    let v = c.args.theirs.now in
    let s = c.in-Some.site in
    let head = ap (λ x. lower x (head_of c.loop-site.their_rest.now)) (sym c.head_site.ensures) ∙ (ap (lower c.head_site.result) (sym c.head_site-in-loop-site.ensures) ∙ (sym c.lower_site.ensures ∙ c.in-Some.is)) in
    let fits : SFits w128 c.in-Some-joined_sum.sum = search rules in
    let sum : Some (to_z w128 (of_z w128 c.in-Some-joined_sum.sum)) ≡ sum_joined u v s c.cut-my_sum.result.0 c.cut-their_sum.result.0 =
    ap Some (to_z-of_z w128 c.in-Some-joined_sum.sum fits) ∙ (sym c.in-Some-joined_sum.is ∙ c.joined_sum.ensures) in
    let t = turn u v s (Some (to_z w128 (of_z w128 c.in-Some-joined_sum.sum))) c.loop-site.my_rest.now c.loop-site.their_rest.now c.push.new.self.items c.loop-site.items.items c.loop-site.invariant.mine c.loop-site.invariant.theirs c.loop-site.invariant.each head
    (sum ∙ (ap (λ x. sum_joined u v s x c.cut-their_sum.result.0) c.cut-my_sum.ensures.first ∙ ap (sum_joined u v s _) c.cut-their_sum.ensures.first)) c.in_ok-push.ensures.items in
    rw (c.cut-my_sum.ensures.rest, c.cut-their_sum.ensures.rest) (record { joined = t.joined ∙ c.loop-site.invariant.joined; each = t.each; mine = t.mine; theirs = t.theirs })

pub loop-site-preserved : goal.loop-site-preserved
loop-site-preserved c =
    let u = c.args.mine.now in
    let v = c.args.theirs.now in
    let s = c.in-Some.site in
    let head = ap (λ x. lower x (head_of c.loop-site.their_rest.now)) (sym c.head_site.ensures) ∙ (ap (lower c.head_site.result) (sym c.head_site-in-loop-site.ensures) ∙ (sym c.lower_site.ensures ∙ c.in-Some.is)) in
    let t = turn u v s None c.loop-site.my_rest.now c.loop-site.their_rest.now c.loop-site.items.items c.loop-site.items.items c.loop-site.invariant.mine c.loop-site.invariant.theirs c.loop-site.invariant.each head
    (sym c.in_default-joined_sum.is ∙ (c.joined_sum.ensures ∙ (ap (λ x. sum_joined u v s x c.cut-their_sum.result.0) c.cut-my_sum.ensures.first ∙ ap (sum_joined u v s _) c.cut-their_sum.ensures.first))) (sym (append-nil c.loop-site.items.items)) in
    rw (c.cut-my_sum.ensures.rest, c.cut-their_sum.ensures.rest) (record { joined = t.joined ∙ c.loop-site.invariant.joined; each = t.each; mine = t.mine; theirs = t.theirs })

pub of-requires : goal.of-requires
of-requires c =
    let u = c.args.mine.now in
    let v = c.args.theirs.now in
    let none = ap (λ x. lower x (head_of c.loop-site.their_rest.now)) (sym c.head_site.ensures) ∙ (ap (lower c.head_site.result) (sym c.head_site-in-loop-site.ensures) ∙ (sym c.lower_site.ensures ∙ c.in_default.is)) in
    let whole = sym (merged-done (sum_joined u v) c.loop-site.items.items c.loop-site.my_rest.now c.loop-site.their_rest.now (nothing-joined u v) none) ∙ c.loop-site.invariant.joined in
    record {
      rising = rw whole (rising-merged (sum_joined u v) c.args.my_sums.now c.args.their_sums.now);
      each = c.loop-site.invariant.each;
    }

pub returns : goal.returns
returns c =
    let u = c.args.mine.now in
    let v = c.args.theirs.now in
    let none = ap (λ x. lower x (head_of c.loop-site.their_rest.now)) (sym c.head_site.ensures) ∙ (ap (lower c.head_site.result) (sym c.head_site-in-loop-site.ensures) ∙ (sym c.lower_site.ensures ∙ c.in_default.is)) in
    let whole = sym (merged-done (sum_joined u v) c.loop-site.items.items c.loop-site.my_rest.now c.loop-site.their_rest.now (nothing-joined u v) none) ∙ c.loop-site.invariant.joined in
    c.of.ensures ∙ ap dense_sums whole ∙ joined-dense u v c.args.my_sums.now c.args.their_sums.now
