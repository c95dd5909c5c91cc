use Rattle.std.proofs.Common.{[], arith, rules, subst, sym, ◌+◌, ◌∷◌, ◌≡◌}
use Rattle.std.specs.Prelude.{length, ◌≤◌}
use Rattle.std.specs.Vec.{vec_capacity}
use Rattle.zq_spread.proofs.Stays.{shown_more}
use Rattle.zq_spread.proofs.site.Site.watch.Goals as goal
use Rattle.zq_spread.specs.Answers.{IsShown}
use Rattle.zq_spread.specs.Calls.{IsCall, heaps_of}
use Rattle.zq_spread.specs.Watching.{AreShown}
use Rattle.zq_spread.specs.Worn.{IsWornIn}

pub loop-heap-preserved : goal.loop-heap-preserved
loop-heap-preserved g c =
    let l = c.loop-heap.invariant in
    let before = c.args.pass.now in
    let mid = c.loop-heap.pass in
    let after = c.vector.new.pass in
    let shown = c.loop-heap.vectors.items in
    let vector = c.in-Ok-vector.vector in
    let number = l.number in
    let at : c.loop-heap.heap ≡ 0 + length shown = omega (arith, number) in
    let call : IsCall (IsShown vector) mid after ((0 + length shown) ∷ []) = subst (λ h. IsCall (IsShown vector) mid after (h ∷ [])) at c.in-Ok-vector.ensures.called in
    let more : length c.push_reserved.new.self.items ≡ c.loop-heap.heap + 1 = search rules in
    let room : heaps_of c.args.self.now ≤ vec_capacity c.push_reserved.new.self = search rules in
    record {
      pass = c.in-Ok-vector.ensures.pass;
      shown = subst (λ vectors. AreShown before 0 vectors after) (sym c.push_reserved.ensures.items) (shown_more before mid after 0 shown vector l.shown call);
      number = more;
      room = room;
    }

pub returns-in_default-vector-clause-worn : goal.returns-in_default-vector-clause-worn
returns-in_default-vector-clause-worn g c = λ _.
    let l = c.loop-heap.invariant in (
      c.loop-heap.vectors.items,
      c.loop-heap.pass,
      l.shown,
      subst (λ h. IsWornIn (h ∷ []) c.loop-heap.pass c.vector.new.pass) (sym l.number) c.in_default-vector.ensures.refused,
    )
