use Rattle.std.proofs.Common.{All, subst, ◌∷◌, ◌≡◌}
use Rattle.std.proofs.lemmas.List.Elements.{All-tail}
use Rattle.zq_session.proofs.MadeAndLent.{AreBeingLent, all_lent, lent_next, none_left}
use Rattle.zq_session.proofs.lending.lend_all.Goals as goal
use Rattle.zq_session.specs.LentSites.{AreOwn}

pub loop-one-preserved : goal.loop-one-preserved
loop-one-preserved c =
    let rest = c.next.new.self.s.now in
    let whole = c.into_iter-one-iterator.result.s.now in
    let had = c.loop-one.lent.items in
    let steps : c.loop-one.one-iterator.s.now ≡ c.in-Some.one.now ∷ rest = c.in-Some.ensures.steps in
    let all = subst (All AreOwn) steps c.loop-one.invariant.0 in
    let before = subst (λ left. AreBeingLent whole had left) steps c.loop-one.invariant.1 in
    (All-tail AreOwn c.in-Some.one.now rest all, lent_next whole had c.in-Some.one.now rest c.in_ok-site.site c.push.new.self.items c.in_ok-push.ensures.items c.in_ok-site.ensures before)

pub returns : goal.returns
returns c = λ plans made.
    let whole = c.into_iter-one-iterator.result.s.now in
    let is : whole ≡ c.args.made.now = cc (c.into_iter-one-iterator.ensures.into_iter_gives, c.iter_mut-rest.ensures.rest) in
    all_lent c.args.made.now c.loop-one.lent.items c.loop-one.one-iterator.s.now (none_left _ c.in-None.ensures.steps.0)
    (subst (λ w. AreBeingLent w c.loop-one.lent.items c.loop-one.one-iterator.s.now) is c.loop-one.invariant.1) plans made
