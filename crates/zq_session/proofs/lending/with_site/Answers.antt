use Rattle.std.proofs.Common.{All, length, subst, ◌++◌, ◌≡◌, ◌∷◌}
use Rattle.std.proofs.lemmas.List.Elements.{All-tail}
use Rattle.std.specs.Prelude.{replicate}
use Rattle.std.specs.Vec.Iter.{into_iter_items}
use Rattle.zq_session.proofs.MadeAndLent.{own_more}
use Rattle.zq_session.proofs.lending.with_site.Goals as goal
use Rattle.zq_session.specs.LentSites.{sites_of}
use Rattle.zq_spread.specs.Passes.{IsPassOf}

pub loop-pass-preserved : goal.loop-pass-preserved
loop-pass-preserved c =
    let site = c.args.site.now in
    let rest = into_iter_items c.next.new.self in
    let whole = into_iter_items c.into_iter-pass-iterator.result in
    let had = c.loop-pass.own.items in
    let steps : into_iter_items c.loop-pass.pass-iterator ≡ c.in-Some.pass ∷ rest = c.in-Some.ensures.steps.0 in
    let all = subst (All (IsPassOf site)) steps c.loop-pass.invariant.0 in
    let before = subst (λ passes. sites_of had ++ replicate (length passes) site ≡ replicate (length whole) site) steps c.loop-pass.invariant.1 in
    (All-tail (IsPassOf site) c.in-Some.pass rest all, own_more site had c.push.new.self.items c.new.result (length rest) (replicate (length whole) site) c.in_ok-push.ensures.items c.new.ensures.site before)
