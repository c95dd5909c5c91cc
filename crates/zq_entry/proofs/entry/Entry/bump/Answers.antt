use Rattle.std.proofs.Common.{ap, arith, get_or, length, map, subst, sym, take_all, ◌*◌, ◌-◌, ◌<◌, ◌∙◌, ◌≡◌}
use Rattle.std.proofs.lemmas.Result.{on_ok_weaker}
use Rattle.zq_model.specs.Entry.{sum_at}
use Rattle.zq_model.specs.Image.{addition_at, entry_after}
use Rattle.zq_model.specs.Operation.{Bump, IsWithin, MOST}
use Rattle.zq_model.specs.Sets.{SITES}
use Rattle.zq_entry.specs.Changes.{bumped_placed}
use Rattle.zq_entry.specs.Lent.{lent}
use Rattle.zq_entry.specs.Placed.{dense_entry}
use Rattle.zq_model.specs.Rows.{OfSite}
use Rattle.zq_entry.proofs.EntryLemmas.{addition-at, bump-dense, rising-bumped, rising-either}
use Rattle.zq_entry.proofs.EntryWalks.{mapped-more}
use Rattle.zq_entry.proofs.entry.Entry.bump.Goals as goal

pub bumped-requires-clause-sums : goal.bumped-requires-clause-sums
bumped-requires-clause-sums c =
    let p = lent c.at-addition.result in
    let items = c.self.inside.additions in
    let inside : c.loop-place.place < length items = omega arith in
    let is = c.at-addition.ensures.addition p in
    let stands = ap (λ e. addition_at e (get_or items c.loop-place.place p).0) (sym c.self.view_is) ∙ addition-at items c.loop-place.place p c.self.invariant inside in
    subst (λ (q : OfSite). IsWithin (MOST * (c.args.dot.n - 1)) (sum_at q.1 c.args.dot.site)) (sym is) (c.requires.sums (get_or items c.loop-place.place p).0 (get_or items c.loop-place.place p).1 stands)

pub bump_only-requires-clause-sums : goal.bump_only-requires-clause-sums
bump_only-requires-clause-sums c d =
    let items = c.self.inside.additions in
    let inside : 0 < length items = omega (arith, c.len.ensures, c.if-len-eq1.true) in
    let stands = ap (λ e. addition_at e (get_or items 0 d).0) (sym c.self.view_is) ∙ addition-at items 0 d c.self.invariant inside in
    c.requires.sums (get_or items 0 d).0 (get_or items 0 d).1 stands

pub loop-place-preserved : goal.loop-place-preserved
loop-place-preserved c =
    let f = bumped_placed c.args.seen.now c.args.dot.site c.args.increment in
    let inside : c.loop-place.place < length c.self.inside.additions = omega arith in
    c.in_ok-push.ensures.pushed ∙ mapped-more f c.loop-place.bumped c.self.inside.additions c.loop-place.place c.in_ok-bumped.field-0 c.loop-place.invariant inside (λ d. c.in_ok-bumped.ensures ∙ ap f (c.at-addition.ensures.addition d))

pub invariant_of-self : goal.invariant_of-self
invariant_of-self c =
    let items = c.self.inside.additions in
    let f = bumped_placed c.args.seen.now c.args.dot.site c.args.increment in
    rising-either c.bump_only.result c.bump_only.new.self (map f items) items c.bump_only.ensures.bumped c.bump_only.ensures.refused
    (rising-bumped c.args.seen.now c.args.dot.site c.args.increment 0 SITES items c.self.invariant) c.self.invariant

pub returns-then-len-eq1-clause-bumped : goal.returns-then-len-eq1-clause-bumped
returns-then-len-eq1-clause-bumped c =
    on_ok_weaker c.bump_only.result
    (λ e. ap dense_entry e ∙ (bump-dense c.args.dot.site c.args.dot.n c.args.increment c.args.seen.now c.self.inside.additions ∙ ap (entry_after (Bump c.args.increment) c.args.dot.site c.args.dot.n c.args.seen.now) c.self.view_is))
    c.bump_only.ensures.bumped

pub invariant_of-self-2 : goal.invariant_of-self-2
invariant_of-self-2 c =
    let f = bumped_placed c.args.seen.now c.args.dot.site c.args.increment in
    let whole : c.loop-place.bumped ≡ map f c.self.inside.additions = c.loop-place.invariant ∙ ap (map f) (take_all c.loop-place.place c.self.inside.additions (omega arith)) in
    rw whole (rising-bumped c.args.seen.now c.args.dot.site c.args.increment 0 SITES c.self.inside.additions c.self.invariant)

pub returns-clause-bumped : goal.returns-clause-bumped
returns-clause-bumped c =
    let f = bumped_placed c.args.seen.now c.args.dot.site c.args.increment in
    let whole : c.loop-place.bumped ≡ map f c.self.inside.additions = c.loop-place.invariant ∙ ap (map f) (take_all c.loop-place.place c.self.inside.additions (omega arith)) in
    ap dense_entry whole ∙ (bump-dense c.args.dot.site c.args.dot.n c.args.increment c.args.seen.now c.self.inside.additions ∙ ap (entry_after (Bump c.args.increment) c.args.dot.site c.args.dot.n c.args.seen.now) c.self.view_is)
