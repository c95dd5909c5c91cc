use Rattle.std.proofs.Common.{ap, arith, false, get_or, length, sym, take_all, true, ◌&&◌, ◌<◌, ◌∙◌, ◌≡◌}
use Rattle.std.proofs.lemmas.List.Folds.{list_all_at, list_all_more}
use Rattle.std.specs.List.{list_all}
use Rattle.std.specs.Prelude.{List}
use Rattle.zq_entry.specs.Lent.{lent}
use Rattle.zq_entry.specs.Placed.{placed_of}
use Rattle.zq_model.specs.Rows.{OfSite}
use Rattle.zq_queue.specs.Effects.{is_seen}
use Rattle.zq_queue.proofs.changes.has_all.Goals as goal

pub returns-then-not-has : goal.returns-then-not-has
returns-then-not-has c =
    let p : OfSite = lent c.at.result in
    let xs : List OfSite = placed_of c.args.entry.now in
    let inside : c.loop-place.place < length xs = omega arith in
    let off : is_seen c.args.seen.now (get_or xs c.loop-place.place p) ≡ false = ap (is_seen c.args.seen.now) (sym (c.at.ensures.addition p)) ∙ sym c.has.ensures ∙ c.if-not-has.true in
    sym (list_all_at (is_seen c.args.seen.now) xs c.loop-place.place p inside off)

pub loop-place-preserved : goal.loop-place-preserved
loop-place-preserved c =
    let p : OfSite = lent c.at.result in
    let xs : List OfSite = placed_of c.args.entry.now in
    let inside : c.loop-place.place < length xs = omega arith in
    let on : is_seen c.args.seen.now (get_or xs c.loop-place.place p) ≡ true = ap (is_seen c.args.seen.now) (sym (c.at.ensures.addition p)) ∙ sym c.has.ensures ∙ c.if-not-has.false in
    list_all_more (is_seen c.args.seen.now) xs c.loop-place.place p inside
    ∙ (λ k. c.loop-place.invariant k && on k)

pub returns : goal.returns
returns c =
    sym (ap (list_all (is_seen c.args.seen.now)) (sym (take_all c.loop-place.place (placed_of c.args.entry.now) (omega arith))) ∙ c.loop-place.invariant)
