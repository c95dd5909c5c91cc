use Rattle.std.proofs.Common.{Err, None, Ok, Some, ap, arith, refl, subst, sym, ◌+◌, ◌-◌}
use Rattle.zq_commands.proofs.ClearedKeys.{cleared_cut, cleared_last, cleared_out, dropped_first, dropped_next}
use Rattle.zq_commands.specs.Clearing.{Clears}
use Rattle.zq_commands.specs.declared.cleared.Cleared.{Cleared}
use Rattle.zq_commands.proofs.del.clear_key.Goals as goal

pub loop-done-init : goal.loop-done-init
loop-done-init g c = record {
  low = omega arith;
  dropped = dropped_first c.args.call.now.site c.args.call.now.stamp c.args.key.now (g.B.Books.lent c.args.books.now) (c.args.before - c.args.before) (omega arith);
  lent = c.requires.lent;
  dated = c.requires.dated;
  keeps = g.met.B.Books.keeps_itself _;
}

pub loop-done-preserved : goal.loop-done-preserved
loop-done-preserved g c =
    let dropped = c.in-Ok-true.ensures.dropped (ap (λ b. Ok b) c.in-Ok-true.field-0-test) in
    let n = c.loop-done.done - c.args.before in
    let low = c.loop-done.invariant.low in
    record {
      low = omega (arith, low);
      dropped = dropped_next c.args.call.now.site c.args.call.now.stamp c.args.key.now (g.B.Books.lent c.args.books.now) (g.B.Books.lent c.loop-done.books) (g.B.Books.lent c.drop_first.new.books)
          n (c.loop-done.done + 1 - c.args.before) (omega (arith, low)) c.loop-done.invariant.dropped dropped;
      lent = c.in-Ok-true.ensures.lent;
      dated = c.in-Ok-true.ensures.dated;
      keeps = g.met.B.Books.keeps_through _ _ _ c.loop-done.invariant.keeps c.in-Ok-true.ensures.keeps;
    }

pub returns-in-Ok-false-clause-cleared : goal.returns-in-Ok-false-clause-cleared
returns-in-Ok-false-clause-cleared g c =
    let none = ap (λ b. Ok b) c.in-Ok-false.field-0-test in
    let s = g.B.Books.lent c.args.books.now in
    let low = c.loop-done.invariant.low in
    let cleared : Cleared = record { done = c.loop-done.done; cut = None } in
    subst (λ u. Clears c.args.call.now.site c.args.call.now.stamp c.args.key.now c.args.before s u cleared) (sym (c.in-Ok-false.ensures.idle none))
    (cleared_out c.args.call.now.site c.args.call.now.stamp c.args.key.now s (g.B.Books.lent c.loop-done.books) c.args.before (c.loop-done.done - c.args.before) c.loop-done.invariant.dropped
    cleared (omega (arith, low)) refl (c.in-Ok-false.ensures.empty none))

pub returns-in-Err-clause-cleared : goal.returns-in-Err-clause-cleared
returns-in-Err-clause-cleared g c =
    let s = g.B.Books.lent c.args.books.now in
    let low = c.loop-done.invariant.low in
    let cleared : Cleared = record { done = c.loop-done.done; cut = Some c.in-Err.cut } in
    subst (λ u. Clears c.args.call.now.site c.args.call.now.stamp c.args.key.now c.args.before s u cleared) (sym c.in-Err.ensures.refused)
    (cleared_cut c.args.call.now.site c.args.call.now.stamp c.args.key.now s (g.B.Books.lent c.loop-done.books) c.args.before (c.loop-done.done - c.args.before) c.loop-done.invariant.dropped
    cleared (omega (arith, low)) c.in-Err.cut refl (λ e. c.in-Err.ensures.worn (ap (λ cut. Err cut) e)) c.in-Err.ensures.there)

pub returns-clause-cleared : goal.returns-clause-cleared
returns-clause-cleared g c =
    let s = g.B.Books.lent c.args.books.now in
    let low = c.loop-done.invariant.low in
    let cleared : Cleared = record { done = c.loop-done.done; cut = c.cut_at_last.result } in
    cleared_last c.args.call.now.site c.args.call.now.stamp c.args.key.now s (g.B.Books.lent c.loop-done.books) c.args.before (c.loop-done.done - c.args.before) c.loop-done.invariant.dropped
    cleared (omega (arith, low)) c.cut_at_last.ensures.none c.cut_at_last.ensures.some c.cut_at_last.ensures.there
