use Rattle.std.proofs.Common.{ap, arith, get_or, length, slice_set, subst, sym, ◌+◌, ◌<◌, ◌∙◌, ◌≡◌, ◌≤◌}
use Rattle.zq_backlog.proofs.Skips.{IsSkippedBelow, all_skipped, none_skipped, one_raised, one_stays}
use Rattle.zq_dots.proofs.Counters.{sites_is}
use Rattle.zq_model.specs.Sets.{LAST}
use Rattle.zq_backlog.proofs.backlog.skip_base.Goals as goal
use Rattle.zq_backlog.proofs.backlog.skip_base.Goals.{then-known-get, else-known-get}

pub loop-number-init : goal.loop-number-init
loop-number-init c = none_skipped c.args.base.now c.args.last.now c.args.v.now

pub loop-number-preserved : goal.loop-number-preserved
loop-number-preserved c =
    let i = c.loop-number.number in
    let old = c.args.base.now in
    let last = c.args.last.now in
    let v = c.args.v.now in
    let base = c.loop-number.base in
    let known : c.get-known.result ≡ get_or v i 0 = c.get-known.ensures.counter ∙ ap (λ s. get_or v s 0) c.site_of-site.ensures in
    let had : c.get.result ≡ get_or last i 0 = c.get.ensures.counter ∙ ap (λ s. get_or last s 0) c.site_of-site.ensures in
    let small : get_or v i 0 ≤ LAST = subst (λ n. n ≤ LAST) known c.get-known.ensures.bounded in
    let in' : i < length base = omega (arith, c.loop-number.invariant.wide, c.requires, sites_is, c.loop-number-test.true) in
    elim c.if-known-get.branch [
      | then-known-get w ↦
          subst (IsSkippedBelow old last v (i + 1))
          (sym (w.base-is ∙ w.set.ensures ∙ ap (λ s. slice_set base s c.get-known.result) c.site_of-site.ensures ∙ ap (slice_set base i) known))
          (one_raised old last v base i c.loop-number.invariant in' small (omega (arith, known, had, w.if-known-get.true)))
      | else-known-get w ↦
          subst (IsSkippedBelow old last v (i + 1)) (sym w.base-is)
          (one_stays old last v base i c.loop-number.invariant small (omega (arith, known, had, w.if-known-get.false)))
    ]

pub returns-clause-base : goal.returns-clause-base
returns-clause-base c =
    all_skipped c.args.base.now c.args.last.now c.args.v.now c.loop-number.base c.loop-number.number c.loop-number.invariant (omega (arith, sites_is, c.loop-number-test.false)) c.requires

pub returns-clause-bounded : goal.returns-clause-bounded
returns-clause-bounded c = λ t h. c.loop-number.invariant.bounded t (omega (arith, sites_is, c.loop-number-test.false))
