use Rattle.std.proofs.Common.{ap, arith, get_or, subst, sym, ◌∙◌, ◌≡◌, ◌≤◌}
use Rattle.zq_dots.proofs.Counters.{sites_is}
use Rattle.std.specs.Cmp.Lexicographic.{same_text}
use Rattle.zq_batch.specs.Spelling.{moved}
use Rattle.zq_model.specs.Sets.{SITES}
use Rattle.zq_batch.proofs.Risen.{all_rise, counted_more, moved_none, moved_still, rises_more}
use Rattle.zq_batch.proofs.changes.count_changes.Goals as goal

pub loop-number-init : goal.loop-number-init
loop-number-init c = record {
  count = sym (moved_none 0 c.args.base.now.known c.args.seen.now);
  few = omega arith;
  rises = λ t below. absurd (omega arith);
}

pub loop-number-preserved : goal.loop-number-preserved
loop-number-preserved c =
    let from = c.get-known.ensures.counter ∙ ap (λ t. get_or c.args.base.now.known t 0) c.site_of-site.ensures in
    let to = c.get-n.ensures.counter ∙ ap (λ t. get_or c.args.seen.now t 0) c.site_of-site.ensures in
    record {
      count = counted_more c.loop-number.number c.loop-number.count c.one_if_less-count.result c.get-known.result c.get-n.result c.args.base.now.known c.args.seen.now c.loop-number.invariant.count c.one_if_less-count.ensures.one from to;
      few = omega arith;
      rises = rises_more c.loop-number.number c.get-known.result c.get-n.result c.args.base.now.known c.args.seen.now from to (omega arith) c.loop-number.invariant.rises;
    }

pub returns-then-eq : goal.returns-then-eq
returns-then-eq c =
    let same : c.args.base.now.known ≡ c.args.seen.now = same_text c.args.base.now.known c.args.seen.now c.if-eq.ensures in
    let top = c.get.ensures.counter in (
      subst (λ v. 0 ≡ moved SITES 0 c.args.base.now.known v) same (sym (moved_still SITES 0 c.args.base.now.known)),
      record {
        rises = λ t. subst (λ v. get_or c.args.base.now.known t 0 ≤ get_or v t 0) same (omega arith);
        own = omega arith;
      },
    )

pub returns : goal.returns
returns c =
    let end : c.loop-number.number ≡ SITES = omega (arith, sites_is) in
    let top = c.get.ensures.counter in (
      subst (λ k. c.loop-number.count ≡ moved k 0 c.args.base.now.known c.args.seen.now) end c.loop-number.invariant.count,
      record {
        rises = all_rise c.args.base.now.known c.args.seen.now c.requires.known (λ t below. c.loop-number.invariant.rises t (omega arith));
        own = omega arith;
      },
    )
