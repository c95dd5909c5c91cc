use Rattle.std.proofs.Common.{ap, arith, map, sum, ℕ, ◌∙◌, ◌≡◌}
use Rattle.std.proofs.lemmas.List.FromFn.{sum_by-map-range_with_len_more}
use Rattle.std.specs.List.{range_with_len}
use Rattle.zq_dots.proofs.Counters.{last_is, sites_is}
use Rattle.zq_model.specs.Sets.{SITES}
use Rattle.zq_follow.specs.Counts.{beyond_at}
use Rattle.zq_follow.proofs.counts.beyond.Goals as goal

pub overflow_add-count : goal.overflow_add-count
overflow_add-count c = omega (arith, last_is)

pub loop-number-preserved : goal.loop-number-preserved
loop-number-preserved c =
    let more = sum_by-map-range_with_len_more (λ n. n) (beyond_at c.args.sites.now c.args.one.now c.args.other.now) 0 c.loop-number.number c.loop-number.number (omega arith) in
    record { counted = grind arith; within = omega (arith, last_is) }

pub returns : goal.returns
returns c =
    let all : c.loop-number.number ≡ SITES = omega (arith, sites_is) in
    c.loop-number.invariant.counted
    ∙ ap (λ (n : ℕ). sum (map (beyond_at c.args.sites.now c.args.one.now c.args.other.now) (range_with_len 0 n))) all
