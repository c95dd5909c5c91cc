use Rattle.std.proofs.Common.{Bool, None, arith, false, get_or, not, refl, rules, sym, true, ◌&&◌, ◌==◌, ◌||◌, ◌∙◌, ◌≡◌}
use Rattle.std.proofs.lemmas.Bool.{and_from, and_left, or_left}
use Rattle.std.proofs.lemmas.List.{get_or_read}
use Rattle.std.specs.Prelude.{slice_index_or}
use Rattle.zq_dots.proofs.Counters.{sites_is}
use Rattle.zq_model.proofs.Sites.{by_site_from}
use Rattle.zq_follow.proofs.Filling.{filled_more}
use Rattle.zq_follow.specs.Routes.{is_relayed}
use Rattle.zq_follow.proofs.class.class_of.Goals as goal
use Rattle.zq_follow.proofs.class.class_of.Goals.{then-ne+then-eq, then-ne+else-eq, else-ne}

-- another site than the peer, and not this one, is pushed where it is relayed
left_to_relays : (other own relayed : Bool) → other ≡ true → own ≡ false →
    relayed ≡ (other && (own || relayed))
left_to_relays true false relayed is not_own = refl
left_to_relays true true relayed is not_own = absurd (cc)
left_to_relays false own relayed is not_own = absurd (cc)

pub loop-number-preserved : goal.loop-number-preserved
loop-number-preserved c =
    let i = c.loop-number.number in
    let source : get_or c.args.sources.now i c.index-sources-number.result ≡ get_or c.args.sources.now i None = sym c.index-sources-number.is ∙ get_or_read c.args.sources.now i c.index-sources-number.result (omega arith) c.index-sources-number.is None in
    let relayed : c.is_relayed-is_relayed.result ≡ is_relayed c.args.peer c.args.asked.now c.args.far.now c.args.reach.now i (get_or c.args.sources.now i None) = cc in
    record {
      wide = search rules;
      done = filled_more (λ o. not (o == c.args.peer) && ((o == c.args.own) || is_relayed c.args.peer c.args.asked.now c.args.far.now c.args.reach.now o (slice_index_or c.args.sources.now o None))) c.loop-number.held i c.if-ne.held false (omega (arith, sites_is)) c.loop-number.invariant.done
          (elim c.if-ne.branch [
            | then-ne+then-eq w ↦ (let other : not (i == c.args.peer) ≡ true = cc in
                let own : (i == c.args.own) ≡ true = cc in
                w.held-is ∙ (w.if-eq.true ∙ sym (and_from _ _ other (or_left _ _ own))))
            | then-ne+else-eq w ↦ (let other : not (i == c.args.peer) ≡ true = cc in
                let own : (i == c.args.own) ≡ false = cc in
                w.held-is ∙ (relayed ∙ left_to_relays _ _ _ other own))
            | else-ne w ↦ (let same : not (i == c.args.peer) ≡ false = cc in w.held-is ∙ (w.if-ne.false ∙ sym (and_left _ _ same)))
          ]);
    }

pub returns : goal.returns
returns c =
    c.from_array.ensures
    ∙ by_site_from (λ o. not (o == c.args.peer) && ((o == c.args.own) || is_relayed c.args.peer c.args.asked.now c.args.far.now c.args.reach.now o (slice_index_or c.args.sources.now o None))) c.loop-number.held false c.loop-number.invariant.wide (λ t below. c.loop-number.invariant.done t (omega (arith, sites_is)))
