use Rattle.std.proofs.Common.{ap, arith, drop, get_or, inl, inr, length, ltb, slice_set, subst, sym, ◌&&◌, ◌+◌, ◌<◌, ◌∙◌, ◌≡◌}
use Rattle.std.proofs.lemmas.Bool.{cases_lt}
use Rattle.std.proofs.lemmas.List.{get_or_default, length-drop, length-take}
use Rattle.zq_backlog.proofs.Chosen.{IsChosen, chosen_passed, chosen_taken, taken_in}
use Rattle.zq_backlog.specs.Batch.{IsOpen, MOST_LOOKED, is_of, is_wanted}
use Rattle.zq_backlog.specs.Written.{dot_of, nothing}
use Rattle.zq_backlog.specs.declared.choice.Choice.{Choice}
use Rattle.zq_dots.specs.Placed.{Placed}
use Rattle.zq_dots.specs.declared.dot.Dot.{Dot}
use Rattle.zq_backlog.proofs.backlog.Backlog.choose.Goals as goal
use Rattle.zq_backlog.proofs.backlog.Backlog.choose.Goals.{then-is_wanted, else-is_wanted}

pub returns-then-is_full-clause-looked : goal.returns-then-is_full-clause-looked
returns-then-is_full-clause-looked c =
    let ops = c.args.self.now.ops in
    let from = c.args.from in
    let i = c.loop-number.number in
    let looked_is : i ≡ c.loop-number.choice.looked = sym c.loop-number.invariant.looked in
    record {
      within = omega (arith, c.loop-number.invariant.looked, c.loop-number-test.true, c.min-until.ensures, c.len.ensures, length-take MOST_LOOKED (drop from ops), length-drop from ops);
      before = λ j h. c.loop-number.invariant.before j (omega (arith, c.loop-number.invariant.looked));
      ends = λ more open'.
          let here : IsOpen c.args.allow (taken_in c.args.class.now c.args.sent.now ops from i) = subst (λ k. IsOpen c.args.allow (taken_in c.args.class.now c.args.sent.now ops from k)) (sym looked_is) open' in
          elim c.if-is_full.ensures [ inl many ↦ omega (arith, c.loop-number.invariant.count, here.0) | inr long ↦ omega (arith, c.loop-number.invariant.bytes, here.1) ];
    }

pub loop-number-preserved : goal.loop-number-preserved
loop-number-preserved c =
    let ops = c.args.self.now.ops in
    let from = c.args.from in
    let class = c.args.class.now in
    let sent = c.args.sent.now in
    let i = c.loop-number.number in
    let had = c.loop-number.choice in
    let inv = c.loop-number.invariant in
    let few : i < MOST_LOOKED = omega (arith, c.loop-number-test.true, c.min-until.ensures) in
    let in' : from + i < length ops = omega (arith, c.loop-number-test.true, c.min-until.ensures, c.len.ensures) in
    let o : Placed = get_or ops (from + i) nothing in
    let own : o ≡ get_or ops (from + i) o = get_or_default ops (from + i) nothing o in' in
    let dot : c.dot_at-site.result ≡ dot_of o = c.dot_at-site.ensures.dot o own in
    let want : c.is_wanted.result ≡ is_wanted class had.sent o = c.is_wanted.ensures ∙ ap (λ (d : Dot). is_of class d.site && ltb (get_or had.sent d.site 0) d.n) dot in
    let chosen : IsChosen class sent ops from i had.count had.bytes had.sent = record { count = inv.count; bytes = inv.bytes; after = inv.sent } in
    let open' : IsOpen c.args.allow (taken_in class sent ops from i) = (omega (arith, inv.count, c.if-is_full.ensures.0), omega (arith, inv.bytes, c.if-is_full.ensures.1)) in
    let next : IsChosen class sent ops from (i + 1) c.if-is_wanted.choice.count c.if-is_wanted.choice.bytes c.if-is_wanted.choice.sent = elim c.if-is_wanted.branch [
      | then-is_wanted w ↦
          let t = chosen_taken class sent ops from i had.count had.bytes had.sent o chosen few in' own (sym want ∙ w.if-is_wanted.true) in
          record {
            count = ap (λ (x : Choice). x.count) w.choice-is ∙ t.count;
            bytes = ap (λ (x : Choice). x.bytes) w.choice-is ∙ ap (λ n. had.bytes + n) (w.len_at.ensures.exact o own) ∙ t.bytes;
            after = ap (λ (x : Choice). x.sent) w.choice-is ∙ w.set.ensures ∙ ap (λ (d : Dot). slice_set had.sent d.site d.n) dot ∙ t.after;
          }
      | else-is_wanted w ↦
          let p = chosen_passed class sent ops from i had.count had.bytes had.sent o chosen few in' own (sym want ∙ w.if-is_wanted.false) in
          record {
            count = ap (λ (x : Choice). x.count) w.choice-is ∙ p.count;
            bytes = ap (λ (x : Choice). x.bytes) w.choice-is ∙ p.bytes;
            after = ap (λ (x : Choice). x.sent) w.choice-is ∙ p.after;
          }
    ] in
    let looked : c.if-is_wanted.choice.looked ≡ i = elim c.if-is_wanted.branch [
      | then-is_wanted w ↦ ap (λ (x : Choice). x.looked) w.choice-is ∙ inv.looked
      | else-is_wanted w ↦ ap (λ (x : Choice). x.looked) w.choice-is ∙ inv.looked
    ] in
    record {
      looked = omega (arith, looked);
      count = next.count;
      bytes = next.bytes;
      sent = next.after;
      before = λ j h. elim (cases_lt j i) [
        | inl less ↦ inv.before j less
        | inr not_less ↦
            let same : i ≡ j = omega arith in
            subst (λ k. IsOpen c.args.allow (taken_in class sent ops from k)) same open'
      ];
      few = elim c.if-is_wanted.branch [
        | then-is_wanted w ↦
            let is : c.if-is_wanted.choice.bytes ≡ had.bytes + w.len_at.result = ap (λ (x : Choice). x.bytes) w.choice-is in
            omega (arith, is, w.len_at.ensures.most, c.if-is_full.ensures.1)
        | else-is_wanted w ↦
            let is : c.if-is_wanted.choice.bytes ≡ had.bytes = ap (λ (x : Choice). x.bytes) w.choice-is in
            omega (arith, is, inv.few)
      ];
      most = elim c.if-is_wanted.branch [
        | then-is_wanted w ↦
            let is : c.if-is_wanted.choice.count ≡ had.count + 1 = ap (λ (x : Choice). x.count) w.choice-is in
            omega (arith, is, inv.most)
        | else-is_wanted w ↦
            let is : c.if-is_wanted.choice.count ≡ had.count = ap (λ (x : Choice). x.count) w.choice-is in
            omega (arith, is, inv.most)
      ];
    }

pub returns-clause-looked : goal.returns-clause-looked
returns-clause-looked c =
    let ops = c.args.self.now.ops in
    let from = c.args.from in
    record {
      within = omega (arith, c.loop-number.invariant.looked, c.loop-number.auto.number-end, c.min-until.ensures, c.len.ensures, length-take MOST_LOOKED (drop from ops), length-drop from ops);
      before = λ j h. c.loop-number.invariant.before j (omega (arith, c.loop-number.invariant.looked));
      ends = λ more open'. omega (arith, more, c.loop-number.invariant.looked, c.loop-number-test.false, c.min-until.ensures, c.len.ensures, length-take MOST_LOOKED (drop from ops), length-drop from ops);
    }
