use Rattle.std.proofs.Common.{ap, arith, refl, subst, sym, ◌∙◌, ◌≡◌}
use Rattle.std.proofs.lemmas.List.{append-nil, length-map}
use Rattle.std.specs.FinMap.{get}
use Rattle.std.specs.Prelude.{Some, length}
use Rattle.zq_dots.specs.Rule.{rule_of}
use Rattle.zq_shard.proofs.AllStanding.{all_stand}
use Rattle.zq_shard.proofs.Pieces.{entry_handed, row_handed}
use Rattle.zq_shard.specs.Listed.{lent_place}
use Rattle.zq_shard.specs.Queues.{Keyed}
use Rattle.zq_shard.specs.Standing.{left}
use Rattle.zq_shard.specs.Walk.{AreStanding}
use Rattle.zq_shard.specs.declared.row.RowRef.{RowRef}
use Rattle.zq_shard.proofs.queues.Queues.walk.Goals as goal

pub loop-next-init : goal.loop-next-init
loop-next-init c = rw c.new-rows.ensures.items (record {
  parts = sym (append-nil (left c.args.self.now.order c.args.spot));
  entries = refl;
  few = omega arith;
})

pub loop-next-preserved : goal.loop-next-preserved
loop-next-preserved c =
    let rows = c.loop-next.rows.items in
    let more = c.push.new.self.items in
    let is = c.in_ok-push.ensures.items in
    let so = c.loop-next.invariant in
    record {
      parts = row_handed lent_place c.args.self.now.order c.args.spot c.loop-next.next c.in-Some.at rows more c.in-Some.row is c.in-Some.ensures.last so.parts;
      entries = entry_handed (λ (row : RowRef). get c.args.self.now.members (lent_place row)) (λ row. Some row.entry.now) rows more c.in-Some.row is c.in-Some.ensures.entry so.entries;
      few = omega (arith, c.loop-next-test.true, c.len.ensures, c.in_ok-push.ensures.len, c.loop-next.rows.ok.0, c.push.new.self.ok.0);
    }

pub returns-in_default-clause-standing : goal.returns-in_default-clause-standing
returns-in_default-clause-standing c = subst AreStanding c.self.view_is (all_stand (rule_of c.self.inside.rule) c.self.inside.queues.entries c.self.invariant)

pub returns-in_err-push-clause-standing : goal.returns-in_err-push-clause-standing
returns-in_err-push-clause-standing c = subst AreStanding c.self.view_is (all_stand (rule_of c.self.inside.rule) c.self.inside.queues.entries c.self.invariant)

pub returns-clause-standing : goal.returns-clause-standing
returns-clause-standing c = subst AreStanding c.self.view_is (all_stand (rule_of c.self.inside.rule) c.self.inside.queues.entries c.self.invariant)

pub returns-in_default-clause-numbers : goal.returns-in_default-clause-numbers
returns-in_default-clause-numbers c =
    let keys : length c.args.self.now.order ≡ c.len-keys.result
    = ap (λ (s : Keyed). length s.order) (sym c.self.view_is) ∙ length-map c.self.inside.queues.entries (λ e. (e.0, e.1.places)) ∙ sym c.len-keys.ensures.len in
    omega (arith, keys, c.len-keys.ensures.small)

pub returns-in_err-push-clause-numbers : goal.returns-in_err-push-clause-numbers
returns-in_err-push-clause-numbers c =
    let keys : length c.args.self.now.order ≡ c.len-keys.result
    = ap (λ (s : Keyed). length s.order) (sym c.self.view_is) ∙ length-map c.self.inside.queues.entries (λ e. (e.0, e.1.places)) ∙ sym c.len-keys.ensures.len in
    omega (arith, keys, c.len-keys.ensures.small)

pub returns-clause-numbers : goal.returns-clause-numbers
returns-clause-numbers c =
    let keys : length c.args.self.now.order ≡ c.len-keys.result
    = ap (λ (s : Keyed). length s.order) (sym c.self.view_is) ∙ length-map c.self.inside.queues.entries (λ e. (e.0, e.1.places)) ∙ sym c.len-keys.ensures.len in
    omega (arith, keys, c.len-keys.ensures.small)
