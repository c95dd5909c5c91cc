use Rattle.std.proofs.Common.{List, [], ap, arith, length, subst, sym, ◌++◌, ◌+◌, ◌∙◌, ◌∷◌, ◌≡◌}
use Rattle.zq_model.specs.Books.{Book, Merged, merged}
use Rattle.zq_model.specs.Reach.{IsWorked}
use Rattle.zq_journal.specs.Limits.{limits_of}
use Rattle.zq_journal.proofs.BoundedTails.{bounded_state}
use Rattle.zq_journal.proofs.Entered.{merged_is, opened_stands}
use Rattle.zq_journal.specs.BookView.{records_of}
use Rattle.zq_journal.specs.Books.{LAST_STAMP}
use Rattle.zq_journal.specs.Records.{Record, bytes_kept_in, records_in}
use Rattle.zq_model.specs.Sets.{SITES}
use Rattle.zq_journal.proofs.book.Book.merge.Goals as goal

pub invariant_of-self-2 : goal.invariant_of-self-2
unfolding LAST_STAMP
invariant_of-self-2 c =
    let none : records_in c.merge.new.self c.vector.result.now c.clear.new.self.items ≡ [] = ap (records_in c.merge.new.self c.vector.result.now) c.clear.ensures.items in
    record {
      standing =
          opened_stands c.merge.new.self c.vector.result.now (records_in c.merge.new.self c.vector.result.now c.clear.new.self.items) (limits_of c.self.inside.limits) c.self.inside.handed c.args.stamp (c.self.inside.count + 1) none c.vector.ensures.same
          c.vector.ensures.kept.bounded c.requires.bounded (omega (arith, c.if-self-eq-LAST_COUNT.false, c.self.invariant.standing.last_count));
      bytes = ap bytes_kept_in (sym c.clear.ensures.items);
    }

pub returns-clause-merged : goal.returns-clause-merged
returns-clause-merged c =
    let left : List Record = records_in c.merge.new.self c.vector.result.now c.clear.new.self.items in
    let none : left ≡ [] = ap (records_in c.merge.new.self c.vector.result.now) c.clear.ensures.items in
    merged_is c.self.inside.shard c.merge.new.self c.self.inside.vector c.vector.result.now (records_of c.self.inside) left (limits_of c.self.inside.limits) c.self.inside.handed c.self.inside.stamp c.args.stamp c.self.inside.count
    c.args.other.now.image c.merge.ensures.heap c.merge.ensures.heaps c.merge.ensures.rule c.in-Ok.ensures.joined c.vector.ensures.same none
    ∙ ap (λ q. merged q c.args.stamp c.args.other.now.image) c.self.view_is

pub returns-clause-worked : goal.returns-clause-worked
returns-clause-worked c = λ a steps is.
    let bounded = bounded_state c.self.inside.shard c.self.inside.vector (records_of c.self.inside) (limits_of c.self.inside.limits) c.self.inside.handed c.self.inside.stamp c.self.inside.count c.self.invariant.standing in
    let wide : length c.args.self.now.state.vector ≡ SITES = ap (λ (q : Book). length q.state.vector) (sym c.self.view_is) ∙ bounded.counters.wide in
    subst (λ (q : Book). IsWorked q a c.args.stamp (steps ++ Merged c.args.stamp c.args.other.now.image ∷ [])) (sym (returns-clause-merged c))
    (c.working.ensures.merges c.args.self.now a c.args.stamp steps c.args.other.now.image is wide)
