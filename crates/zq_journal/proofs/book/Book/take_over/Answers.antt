use Rattle.std.proofs.Common.{List, [], ap, arith, length, rules, subst, sym, tests, true, ◌++◌, ◌+◌, ◌∙◌, ◌∷◌, ◌≡◌}
use Rattle.zq_model.specs.Books.{Book, TookOver, taken_over}
use Rattle.zq_model.specs.Reach.{IsWorked}
use Rattle.zq_journal.specs.Limits.{limits_of}
use Rattle.zq_journal.proofs.BoundedTails.{bounded_state}
use Rattle.zq_journal.proofs.Entered.{opened_stands, taken_over_is}
use Rattle.zq_journal.specs.BookView.{records_of}
use Rattle.zq_journal.specs.Books.{LAST_STAMP}
use Rattle.zq_journal.specs.Records.{Record, bytes_kept_in, records_in}
use Rattle.zq_model.specs.Sets.{SITES, covers}
use Rattle.zq_journal.proofs.book.Book.take_over.Goals as goal

pub invariant_of-self : goal.invariant_of-self
unfolding LAST_STAMP
invariant_of-self c =
    let none : records_in c.swap.new.x c.vector-3.result.now c.clear.new.self.items ≡ [] = ap (records_in c.swap.new.x c.vector-3.result.now) c.clear.ensures.items in
    record {
      standing =
          opened_stands c.swap.new.x c.vector-3.result.now (records_in c.swap.new.x c.vector-3.result.now c.clear.new.self.items) (limits_of c.self.inside.limits) c.self.inside.handed c.args.stamp (c.self.inside.count + 1) none c.vector-3.ensures.same
          c.vector-3.ensures.kept.bounded c.requires.bounded (omega (arith, c.if-self-eq-LAST_COUNT.false, c.self.invariant.standing.last_count));
      bytes = ap bytes_kept_in (sym c.clear.ensures.items);
    }

pub returns-clause-worked : goal.returns-clause-worked
returns-clause-worked c = λ a steps is.
    let left : List Record = records_in c.swap.new.x c.vector-3.result.now c.clear.new.self.items in
    let none : left ≡ [] = ap (records_in c.swap.new.x c.vector-3.result.now) c.clear.ensures.items in
    let heap : c.args.other.now.heap ≡ c.self.inside.shard.heap = search (rules, tests) in
    let heaps : c.args.other.now.heaps ≡ c.self.inside.shard.heaps = search (rules, tests) in
    let rule : c.args.other.now.rule ≡ c.self.inside.shard.rule = search (rules, tests) in
    let covered : covers c.args.other.now.image.vector c.args.self.now.state.vector ≡ true = search (rules, tests) in
    let bounded = bounded_state c.self.inside.shard c.self.inside.vector (records_of c.self.inside) (limits_of c.self.inside.limits) c.self.inside.handed c.self.inside.stamp c.self.inside.count c.self.invariant.standing in
    let wide : length c.args.self.now.state.vector ≡ SITES = ap (λ (q : Book). length q.state.vector) (sym c.self.view_is) ∙ bounded.counters.wide in
    let after = taken_over_is c.self.inside.shard c.swap.new.x c.self.inside.vector c.vector-3.result.now (records_of c.self.inside) left (limits_of c.self.inside.limits) c.self.inside.handed c.self.inside.stamp c.args.stamp c.self.inside.count
    c.args.other.now c.swap.ensures.x_after heap heaps rule c.vector-3.ensures.same none
    ∙ ap (λ q. taken_over q c.args.stamp c.args.other.now.image) c.self.view_is in
    subst (λ (q : Book). IsWorked q a c.args.stamp (steps ++ TookOver c.args.stamp c.args.other.now.image ∷ [])) (sym after)
    (c.working.ensures.takes_over c.args.self.now a c.args.stamp steps c.args.other.now.image is wide covered)
