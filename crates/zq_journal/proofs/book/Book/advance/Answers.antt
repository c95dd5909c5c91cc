use Rattle.std.proofs.Common.{List, [], ap, arith, drop, length, refl, subst, sym, take, ℕ, ◌∙◌, ◌≡◌}
use Rattle.zq_model.specs.Books.{Book, advanced, replayed}
use Rattle.zq_model.specs.Reach.{IsReachedBy}
use Rattle.zq_journal.specs.Limits.{limits_of}
use Rattle.zq_journal.proofs.CutOff.{IsMoved, cut_is, cut_stands}
use Rattle.zq_journal.proofs.Lasts.{length_tail}
use Rattle.zq_journal.proofs.Wholes.{dropped_over, taken_over, vector_after}
use Rattle.zq_journal.specs.BookView.{book_of, records_of}
use Rattle.zq_journal.specs.Records.{Record, bytes_kept_in, records_in, vector_over, written_in}
use Rattle.zq_journal.specs.declared.records.Record as code
use Rattle.zq_model.specs.Image.{Image}
use Rattle.zq_shard.specs.Shard.{HeapImage}
use Rattle.zq_journal.proofs.book.Book.advance.Goals as goal

pub move_over-requires : goal.move_over-requires
move_over-requires c =
    let long : length c.self.inside.tail.items ≡ length c.args.self.now.tail =
    sym (length_tail c.self.inside.shard c.self.inside.vector c.self.inside.tail.items) ∙ ap (λ (b : Book). length b.tail) c.self.view_is in
    omega (arith, long, c.requires)

pub lighten-requires-clause-records : goal.lighten-requires-clause-records
lighten-requires-clause-records c =
    let long : length c.self.inside.tail.items ≡ length c.args.self.now.tail =
    sym (length_tail c.self.inside.shard c.self.inside.vector c.self.inside.tail.items) ∙ ap (λ (b : Book). length b.tail) c.self.view_is in
    omega (arith, long, c.requires)

pub drain-requires-clause-in_bounds : goal.drain-requires-clause-in_bounds
drain-requires-clause-in_bounds c =
    let long : length c.self.inside.tail.items ≡ length c.args.self.now.tail =
    sym (length_tail c.self.inside.shard c.self.inside.vector c.self.inside.tail.items) ∙ ap (λ (b : Book). length b.tail) c.self.view_is in
    omega (arith, long, c.requires, c.self.inside.tail.ok.0)

-- the vector that the base moves to
over_is : (c : goal.After-drop-drain) → c.move_over.new.vector ≡ vector_over c.self.inside.shard.heap c.self.inside.shard.heaps c.self.inside.vector (take c.args.records c.self.inside.tail.items)
over_is c = c.move_over.ensures c.self.inside.shard.heap c.self.inside.shard.heaps

moved_is : (c : goal.After-drop-drain) → IsMoved c.args.records c.self.inside.shard c.self.inside.vector c.move_over.new.vector (records_of c.self.inside)
moved_is c =
    let s : HeapImage = c.self.inside.shard in
    let v : List ℕ = c.self.inside.vector in
    let a : Image = (book_of c.self.inside).base in
    over_is c
    ∙ sym (ap (λ rs. (replayed (written_in rs) a).vector) (taken_over c.args.records s.heap s.heaps v c.self.inside.tail.items)
    ∙ vector_after s.heap s.heaps v (take c.args.records c.self.inside.tail.items) a refl)

left_is : (c : goal.After-drop-drain) → records_in c.self.inside.shard c.move_over.new.vector c.drop-drain.new.self.0.items ≡ drop c.args.records (records_of c.self.inside)
left_is c =
    let s : HeapImage = c.self.inside.shard in
    let items : List code.Record = c.self.inside.tail.items in
    ap (records_in s c.move_over.new.vector) (c.drop-drain.ensures.items ∙ c.drain.ensures.kept)
    ∙ ap (λ w. records_in s w (drop c.args.records items)) (over_is c)
    ∙ dropped_over c.args.records s.heap s.heaps c.self.inside.vector items

pub invariant_of-self : goal.invariant_of-self
invariant_of-self c =
    let left : List Record = records_in c.self.inside.shard c.move_over.new.vector c.drop-drain.new.self.0.items in
    record {
      standing =
          cut_stands c.args.records c.self.inside.shard c.self.inside.vector c.move_over.new.vector (records_of c.self.inside) left (limits_of c.self.inside.limits) c.self.inside.handed c.self.inside.stamp c.self.inside.count c.self.invariant.standing
          (moved_is c) (left_is c) (c.keeping.ensures.advance c.args.records (book_of c.self.inside) c.self.invariant.standing.book);
      bytes = c.lighten.ensures ∙ ap bytes_kept_in (sym (c.drop-drain.ensures.items ∙ c.drain.ensures.kept));
    }

pub returns-clause-advanced : goal.returns-clause-advanced
returns-clause-advanced c =
    let left : List Record = records_in c.self.inside.shard c.move_over.new.vector c.drop-drain.new.self.0.items in
    cut_is c.args.records c.self.inside.shard c.self.inside.vector c.move_over.new.vector (records_of c.self.inside) left (limits_of c.self.inside.limits) c.self.inside.handed c.self.inside.stamp c.self.inside.count c.self.invariant.standing
    (moved_is c) (left_is c)
    ∙ ap (advanced c.args.records) c.self.view_is

pub returns-clause-reached : goal.returns-clause-reached
returns-clause-reached c = λ most.
    subst (λ (q : Book). IsReachedBy q c.args.self.now []) (sym (returns-clause-advanced c)) (c.reaching.ensures.advances c.args.records c.args.self.now most)
