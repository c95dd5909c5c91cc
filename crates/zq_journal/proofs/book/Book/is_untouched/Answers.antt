use Rattle.std.proofs.Common.{List, ap, refl, rules, sym, true, ℕ, ◌∙◌, ◌≡◌}
use Rattle.std.specs.List.{list_all}
use Rattle.std.specs.Prelude.{◌&&◌}
use Rattle.zq_journal.proofs.Apart.{all_placed}
use Rattle.zq_journal.proofs.Counting.{missing_from}
use Rattle.zq_journal.proofs.Missing.{missing_is}
use Rattle.zq_journal.specs.BookView.{book_of, records_of}
use Rattle.zq_journal.specs.Limits.{limits_of}
use Rattle.zq_journal.specs.Untouched.{is_apart, is_untouched, keys_of}
use Rattle.zq_model.specs.Books.{operations_of}
use Rattle.zq_model.specs.Sets.{covers}
use Rattle.zq_model.specs.Tail.{lacking}
use Rattle.zq_shard.specs.Shard.{HeapImage}
use Rattle.zq_journal.proofs.book.Book.is_untouched.Goals as goal

pub returns : goal.returns
returns c =
    let s : HeapImage = c.self.inside.shard in
    let v : List ℕ = c.args.vector.now in
    let keys : List (List ℕ) = keys_of c.args.keys.now in
    let seen : List ℕ = c.of-start.result.seen in
    let ops = lacking v (operations_of (book_of c.self.inside).tail) in
    let tested : c.covers.result ≡ true = search rules in
    let covered : covers v c.self.inside.vector ≡ true = sym c.covers.ensures.value ∙ tested in
    c.are_apart.ensures s.heap s.heaps seen
    ∙ ap (list_all (λ p. is_apart keys p.operation))
    (missing_from s c.self.inside.vector c.self.inside.tail.items (limits_of c.self.inside.limits) c.self.inside.handed c.self.inside.stamp c.self.inside.count c.self.invariant.standing
    s.heap s.heaps c.of-start.result.place c.vector-last.result.now seen refl refl c.vector-last.ensures.same (c.of-start.ensures.seen s.heap s.heaps) v (c.of-start.ensures.covered covered)
    ∙ missing_is s.heap s.heaps v (records_of c.self.inside) c.self.invariant.standing.each)
    ∙ all_placed keys s.heaps ops
    ∙ ap (λ b. b && list_all (is_apart keys) ops) (sym covered)
    ∙ ap (is_untouched v keys) c.self.view_is
