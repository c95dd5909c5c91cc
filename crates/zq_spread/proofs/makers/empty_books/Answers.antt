use Rattle.std.proofs.Common.{ap, arith, inl, inr, length, subst, sym, ◌∙◌}
use Rattle.std.proofs.lemmas.List.{length_push}
use Rattle.std.specs.Prelude.{Some, slice_get, ℕ, ◌≡◌}
use Rattle.zq_dots.specs.Rule.{rule_of}
use Rattle.zq_journal.specs.Books.{opened}
use Rattle.zq_journal.specs.Limits.{limits_of}
use Rattle.zq_model.specs.Books.{Book}
use Rattle.zq_model.specs.Image.{empty_image}
use Rattle.zq_shard.specs.Shard.{HeapImage}
use Rattle.zq_spread.proofs.Places.{behind}
use Rattle.zq_spread.proofs.makers.empty_books.Goals as goal

pub loop-heap-preserved : goal.loop-heap-preserved
loop-heap-preserved c =
    let old = c.loop-heap.books.items in
    let new = c.empty_book-book.result in
    let items = c.in_ok-push.ensures.items in
    let made = c.new_ruled-shard.ensures in
    let empty : ℕ → HeapImage = λ h. record { heap = h; heaps = c.args.heaps; rule = rule_of c.args.rule; image = empty_image } in
    let within : HeapImage → Book = λ s. record (opened s 0 0) { limits = limits_of c.args.limits } in
    let shard : c.new_ruled-shard.result ≡ empty c.loop-heap.heap =
    λ i. record { heap = made.heap i; heaps = made.heaps i; rule = made.rule i; image = made.image i } in
    record {
      number = let long = ap length items in let more = length_push old new in omega (arith, long, more, c.loop-heap.invariant.number);
      empty = λ h book at. elim (behind old new book h (subst (λ l. slice_get l h ≡ Some book) items at)) [
        | inl there ↦ c.loop-heap.invariant.empty h book there
        | inr last ↦ (
            let place : c.loop-heap.heap ≡ h = sym c.loop-heap.invariant.number ∙ sym last.0 in
            sym last.1 ∙ c.empty_book-book.ensures ∙ ap within (shard ∙ ap empty place))
      ];
    }
