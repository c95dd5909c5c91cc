use Rattle.std.proofs.Common.{List, Some, [], ap, arith, inl, inr, length, subst, suc, sym, zero, ℕ, ◌∙◌, ◌≡◌}
use Rattle.std.proofs.lemmas.List.{length_push}
use Rattle.std.specs.Prelude.{slice_get}
use Rattle.zq_commands.proofs.SitePlaces.{get_behind}
use Rattle.zq_dots.specs.Rule.{rule_of}
use Rattle.zq_model.specs.Books.{Book}
use Rattle.zq_model.specs.Image.{image_of}
use Rattle.zq_semantics.specs.Books.{IsBookOf}
use Rattle.zq_semantics.specs.Runs as runs
use Rattle.zq_world.proofs.opening.empty_books.Goals as goal

none_in : (h : ℕ) (b : Book) → slice_get [] h ≡ Some b → ⊥
none_in zero b at = absurd (cc)
none_in (suc h) b at = absurd (cc)

pub loop-heap-init : goal.loop-heap-init
loop-heap-init c = record { number = omega arith; each = λ site h b at. absurd (none_in h b (ap (λ (xs : List Book). slice_get xs h) (sym c.new-books.ensures.items) ∙ at)) }

pub loop-heap-preserved : goal.loop-heap-preserved
loop-heap-preserved c =
    let books = c.loop-heap.books.items in
    let next = c.new-in-loop-heap.result in
    let shard = c.new_ruled-shard.ensures in
    let opened = c.new-in-loop-heap.ensures in
    let items = c.in_ok-push.ensures.items in
    let is : (site : ℕ) → IsBookOf (rule_of c.args.rule) c.args.heaps runs.opening site c.loop-heap.heap next = λ site. record {
      heap = ap (λ (b : Book). b.heap) opened ∙ shard.heap;
      heaps = ap (λ (b : Book). b.heaps) opened ∙ shard.heaps;
      ruled = ap (λ (b : Book). b.rule) opened ∙ shard.rule;
      state = ap (λ (b : Book). b.state) opened ∙ shard.set.image ∙ ap (image_of []) shard.heap;
      stamp = ap (λ (b : Book). b.stamp) opened;
      count = ap (λ (b : Book). b.count) opened;
    } in
    record {
      number = let long = ap length items in let more = length_push books next in omega (arith, long, more, c.loop-heap.invariant.number);
      each = λ site h b at. elim (get_behind books next h b (ap (λ xs. slice_get xs h) (sym items) ∙ at)) [
        | inl here ↦ c.loop-heap.invariant.each site h b here
        | inr last ↦
            let place : c.loop-heap.heap ≡ h = sym c.loop-heap.invariant.number ∙ sym last.0 in
            subst (λ (d : Book). IsBookOf (rule_of c.args.rule) c.args.heaps runs.opening site h d) last.1
            (subst (λ (k : ℕ). IsBookOf (rule_of c.args.rule) c.args.heaps runs.opening site k next) place (is site))
      ];
    }

pub returns : goal.returns
returns c = λ site. record {
  number = omega (arith, c.loop-heap.invariant.number, c.loop-heap-test.false, c.loop-heap.auto.heap-end);
  each = c.loop-heap.invariant.each site;
}
