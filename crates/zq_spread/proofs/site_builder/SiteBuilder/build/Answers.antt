use Rattle.std.proofs.Common.{ap, append-nil, append_assoc, arith, rules, subst, sym, ◌∙◌}
use Rattle.std.specs.Prelude.{List, Some, [], length, refl, slice_get, ◌++◌, ◌≡◌, ◌∷◌}
use Rattle.std.specs.Vec.Iter.{into_iter_items}
use Rattle.zq_dots.specs.Rule.{rule_of}
use Rattle.zq_model.specs.Books.{Book}
use Rattle.zq_spread.proofs.Places.{length_two, next_is, nothing_left}
use Rattle.zq_spread.proofs.Settled.{ready}
use Rattle.zq_spread.proofs.site_builder.SiteBuilder.build.Goals as goal
use Rattle.zq_spread.specs.SiteBuilders.{AreSettled, IsGround}

pub loop-book-init : goal.loop-book-init
loop-book-init c =
    let all = c.into_iter-book-iterator.ensures.into_iter_gives.0 in
    record {
      items = refl;
      left = search rules;
      builder = subst (λ (l : List Book). IsGround (length l) (length c.args.self.passes.items) c.args.self.rule [] c.args.self) (sym all) c.requires.builder;
    }

pub build_next-requires-clause-ready : goal.build_next-requires-clause-ready
build_next-requires-clause-ready c =
    let at = c.loop-book in
    let book : Book = c.in-Some.book in
    let steps : into_iter_items at.book-iterator ≡ book ∷ into_iter_items c.next.new.self = c.in-Some.ensures.steps.0 in
    let all = c.into_iter-book-iterator.ensures.into_iter_gives.0 in
    let whole = subst (λ (l : List Book). at.yielded ++ l ≡ into_iter_items c.into_iter-book-iterator.result) steps at.invariant.items in
    let long = sym (ap length whole) ∙ length_two at.yielded (book ∷ into_iter_items c.next.new.self) in
    let few = c.requires.bounded in
    ready _ _ _ at.yielded at.self at.invariant.builder (omega (arith, long)) few

pub build_next-requires-clause-book : goal.build_next-requires-clause-book
build_next-requires-clause-book c =
    let at = c.loop-book in
    let book : Book = c.in-Some.book in
    let steps : into_iter_items at.book-iterator ≡ book ∷ into_iter_items c.next.new.self = c.in-Some.ensures.steps.0 in
    let all = c.into_iter-book-iterator.ensures.into_iter_gives.0 in
    let whole = subst (λ (l : List Book). at.yielded ++ l ≡ into_iter_items c.into_iter-book-iterator.result) steps at.invariant.items in
    let here : slice_get c.args.books.items (length at.yielded) ≡ Some book =
    subst (λ (l : List Book). slice_get l (length at.yielded) ≡ Some book) (whole ∙ all) (next_is at.yielded (into_iter_items c.next.new.self) book) in
    record {
      heap_is = c.requires.books.heap (length at.yielded) book here ∙ sym at.invariant.builder.settled.number;
      heaps_are = c.requires.books.heaps (length at.yielded) book here ∙ sym (ap length all) ∙ sym at.invariant.builder.heaps_are;
      rule_is = c.requires.rule (length at.yielded) book here ∙ ap (λ r. rule_of r) (sym at.invariant.builder.rule_is);
    }

pub loop-book-preserved : goal.loop-book-preserved
loop-book-preserved c =
    let at = c.loop-book in
    let book : Book = c.in-Some.book in
    let steps : into_iter_items at.book-iterator ≡ book ∷ into_iter_items c.next.new.self = c.in-Some.ensures.steps.0 in
    record {
      items = append_assoc at.yielded (book ∷ []) _ ∙ rw (← steps) at.invariant.items;
      left = let was = at.invariant.left in let gone = c.in-Some.ensures.steps.1 in let short = ap length steps in omega arith;
      builder = c.build_next.ensures.settled _ _ _ at.yielded at.invariant.builder;
    }

pub returns : goal.returns
returns c =
    let at = c.loop-book in
    let none = c.in-None.ensures.steps in
    let empty : into_iter_items at.book-iterator ≡ [] = nothing_left _ (sym at.invariant.left ∙ none.0) in
    let gives = c.into_iter-book-iterator.ensures.into_iter_gives.0 in
    let all = sym (append-nil at.yielded) ∙ rw empty at at.invariant.items ∙ gives in
    subst (λ (l : List Book). AreSettled (length c.args.books.items) (length c.args.self.passes.items) c.args.self.rule l at.self.slots.items at.self.passes.items) all
    (subst (λ (l : List Book). AreSettled (length l) (length c.args.self.passes.items) c.args.self.rule at.yielded at.self.slots.items at.self.passes.items) gives at.invariant.builder.settled)
