use Rattle.std.proofs.Common.{List, [], ap, arith, length, subst, sym, ℕ, ◌+◌, ◌++◌, ◌∙◌, ◌∷◌, ◌≡◌}
use Rattle.zq_commands.proofs.SitePlaces.{AreEmpty, empty_next, empty_site}
use Rattle.zq_commands.specs.SiteBooks.{empty_book}
use Rattle.zq_dots.specs.Rule.{rule_of}
use Rattle.zq_model.specs.Books.{Book}
use Rattle.zq_model.specs.Bounded.{IsBounded}
use Rattle.zq_commands.proofs.site_books.SiteBooks.new.Goals as goal

length_behind : {X : Type 0} (xs : List X) (x : X) → length (xs ++ x ∷ []) ≡ length xs + 1
length_behind [] x = omega arith
length_behind (y ∷ xs) x = let rest = length_behind xs x in omega (arith, rest)

pub loop-heap-preserved : goal.loop-heap-preserved
loop-heap-preserved c =
    let K = c.args.heaps in
    let rule = rule_of c.args.rule in
    let books = c.loop-heap.books.items in
    let next = c.empty.result in
    let same : next ≡ empty_book K rule (length books) = c.empty.ensures.empty ∙ ap (empty_book K rule) (sym c.loop-heap.invariant.number) in
    let bounded = subst (λ (k : ℕ). IsBounded k next.heap next.state) (ap (λ (b : Book). b.heaps) same) c.empty.ensures.bounded in
    let items = c.in_ok-push.ensures.items in
    record {
      number = let long = ap length items in let more = length_behind books next in omega (arith, long, more, c.loop-heap.invariant.number);
      empty = subst (AreEmpty K rule) (sym items) (empty_next K rule books next c.loop-heap.invariant.empty same bounded);
    }

pub invariant_of-result : goal.invariant_of-result
invariant_of-result c =
    let all : length c.loop-heap.books.items ≡ c.args.heaps = omega (arith, c.loop-heap.invariant.number, c.loop-heap-test.false, c.loop-heap.auto.heap-end) in
    empty_site c.args.heaps (rule_of c.args.rule) c.loop-heap.books.items c.requires.heaps all c.loop-heap.invariant.empty
