use Rattle.std.proofs.Common.{Some, [], ap, false, length, max, min, rules, sym, true, ◌∙◌, ◌∷◌, ◌≡◌}
use Rattle.std.proofs.lemmas.Bool.{cond-false, cond-true}
use Rattle.std.specs.Prelude.{is_some, slice_get}
use Rattle.zq_commands.specs.FirstPairs.{lent_pair}
use Rattle.zq_commands.specs.VecBooks.{rule_in}
use Rattle.zq_model.specs.Books.{Book}
use Rattle.zq_model.specs.Lent.{queues_of}
use Rattle.zq_model.specs.Moves.{Queue}
use Rattle.zq_semantics.specs.Plan.{is_there}
use Rattle.zq_posheap.proofs.Lists.{is_some-map, there_is}
use Rattle.zq_semantics.specs.Doing.{first_drawn, second_drawn}
use Rattle.zq_world.proofs.Nearest.{first_there}
use Rattle.zq_world.proofs.near.nearest.Goals as goal
use Rattle.zq_world.proofs.near.nearest.Goals.{After-top}

-- the first pair of the nearer book is the first of both that are drawn
both_first : (c : After-top) (low high near : Book) → slice_get c.args.books.now.items (min (first_drawn (length c.args.books.now.items) c.args.w1) (second_drawn (length c.args.books.now.items) c.args.w1 c.args.w2)) ≡ Some low →
    slice_get c.args.books.now.items (max (first_drawn (length c.args.books.now.items) c.args.w1) (second_drawn (length c.args.books.now.items) c.args.w1 c.args.w2)) ≡ Some high →
    slice_get c.args.books.now.items c.lesser-near.result ≡ Some near →
    slice_get (queues_of (rule_in c.args.books.now.items) (near ∷ []) c.args.key.now) 0 ≡ slice_get (queues_of (rule_in c.args.books.now.items) (low ∷ high ∷ []) c.args.key.now) 0
both_first c low high near at_low at_high at_near =
    let books = c.args.books.now.items in
    let long = ap length c.as_slice.ensures.value in
    let least = c.min.ensures ∙ ap (λ n. min (first_drawn n c.args.w1) (second_drawn n c.args.w1 c.args.w2)) long in
    let greatest = c.max.ensures ∙ ap (λ n. max (first_drawn n c.args.w1) (second_drawn n c.args.w1 c.args.w2)) long in
    c.lesser-near.ensures.first low high near (ap (slice_get books) least ∙ at_low) (ap (slice_get books) greatest ∙ at_high) at_near ∙ sym (c.heading.ensures.first (rule_in books) c.args.key.now low (high ∷ []))

-- both have a first pair where the nearer book's top is there
has_first : (c : After-top) (low high near : Book) → slice_get c.args.books.now.items (min (first_drawn (length c.args.books.now.items) c.args.w1) (second_drawn (length c.args.books.now.items) c.args.w1 c.args.w2)) ≡ Some low →
    slice_get c.args.books.now.items (max (first_drawn (length c.args.books.now.items) c.args.w1) (second_drawn (length c.args.books.now.items) c.args.w1 c.args.w2)) ≡ Some high →
    slice_get c.args.books.now.items c.lesser-near.result ≡ Some near → is_there (queues_of (rule_in c.args.books.now.items) (low ∷ high ∷ []) c.args.key.now) ≡ is_some c.top.result
has_first c low high near at_low at_high at_near =
    let q = queues_of (rule_in c.args.books.now.items) (low ∷ high ∷ []) c.args.key.now in
    sym (first_there q) ∙ ap is_some (sym (both_first c low high near at_low at_high at_near) ∙ sym (c.top.ensures near at_near)) ∙ is_some-map lent_pair c.top.result

pub returns-then-is_some-clause-first : goal.returns-then-is_some-clause-first
returns-then-is_some-clause-first c = λ low high near at_low at_high at_near.
    let d = (goal.at.returns-then-is_some-clause-first c).After-top in
    let books = c.args.books.now.items in
    let key = c.args.key.now in
    let both = queues_of (rule_in books) (low ∷ high ∷ []) key in
    let some : is_some c.top.result ≡ true = search rules in
    both_first d low high near at_low at_high at_near
    ∙ ap (λ (q : Queue). slice_get q 0) (sym (cond-true (is_there both) both (queues_of (rule_in books) books key) (has_first d low high near at_low at_high at_near ∙ some)))

pub returns-else-is_some-clause-first : goal.returns-else-is_some-clause-first
returns-else-is_some-clause-first c = λ low high near at_low at_high at_near.
    let d = (goal.at.returns-else-is_some-clause-first c).After-top in
    let books = c.args.books.now.items in
    let key = c.args.key.now in
    let both = queues_of (rule_in books) (low ∷ high ∷ []) key in
    let none : is_some c.top.result ≡ false = search rules in
    let its = there_is books c.lesser-near.result c.lesser-near.ensures.inside in
    c.least_of.ensures.first near at_near
    ∙ ap (λ (q : Queue). slice_get q 0) (sym (cond-false (is_there both) both (queues_of (rule_in books) books key) (has_first d low high its.0 at_low at_high its.1 ∙ none)))
