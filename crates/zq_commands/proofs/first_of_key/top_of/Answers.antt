use Rattle.std.proofs.Common.{[], ap, arith, drop, length, option_map, sym, ◌+◌, ◌-◌, ◌∙◌, ◌∷◌, ◌≡◌, ◌≤◌}
use Rattle.std.proofs.lemmas.List.{drop_all}
use Rattle.std.specs.Prelude.{slice_get}
use Rattle.zq_commands.proofs.FirstPairs.{no_queue, of_either}
use Rattle.zq_commands.proofs.RanPlans.{drop_at}
use Rattle.zq_commands.specs.FirstPairs.{top_pair}
use Rattle.zq_commands.specs.Lending.{IsHomeAt}
use Rattle.zq_model.specs.Lent.{queues_of}
use Rattle.zq_model.specs.Merging.{least}
use Rattle.zq_posheap.proofs.Lists.{there_is}
use Rattle.zq_commands.proofs.first_of_key.top_of.Goals as goal

pub loop-place-init : goal.loop-place-init
loop-place-init g c =
    let lent = g.B.Books.lent c.args.books.now in
    let all : length lent.books ≤ c.len-place.result = omega (arith, c.len-place.ensures.number) in
    record {
      within = omega (arith, c.len-place.ensures.number);
      top = sym (ap (λ books. slice_get (queues_of lent.rule books c.args.key.now) 0) (drop_all c.len-place.result lent.books all) ∙ ap (λ q. slice_get q 0) (no_queue lent.rule lent.heaps c.args.key.now));
      home = tt;
    }

pub loop-place-preserved : goal.loop-place-preserved
loop-place-preserved g c =
    let lent = g.B.Books.lent c.args.books.now in
    let place = c.loop-place.place - 1 in
    let key = c.args.key.now in
    let book = there_is lent.books place (omega (arith, c.loop-place.invariant.within, c.loop-place-test.true)) in
    let next : c.loop-place.place ≡ place + 1 = omega (arith, c.loop-place-test.true) in
    let here : option_map top_pair c.top_at.result ≡ slice_get (queues_of lent.rule (book.0 ∷ []) key) 0 = c.top_at.ensures.top book.0 book.1 in
    record {
      within = omega (arith, c.loop-place.invariant.within);
      top =
          c.lesser-top.ensures.least
          ∙ ap (λ t. least t (option_map top_pair c.loop-place.top)) here
          ∙ ap (least (slice_get (queues_of lent.rule (book.0 ∷ []) key) 0)) (c.loop-place.invariant.top ∙ ap (λ n. slice_get (queues_of lent.rule (drop n lent.books) key) 0) next)
          ∙ sym (c.heading.ensures.first lent.rule key book.0 (drop (place + 1) lent.books))
          ∙ sym (ap (λ books. slice_get (queues_of lent.rule books key) 0) (drop_at lent.books place book.0 book.1));
      home = of_either (λ top. IsHomeAt key top.pair.1.now top.place lent) c.lesser-top.result c.top_at.result c.loop-place.top c.lesser-top.ensures.either c.top_at.ensures.home c.loop-place.invariant.home;
    }
