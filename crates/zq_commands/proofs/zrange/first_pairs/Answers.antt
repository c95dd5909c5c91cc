use Rattle.std.proofs.Common.{[], subst, ap, arith, drop, length, map, option_map, sym, take, ◌+◌, ◌-◌, ◌∙◌, ◌∷◌, ◌≡◌, ◌≤◌}
use Rattle.std.proofs.lemmas.List.{drop_all, length-map, length-take}
use Rattle.std.specs.Prelude.{filter}
use Rattle.zq_commands.proofs.FirstPairs.{no_queue}
use Rattle.zq_commands.proofs.RanPlans.{drop_at}
use Rattle.zq_commands.proofs.Runs.{lent_behind, run_none, run_woven}
use Rattle.zq_commands.specs.FirstPairs.{lent_pair}
use Rattle.zq_commands.specs.Starts.{is_read}
use Rattle.zq_commands.specs.Weaving.{woven}
use Rattle.zq_model.specs.Lent.{AreLent, queues_of}
use Rattle.zq_semantics.specs.Ranges.{turned_if}
use Rattle.zq_posheap.proofs.Lists.{there_is}
use Rattle.zq_commands.proofs.zrange.first_pairs.Goals as goal

pub loop-place-init : goal.loop-place-init
loop-place-init g c =
    let lent = g.B.Books.lent c.args.books.now in
    let section = c.args.section.now in
    let p = is_read c.args.is_turned (option_map lent_pair c.args.first) section.min section.max in
    let all : length lent.books ≤ c.len-place.result = omega (arith, c.len-place.ensures.number) in
    let none = ap (λ books. queues_of lent.rule books c.args.key.now) (drop_all c.len-place.result lent.books all) ∙ no_queue lent.rule lent.heaps c.args.key.now in
    record {
      within = omega (arith, c.len-place.ensures.number);
      pairs = ap (map lent_pair) c.new-pairs.ensures.items ∙ sym (run_none c.args.is_turned p c.args.most _ none);
    }

pub merge-requires : goal.merge-requires
merge-requires g c =
    let lent = g.B.Books.lent c.args.books.now in
    let section = c.args.section.now in
    let p = is_read c.args.is_turned (option_map lent_pair c.args.first) section.min section.max in
    let place = c.loop-place.place - 1 in
    let book = there_is lent.books place (omega (arith, c.loop-place.invariant.within, c.loop-place-test.true)) in
    let run = c.in_ok-run.ensures book.0 book.1 in
    omega (
      arith,
      ap length run,
      length-map c.in_ok-run.run'.items lent_pair,
      length-take c.args.most (filter p (turned_if c.args.is_turned (queues_of lent.rule (book.0 ∷ []) c.args.key.now))),
    )

pub loop-place-preserved : goal.loop-place-preserved
loop-place-preserved g c =
    let lent = g.B.Books.lent c.args.books.now in
    let section = c.args.section.now in
    let key = c.args.key.now in
    let t = c.args.is_turned in
    let most = c.args.most in
    let p = is_read t (option_map lent_pair c.args.first) section.min section.max in
    let place = c.loop-place.place - 1 in
    let book = there_is lent.books place (omega (arith, c.loop-place.invariant.within, c.loop-place-test.true)) in
    let next : c.loop-place.place ≡ place + 1 = omega (arith, c.loop-place-test.true) in
    let run = c.in_ok-run.ensures book.0 book.1 in
    let are : AreLent lent.heaps (book.0 ∷ drop (place + 1) lent.books) = subst (AreLent lent.heaps) (drop_at lent.books place book.0 book.1) (lent_behind lent.heaps place lent.books c.requires.books) in
    record {
      within = omega (arith, c.loop-place.invariant.within);
      pairs =
          c.in_ok-pairs.ensures
          ∙ ap (λ q. woven t most q (map lent_pair c.loop-place.pairs.items)) run
          ∙ ap (woven t most (take most (filter p (turned_if t (queues_of lent.rule (book.0 ∷ []) key)))))
          (c.loop-place.invariant.pairs ∙ ap (λ n. take most (filter p (turned_if t (queues_of lent.rule (drop n lent.books) key)))) next)
          ∙ sym (run_woven lent.rule lent.heaps key book.0 (drop (place + 1) lent.books) are t p most)
          ∙ sym (ap (λ books. take most (filter p (turned_if t (queues_of lent.rule books key)))) (drop_at lent.books place book.0 book.1));
    }
