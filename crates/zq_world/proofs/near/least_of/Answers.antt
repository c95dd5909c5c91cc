use Rattle.std.proofs.Common.{List, [], ap, arith, drop, length, sym, ◌+◌, ◌-◌, ◌<◌, ◌∙◌, ◌∷◌, ◌≡◌}
use Rattle.std.proofs.lemmas.List.{drop_all}
use Rattle.std.specs.Prelude.{slice_get}
use Rattle.zq_commands.proofs.RanPlans.{drop_at}
use Rattle.zq_commands.specs.VecBooks.{rule_in}
use Rattle.zq_model.specs.Books.{Book}
use Rattle.zq_model.specs.Lent.{queues_of}
use Rattle.zq_model.specs.Merging.{least}
use Rattle.zq_posheap.proofs.Lists.{there_is}
use Rattle.zq_world.proofs.near.least_of.Goals as goal

pub loop-place-init : goal.loop-place-init
loop-place-init c =
    let books = c.args.books.now.items in
    let long = ap length c.as_slice.ensures.value in
    let last = length c.as_slice.result.now - 1 in
    let inside : last < length books = omega (arith, long, c.requires.some) in
    record {
      within = inside;
      inside = inside;
      first = λ near at.
          let rest : drop (last + 1) books ≡ [] = drop_all (last + 1) books (omega (arith, long)) in
          ap (λ (xs : List Book). slice_get (queues_of (rule_in books) xs c.args.key.now) 0) (sym (drop_at books last near at ∙ ap (λ (xs : List Book). near ∷ xs) rest));
    }

pub loop-place-preserved : goal.loop-place-preserved
loop-place-preserved c =
    let books = c.args.books.now.items in
    let key = c.args.key.now in
    let rule = rule_in books in
    let place = c.loop-place.place - 1 in
    let before = c.loop-place.invariant in
    let next : c.loop-place.place ≡ place + 1 = omega (arith, c.loop-place-test.true) in
    let within : place < length books = omega (arith, before.within, c.loop-place-test.true) in
    let here = there_is books place within in
    let best = there_is books c.loop-place.near before.inside in
    record {
      within = within;
      inside = c.lesser-near.ensures.inside;
      first = λ near at.
          c.lesser-near.ensures.first here.0 best.0 near here.1 best.1 at
          ∙ ap (least (slice_get (queues_of rule (here.0 ∷ []) key) 0)) (before.first best.0 best.1 ∙ ap (λ n. slice_get (queues_of rule (drop n books) key) 0) next)
          ∙ sym (c.heading.ensures.first rule key here.0 (drop (place + 1) books))
          ∙ sym (ap (λ (xs : List Book). slice_get (queues_of rule xs key) 0) (drop_at books place here.0 here.1));
    }
