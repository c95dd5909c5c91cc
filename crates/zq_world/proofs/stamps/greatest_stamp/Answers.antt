use Rattle.std.proofs.Common.{ap, arith, drop, length, refl, sym, ◌+◌, ◌-◌, ◌<◌, ◌∷◌, ◌≡◌}
use Rattle.std.proofs.lemmas.List.{drop_all}
use Rattle.std.proofs.lemmas.Option.{slice_get_read}
use Rattle.zq_commands.proofs.RanPlans.{drop_at}
use Rattle.zq_journal.specs.Books.{LAST_STAMP}
use Rattle.zq_semantics.specs.Books as site
use Rattle.zq_world.proofs.stamps.greatest_stamp.Goals as goal

pub loop-place-init : goal.loop-place-init
loop-place-init c = record {
  within = omega arith;
  bounded = omega arith;
  greatest = sym (ap site.greatest_stamp (drop_all (length c.args.books.now) c.args.books.now (omega arith)));
}

pub loop-place-preserved : goal.loop-place-preserved
unfolding LAST_STAMP
loop-place-preserved c =
    let books = c.args.books.now in
    let place = c.loop-place.place - 1 in
    let before = c.loop-place.invariant in
    let next : c.loop-place.place ≡ place + 1 = omega (arith, c.loop-place-test.true) in
    let inside : place < length books = omega (arith, before.within, c.loop-place-test.true) in
    let its = c.index-books-place.result in
    let at = slice_get_read books (length books) place its refl inside c.index-books-place.is in
    let rest : site.greatest_stamp (drop c.loop-place.place books) ≡ site.greatest_stamp (drop (place + 1) books) = ap (λ n. site.greatest_stamp (drop n books)) next in
    let here : site.greatest_stamp (drop place books) ≡ site.greatest_stamp (its ∷ drop (place + 1) books) = ap site.greatest_stamp (drop_at books place its at) in
    record {
      within = omega (arith, before.within);
      bounded = omega (arith, before.bounded, c.stamp.ensures.bounded, c.max-greatest.ensures);
      greatest = omega (arith, c.max-greatest.ensures, c.stamp.ensures.same, before.greatest, rest, here);
    }
