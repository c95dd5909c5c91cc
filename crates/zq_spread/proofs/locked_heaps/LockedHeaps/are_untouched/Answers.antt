use Rattle.std.proofs.Common.{List, Some, ap, arith, drop, false, length, refl, rules, subst, sym, true, ℕ, ◌+◌, ◌<◌, ◌∙◌, ◌≡◌, ◌≤◌}
use Rattle.std.proofs.lemmas.Option.{slice_get_read}
use Rattle.std.specs.Prelude.{slice_get, ◌&&◌}
use Rattle.zq_journal.specs.Untouched.{is_untouched, keys_of}
use Rattle.zq_model.specs.Books.{Book}
use Rattle.zq_posheap.proofs.Lists.{there_is}
use Rattle.zq_spread.proofs.Stays.{number_held, untouched_at, untouched_past}
use Rattle.zq_spread.proofs.locked_heaps.LockedHeaps.are_untouched.Goals as goal
use Rattle.zq_spread.specs.Several.{books_of, helds_of}
use Rattle.zq_spread.specs.Watches.{Watch}
use Rattle.zq_spread.specs.Watching.{are_untouched}

pub returns-in_default : goal.returns-in_default
returns-in_default c =
    let books : List Book = books_of (helds_of c.args.self.now) in
    let w : Watch = c.args.watched.now in
    let i : ℕ = c.loop-place.place in
    let many = number_held c.args.self.now in
    let long = ap length c.as_slice-place-end.ensures.value in
    let inside : i < length books = omega (arith, many, long, c.loop-place-test.true) in
    let past : length c.deref.result.now ≤ i = c.in_default.ensures.lookup.3 in
    let out : length w.vectors ≤ i =
    subst (λ (xs : List (List ℕ)). length xs ≤ i) (c.deref.ensures.value ∙ ap (λ (x : Watch). x.vectors) c.watched.view_is) past in
    let found = there_is books i inside in
    sym (untouched_past w.vectors w.keys books i found.0 out found.1) ∙ c.loop-place.invariant

pub returns-then-not-is_untouched : goal.returns-then-not-is_untouched
returns-then-not-is_untouched c =
    let books : List Book = books_of (helds_of c.args.self.now) in
    let w : Watch = c.args.watched.now in
    let i : ℕ = c.loop-place.place in
    let items = c.deref.result.now in
    let is : slice_get w.vectors i ≡ Some c.in-Some.vector.now =
    ap (λ (xs : List (List ℕ)). slice_get xs i) (sym (c.deref.ensures.value ∙ ap (λ (x : Watch). x.vectors) c.watched.view_is)) ∙ slice_get_read items (length items) i c.in-Some.vector.now refl c.in-Some.ensures.lookup.3.0 c.in-Some.ensures.lookup.1 in
    let keys : keys_of c.deref-in-loop-place.result.now ≡ w.keys = ap keys_of c.deref-in-loop-place.ensures.value ∙ ap (λ (x : Watch). x.keys) c.watched.view_is in
    let tested : c.is_untouched.result ≡ false = search rules in
    let untouched : is_untouched c.in-Some.vector.now w.keys c.book_at.result.now ≡ false =
    subst (λ k. is_untouched c.in-Some.vector.now k c.book_at.result.now ≡ false) keys (sym c.is_untouched.ensures ∙ tested) in
    sym (untouched_at w.vectors w.keys books i c.in-Some.vector.now c.book_at.result.now is c.book_at.ensures
    ∙ ap (λ b. b && are_untouched (drop (i + 1) w.vectors) w.keys (drop (i + 1) books)) untouched)
    ∙ c.loop-place.invariant

pub loop-place-preserved : goal.loop-place-preserved
loop-place-preserved c =
    let books : List Book = books_of (helds_of c.args.self.now) in
    let w : Watch = c.args.watched.now in
    let i : ℕ = c.loop-place.place in
    let items = c.deref.result.now in
    let is : slice_get w.vectors i ≡ Some c.in-Some.vector.now =
    ap (λ (xs : List (List ℕ)). slice_get xs i) (sym (c.deref.ensures.value ∙ ap (λ (x : Watch). x.vectors) c.watched.view_is)) ∙ slice_get_read items (length items) i c.in-Some.vector.now refl c.in-Some.ensures.lookup.3.0 c.in-Some.ensures.lookup.1 in
    let keys : keys_of c.deref-in-loop-place.result.now ≡ w.keys = ap keys_of c.deref-in-loop-place.ensures.value ∙ ap (λ (x : Watch). x.keys) c.watched.view_is in
    let tested : c.is_untouched.result ≡ true = search rules in
    let untouched : is_untouched c.in-Some.vector.now w.keys c.book_at.result.now ≡ true =
    subst (λ k. is_untouched c.in-Some.vector.now k c.book_at.result.now ≡ true) keys (sym c.is_untouched.ensures ∙ tested) in
    sym (untouched_at w.vectors w.keys books i c.in-Some.vector.now c.book_at.result.now is c.book_at.ensures
    ∙ ap (λ b. b && are_untouched (drop (i + 1) w.vectors) w.keys (drop (i + 1) books)) untouched)
    ∙ c.loop-place.invariant
