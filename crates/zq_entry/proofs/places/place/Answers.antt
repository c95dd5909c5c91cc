use Rattle.std.proofs.Common.{ap, arith, get_or, length, rules, sym, ℕ, List, ◌<◌, ◌∙◌, ◌≡◌}
use Rattle.std.specs.Vec.{vec_len}
use Rattle.zq_model.specs.Rows.{OfSite}
use Rattle.zq_entry.specs.Sparse.{place_in}
use Rattle.zq_entry.proofs.SparseLemmas.{insert-placed, place-within, set-placed}
use Rattle.zq_entry.proofs.places.place.Goals as goal

-- where the addition goes
place : (site : ℕ) (p : OfSite) (seen items : List OfSite) (at : ℕ) → at ≡ place_in site seen → site ≡ p.0 → seen ≡ items → at ≡ place_in p.0 items
place site p seen items at is same list = is ∙ (ap (λ s. place_in s seen) same ∙ ap (place_in p.0) list)

pub insert-requires : goal.insert-requires
insert-requires c =
    let items = c.args.additions.now.items in
    let at = place _ c.args.addition _ items _ c.place_of-at.ensures.place c.dot-site.ensures.site c.deref.ensures.value in
    let count : vec_len c.args.additions.now ≡ length items = search rules in
    omega (arith, at, count, place-within c.args.addition.0 items)

pub returns-then-is_at-clause-placed : goal.returns-then-is_at-clause-placed
returns-then-is_at-clause-placed c =
    let items = c.args.additions.now.items in
    let at = place _ c.args.addition _ items _ c.place_of-at.ensures.place c.dot-site.ensures.site c.deref.ensures.value in
    let there = c.is_at.ensures.there c.if-is_at.true in
    let list : c.deref-2.result.now ≡ items = c.deref-2.ensures.value in
    let inside : c.place_of-at.result < length items = omega (arith, there.0, ap length list) in
    let same : (get_or items c.place_of-at.result c.args.addition).0 ≡ c.args.addition.0 = ap (λ xs. (get_or xs c.place_of-at.result c.args.addition).0) (sym list) ∙ (there.1 c.args.addition ∙ c.dot-site.ensures.site) in
    set-placed c.args.addition.0 c.args.addition.1 c.args.addition c.place_of-at.result items at inside same

pub returns-in_ok-insert-clause-placed : goal.returns-in_ok-insert-clause-placed
returns-in_ok-insert-clause-placed c =
    let items = c.args.additions.now.items in
    let at = place _ c.args.addition _ items _ c.place_of-at.ensures.place c.dot-site.ensures.site c.deref.ensures.value in
    let list : c.deref-2.result.now ≡ items = c.deref-2.ensures.value in
    let other = λ (l : c.place_of-at.result < length items) (e : (get_or items c.place_of-at.result c.args.addition).0 ≡ c.args.addition.0).
    c.is_at.ensures.not_there c.if-is_at.false (omega (arith, l, ap length list)) c.args.addition (ap (λ xs. (get_or xs c.place_of-at.result c.args.addition).0) list ∙ (e ∙ sym c.dot-site.ensures.site)) in
    c.in_ok-insert.ensures.items ∙ insert-placed c.args.addition.0 c.args.addition.1 c.args.addition c.place_of-at.result items at other
