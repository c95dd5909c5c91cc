-- Entries: bare ones, and what an image has at a place.

use Rattle.std.proofs.Common.{List, None, Option, Some, [], ap, ap₂, cond, false, inl, inr, is_none, length, map, refl, subst, suc, sym, true, true≢false, unwrap_or, zero, ℕ, ◌++◌, ◌<◌, ◌∙◌, ◌∷◌, ◌≡◌}
use Rattle.std.proofs.lemmas.Bool.{cases_lt, cond-true, cond_both, or_parts}
use Rattle.std.proofs.lemmas.List.Folds.{list_any-append}
use Rattle.std.proofs.lemmas.Option.{none-some, same_Some}
use Rattle.std.specs.FinMap.{get, get-insert, get-remove, insert, keys, remove, same_map}
use Rattle.std.specs.List.{list_all, list_any, range_with_len}
use Rattle.std.specs.Ordering.{eq_by_cmp}
use Rattle.zq_model.proofs.Maps.{get-map_on_all, get_without, in_map, key_same, place_exact, place_total}
use Rattle.zq_model.proofs.Membership.{any_in}
use Rattle.zq_model.proofs.Places.{is_on_parts, is_put_of_parts}
use Rattle.zq_model.proofs.Sites.{by_site-at, by_site-past, by_site-same, by_site_from, length-by_site}
use Rattle.zq_model.proofs.Standing.{addition_none}
use Rattle.zq_model.specs.Entry.{Addition, addition_of, join_site}
use Rattle.zq_model.specs.Image.{Entry, Image, Members, Place, addition_at, entry_after, entry_at, entry_of, image_after, image_of, is_bare, join, join_entry, no_additions, place_cmp, place_of, put_entry, unless_bare}
use Rattle.zq_model.specs.Operation.{Operation}
use Rattle.zq_model.specs.Rows.{AreEntries}
use Rattle.zq_model.specs.Sets.{SITES, by_site, vector_of}

pub none_at : (e : Entry) (s : ℕ) → is_bare e ≡ true → addition_at e s ≡ None
none_at [] s bare = refl
none_at (None ∷ e) zero bare = refl
none_at (None ∷ e) (suc s) bare = none_at e s bare
none_at (Some a ∷ e) s bare = absurd (true≢false (sym bare))

-- a bare entry with a place for each site is the empty one
pub bare_is : (e : Entry) → length e ≡ SITES → is_bare e ≡ true → e ≡ no_additions
bare_is e wide bare = by_site_from (λ _. None) e None wide (λ s h. none_at e s bare)

bare_map : (xs : List ℕ) → list_all is_none (map {B = Option Addition} (λ x. None) xs) ≡ true
bare_map [] = refl
bare_map (x ∷ xs) = bare_map xs

pub is_bare-no_additions : is_bare no_additions ≡ true
is_bare-no_additions = bare_map (range_with_len 0 SITES)

pub addition_at-no_additions : (s : ℕ) → addition_at no_additions s ≡ None
addition_at-no_additions s = none_at no_additions s is_bare-no_additions

-- an addition stands at a site
pub at_stands : (f : ℕ → Option Addition) (s : ℕ) (a : Addition) → addition_at (by_site f) s ≡ Some a → (s < SITES) × (f s ≡ Some a)
at_stands f s a is = elim (cases_lt s SITES) [
  | inl below ↦ (below, sym (by_site-at f s None below) ∙ is)
  | inr past ↦ absurd (none-some a (sym (by_site-past f s None past) ∙ is))
]

-- an entry with nothing at any site is bare
pub unless_bare-none : (f : ℕ → Option Addition) → ((s : ℕ) → s < SITES → f s ≡ None) → unless_bare (by_site f) ≡ None
unless_bare-none f none =
    ap unless_bare (by_site-same f (λ _. None) none) ∙ cond-true (is_bare no_additions) None (Some no_additions) is_bare-no_additions

-- what is kept of an entry gives it back
pub entry_unless_bare : (e : Entry) → length e ≡ SITES → unwrap_or (unless_bare e) no_additions ≡ e
entry_unless_bare e wide =
    elim (is_bare e) as (λ b. is_bare e ≡ b → unwrap_or (cond b None (Some e)) no_additions ≡ e) [
      | true ↦ λ bare. sym (bare_is e wide bare)
      | false ↦ λ _. refl
    ] refl

-- an entry that is kept is not bare
pub unless_bare_some : (d e : Entry) → unless_bare d ≡ Some e → (d ≡ e) × (is_bare e ≡ false)
unless_bare_some d e is =
    elim (is_bare d) as (λ b. is_bare d ≡ b → cond b None (Some d) ≡ Some e → (d ≡ e) × (is_bare e ≡ false)) [
      | true ↦ λ bare f. absurd (none-some e f)
      | false ↦ λ some f. let same : d ≡ e = same_Some d e f in (same, subst (λ x. is_bare x ≡ false) same some)
    ] refl is

pub kept_entry : (d e : Entry) → length d ≡ SITES → unless_bare d ≡ Some e → (length e ≡ SITES) × (is_bare e ≡ false)
kept_entry d e wide is = let some : (d ≡ e) × (is_bare e ≡ false) = unless_bare_some d e is in (ap length (sym some.0) ∙ wide, some.1)

pub entry_at-get : (members : Members) (q : Place) (e : Entry) → length e ≡ SITES → get members q ≡ unless_bare e → entry_at members q ≡ e
entry_at-get members q e wide is = ap (λ r. unwrap_or r no_additions) is ∙ entry_unless_bare e wide

-- an image has the entries of its set
pub get-image_of : (S : List Operation) (h : ℕ) (q : Place) → get (image_of S h).members q ≡ unless_bare (entry_of S h q)
get-image_of S h q =
    get-map_on_all place_total place_exact (λ r. unless_bare (entry_of S h r)) (map place_of S) q (λ away.
    unless_bare-none (addition_of S h q.0 q.1) (λ s below. addition_none S h q.0 q.1 s (λ o stands.
    let on : (o.heap ≡ h) × (o.key ≡ q.0) × (o.member ≡ q.1) = is_on_parts h q.0 q.1 o (is_put_of_parts h q.0 q.1 s o stands.put).0 in
    let here : q ≡ place_of o = λ i. (sym on.1 i, sym on.2 i) in
    true≢false (sym (any_in (eq_by_cmp place_cmp q) (map place_of S) (place_of o) (in_map place_of o S stands.here) (key_same place_total q (place_of o) here)) ∙ away))))

pub entry_at-image_of : (S : List Operation) (h : ℕ) (q : Place) → entry_at (image_of S h).members q ≡ entry_of S h q
entry_at-image_of S h q = entry_at-get _ q (entry_of S h q) (length-by_site _) (get-image_of S h q)

pub addition_at-image_of : (S : List Operation) (h : ℕ) (q : Place) (s : ℕ) → s < SITES →
    addition_at (entry_at (image_of S h).members q) s ≡ addition_of S h q.0 q.1 s
addition_at-image_of S h q s below = ap (λ e. addition_at e s) (entry_at-image_of S h q) ∙ by_site-at (addition_of S h q.0 q.1) s None below

-- the image of a set is told by its vector and by what it has at each place
pub image_from : (a : Image) (S : List Operation) (h : ℕ) → a.vector ≡ vector_of S h → ((q : Place) → get a.members q ≡ unless_bare (entry_of S h q)) →
    a ≡ image_of S h
image_from a S h vectors each =
    let members : a.members ≡ (image_of S h).members = same_map place_total place_exact a.members (image_of S h).members (λ q. each q ∙ sym (get-image_of S h q)) in
    λ i. record { vector = vectors i; members = members i }

-- a join has the joins of the entries
pub get-join : (a b : Image) (q : Place) → get (join a b).members q ≡ unless_bare (join_entry a.vector b.vector (entry_at a.members q) (entry_at b.members q))
get-join a b q =
    get-map_on_all place_total place_exact (λ r. unless_bare (join_entry a.vector b.vector (entry_at a.members r) (entry_at b.members r))) (keys a.members ++ keys b.members) q (λ away.
    let parts : (list_any (eq_by_cmp place_cmp q) (keys a.members) ≡ false) × (list_any (eq_by_cmp place_cmp q) (keys b.members) ≡ false)
    = or_parts _ _ (sym (list_any-append (eq_by_cmp place_cmp q) (keys a.members) (keys b.members)) ∙ away) in
    let none_a : (s : ℕ) → addition_at (entry_at a.members q) s ≡ None
    = λ s. ap (λ r. addition_at (unwrap_or r no_additions) s) (get_without place_total place_exact a.members q parts.0) ∙ addition_at-no_additions s in
    let none_b : (s : ℕ) → addition_at (entry_at b.members q) s ≡ None
    = λ s. ap (λ r. addition_at (unwrap_or r no_additions) s) (get_without place_total place_exact b.members q parts.1) ∙ addition_at-no_additions s in
    unless_bare-none _ (λ s below. ap₂ (join_site a.vector b.vector s) (none_a s) (none_b s)))

-- an entry that is put in stands at its place, and the others stay
pub get-put_entry : (members : Members) (p : Place) (e : Entry) (q : Place) →
    get (put_entry members p e) q ≡ cond (eq_by_cmp place_cmp q p) (unless_bare e) (get members q)
get-put_entry members p e q =
    elim (is_bare e) as (λ b. get (cond b (remove members p) (insert members p e)) q ≡ cond (eq_by_cmp place_cmp q p) (cond b None (Some e)) (get members q)) [
      | true ↦ get-remove place_total members p q
      | false ↦ get-insert place_total members p e q
    ]

-- ---- each entry has a place for each site, and an addition

pub set_entries : (S : List Operation) (h : ℕ) → AreEntries (image_of S h).members
set_entries S h k m e got = kept_entry (entry_of S h (k, m)) e (length-by_site _) (sym (get-image_of S h (k, m)) ∙ got)

pub join_entries : (a b : Image) → AreEntries (join a b).members
join_entries a b k m e got = kept_entry _ e (length-by_site _) (sym (get-join a b (k, m)) ∙ got)

pub step_entries : (o : Operation) (a : Image) → AreEntries a.members → AreEntries (image_after o a).members
step_entries o a are k m e got =
    let after = entry_after o.act o.site o.n o.seen (entry_at a.members (place_of o)) in
    cond_both (eq_by_cmp place_cmp (k, m) (place_of o)) (unless_bare after) (get a.members (k, m)) (λ r. r ≡ Some e → (length e ≡ SITES) × (is_bare e ≡ false))
    (λ _. kept_entry after e (length-by_site _)) (λ _. are k m e) (sym (get-put_entry a.members (place_of o) after (k, m)) ∙ got)
