-- Tails that are kept with what each record's member had before it.

use Rattle.std.proofs.Common.{ap, inl, inr, sym, ◌∙◌, zero, suc}
use Rattle.std.proofs.lemmas.Bool.{cases_Bool}
use Rattle.std.specs.FinMap.{get, same_map}
use Rattle.std.specs.Ordering.{eq_by_cmp}
use Rattle.std.specs.Prelude.{List, [], drop, map, refl, take, ℕ, ◌++◌, ◌∷◌, ◌≡◌}
use Rattle.zq_model.specs.Books.{replayed}
use Rattle.zq_model.specs.Undoing.{AreKept, Leaf, after_leaves, operation_on, undone}
use Rattle.zq_model.proofs.Entries.{get-put_entry}
use Rattle.zq_model.proofs.Maps.{place_exact, place_total, same_key}
use Rattle.zq_model.specs.Image.{Entry, Image, entry_after, entry_at, Members, Place, image_after, place_cmp, place_of, put_entry, unless_bare}

-- the entry that a place had gives back the members before it was changed
put_back : (members : Members) (q : Place) (entry before : Entry) → get members q ≡ unless_bare before →
    put_entry (put_entry members q entry) q before ≡ members
put_back members q entry before had =
    same_map place_total place_exact (put_entry (put_entry members q entry) q before) members (λ r.
    get-put_entry (put_entry members q entry) q before r
    ∙ elim (cases_Bool (eq_by_cmp place_cmp r q)) [
      | inl here ↦ rw here (sym had ∙ ap (get members) (sym (same_key place_exact r q here)))
      | inr away ↦ rw away (get-put_entry members q entry r ∙ rw away refl)
    ])

-- the entry of the leaf's member after it
abbrev entry_on : Leaf → Image → Entry
entry_on leaf a = let o = operation_on leaf in entry_after o.act o.site o.n o.seen (entry_at a.members (place_of o))

pub undone_is : (leaves : List Leaf) (a : Image) → AreKept leaves a → undone leaves (after_leaves leaves a).members ≡ a.members
undone_is [] a kept = refl
undone_is (leaf ∷ leaves) a kept =
    ap (λ m. put_entry m (place_of (operation_on leaf)) leaf.before) (undone_is leaves (image_after (operation_on leaf) a) kept.1)
    ∙ put_back a.members (place_of (operation_on leaf)) (entry_on leaf a) leaf.before kept.0

-- one record more is undone first
pub undone_more : (leaves : List Leaf) (leaf : Leaf) (members : Members) →
    undone (leaves ++ leaf ∷ []) members ≡ undone leaves (put_entry members (place_of (operation_on leaf)) leaf.before)
undone_more [] leaf members = refl
undone_more (first ∷ leaves) leaf members = ap (λ m. put_entry m (place_of (operation_on first)) first.before) (undone_more leaves leaf members)

-- a record that keeps what its member had leaves as it was what undoing gives
pub undone_recorded : (leaves : List Leaf) (leaf : Leaf) (a : Image) → get a.members (place_of (operation_on leaf)) ≡ unless_bare leaf.before →
    undone (leaves ++ leaf ∷ []) (image_after (operation_on leaf) a).members ≡ undone leaves a.members
undone_recorded leaves leaf a had =
    undone_more leaves leaf (image_after (operation_on leaf) a).members ∙ ap (undone leaves) (put_back a.members (place_of (operation_on leaf)) (entry_on leaf a) leaf.before had)

pub kept_cut : (n : ℕ) (leaves : List Leaf) (a : Image) → AreKept leaves a → AreKept (drop n leaves) (after_leaves (take n leaves) a)
kept_cut zero leaves a kept = kept
kept_cut (suc n) [] a kept = kept
kept_cut (suc n) (leaf ∷ leaves) a kept = kept_cut n leaves (image_after (operation_on leaf) a) kept.1

pub after_parts : (n : ℕ) (leaves : List Leaf) (a : Image) → after_leaves (drop n leaves) (after_leaves (take n leaves) a) ≡ after_leaves leaves a
after_parts zero leaves a = refl
after_parts (suc n) [] a = refl
after_parts (suc n) (leaf ∷ leaves) a = after_parts n leaves (image_after (operation_on leaf) a)

-- the records that a cut leaves, undone, give the members after those that it drops
pub undone_cut : (n : ℕ) (leaves : List Leaf) (a : Image) → AreKept leaves a →
    undone (drop n leaves) (after_leaves leaves a).members ≡ (after_leaves (take n leaves) a).members
undone_cut n leaves a kept =
    ap (λ b. undone (drop n leaves) b.members) (sym (after_parts n leaves a)) ∙ undone_is (drop n leaves) (after_leaves (take n leaves) a) (kept_cut n leaves a kept)

pub kept_longer : (leaves : List Leaf) (leaf : Leaf) (a : Image) → AreKept leaves a →
    get (after_leaves leaves a).members (place_of (operation_on leaf)) ≡ unless_bare leaf.before → AreKept (leaves ++ leaf ∷ []) a
kept_longer [] leaf a kept had = (had, tt {0})
kept_longer (first ∷ leaves) leaf a kept had = (kept.0, kept_longer leaves leaf (image_after (operation_on first) a) kept.1 had)

pub after_more : (leaves : List Leaf) (leaf : Leaf) (a : Image) → after_leaves (leaves ++ leaf ∷ []) a ≡ image_after (operation_on leaf) (after_leaves leaves a)
after_more [] leaf a = refl
after_more (first ∷ leaves) leaf a = after_more leaves leaf (image_after (operation_on first) a)

pub after_replay : (leaves : List Leaf) (a : Image) → after_leaves leaves a ≡ replayed (map (λ leaf. leaf.written) leaves) a
after_replay [] a = refl
after_replay (leaf ∷ leaves) a = after_replay leaves (image_after (operation_on leaf) a)
