-- What is held of a key's members: their entries alone, and their scores.
use Rattle.std.proofs.Common.{ap, refl, subst, sym, true≢false, ◌∙◌}
use Rattle.std.proofs.lemmas.Cmp.{nat_list_cmp_total}
use Rattle.std.proofs.lemmas.List.{length-map}
use Rattle.std.proofs.lemmas.Option.{none-some, same_Some}
use Rattle.std.specs.FinMap.{FinMap, empty, entries, entries_sorted, from_entries, get, get-empty, get-entries, get-from_entries, get-insert, get-remove, insert, is_sorted, len, len-entries, remove, same_map}
use Rattle.std.specs.FinMap.Entries.{below_all, find, same_entries}
use Rattle.std.specs.List.{range_with_len}
use Rattle.std.specs.Ordering.{eq_by_cmp, is_lt}
use Rattle.std.specs.Prelude.{List, None, Option, Some, T, [], cond, false, is_none, is_some, length, map, option_map, pos, true, unwrap_or, ℕ, ℤ, ◌&&◌, ◌∷◌, ◌≡◌}
use Rattle.zq_entry.proofs.EntryLemmas.{none-score_of}
use Rattle.zq_model.proofs.Maps.{same_key}
use Rattle.zq_model.specs.Entry.{Addition}
use Rattle.zq_model.specs.Image.{Entry, is_bare, no_additions}
use Rattle.zq_model.specs.Rule.{Rule}
use Rattle.zq_model.specs.Score.{score_of}
use Rattle.zq_model.specs.Sets.{SITES}
use Rattle.zq_posheap.proofs.Entries.{bytes_antisymmetric, none_of, option_map-cond}
use Rattle.zq_queue.specs.Entries.{Entries, NoneIsBare, bytes_cmp, entry_in}
use Rattle.zq_queue.specs.Queued.{AreScored, Held, NoneIsBareIn, entries_of}

-- ---- maps by bytes

module _ {X : Type 0} where
  -- maps that have the same at each member are one
  pub same_at_each : (a b : FinMap bytes_cmp X) → ((q : List ℕ) → get a q ≡ get b q) → a ≡ b
  same_at_each a b is = same_map nat_list_cmp_total bytes_antisymmetric a b is

  pub get_inserted : (m : FinMap bytes_cmp X) (k : List ℕ) (v : X) (q : List ℕ) → get (insert m k v) q ≡ cond (eq_by_cmp bytes_cmp q k) (Some v) (get m q)
  get_inserted m k v q = get-insert nat_list_cmp_total m k v q

  pub get_removed : (m : FinMap bytes_cmp X) (k q : List ℕ) → get (remove m k) q ≡ cond (eq_by_cmp bytes_cmp q k) None (get m q)
  get_removed m k q = get-remove nat_list_cmp_total m k q

  -- what a member has that is tested
  pub by_test : (m : FinMap bytes_cmp X) (k q : List ℕ) (o : Option X) (P : Option X → Type 0) → (q ≡ k → P o) → P (get m q) → P (cond (eq_by_cmp bytes_cmp q k) o (get m q))
  by_test m k q o P here there =
      elim (eq_by_cmp bytes_cmp q k) as (λ b. eq_by_cmp bytes_cmp q k ≡ b → P (cond b o (get m q))) [
        | true ↦ λ e. here (same_key bytes_antisymmetric q k e)
        | false ↦ λ _. there
      ] refl

  -- to take out what is not there changes nothing
  pub removed_absent : (m : FinMap bytes_cmp X) (k : List ℕ) → get m k ≡ None → remove m k ≡ m
  removed_absent m k none = same_at_each (remove m k) m (λ q. get_removed m k q ∙ by_test m k q None (λ o. o ≡ get m q) (λ e. sym (ap (get m) e ∙ none)) refl)

-- ---- entries of one map made of another's

module _ {X Y : Type 0} (f : X → Y) where
  abbrev pub mapped : List (List ℕ × X) → List (List ℕ × Y)
  mapped es = map (λ e. (e.0, f e.1)) es

  below_mapped : (q : List ℕ) (es : List (List ℕ × X)) → below_all bytes_cmp q (mapped es) ≡ below_all bytes_cmp q es
  below_mapped q [] = refl
  below_mapped q (e ∷ es) = ap (λ b. is_lt (bytes_cmp q e.0) && b) (below_mapped q es)

  sorted_mapped : (es : List (List ℕ × X)) → is_sorted bytes_cmp (mapped es) ≡ is_sorted bytes_cmp es
  sorted_mapped [] = refl
  sorted_mapped (e ∷ es) = (λ k. below_mapped e.0 es k && sorted_mapped es k)

  find_mapped : (es : List (List ℕ × X)) (q : List ℕ) → find bytes_cmp q (mapped es) ≡ option_map f (find bytes_cmp q es)
  find_mapped [] q = refl
  find_mapped (e ∷ es) q = (λ k. cond (eq_by_cmp bytes_cmp q e.0) (Some (f e.1)) (find_mapped es q k))
      ∙ sym (option_map-cond f (eq_by_cmp bytes_cmp q e.0) (Some e.1) (find bytes_cmp q es))

  module _ (m : FinMap bytes_cmp X) where
    abbrev made : FinMap bytes_cmp Y
    made = from_entries (mapped (entries m))

    pub get_mapped : (q : List ℕ) → get made q ≡ option_map f (get m q)
    get_mapped q = get-from_entries nat_list_cmp_total (mapped (entries m)) q ∙ find_mapped (entries m) q ∙ ap (option_map f) (sym (get-entries m q))

    pub entries_mapped : entries made ≡ mapped (entries m)
    entries_mapped = same_entries bytes_cmp nat_list_cmp_total bytes_antisymmetric (entries made) (mapped (entries m)) (entries_sorted made)
        (subst T (sym (sorted_mapped (entries m))) (entries_sorted m)) (λ q. sym (get-entries made q) ∙ get-from_entries nat_list_cmp_total (mapped (entries m)) q)

    pub len_mapped : len made ≡ len m
    len_mapped = len-entries made ∙ ap length entries_mapped ∙ length-map (entries m) (λ e. (e.0, f e.1)) ∙ sym (len-entries m)

-- ---- the entries alone

abbrev entry_beside : ℤ × Entry → Entry
entry_beside p = p.1

pub get-entries_of : (held : Held) (q : List ℕ) → get (entries_of held) q ≡ option_map (λ p. p.1) (get held q)
get-entries_of held q = get_mapped entry_beside held q

pub len-entries_of : (held : Held) → len (entries_of held) ≡ len held
len-entries_of held = len_mapped entry_beside held

pub entries_of-empty : entries_of empty ≡ empty
entries_of-empty = same_at_each (entries_of empty) empty (λ q. get-entries_of empty q ∙ ap (option_map entry_beside) (get-empty bytes_cmp q) ∙ sym (get-empty bytes_cmp q))

pub entries_of-insert : (held : Held) (m : List ℕ) (p : ℤ × Entry) → entries_of (insert held m p) ≡ insert (entries_of held) m p.1
entries_of-insert held m p = same_at_each _ _ (λ q.
    get-entries_of (insert held m p) q ∙ ap (option_map entry_beside) (get_inserted held m p q) ∙ option_map-cond entry_beside (eq_by_cmp bytes_cmp q m) (Some p) (get held q)
    ∙ ap (cond (eq_by_cmp bytes_cmp q m) (Some p.1)) (sym (get-entries_of held q)) ∙ sym (get_inserted (entries_of held) m p.1 q))

pub entries_of-remove : (held : Held) (m : List ℕ) → entries_of (remove held m) ≡ remove (entries_of held) m
entries_of-remove held m = same_at_each _ _ (λ q.
    get-entries_of (remove held m) q ∙ ap (option_map entry_beside) (get_removed held m q) ∙ option_map-cond entry_beside (eq_by_cmp bytes_cmp q m) None (get held q)
    ∙ ap (cond (eq_by_cmp bytes_cmp q m) None) (sym (get-entries_of held q)) ∙ sym (get_removed (entries_of held) m q))

-- a member without an entry is held with none
pub absent_held : (held : Held) (m : List ℕ) → get (entries_of held) m ≡ None → get held m ≡ None
absent_held held m none = elim (get held m) as (λ o. option_map entry_beside o ≡ None → o ≡ None) [
  | None ↦ λ _. refl
  | Some p ↦ λ is. absurd (none-some p.1 (sym is))
] (sym (get-entries_of held m) ∙ none)

-- what is not among the held has no entry
pub absent_got : (held : Held) (m : List ℕ) → false ≡ is_some (get held m) → get (entries_of held) m ≡ None
absent_got held m none = get-entries_of held m ∙ ap (option_map entry_beside) (none_of (get held m) none)

-- ---- scores

pub scored_not_bare : (rule : Rule) (e : Entry) (x : ℤ) → score_of rule e ≡ Some x → is_bare e ≡ false
scored_not_bare rule e x is = sym (none-score_of rule e) ∙ ap is_none is

no_scores : (rule : Rule) (xs : List ℕ) → score_of rule (map {B = Option Addition} (λ _. None) xs) ≡ None
no_scores rule [] = refl
no_scores rule (x ∷ xs) = no_scores rule xs

pub score_of_nothing : (rule : Rule) → score_of rule no_additions ≡ None
score_of_nothing rule = no_scores rule (range_with_len 0 SITES)

module _ (rule : Rule) (held : Held) where
  -- no entry beside its score is bare
  pub none_bare_in : AreScored rule held → NoneIsBareIn held
  none_bare_in all member e is = scored_not_bare rule e.1 e.0 (all member e is)

  pub none_bare : AreScored rule held → NoneIsBare (entries_of held)
  none_bare all member entry is =
      elim (get held member) as (λ o. get held member ≡ o → option_map entry_beside o ≡ Some entry → is_bare entry ≡ false) [
        | None ↦ λ _ e. absurd (none-some entry e)
        | Some p ↦ λ got e. subst (λ x. is_bare x ≡ false) (same_Some p.1 entry e) (none_bare_in all member p got)
      ] refl (sym (get-entries_of held member) ∙ is)

  -- what a member's entry scores is what is held beside it
  pub score_held : AreScored rule held → (member : List ℕ) → score_of rule (entry_in (entries_of held) member) ≡ option_map (λ p. p.0) (get held member)
  score_held all member =
      ap (λ o. score_of rule (unwrap_or o no_additions)) (get-entries_of held member)
      ∙ (elim (get held member) as (λ o. get held member ≡ o → score_of rule (unwrap_or (option_map entry_beside o) no_additions) ≡ option_map (λ p. p.0) o) [
        | None ↦ λ _. score_of_nothing rule
        | Some p ↦ λ is. all member p is
      ] refl)

  pub scored-insert : (m : List ℕ) (x : ℤ) (e : Entry) → AreScored rule held → score_of rule e ≡ Some x → AreScored rule (insert held m (x, e))
  scored-insert m x e all is member p got =
      by_test held m member (Some (x, e)) (λ o. o ≡ Some p → score_of rule p.1 ≡ Some p.0)
      (λ _ s. subst (λ (y : ℤ × Entry). score_of rule y.1 ≡ Some y.0) (same_Some (x, e) p s) is) (λ s. all member p s) (sym (get_inserted held m (x, e) member) ∙ got)

  pub scored-remove : (m : List ℕ) → AreScored rule held → AreScored rule (remove held m)
  scored-remove m all member p got =
      by_test held m member None (λ o. o ≡ Some p → score_of rule p.1 ≡ Some p.0)
      (λ _ s. absurd (none-some p s)) (λ s. all member p s) (sym (get_removed held m member) ∙ got)

pub scored-empty : (rule : Rule) → AreScored rule empty
scored-empty rule member p got = absurd (none-some p (sym (get-empty bytes_cmp member) ∙ got))

-- ---- the scores of entries, beside them

module _ (rule : Rule) where
  abbrev with_score : Entry → ℤ × Entry
  with_score e = (unwrap_or (score_of rule e) (pos 0), e)

  -- what is held where these are the entries
  abbrev pub held_from : Entries → Held
  held_from m = from_entries (mapped with_score (entries m))

  same_option : (o : Option Entry) → option_map entry_beside (option_map with_score o) ≡ o
  same_option None = refl
  same_option (Some e) = refl

  pub entries_of-held_from : (m : Entries) → entries_of (held_from m) ≡ m
  entries_of-held_from m = same_at_each _ _ (λ q. get-entries_of (held_from m) q ∙ ap (option_map entry_beside) (get_mapped with_score m q) ∙ same_option (get m q))

  pub len-held_from : (m : Entries) → len (held_from m) ≡ len m
  len-held_from m = len_mapped with_score m

  -- an entry that is not bare has the score that stands beside it
  pub its_own_score : (e : Entry) → is_bare e ≡ false → score_of rule e ≡ Some (unwrap_or (score_of rule e) (pos 0))
  its_own_score e some = by (score_of rule e) (none-score_of rule e ∙ some)
    where
      by : (o : Option ℤ) → is_none o ≡ false → o ≡ Some (unwrap_or o (pos 0))
      by None none = absurd (true≢false none)
      by (Some x) none = refl

  pub scored-held_from : (m : Entries) → NoneIsBare m → AreScored rule (held_from m)
  scored-held_from m all member e got =
      elim (get m member) as (λ o. get m member ≡ o → option_map with_score o ≡ Some e → score_of rule e.1 ≡ Some e.0) [
        | None ↦ λ _ is. absurd (none-some e is)
        | Some x ↦ λ there is. subst (λ (y : ℤ × Entry). score_of rule y.1 ≡ Some y.0) (same_Some (with_score x) e is) (its_own_score x (all member x there))
      ] refl (sym (get_mapped with_score m member) ∙ got)
