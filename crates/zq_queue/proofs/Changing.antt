-- What changes of a key's members make of their entries.
use Rattle.std.proofs.Common.{Err, Ok, Result, ap, of_z, to_z, refl, sym, ◌∙◌}
use Rattle.std.proofs.lemmas.Bool.{cond-false, cond-true}
use Rattle.std.specs.FinMap.{get, insert, remove}
use Rattle.std.specs.Prelude.{List, None, OnErr, Option, Some, cond, false, is_none, option_map, true, ℕ, ℤ, ◌*◌, ◌+◌, ◌==◌, ◌≡◌}
use Rattle.zq_entry.proofs.EntryLemmas.{none-score_of}
use Rattle.zq_model.proofs.Sites.{by_site-at, by_site-same}
use Rattle.zq_model.specs.Entry.{Addition, after_act, without}
use Rattle.zq_model.specs.Image.{Entry, addition_at, entry_after, is_bare}
use Rattle.zq_model.specs.Operation.{Drop, IsWithin, MOST, Put, has}
use Rattle.zq_model.specs.Rule.{Rule}
use Rattle.zq_model.specs.Score.{score_of}
use Rattle.std.proofs.lemmas.Int.{to_z-of_z}
use Rattle.std.specs.Int.{w128}
use Rattle.zq_entry.proofs.SumLemmas.{value-fits}
use Rattle.zq_entry.specs.Sums.{MOST_SUM}
use Rattle.zq_model.specs.Sets.{SITES}
use Rattle.zq_queue.proofs.Helds.{entries_of-insert, entries_of-remove, get-entries_of, removed_absent, scored_not_bare}
use Rattle.zq_queue.specs.Entries.{Entries, set_entry}
use Rattle.zq_queue.specs.Queued.{Held, entries_of}

pub set_some : (entries : Entries) (m : List ℕ) (e : Entry) → is_bare e ≡ false → set_entry entries m e ≡ insert entries m e
set_some entries m e some = cond-false (is_bare e) (remove entries m) (insert entries m e) some

pub set_bare : (entries : Entries) (m : List ℕ) (e : Entry) → is_bare e ≡ true → set_entry entries m e ≡ remove entries m
set_bare entries m e bare = cond-true (is_bare e) (remove entries m) (insert entries m e) bare

module _ (rule : Rule) (held : Held) (m : List ℕ) (e : Entry) where
  -- an entry that is written with its score is set
  pub written_is_set : (x : ℤ) → score_of rule e ≡ Some x → entries_of (insert held m (x, e)) ≡ set_entry (entries_of held) m e
  written_is_set x is = entries_of-insert held m (x, e) ∙ sym (set_some (entries_of held) m e (scored_not_bare rule e x is))

  -- one without a score is taken out
  pub taken_out_is_set : score_of rule e ≡ None → entries_of (remove held m) ≡ set_entry (entries_of held) m e
  taken_out_is_set none = entries_of-remove held m ∙ sym (set_bare (entries_of held) m e (sym (none-score_of rule e) ∙ ap is_none none))

  -- or is not put where none was
  pub left_out_is_set : score_of rule e ≡ None → get held m ≡ None → entries_of held ≡ set_entry (entries_of held) m e
  left_out_is_set none absent =
      sym (set_bare (entries_of held) m e (sym (none-score_of rule e) ∙ ap is_none none) ∙ removed_absent (entries_of held) m (get-entries_of held m ∙ ap (λ o. option_map (λ p. p.1) o) absent))

-- what holds anyway holds on an error
pub on_any_err : {T E P : Type 0} (r : Result T E) → P → OnErr r P
on_any_err (Ok x) p = tt
on_any_err (Err e) p = p

-- ---- the score that is handed on

-- a score in range is what it is when it is handed on
pub handed_on : (x : ℤ) → IsWithin (MOST + SITES * MOST_SUM) x → to_z w128 (of_z w128 x) ≡ x
handed_on x within = to_z-of_z w128 x (value-fits x within)

-- ---- a Put of what a Drop leaves

twice_without : (seen : List ℕ) (s : ℕ) (o : Option Addition) → without seen s (without seen s o) ≡ without seen s o
twice_without seen s None = refl
twice_without seen s (Some a) =
    elim (has seen s a.n) as (λ b. has seen s a.n ≡ b → without seen s (cond b None (Some a)) ≡ cond b None (Some a)) [
      | true ↦ λ _. refl
      | false ↦ λ is. cond-false (has seen s a.n) None (Some a) is
    ] refl

-- the score and the place say nothing of what a Put takes away
pub put_of_unseen : (x : ℤ) (t n t' n' : ℕ) (seen : List ℕ) (e : Entry) → entry_after (Put x) t n seen (entry_after Drop t' n' seen e) ≡ entry_after (Put x) t n seen e
put_of_unseen x t n t' n' seen e = by_site-same _ _ (λ s below.
    ap (after_act (Put x) t n seen s) (by_site-at (λ s. without seen s (addition_at e s)) s None below)
    ∙ ap (cond (t == s) _) (twice_without seen s (addition_at e s)))
