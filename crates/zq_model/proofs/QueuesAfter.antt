-- A move that is made in the book of its heap changes the queues as the move says.
use Rattle.std.proofs.Common.{List, None, Option, Some, [], ap, cond, false, inl, inr, map, nat_eq, refl, subst, sym, true, true≢false, ℕ, ℤ, ◌<◌, ◌∙◌, ◌∷◌, ◌≡◌}
use Rattle.std.proofs.lemmas.Bool.{cond-false, cond-true, false_from_ne_true}
use Rattle.std.proofs.lemmas.Option.{none-some}
use Rattle.std.specs.Cmp.Lexicographic.{pointwise}
use Rattle.std.specs.Ordering.{eq_by_cmp}
use Rattle.std.specs.Prelude.{Bool, find, if◌then◌else◌, option_and_then, option_map}
use Rattle.zq_model.specs.Books.{Book}
use Rattle.zq_model.proofs.Maps.{place_exact, same_key}
use Rattle.zq_model.proofs.Membership.{find_none, find_some}
use Rattle.zq_model.proofs.Places.{bytes_same, same_bytes}
use Rattle.zq_model.specs.Image.{place_cmp}
use Rattle.zq_model.specs.Rule.{Rule}
use Rattle.zq_model.specs.Sets.{IsIn, SITES}
use Rattle.zq_model.proofs.Homes.{home_score, lent_each, lent_placed, made_here, made_placed, moved, moved_home, moved_other, score_here, told_queues}
use Rattle.zq_model.proofs.Told.{IsTold, acted, changed, told_after, told_one}
use Rattle.zq_model.specs.Lent.{AreLent, HasHome, is_home, is_home_of, made, made_in, queues_of}
use Rattle.zq_model.specs.Moves.{Move, Queues, after, after_act}

find_map : {X Y : Type 0} (p : Y → Bool) (q : X → Bool) (f : X → Y) (xs : List X) → ((x : X) → p (f x) ≡ q x) → find p (map f xs) ≡ option_map f (find q xs)
find_map p q f [] same = refl
find_map p q f (x ∷ xs) same =
    ap (λ b. cond b (Some (f x)) (find p (map f xs))) (same x)
    ∙ (elim (q x) as (λ b. cond b (Some (f x)) (find p (map f xs)) ≡ option_map f (cond b (Some x) (find q xs))) [
      | true ↦ refl
      | false ↦ find_map p q f xs same
    ])

module _ (rule : Rule) (K site stamp : ℕ) (move : Move) (below : site < SITES) (books : List Book) (are : AreLent K books) where
  abbrev step : Book → Book
  step = moved rule K site stamp move below

  still_home : (key m : List ℕ) (b : Book) → is_home_of key m (step b) ≡ is_home_of key m b
  still_home key m b = elim (is_home move b) as (λ c. is_home_of key m (if c then made_in site stamp move b else b) ≡ is_home_of key m b) [ true ↦ refl | false ↦ refl ]

  home_after : (key m : List ℕ) → find (is_home_of key m) (made site stamp move books) ≡ option_map step (find (is_home_of key m) books)
  home_after key m = find_map (is_home_of key m) (is_home_of key m) step books (still_home key m)

  abbrev score_after : List ℕ → List ℕ → Option ℤ
  score_after key m = home_score rule key (made site stamp move books) m

  -- at another place no score changes
  score_other : (key m : List ℕ) → eq_by_cmp place_cmp (key, m) (move.key, move.member) ≡ false → score_after key m ≡ home_score rule key books m
  score_other key m other =
      ap (option_and_then (score_here rule key m)) (home_after key m)
      ∙ (elim (find (is_home_of key m) books) as (λ r. option_and_then (score_here rule key m) (option_map step r) ≡ option_and_then (score_here rule key m) r) [
        | None ↦ refl
        | Some b ↦ moved_other rule K site stamp move below b key m other
      ])

  -- the member's score is changed by the act
  score_same : HasHome move.key move.member books → score_after move.key move.member ≡ acted move.act (home_score rule move.key books move.member)
  score_same home =
      ap (option_and_then (score_here rule move.key move.member)) (home_after move.key move.member)
      ∙ (elim (find (is_home_of move.key move.member) books) as (λ r. find (is_home_of move.key move.member) books ≡ r →
      option_and_then (score_here rule move.key move.member) (option_map step r) ≡ acted move.act (option_and_then (score_here rule move.key move.member) r)) [
        | None ↦ λ none. absurd (true≢false (sym home.2 ∙ find_none (is_home_of move.key move.member) books home.0 none home.1))
        | Some b ↦ λ some.
            let found = find_some (is_home_of move.key move.member) books b some in
            ap (score_here rule move.key move.member) (moved_home rule K site stamp move below b found.1)
            ∙ made_here rule K site stamp move below b (lent_each K books b are found.0)
      ] refl)

  told_made : (key : List ℕ) → IsTold (score_after key) (queues_of rule (made site stamp move books) key)
  told_made key = told_queues rule K (made site stamp move books) (made_placed rule K site stamp move below books are) key

  told_before : (key : List ℕ) → IsTold (home_score rule key books) (queues_of rule books key)
  told_before key = told_queues rule K books (lent_placed rule K books are) key

  not_place : (key m : List ℕ) → ((key ≡ move.key) × (m ≡ move.member) → ⊥) → eq_by_cmp place_cmp (key, m) (move.key, move.member) ≡ false
  not_place key m apart = false_from_ne_true _ (λ same.
      let at : (key, m) ≡ (move.key, move.member) = same_key place_exact (key, m) (move.key, move.member) same in
      apart (ap (λ (q : List ℕ × List ℕ). q.0) at, ap (λ (q : List ℕ × List ℕ). q.1) at))

  other_key : (key : List ℕ) → pointwise nat_eq move.key key ≡ false → queues_of rule (made site stamp move books) key ≡ queues_of rule books key
  other_key key apart = told_one _ _ _ _ (told_made key) (told_before key) (λ m.
      score_other key m (not_place key m (λ same. true≢false (sym (bytes_same move.key key (sym same.0)) ∙ apart))))

  its_key : HasHome move.key move.member books → queues_of rule (made site stamp move books) move.key ≡ after_act move.act (queues_of rule books move.key) move.member
  its_key home = told_one _ _ _ _ (told_made move.key) (told_after move.act (home_score rule move.key books) (queues_of rule books move.key) move.member (told_before move.key)) (λ m.
      elim (pointwise nat_eq m move.member) as (λ c. pointwise nat_eq m move.member ≡ c →
      score_after move.key m ≡ (if c then acted move.act (home_score rule move.key books move.member) else home_score rule move.key books m)) [
        | true ↦ λ same. ap (score_after move.key) (same_bytes m move.member same) ∙ score_same home
        | false ↦ λ apart. score_other move.key m (not_place move.key m (λ same. true≢false (sym (bytes_same m move.member same.1) ∙ apart)))
      ] refl)

  key_after : HasHome move.key move.member books → (key : List ℕ) → queues_of rule (made site stamp move books) key ≡ after move (queues_of rule books) key
  key_after home key =
      elim (pointwise nat_eq move.key key) as (λ c. pointwise nat_eq move.key key ≡ c →
      queues_of rule (made site stamp move books) key ≡ (if c then after_act move.act (queues_of rule books key) move.member else queues_of rule books key)) [
        | true ↦ λ same. subst (λ k. queues_of rule (made site stamp move books) k ≡ after_act move.act (queues_of rule books k) move.member) (same_bytes move.key key same) (its_key home)
        | false ↦ λ apart. other_key key apart
      ] refl

  pub queues_after : HasHome move.key move.member books → queues_of rule (made site stamp move books) ≡ after move (queues_of rule books)
  queues_after home = λ i key. key_after home key i
