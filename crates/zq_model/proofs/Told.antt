-- A queue is told by the score of each member.
use Rattle.std.proofs.Common.{List, None, Option, Some, [], ap, false, inl, inr, nat_eq, not, option_map, refl, subst, sym, true, true≢false, ℕ, ℤ, ◌∙◌, ◌∷◌, ◌≡◌, ◌⊎◌}
use Rattle.std.proofs.lemmas.Option.{none-some, same_Some}
use Rattle.std.specs.Cmp.Lexicographic.{pointwise}
use Rattle.std.specs.Prelude.{cond, find, if◌then◌else◌, ◌+ℤ◌, ◌↔◌}
use Rattle.zq_model.proofs.Membership.{find_none, find_some}
use Rattle.zq_model.proofs.Places.{bytes_same, same_bytes}
use Rattle.zq_model.proofs.Rising.{rising_one}
use Rattle.zq_model.specs.Meaning.{IsRising, Scored}
use Rattle.zq_model.specs.Operation.{Act, Bump, Drop, Put}
use Rattle.zq_model.specs.Sets.{IsIn}
use Rattle.zq_model.proofs.Lists.{in_filter, in_filter_from, in_insert, in_insert_from, rising_filter, rising_insert}
use Rattle.zq_model.specs.Moves.{Queue, after_act, is_of, raised, score_in, with_score, without}

-- the queue rises, and has each member at the score that f gives it, and no other
pub record IsTold (f : List ℕ → Option ℤ) (q : Queue) : Type 0 where
  pub rising : IsRising q
  pub members : (x : ℤ) (m : List ℕ) → IsIn (x, m) q ↔ (f m ≡ Some x)

pub told_one : (f g : List ℕ → Option ℤ) (q r : Queue) → IsTold f q → IsTold g r → ((m : List ℕ) → f m ≡ g m) → q ≡ r
told_one f g q r a b same = rising_one q r a.rising b.rising
    (λ z here. (b.members z.0 z.1).1 (sym (same z.1) ∙ (a.members z.0 z.1).0 here))
    (λ z here. (a.members z.0 z.1).1 (same z.1 ∙ (b.members z.0 z.1).0 here))

pub told_score : (f : List ℕ → Option ℤ) (q : Queue) (m : List ℕ) → IsTold f q → score_in q m ≡ f m
told_score f q m a =
    elim (find (is_of m) q) as (λ r. find (is_of m) q ≡ r → option_map (λ (p : Scored). p.0) r ≡ f m) [
      | None ↦ λ none. elim (f m) as (λ r. f m ≡ r → None ≡ r) [
        | None ↦ λ _. refl
        | Some x ↦ λ is. absurd (true≢false (sym (bytes_same m m refl) ∙ find_none (is_of m) q (x, m) none ((a.members x m).1 is)))
      ] refl
      | Some p ↦ λ some.
          let found = find_some (is_of m) q p some in
          let here : IsIn (p.0, m) q = subst (λ (n : List ℕ). IsIn (p.0, n) q) (same_bytes p.1 m found.1) found.0 in
          sym ((a.members p.0 m).0 here)
    ] refl

-- ---- what an act makes of it

-- the score after an act on a member that had this one
abbrev pub acted : Act → Option ℤ → Option ℤ
acted (Put score) old = Some score
acted (Bump increment) old = option_map (λ x. x +ℤ increment) old
acted Drop old = None

-- f, with another value at m
abbrev pub changed : (List ℕ → Option ℤ) → List ℕ → Option ℤ → List ℕ → Option ℤ
changed f m new n = if pointwise nat_eq n m then new else f n

told_without : (f : List ℕ → Option ℤ) (q : Queue) (m : List ℕ) → IsTold f q → IsTold (changed f m None) (without q m)
told_without f q m a = record {
  rising = rising_filter (λ p. not (is_of m p)) q a.rising;
  members = λ x n. (
    λ here.
        let left = in_filter_from (λ p. not (is_of m p)) q (x, n) here in
        elim (pointwise nat_eq n m) as (λ b. not b ≡ true → (if b then None else f n) ≡ Some x) [
          | true ↦ λ e. absurd (true≢false (sym e))
          | false ↦ λ e. (a.members x n).0 left.0
        ] left.1,
    λ is.
        elim (pointwise nat_eq n m) as (λ b. pointwise nat_eq n m ≡ b → (if b then None else f n) ≡ Some x → IsIn (x, n) (without q m)) [
          | true ↦ λ _ e. absurd (none-some x e)
          | false ↦ λ away e. in_filter (λ p. not (is_of m p)) q (x, n) ((a.members x n).1 e) (ap not away)
        ] refl is,
  );
}

told_with : (f : List ℕ → Option ℤ) (q : Queue) (m : List ℕ) (score : ℤ) → IsTold f q → IsTold (changed f m (Some score)) (with_score q m score)
told_with f q m score a =
    let rest = told_without f q m a in
    record {
      rising = rising_insert (without q m) (score, m) rest.rising;
      members = λ x n. (
        λ here. elim (in_insert_from (without q m) (score, m) (x, n) here) [
          | inl same ↦
              let it : pointwise nat_eq n m ≡ true = bytes_same n m (ap (λ (p : Scored). p.1) (sym same)) in
              ap (λ b. if b then Some score else f n) it ∙ ap (λ (p : Scored). Some p.0) same
          | inr later ↦
              elim (pointwise nat_eq n m) as (λ b. (if b then None else f n) ≡ Some x → (if b then Some score else f n) ≡ Some x) [
                | true ↦ λ e. absurd (none-some x e)
                | false ↦ λ e. e
              ] ((rest.members x n).0 later)
        ],
        λ is.
            elim (pointwise nat_eq n m) as (λ b. pointwise nat_eq n m ≡ b → (if b then Some score else f n) ≡ Some x → IsIn (x, n) (with_score q m score)) [
              | true ↦ λ it e. in_insert (without q m) (score, m) (x, n) (inl (λ i. (same_Some score x e i, sym (same_bytes n m it) i)))
              | false ↦ λ away e. in_insert (without q m) (score, m) (x, n) (inr ((rest.members x n).1 (ap (λ b. if b then None else f n) away ∙ e)))
            ] refl is,
      );
    }

told_same : (f g : List ℕ → Option ℤ) (q : Queue) → IsTold f q → ((m : List ℕ) → f m ≡ g m) → IsTold g q
told_same f g q a same = record {
  rising = a.rising;
  members = λ x n. (λ here. sym (same n) ∙ (a.members x n).0 here, λ is. (a.members x n).1 (same n ∙ is));
}

told_raised : (f : List ℕ → Option ℤ) (q : Queue) (m : List ℕ) (increment : ℤ) (old : Option ℤ) → IsTold f q → f m ≡ old →
    IsTold (changed f m (acted (Bump increment) old)) (raised q m increment old)
told_raised f q m increment (Some x) a is = told_with f q m (x +ℤ increment) a
told_raised f q m increment None a is =
    told_same f (changed f m None) q a (λ n.
    elim (pointwise nat_eq n m) as (λ b. pointwise nat_eq n m ≡ b → f n ≡ (if b then None else f n)) [
      | true ↦ λ it. ap f (same_bytes n m it) ∙ is
      | false ↦ λ away. refl
    ] refl)

-- the queue after an act is told by the scores after it
pub told_after : (act : Act) (f : List ℕ → Option ℤ) (q : Queue) (m : List ℕ) → IsTold f q → IsTold (changed f m (acted act (f m))) (after_act act q m)
told_after (Put score) f q m a = told_with f q m score a
told_after Drop f q m a = told_without f q m a
told_after (Bump increment) f q m a =
    subst (λ r. IsTold (changed f m (acted (Bump increment) (f m))) (raised q m increment r)) (sym (told_score f q m a)) (told_raised f q m increment (f m) a refl)
