-- A loop over the entries of a map of the code, in whatever order, which gives each key its value in another map.

use Rattle.std.proofs.Common.{List, None, Option, Some, [], ap, cond, false, refl, subst, sym, true, ℕ, ◌∙◌, ◌∷◌, ◌≡◌}
use Rattle.std.proofs.lemmas.Cmp.{nat_list_cmp_total}
use Rattle.std.proofs.lemmas.Map.Lookups.{exact_bytes}
use Rattle.std.proofs.lemmas.Map.Iter.{rest_all, rest_more}
use Rattle.std.proofs.lemmas.Map.Text.{is_eq-slice_cmp}
use Rattle.std.proofs.lemmas.Option.{none-some}
use Rattle.std.specs.FinMap.{find}
use Rattle.std.specs.List.{AllByRecursion, IsDistinct}
use Rattle.std.specs.Map.{keys_of}
use Rattle.std.specs.Map.Iter.{TakesFirst}
use Rattle.std.specs.Ordering.{eq_by_cmp}
use Rattle.zq_model.proofs.Maps as maps
use Rattle.zq_posheap.specs.Order.{same_key}
use Rattle.zq_queue.specs.Entries.{bytes_cmp}
use Rattle.zq_shard.specs.Queues.{HasAt, and_then}

abbrev pub gathered_at : {X Y : Type 0} → (X → Option Y) → Option Y → Option X → Option Y
gathered_at f y None = y
gathered_at f y (Some x) = f x

-- the keys that are not left have their values, those that are left what they began with
pub record IsGathering {X Y : Type 0} (f : List ℕ → X → Option Y) (start : List ℕ → Option Y) (source rest : List (List ℕ × X)) (new : List (List ℕ × Y)) : Type 0 where
  pub done : (q : List ℕ) → find bytes_cmp q rest ≡ None → find bytes_cmp q new ≡ gathered_at (f q) (start q) (find bytes_cmp q source)
  pub left : (q : List ℕ) (x : X) → find bytes_cmp q rest ≡ Some x → find bytes_cmp q new ≡ start q
  pub whole : (q : List ℕ) (x : X) → find bytes_cmp q rest ≡ Some x → find bytes_cmp q source ≡ Some x
  pub distinct : IsDistinct same_key (keys_of rest)

-- a key that is apart from all others is not found among them
pub fresh : {X : Type 0} (k : List ℕ) (pairs : List (List ℕ × X)) → AllByRecursion (λ y. same_key k y ≡ false) (keys_of pairs) → find bytes_cmp k pairs ≡ None
fresh k [] apart = refl
fresh k (e ∷ pairs) apart = ap (λ b. cond b (Some e.1) (find bytes_cmp k pairs)) (is_eq-slice_cmp k e.0 ∙ apart.0) ∙ fresh k pairs apart.1

module _ {X Y : Type 0} (f : List ℕ → X → Option Y) (start : List ℕ → Option Y) where
  pub gathering_start : (source : List (List ℕ × X)) (new : List (List ℕ × Y)) → ((q : List ℕ) → find bytes_cmp q new ≡ start q) →
      IsDistinct same_key (keys_of source) → IsGathering f start source source new
  gathering_start source new begins distinct = record {
    done = λ q none. begins q ∙ ap (gathered_at (f q) (start q)) (sym none);
    left = λ q x some. begins q;
    whole = λ q x some. some;
    distinct = distinct;
  }

  pub gathering_end : (source : List (List ℕ × X)) (new : List (List ℕ × Y)) → IsGathering f start source [] new →
      (q : List ℕ) → find bytes_cmp q new ≡ gathered_at (f q) (start q) (find bytes_cmp q source)
  gathering_end source new gathering q = gathering.done q refl

  module _ (source rest : List (List ℕ × X)) (e : List ℕ × X) (new : List (List ℕ × Y)) (gathering : IsGathering f start source (e ∷ rest) new) where
    here : find bytes_cmp e.0 (e ∷ rest) ≡ Some e.1
    here = ap (λ b. cond b (Some e.1) (find bytes_cmp e.0 rest)) (maps.key_same nat_list_cmp_total e.0 e.0 refl)

    elsewhere : (q : List ℕ) (o : Option X) → eq_by_cmp bytes_cmp q e.0 ≡ false → find bytes_cmp q rest ≡ o → find bytes_cmp q (e ∷ rest) ≡ o
    elsewhere q o away is = ap (λ b. cond b (Some e.1) (find bytes_cmp q rest)) away ∙ is

    gone : find bytes_cmp e.0 rest ≡ None
    unfolding IsDistinct
    gone = fresh e.0 rest gathering.distinct.0

    -- a key that is left is another one
    other : (q : List ℕ) (x : X) → find bytes_cmp q rest ≡ Some x → eq_by_cmp bytes_cmp q e.0 ≡ false
    other q x some =
        elim (eq_by_cmp bytes_cmp q e.0) as (λ b. eq_by_cmp bytes_cmp q e.0 ≡ b → b ≡ false) [
          | true ↦ λ same. absurd (none-some x (sym gone ∙ ap (λ k. find bytes_cmp k rest) (sym (maps.same_key exact_bytes q e.0 same)) ∙ some))
          | false ↦ λ away. refl
        ] refl

    -- the first key has its value
    pub gathering_more : (after : List (List ℕ × Y)) → HasAt e.0 (f e.0 e.1) new after → IsGathering f start source rest after
    unfolding IsDistinct
    gathering_more after has = record {
      done = λ q none. has q
          ∙ (elim (eq_by_cmp bytes_cmp q e.0) as (λ b. eq_by_cmp bytes_cmp q e.0 ≡ b →
          cond b (f e.0 e.1) (find bytes_cmp q new) ≡ gathered_at (f q) (start q) (find bytes_cmp q source)) [
            | true ↦ λ same.
                let key : q ≡ e.0 = maps.same_key exact_bytes q e.0 same in
                subst (λ k. f e.0 e.1 ≡ gathered_at (f k) (start k) (find bytes_cmp k source)) (sym key)
                (ap (gathered_at (f e.0) (start e.0)) (sym (gathering.whole e.0 e.1 here)))
            | false ↦ λ away. gathering.done q (elsewhere q None away none)
          ] refl);
      left = λ q x some. has q ∙ ap (λ b. cond b (f e.0 e.1) (find bytes_cmp q new)) (other q x some) ∙ gathering.left q x (elsewhere q (Some x) (other q x some) some);
      whole = λ q x some. gathering.whole q x (elsewhere q (Some x) (other q x some) some);
      distinct = gathering.distinct.1;
    }

    -- the first key keeps what it began with
    pub gathering_skip : f e.0 e.1 ≡ start e.0 → IsGathering f start source rest new
    gathering_skip keeps = gathering_more new (λ q.
        elim (eq_by_cmp bytes_cmp q e.0) as (λ b. eq_by_cmp bytes_cmp q e.0 ≡ b → find bytes_cmp q new ≡ cond b (f e.0 e.1) (find bytes_cmp q new)) [
          | true ↦ λ same. ap (λ k. find bytes_cmp k new) (maps.same_key exact_bytes q e.0 same) ∙ gathering.left e.0 e.1 here ∙ sym keeps
          | false ↦ λ away. refl
        ] refl)

-- ---- the loop: its iterator has s left, gives r, and then has t left

pub gathered_and : {X Y : Type 0} (f : X → Option Y) (o : Option X) → gathered_at f None o ≡ and_then f o
gathered_and f None = refl
gathered_and f (Some x) = refl

module _ {A X Y : Type 0} (shows : A → List ℕ × X) (f : List ℕ → X → Option Y) (start : List ℕ → Option Y) (source s t : List (List ℕ × X)) (new : List (List ℕ × Y)) (r : Option A)
    (gathering : IsGathering f start source s new) (takes : TakesFirst shows s r t) where
  turn : (x : A) → r ≡ Some x → IsGathering f start source (shows x ∷ t) new
  turn x gives = subst (λ rest. IsGathering f start source rest new) (rest_more shows s t r x gives takes) gathering

  -- the key that comes has what it began with, and is one of the source
  pub turn_begins : (x : A) → r ≡ Some x → find bytes_cmp (shows x).0 new ≡ start (shows x).0
  turn_begins x gives = (turn x gives).left (shows x).0 (shows x).1 (here f start source t (shows x) new (turn x gives))

  pub turn_source : (x : A) → r ≡ Some x → find bytes_cmp (shows x).0 source ≡ Some (shows x).1
  turn_source x gives = (turn x gives).whole (shows x).0 (shows x).1 (here f start source t (shows x) new (turn x gives))

  pub turn_more : (x : A) → r ≡ Some x → (after : List (List ℕ × Y)) → HasAt (shows x).0 (f (shows x).0 (shows x).1) new after → IsGathering f start source t after
  turn_more x gives after has = gathering_more f start source t (shows x) new (turn x gives) after has

  pub turn_skip : (x : A) → r ≡ Some x → f (shows x).0 (shows x).1 ≡ start (shows x).0 → IsGathering f start source t new
  turn_skip x gives keeps = gathering_skip f start source t (shows x) new (turn x gives) keeps

  pub turn_end : r ≡ None → (q : List ℕ) → find bytes_cmp q new ≡ gathered_at (f q) (start q) (find bytes_cmp q source)
  turn_end none = gathering_end f start source new (subst (λ rest. IsGathering f start source rest new) (rest_all shows s t r none takes) gathering)

-- where the loop begins
pub turn_start : {X Y : Type 0} (f : List ℕ → X → Option Y) (start : List ℕ → Option Y) (source s : List (List ℕ × X)) (new : List (List ℕ × Y)) → s ≡ source →
    IsDistinct same_key (keys_of source) → ((q : List ℕ) → find bytes_cmp q new ≡ start q) → IsGathering f start source s new
turn_start f start source s new is distinct begins = subst (λ rest. IsGathering f start source rest new) (sym is) (gathering_start f start source new begins distinct)
