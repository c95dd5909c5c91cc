-- Commands whose words stay, and those of which other words are made.

use Rattle.std.proofs.Common.{Bool, List, Ok, [], ap, arith, drop, false, inl, inr, is_some, length, not, refl, sym, true, ℕ, ◌<◌, ◌∙◌, ◌∷◌, ◌≡◌, ◌||◌, ◌⊎◌}
use Rattle.std.proofs.lemmas.Bool.{or_cases, or_parts}
use Rattle.std.proofs.lemmas.List.{drop-map}
use Rattle.std.specs.declared.alloc.Global.{Global}
use Rattle.std.specs.declared.vec.Vec.{Vec}
use Rattle.zq_dialect.proofs.Kept.{kept_end, kept_zadd, other_end, other_score, other_zadd}
use Rattle.zq_dialect.proofs.Refusing.{ok_is}
use Rattle.zq_dialect.specs.Said.{Saying, before_scores, is_new_end, plain_end, plain_ends, plain_zadd, plain_zincrby}
use Rattle.zq_dialect.specs.Spelled.{has_new, new_score, plain_score}
use Rattle.zq_dialect.specs.declared.ends.Ends.{Ends}
use Rattle.zq_words.specs.Words.{Word, views}

second_of : (a b x y : Word) (xs ys : List Word) → ◌≡◌ {A = List Word} (a ∷ x ∷ xs) (b ∷ y ∷ ys) → x ≡ y
second_of a b x y xs ys e = cc

third_of : (a b c d x y : Word) (xs ys : List Word) → ◌≡◌ {A = List Word} (a ∷ b ∷ x ∷ xs) (c ∷ d ∷ y ∷ ys) → x ≡ y
third_of a b c d x y xs ys e = cc

fourth_of : (a b c d e f x y : Word) (xs ys : List Word) → ◌≡◌ {A = List Word} (a ∷ b ∷ c ∷ x ∷ xs) (d ∷ e ∷ f ∷ y ∷ ys) → x ≡ y
fourth_of a b c d e f x y xs ys g = cc

behind_of : (a b : Word) (xs ys : List Word) → ◌≡◌ {A = List Word} (a ∷ xs) (b ∷ ys) → xs ≡ ys
behind_of a b xs ys e = cc

-- ZADD in memory
of_pairs : (words pairs : List (Vec ℕ Global)) (n : ℕ) (b : Bool) → n ≡ before_scores (views words) → pairs ≡ drop n words → b ≡ has_new (views pairs) →
    has_new (drop (before_scores (views words)) (views words)) ≡ b
of_pairs words pairs n b e f g =
    ap (λ k. has_new (drop k (views words))) (sym e) ∙ ap has_new (drop-map (λ (w : Vec ℕ Global). w.items) n words)
    ∙ ap (λ (ws : List (Vec ℕ Global)). has_new (views ws)) (sym f) ∙ sym g

pub zadd_stays : (name : Word) (words pairs : List (Vec ℕ Global)) (n : ℕ) (b : Bool) → n ≡ before_scores (views words) → pairs ≡ drop n words →
    b ≡ has_new (views pairs) → b ≡ false → ◌≡◌ {A = Saying} (Ok (name ∷ plain_zadd (views words))) (Ok (name ∷ views words))
zadd_stays name words pairs n b e f g none =
    ap (λ (ws : List Word). Ok (name ∷ ws)) (kept_zadd (views words) (of_pairs words pairs n b e f g ∙ none))

pub zadd_other : (name : Word) (words pairs : List (Vec ℕ Global)) (n : ℕ) (b : Bool) → n ≡ before_scores (views words) → pairs ≡ drop n words →
    b ≡ has_new (views pairs) → b ≡ true → ◌≡◌ {A = Saying} (Ok (name ∷ plain_zadd (views words))) (Ok (name ∷ views words)) → ⊥
zadd_other name words pairs n b e f g some same =
    other_zadd (views words) (of_pairs words pairs n b e f g ∙ some) (behind_of name name _ _ (ok_is _ _ same))

-- ZINCRBY
pub zincrby_short : (words : List (Vec ℕ Global)) → length words < 2 → plain_zincrby (views words) ≡ views words
zincrby_short [] h = refl
zincrby_short (key ∷ []) h = refl
zincrby_short (key ∷ increment ∷ words) h = absurd (omega arith)

pub increment_other : (name key increment : Word) (others : List Word) → is_some (new_score increment) ≡ true →
    ◌≡◌ {A = Saying} (Ok (name ∷ key ∷ plain_score increment ∷ others)) (Ok (name ∷ key ∷ increment ∷ others)) → ⊥
increment_other name key increment others some same =
    other_score increment some (third_of name key name key (plain_score increment) increment others others (ok_is _ _ same))

-- ranges
pub ends_short : (ends : Ends) (words : List (Vec ℕ Global)) → length words < 3 → plain_ends ends (views words) ≡ views words
ends_short ends [] h = refl
ends_short ends (key ∷ []) h = refl
ends_short ends (key ∷ a ∷ []) h = refl
ends_short ends (key ∷ a ∷ b ∷ words) h = absurd (omega arith)

pub range_stays : (name key a b : Word) (ends : Ends) (others : List Word) (new : Bool) →
    new ≡ (is_new_end ends.by_score (not ends.is_turned) a || is_new_end ends.by_score ends.is_turned b) → new ≡ false →
    ◌≡◌ {A = Saying} (Ok (name ∷ key ∷ plain_end ends.by_score (not ends.is_turned) a ∷ plain_end ends.by_score ends.is_turned b ∷ others))
    (Ok (name ∷ key ∷ a ∷ b ∷ others))
range_stays name key a b ends others new e none =
    let parts = or_parts (is_new_end ends.by_score (not ends.is_turned) a) (is_new_end ends.by_score ends.is_turned b) (sym e ∙ none) in
    ap (λ (w : Word). Ok (name ∷ key ∷ w ∷ plain_end ends.by_score ends.is_turned b ∷ others)) (kept_end ends.by_score (not ends.is_turned) a parts.0)
    ∙ ap (λ (w : Word). Ok (name ∷ key ∷ a ∷ w ∷ others)) (kept_end ends.by_score ends.is_turned b parts.1)

pub range_other : (name key a b : Word) (ends : Ends) (others : List Word) (new : Bool) →
    new ≡ (is_new_end ends.by_score (not ends.is_turned) a || is_new_end ends.by_score ends.is_turned b) → new ≡ true →
    ◌≡◌ {A = Saying} (Ok (name ∷ key ∷ plain_end ends.by_score (not ends.is_turned) a ∷ plain_end ends.by_score ends.is_turned b ∷ others))
    (Ok (name ∷ key ∷ a ∷ b ∷ others)) → ⊥
range_other name key a b ends others new e some same =
    by (or_cases (is_new_end ends.by_score (not ends.is_turned) a) (is_new_end ends.by_score ends.is_turned b) (sym e ∙ some))
  where
    by : (is_new_end ends.by_score (not ends.is_turned) a ≡ true) ⊎ (is_new_end ends.by_score ends.is_turned b ≡ true) → ⊥
    by (inl first) = other_end ends.by_score (not ends.is_turned) a first (third_of _ _ _ _ _ _ _ _ (ok_is _ _ same))
    by (inr second) = other_end ends.by_score ends.is_turned b second (fourth_of _ _ _ _ _ _ _ _ _ _ (ok_is _ _ same))
