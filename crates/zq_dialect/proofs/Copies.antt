-- Words that are copied one after the other.

use Rattle.std.proofs.Common.{Bool, List, [], ap, append_assoc, arith, drop, false, get_or, is_some, length, refl, sym, take, true, ℕ, ◌++◌, ◌+◌, ◌<◌, ◌∙◌, ◌∷◌, ◌≡◌, ◌≤◌, ◌||◌}
use Rattle.std.proofs.lemmas.List.{map_more}
use Rattle.std.specs.declared.alloc.Global.{Global}
use Rattle.std.specs.declared.vec.Vec.{Vec}
use Rattle.zq_dialect.specs.Spelled.{has_new, new_score, plain_pairs}
use Rattle.zq_words.specs.Words.{Word, views}

-- one word more
pub one_copied : (start old new : List Word) (others : List (Vec ℕ Global)) (i : ℕ) (word : Vec ℕ Global) (text : Word) →
    new ≡ old ++ text ∷ [] → old ≡ start ++ views (take i others) → i < length others → word ≡ get_or others i word → text ≡ word.items →
    new ≡ start ++ views (take (i + 1) others)
one_copied start old new others i word text e f h is t =
    let last : views (take (i + 1) others) ≡ views (take i others) ++ text ∷ [] =
    map_more (λ (w : Vec ℕ Global). w.items) others i word h ∙ ap (λ (w : Vec ℕ Global). views (take i others) ++ w.items ∷ []) (sym is) ∙ ap (λ (w : Word). views (take i others) ++ w ∷ []) (sym t) in
    e ∙ ap (λ (xs : List Word). xs ++ text ∷ []) f ∙ append_assoc start (views (take i others)) (text ∷ []) ∙ ap (λ (xs : List Word). start ++ xs) (sym last)

-- two words more, of those that are left
pub two_copied : (old one two rest : List Word) (a b : Word) → one ≡ old ++ a ∷ [] → two ≡ one ++ b ∷ [] →
    two ++ rest ≡ old ++ (a ∷ b ∷ rest)
two_copied old one two rest a b e f =
    ap (λ (xs : List Word). xs ++ rest) f ∙ append_assoc one (b ∷ []) rest ∙ ap (λ (xs : List Word). xs ++ (b ∷ rest)) e ∙ append_assoc old (a ∷ []) (b ∷ rest)

-- fewer than two words are no pair
pub pairs_short : (words : List (Vec ℕ Global)) → length words < 2 → plain_pairs (views words) ≡ views words
pairs_short [] h = refl
pairs_short (a ∷ []) h = refl
pairs_short (a ∷ b ∷ words) h = absurd (omega arith)

pub new_short : (words : List (Vec ℕ Global)) → length words < 2 → has_new (views words) ≡ false
new_short [] h = refl
new_short (a ∷ []) h = refl
new_short (a ∷ b ∷ words) h = absurd (omega arith)

first_new : (words : List (Vec ℕ Global)) (score : Vec ℕ Global) → 2 ≤ length words → score ≡ get_or words 0 score →
    has_new (views words) ≡ (is_some (new_score score.items) || has_new (views (drop 2 words)))
first_new [] score h e = absurd (omega arith)
first_new (x ∷ []) score h e = absurd (omega arith)
first_new (x ∷ y ∷ words) score h e = ap (λ (w : Vec ℕ Global). is_some (new_score w.items) || has_new (views words)) (sym e)

-- the first score is rewritten
pub new_here : (all : Bool) (words : List (Vec ℕ Global)) (score : Vec ℕ Global) → all ≡ has_new (views words) → 2 ≤ length words → score ≡ get_or words 0 score →
    is_some (new_score score.items) ≡ true → true ≡ all
new_here all words score e h is some = sym (e ∙ first_new words score h is ∙ ap (λ b. b || has_new (views (drop 2 words))) some)

-- it is not, and others are left
pub new_behind : (all : Bool) (words tail : List (Vec ℕ Global)) (score : Vec ℕ Global) → tail ≡ drop 2 words → all ≡ has_new (views words) → 2 ≤ length words →
    score ≡ get_or words 0 score → is_some (new_score score.items) ≡ false → all ≡ has_new (views tail)
new_behind all words tail score t e h is none =
    e ∙ first_new words score h is ∙ ap (λ b. b || has_new (views (drop 2 words))) none ∙ ap (λ (ws : List (Vec ℕ Global)). has_new (views ws)) (sym t)
