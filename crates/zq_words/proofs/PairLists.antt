-- Pairs read one after the other.
use Rattle.std.proofs.Common.{◌%◌, ◌≡◌, ℕ, ℤ, ◌<◌, true, List, [], ◌∷◌, ◌++◌, length, map, Option, None, Some, refl, sym, ap, ◌∙◌, get_or, drop, ◌≤◌, arith, append_assoc, append-nil, subst}
use Rattle.std.proofs.lemmas.List.{map-append}
use Rattle.std.specs.Option.{is_some, option_map}
use Rattle.std.specs.declared.vec.Vec.{Vec}
use Rattle.std.specs.declared.alloc.Global.{Global}
use Rattle.zq_words.specs.Words.{Word, views, written_score}
use Rattle.zq_words.specs.Command.{pair_onto, pairs_of}
use Rattle.zq_words.specs.Shown.{are_several, pair_shown}
use Rattle.zq_words.specs.declared.pair.Pair.{Pair}

-- one word, or none, writes no pair
pub pairs_of_short : (words : List (Vec ℕ Global)) → length words < 2 → pairs_of (views words) ≡ Some []
pairs_of_short [] h = refl
pairs_of_short (a ∷ []) h = refl
pairs_of_short (a ∷ b ∷ words) h = absurd (omega arith)

-- What is read first stands before what the words after it write.
abbrev pub ReadsOn : List Word → List (ℤ × Word) → List Word → Type 0
ReadsOn all pairs rest = (is_some (pairs_of rest) ≡ true) × (pairs_of all ≡ option_map (λ others. pairs ++ others) (pairs_of rest))

pub score_is : (score : Option ℤ) (member : Word) (others : Option (List (ℤ × Word))) → is_some (pair_onto score member others) ≡ true → is_some score ≡ true
score_is None member None h = h
score_is None member (Some others) h = h
score_is (Some z) member others h = refl

reads_pair : (all : Option (List (ℤ × Word))) (pairs : List (ℤ × Word)) (z : ℤ) (member : Word) (others : Option (List (ℤ × Word)))
    → is_some (pair_onto (Some z) member others) ≡ true → all ≡ option_map (λ x. pairs ++ x) (pair_onto (Some z) member others)
    → (is_some others ≡ true) × (all ≡ option_map (λ x. (pairs ++ (z, member) ∷ []) ++ x) others)
reads_pair all pairs z member None h e = (h, e)
reads_pair all pairs z member (Some others) h e = (refl, e ∙ ap Some (sym (append_assoc pairs ((z, member) ∷ []) others)))

pub reads_more : (all : List Word) (pairs : List (ℤ × Word)) (score member : Word) (rest : List Word) (z : ℤ)
    → written_score score ≡ Some z → ReadsOn all pairs (score ∷ member ∷ rest) → ReadsOn all (pairs ++ (z, member) ∷ []) rest
reads_more all pairs score member rest z e r = reads_pair (pairs_of all) pairs z member (pairs_of rest) (rw e at r.0) (rw e at r.1)

two_words : (words : List (Vec ℕ Global)) (a b : Vec ℕ Global) → 2 ≤ length words → a ≡ get_or words 0 a → b ≡ get_or words 1 b
    → views words ≡ a.items ∷ b.items ∷ views (drop 2 words)
two_words [] a b h e f = absurd (omega arith)
two_words (x ∷ []) a b h e f = absurd (omega arith)
two_words (x ∷ y ∷ words) a b h e f = cc

pair_is : (score : Option ℤ) (member : Word) (pair : ℤ × Word) → Some pair ≡ option_map (λ z. (z, member)) score → (score ≡ Some pair.0) × (pair.1 ≡ member)
pair_is None member pair e = cc
pair_is (Some z) member pair e = (cc, cc)

pub reads_next : (all : List Word) (old new : List Pair) (pair : Pair) (words tail : List (Vec ℕ Global)) (a b : Vec ℕ Global)
    → new ≡ old ++ pair ∷ [] → tail ≡ drop 2 words
    → 2 ≤ length words → a ≡ get_or words 0 a → b ≡ get_or words 1 b → Some (pair_shown pair) ≡ option_map (λ z. (z, b.items)) (written_score a.items)
    → ReadsOn all (map pair_shown old) (views words) → ReadsOn all (map pair_shown new) (views tail)
reads_next all old new pair words tail a b i t h e f s r =
    let p = pair_is (written_score a.items) b.items (pair_shown pair) s in
    let two = subst (ReadsOn all (map pair_shown old)) (two_words words a b h e f) r in
    let more = reads_more all (map pair_shown old) a.items b.items (views (drop 2 words)) pair.score p.0 two in
    rw (i, t, map-append, p.1) more

-- Where no pair is left, all are read.
pub reads_last : (all : List Word) (pairs : List (ℤ × Word)) (words : List (Vec ℕ Global)) → length words < 2
    → ReadsOn all pairs (views words) → pairs_of all ≡ Some pairs
reads_last all pairs words h r = r.1 ∙ ap (option_map (λ others. pairs ++ others)) (pairs_of_short words h) ∙ ap Some (append-nil pairs)

several : (a b : Option ℤ) (m n : Word) (others : Option (List (ℤ × Word))) → is_some (pair_onto a m (pair_onto b n others)) ≡ true →
    are_several (pair_onto a m (pair_onto b n others)) ≡ true
several None b m n others e = cc
several (Some x) None m n others e = cc
several (Some x) (Some y) m n None e = cc
several (Some x) (Some y) m n (Some pairs) e = refl

-- words for more than one pair write several
pub several_pairs : (words : List (Vec ℕ Global)) → 3 ≤ length words → length words % 2 ≡ 0 → is_some (pairs_of (views words)) ≡ true →
    are_several (pairs_of (views words)) ≡ true
several_pairs [] h even e = absurd (omega arith)
several_pairs (a ∷ []) h even e = absurd (omega arith)
several_pairs (a ∷ m ∷ []) h even e = absurd (omega arith)
several_pairs (a ∷ m ∷ b ∷ []) h even e = cc
several_pairs (a ∷ m ∷ b ∷ n ∷ words) h even e = several (written_score a.items) (written_score b.items) m.items n.items (pairs_of (views words)) e

-- two words write one pair
pub one_pair : (words : List (Vec ℕ Global)) (a m : Vec ℕ Global) → 2 ≤ length words → length words ≤ 2 → a ≡ get_or words 0 a → m ≡ get_or words 1 m →
    pairs_of (views words) ≡ pair_onto (written_score a.items) m.items (Some [])
one_pair [] a m h k e f = absurd (omega arith)
one_pair (x ∷ []) a m h k e f = absurd (omega arith)
one_pair (x ∷ y ∷ []) a m h k e f = cc
one_pair (x ∷ y ∷ z ∷ words) a m h k e f = absurd (omega arith)
