-- What a peer lacks of a tail is new to it, and leads it to the image of the union.

use Rattle.std.proofs.Common.{Bool, List, T, [], ap, ap₂, arith, cond, false, get_or, inl, inr, le_trans, max, nat_lt, ne_eqb, not, refl, subst, subst₂, sym, true, ℕ, ⊎_elim, ◌&&◌, ◌++◌, ◌<◌, ◌∙◌, ◌∷◌, ◌≡◌, ◌≤◌}
use Rattle.std.proofs.lemmas.Bool.{and_right, cases_eq, cases_lt}
use Rattle.std.proofs.lemmas.Bool.Decides.{nat_tests}
use Rattle.std.specs.List.{filter}
use Rattle.zq_model.proofs.Dots.{counter_positive, has_not, has_parts, last_above, last_below, last_head, last_other}
use Rattle.zq_model.proofs.JoinSites.{known_in}
use Rattle.zq_model.proofs.Membership.{in_left, in_right, in_union}
use Rattle.zq_model.proofs.NewOperation.{closed_after, new_has_seen}
use Rattle.zq_model.proofs.Same.{image_of-same, image_of-same_heap}
use Rattle.zq_model.proofs.Sites.{by_site-at}
use Rattle.zq_model.proofs.TailSets.{base_in, closed_step, new_is_taken, step_in_heap, tail_above, tail_in, world_base}
use Rattle.zq_model.proofs.Taken.{covers_at}
use Rattle.zq_model.proofs.Worlds.{IsWithin_heap, last_past, last_within, world_left, world_part, world_right, world_swapped}
use Rattle.zq_model.specs.Image.{Image, image_after, image_of}
use Rattle.zq_model.specs.Operation.{Operation, has}
use Rattle.zq_model.specs.Sets.{AreSame, IsClosed, IsIn, IsNew, IsWorld, SITES, covers, last, vector_of}
use Rattle.zq_model.specs.Tail.{AreNew, IsTail, image_after_all, lacking, tail_set}

filter_same : (p q : Operation → Bool) (xs : List Operation) → ((x : Operation) → IsIn x xs → p x ≡ q x) → filter p xs ≡ filter q xs
filter_same p q [] each = refl
filter_same p q (x ∷ xs) each =
    ap₂ (λ b ys. cond b (x ∷ ys) ys) (each x (inl refl)) (filter_same p q xs (λ y i. each y (inr i)))

has_same : (u v : List ℕ) (s n : ℕ) → (n ≤ get_or u s 0 → n ≤ get_or v s 0) → (n ≤ get_or v s 0 → n ≤ get_or u s 0) → has u s n ≡ has v s n
has_same u v s n forth back = ap (λ b. nat_lt 0 n && b) (grind (arith, nat_tests))

-- of the rest of the tail the peer knows, with an operation of the tail, what it did before
known_rest : (K h : ℕ) (S T tail : List Operation) (o p : Operation) → IsTail h (o ∷ S) tail → o.heap ≡ h → IsIn p tail →
    p.n ≤ last (o ∷ T) h p.site → p.n ≤ last T h p.site
known_rest K h S T tail o p tailed e i inside =
    let later : (p.heap ≡ h) × (last (o ∷ S) h p.site < p.n) = tail_above h (o ∷ S) tail p tailed i in
    elim (cases_eq o.site p.site) [
      | inl same ↦
          let own : o.n ≤ last (o ∷ S) h p.site = last_above (o ∷ S) h p.site o (inl refl) e same in
          let top : last (o ∷ T) h p.site ≡ max o.n (last T h p.site) = last_head o T h p.site e same in omega arith
      | inr apart ↦
          let same : last (o ∷ T) h p.site ≡ last T h p.site = last_other o T h p.site (and_right _ _ (ne_eqb o.site p.site apart)) in omega arith
    ]

-- to take an operation of the tail leaves what is lacking of the rest
lacking_rest : (K h : ℕ) (S T tail : List Operation) (o : Operation) → ((p : Operation) → IsIn p tail → p.site < SITES) → IsTail h (o ∷ S) tail → o.heap ≡ h →
    lacking (vector_of (o ∷ T) h) tail ≡ lacking (vector_of T h) tail
lacking_rest K h S T tail o sites tailed e = filter_same _ _ tail (λ p i.
    let after : get_or (vector_of (o ∷ T) h) p.site 0 ≡ last (o ∷ T) h p.site = by_site-at (last (o ∷ T) h) p.site 0 (sites p i) in
    let before : get_or (vector_of T h) p.site 0 ≡ last T h p.site = by_site-at (last T h) p.site 0 (sites p i) in
    let more : last T h p.site ≤ last (o ∷ T) h p.site = last_within T (o ∷ T) h p.site (λ x j _. inr j) in
    let known : p.n ≤ last (o ∷ T) h p.site → p.n ≤ last T h p.site = known_rest K h S T tail o p tailed e i in
    ap not (has_same (vector_of (o ∷ T) h) (vector_of T h) p.site p.n
    (λ inside. let stays : p.n ≤ last T h p.site = known (omega arith) in omega arith) (λ inside. omega arith)))

-- what the operations taken by a peer of the set T lead to, of the set W
abbrev pub Catches : ℕ → List Operation → List Operation → List Operation → Image → Type 0
Catches h T W taken a = AreNew taken a × (image_after_all taken a ≡ image_of (T ++ W) h)

-- the peer has all of the set below the tail
base_caught : (K h : ℕ) (S T : List Operation) → IsWorld K (S ++ T) → IsClosed T → ((t : ℕ) → last S h t ≤ last T h t) → image_of T h ≡ image_of (T ++ S) h
base_caught K h S T world closed covered =
    let there : IsWithin_heap h S T = λ o i e.
    let inside : o.n ≤ last S h o.site = last_above S h o.site o i e refl in
    let least : last S h o.site ≤ last T h o.site = covered o.site in known_in K S T h o.site o world closed i e refl (omega arith) in
    image_of-same_heap K T (T ++ S) h (world_right K S T world) (world_swapped K S T world) (λ o i _. in_left o T S i)
    (λ o i e. ⊎_elim (λ j. j) (λ j. there o j e) (in_union o T S i))

-- what the peer knows of the tail it keeps covering
known_covered : (h : ℕ) (S T : List Operation) (o : Operation) → ((t : ℕ) → last S h t ≤ last T h t) → o.n ≤ last T h o.site → (t : ℕ) →
    last (o ∷ S) h t ≤ last T h t
known_covered h S T o covered inside t = last_below (o ∷ S) h t (last T h t) (λ p i a b. elim i [
  | inl same ↦ subst (λ x. x.n ≤ last T h t) same (subst (λ r. o.n ≤ last T h r) (ap (λ x. x.site) same ∙ b) inside)
  | inr there ↦ le_trans (last_above S h t p there a b) (covered t)
])

-- what is new over the set below the tail, and not known to the peer, is new to the peer
new_to_peer : (h : ℕ) (S T : List Operation) (o : Operation) → IsNew S o → o.heap ≡ h → ((t : ℕ) → last S h t ≤ last T h t) → last T h o.site < o.n → IsNew T o
new_to_peer h S T o new e covered above = record {
  covered = λ t. subst (λ x. get_or o.seen t 0 ≤ last T x t) (sym e) (le_trans (subst (λ x. get_or o.seen t 0 ≤ last S x t) e (new.covered t)) (covered t));
  fresh = subst (λ x. last T x o.site < o.n) (sym e) above;
}

-- to take what is in W adds nothing to a union with W
taken_in : (W T : List Operation) (o : Operation) → IsIn o W → (x : Operation) → IsIn x (o ∷ T) → IsIn x (W ++ T)
taken_in W T o here x i = ⊎_elim (λ same. subst (λ y. IsIn y (W ++ T)) same (in_left o W T here)) (in_right x W T) i

world_with : (K : ℕ) (W T : List Operation) (o : Operation) → IsIn o W → IsWorld K (W ++ T) → IsWorld K (W ++ (o ∷ T))
world_with K W T o here = world_part K (W ++ (o ∷ T)) (W ++ T) (λ x i. ⊎_elim (in_left x W T) (taken_in W T o here x) (in_union x W (o ∷ T) i))

union_with : (W T : List Operation) (o : Operation) → IsIn o W → AreSame ((o ∷ T) ++ W) (T ++ W)
union_with W T o here = record {
  forth = λ x i. ⊎_elim (λ same. subst (λ y. IsIn y (T ++ W)) same (in_right o T W here)) (λ j. j) i;
  back = λ x i. inr i;
}

-- the peer takes an operation of the tail, and then what it lacks of the rest
caught_step : (K h : ℕ) (S T tail : List Operation) (o : Operation) → IsWorld K (tail_set (o ∷ S) tail ++ T) → IsClosed T → IsNew T o → o.heap ≡ h →
    IsTail h (o ∷ S) tail →
    Catches h (o ∷ T) (tail_set (o ∷ S) tail) (lacking (vector_of (o ∷ T) h) tail) (image_of (o ∷ T) h) →
    Catches h T (tail_set (o ∷ S) tail) (o ∷ lacking (vector_of T h) tail) (image_of T h)
caught_step K h S T tail o world closed new e tailed rest =
    let W = tail_set (o ∷ S) tail in
    let here : IsIn o W = base_in o (o ∷ S) tail (inl refl) in
    let inner : IsWorld K W = world_left K W T world in
    let sites : (p : Operation) → IsIn p tail → p.site < SITES = λ p i. (inner.each p (tail_in p (o ∷ S) tail i)).site in
    let step : image_of (o ∷ T) h ≡ image_after o (image_of T h) = step_in_heap K h T o (world_part K (o ∷ T) (W ++ T) (taken_in W T o here) world) closed new e in
    let moved : Catches h (o ∷ T) W (lacking (vector_of T h) tail) (image_after o (image_of T h))
    = subst₂ (Catches h (o ∷ T) W) (lacking_rest K h S T tail o sites tailed e) step rest in
    let same : image_of ((o ∷ T) ++ W) h ≡ image_of (T ++ W) h
    = image_of-same K ((o ∷ T) ++ W) (T ++ W) h (union_with W T o here) (world_swapped K W (o ∷ T) (world_with K W T o here world)) in
    ((new_is_taken h T o (inner.each o here).site e new, moved.0), moved.1 ∙ same)

caught_up : (K h : ℕ) (S T tail : List Operation) → IsWorld K (tail_set S tail ++ T) → IsClosed S → IsClosed T → IsTail h S tail →
    ((t : ℕ) → last S h t ≤ last T h t) → Catches h T (tail_set S tail) (lacking (vector_of T h) tail) (image_of T h)
caught_up K h S T [] world first second tailed covered = (tt {0}, base_caught K h S T world second covered)
caught_up K h S T (o ∷ tail) world first second tailed covered =
    let W = tail_set (o ∷ S) tail in
    let v = vector_of T h in
    let here : IsIn o W = base_in o (o ∷ S) tail (inl refl) in
    let inner : IsWorld K W = world_left K W T world in
    let is : get_or v o.site 0 ≡ last T h o.site = by_site-at (last T h) o.site 0 (inner.each o here).site in
    let closed : IsClosed (o ∷ S) = closed_step K h S tail o inner first tailed.0 in
    elim (has v o.site o.n) as (λ b. has v o.site o.n ≡ b → Catches h T W (cond (not b) (o ∷ lacking v tail) (lacking v tail)) (image_of T h)) [
      | true ↦ λ known.
          let inside : (0 < o.n) × (o.n ≤ get_or v o.site 0) = has_parts v o.site o.n known in
          caught_up K h (o ∷ S) T tail world closed second tailed.2 (known_covered h S T o covered (omega arith))
      | false ↦ λ lacks.
          let above : get_or v o.site 0 < o.n = has_not v o.site o.n lacks (counter_positive K W o inner here) in
          let new : IsNew T o = new_to_peer h S T o tailed.0 tailed.1 covered (omega arith) in
          let more : IsClosed (o ∷ T) = closed_after T o second (new_has_seen K T o (world_right K W T world) second new) in
          let covered_more : (t : ℕ) → last (o ∷ S) h t ≤ last (o ∷ T) h t = λ t. let least : last S h t ≤ last T h t = covered t in omega arith in
          caught_step K h S T tail o world second new tailed.1 tailed.2
          (caught_up K h (o ∷ S) (o ∷ T) tail (world_with K W T o here world) closed more tailed.2 covered_more)
    ] refl

covered_from : (K h : ℕ) (S T : List Operation) → IsWorld K S → covers (vector_of T h) (vector_of S h) ≡ true → (t : ℕ) → last S h t ≤ last T h t
covered_from K h S T world all t =
    elim (cases_lt t SITES) [
      | inl below ↦
          let mine : get_or (vector_of S h) t 0 ≡ last S h t = by_site-at (last S h) t 0 below in
          let theirs : get_or (vector_of T h) t 0 ≡ last T h t = by_site-at (last T h) t 0 below in
          let least : get_or (vector_of S h) t 0 ≤ get_or (vector_of T h) t 0 = covers_at _ _ t all below in omega arith
      | inr past ↦ let nothing : last S h t ≡ 0 = last_past K S h t world past in omega arith
    ]

pub peer_catches_up : (K h : ℕ) (S T tail : List Operation) → IsWorld K (tail_set S tail ++ T) → IsClosed S → IsClosed T → IsTail h S tail →
    covers (vector_of T h) (vector_of S h) ≡ true → Catches h T (tail_set S tail) (lacking (vector_of T h) tail) (image_of T h)
peer_catches_up K h S T tail world first second tailed all =
    caught_up K h S T tail world first second tailed (covered_from K h S T (world_base K S tail (world_left K (tail_set S tail) T world)) all)
