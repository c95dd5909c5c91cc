-- The image of a set is its image in plain words, and no other image is.
use Rattle.std.proofs.Common.{◌≡◌, ℕ, ◌<◌, ◌≤◌, false, true≢false, suc, unwrap_or, [], ◌∷◌, List, None, Some, inl, inr, refl, subst, sym, ap, ◌∙◌, arith, slice_index}
use Rattle.std.specs.FinMap.{get, same_map}
use Rattle.std.proofs.lemmas.Bool.{cases_lt}
use Rattle.std.proofs.lemmas.List.{ext_get_or}
use Rattle.std.proofs.lemmas.Option.{none-some}
use Rattle.zq_model.proofs.Dots.{last_above, last_reached}
use Rattle.zq_model.proofs.Entries.{addition_at-no_additions, set_entries}
use Rattle.zq_model.proofs.JoinDetermined.{same_option}
use Rattle.zq_model.proofs.Kept.{kept_from, kept_means, kept_of, kept_there}
use Rattle.zq_model.proofs.Living.{live_stands, standing_lives}
use Rattle.zq_model.proofs.Maps.{place_exact, place_total}
use Rattle.zq_model.proofs.Sites.{by_site-at, by_site-past, length-by_site}
use Rattle.zq_model.proofs.Standing.{standing_heap, standing_site}
use Rattle.zq_model.specs.Entry.{Addition}
use Rattle.zq_model.specs.Image.{Entry, Image, Members, Place, addition_at, entry_at, image_of, is_bare, no_additions}
use Rattle.zq_model.specs.Joining.{HasAddition, IsAdditionOf, IsImageOf}
use Rattle.zq_model.specs.Meaning.{IsVectorOf}
use Rattle.zq_model.specs.Operation.{Operation}
use Rattle.zq_model.specs.Sets.{HasDot, IsWorld, SITES, last, vector_of}

vector_means : (K : ℕ) (S : List Operation) (h : ℕ) → IsWorld K S → IsVectorOf S h (vector_of S h)
vector_means K S h world = record {
  wide = length-by_site (last S h);
  above = λ o here a.
      let at = by_site-at (last S h) o.site 0 (world.each o here).site in
      let top = last_above S h o.site o here a refl in
      omega arith;
  reached = λ t some. elim (cases_lt t SITES) [
    | inl within ↦
        let at = by_site-at (last S h) t 0 within in
        subst (λ n. HasDot S h t n) (sym at) (last_reached S h t (omega arith))
    | inr past ↦ let none = by_site-past (last S h) t 0 past in absurd (omega arith)
  ];
}

pub image_means : (K : ℕ) (S : List Operation) (h : ℕ) → IsWorld K S → IsImageOf S h (image_of S h)
image_means K S h world = record {
  vector = vector_means K S h world;
  only = λ k m s x has.
      let from = kept_from S h k m s x has in
      (from.0, standing_lives from.1, standing_heap from.1, standing_site from.1, subst (IsAdditionOf S from.0) from.2 (kept_means K S h k m s from.0 world from.1));
  all = λ k m p live a.
      let stands = live_stands S h k m p.site p live a refl in
      (kept_of S h k m p.site p, kept_there K S h k m p.site p world stands, kept_means K S h k m p.site p world stands);
  entries = set_entries S h;
}

-- ---- no other image

vector_within : (S : List Operation) (h : ℕ) (v w : List ℕ) → IsVectorOf S h v → IsVectorOf S h w → (t : ℕ) → slice_index v t ≤ slice_index w t
vector_within S h v w a b t = elim (cases_lt 0 (slice_index v t)) [
  | inl some ↦
      let top = a.reached t some in
      let n : top.0.n ≡ slice_index v t = top.4 in
      subst (λ r. slice_index v t ≤ slice_index w r) top.3 (omega (arith, b.above top.0 top.1 top.2))
  | inr none ↦ omega arith
]

vector_one : (S : List Operation) (h : ℕ) (v w : List ℕ) → IsVectorOf S h v → IsVectorOf S h w → v ≡ w
vector_one S h v w a b = ext_get_or 0 v w (a.wide ∙ sym b.wide) (λ t within.
    let forth = vector_within S h v w a b t in
    let back = vector_within S h w v b a t in
    omega arith)

-- what is kept of a Put is told by its plain words
kept_one : (S : List Operation) (p : Operation) (x y : Addition) → IsAdditionOf S p x → IsAdditionOf S p y → x ≡ y
kept_one S p x y a b =
    let sums : x.sums ≡ y.sums = ext_get_or _ x.sums y.sums (a.wide ∙ sym b.wide) (λ t within.
    let site : t < SITES = omega (arith, a.wide) in a.sums t site ∙ sym (b.sums t site)) in
    λ i. record { n = (a.n ∙ sym b.n) i; score = (a.score ∙ sym b.score) i; sums = sums i }

has_other : (S : List Operation) (h : ℕ) (a b : Image) → IsImageOf S h a → IsImageOf S h b → (k m : List ℕ) (s : ℕ) (x : Addition) → HasAddition a k m s x → HasAddition b k m s x
has_other S h a b first second k m s x has =
    let from = first.only k m s x has in
    let there = second.all k m from.0 from.1 from.2 in
    let same = kept_one S from.0 there.0 x there.2 from.4 in
    subst (λ y. HasAddition b k m s y) same (subst (λ t. HasAddition b k m t there.0) from.3 there.1)

-- an entry that is not bare has an addition
some_addition : (e : Entry) → is_bare e ≡ false → (s : ℕ) × (x : Addition) × (addition_at e s ≡ Some x)
some_addition [] full = absurd (true≢false full)
some_addition (None ∷ e) full = let rest = some_addition e full in (suc rest.0, rest.1, rest.2)
some_addition (Some x ∷ e) full = (0, x, refl)

same_at : (S : List Operation) (h : ℕ) (a b : Image) → IsImageOf S h a → IsImageOf S h b → (q : Place) (s : ℕ) → addition_at (entry_at a.members q) s ≡ addition_at (entry_at b.members q) s
same_at S h a b first second q s = same_option _ _ (has_other S h a b first second q.0 q.1 s) (has_other S h b a second first q.0 q.1 s)

entry_there : (members : Members) (q : Place) (e : Entry) → get members q ≡ Some e → entry_at members q ≡ e
entry_there members q e is = ap (λ r. unwrap_or r no_additions) is

get_other : (S : List Operation) (h : ℕ) (a b : Image) → IsImageOf S h a → IsImageOf S h b → (q : Place) (e : Entry) → get a.members q ≡ Some e → get b.members q ≡ Some e
get_other S h a b first second q e is =
    let mine = first.entries q.0 q.1 e is in
    let same : (s : ℕ) → addition_at e s ≡ addition_at (entry_at b.members q) s = λ s. ap (λ f. addition_at f s) (sym (entry_there a.members q e is)) ∙ same_at S h a b first second q s in
    elim (get b.members q) as (λ r. get b.members q ≡ r → r ≡ Some e) [
      | None ↦ λ none.
          let some = some_addition e mine.1 in
          absurd (none-some some.1 (sym (addition_at-no_additions some.0) ∙ ap (λ r. addition_at (unwrap_or r no_additions) some.0) (sym none) ∙ sym (same some.0) ∙ some.2))
      | Some f ↦ λ there.
          let theirs = second.entries q.0 q.1 f there in
          ap (λ g. Some g) (ext_get_or None f e (theirs.0 ∙ sym mine.0) (λ s within. ap (λ g. addition_at g s) (sym (entry_there b.members q f there)) ∙ sym (same s)))
    ] refl

pub image_one : (S : List Operation) (h : ℕ) (a b : Image) → IsImageOf S h a → IsImageOf S h b → a ≡ b
image_one S h a b first second =
    let members : a.members ≡ b.members = same_map place_total place_exact a.members b.members (λ q. same_option _ _ (get_other S h a b first second q) (get_other S h b a second first q)) in
    λ i. record { vector = vector_one S h a.vector b.vector first.vector second.vector i; members = members i }
