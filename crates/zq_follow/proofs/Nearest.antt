-- The next peer after a site, of those that have a link to it.

use Rattle.std.proofs.Common.{Bool, List, None, Option, Some, [], ap, arith, false, inl, inr, refl, subst, true, ℕ, ⊎_elim, ◌<◌, ◌∷◌, ◌≡◌, ◌≤◌, ◌⊎◌}
use Rattle.std.proofs.lemmas.Bool.{and_from, and_left, and_right, both_ways, cases_Bool, cond-false, cond-true, ltb-false, ltb-true, true≢false}
use Rattle.std.specs.List.{fold}
use Rattle.zq_model.specs.Sets.{IsIn}
use Rattle.zq_follow.specs.Routes.{Reach, distance, is_nearer, nearer, nearest}
use Rattle.zq_follow.specs.RouteLaws.{IsNearest}
use Rattle.zq_follow.specs.SiteSet.{has_site}

-- none of the peers has a link to the site
abbrev pub NoneOffers : ℕ → List Reach → Type 0
NoneOffers o reaches = (r : Reach) → IsIn r reaches → has_site r.1 o ≡ true → ⊥

-- the peer is one of these, and has a link to the site
abbrev Offers : ℕ → List Reach → ℕ → Type 0
Offers o reaches peer = (reach : List Bool) × IsIn (peer, reach) reaches × (has_site reach o ≡ true)

-- the peer is the best so far, or one of these, and none is nearer
record IsFound (o : ℕ) (best : Option ℕ) (reaches : List Reach) (peer : ℕ) : Type 0 where
  found : (best ≡ Some peer) ⊎ Offers o reaches peer
  before : (other : ℕ) → best ≡ Some other → distance o peer ≤ distance o other
  least : (r : Reach) → IsIn r reaches → has_site r.1 o ≡ true → distance o peer ≤ distance o r.0

abbrev IsBest : ℕ → Option ℕ → List Reach → Option ℕ → Type 0
IsBest o best reaches None = (best ≡ None) × NoneOffers o reaches
IsBest o best reaches (Some peer) = IsFound o best reaches peer

-- a peer without a link to the site
skipped : (o : ℕ) (best : Option ℕ) (r : Reach) (reaches : List Reach) (out : Option ℕ) →
    has_site r.1 o ≡ false → IsBest o best reaches out → IsBest o best (r ∷ reaches) out
skipped o best r reaches None unlinked w =
    (w.0, λ q among there. ⊎_elim (λ same. both_ways (has_site q.1 o) (subst (λ (x : Reach). has_site x.1 o ≡ false) same unlinked) there) (λ later. w.1 q later there) among)
skipped o best r reaches (Some peer) unlinked w = record {
  found = ⊎_elim (λ e. inl e) (λ offer. inr (offer.0, inr offer.1, offer.2)) w.found;
  before = w.before;
  least = λ q among there. ⊎_elim (λ same. absurd (both_ways (has_site q.1 o) (subst (λ (x : Reach). has_site x.1 o ≡ false) same unlinked) there)) (λ later. w.least q later there) among;
}

closer_than : (o peer other : ℕ) (best : Option ℕ) → best ≡ Some other →
    is_nearer o peer best ≡ true → distance o peer < distance o other
closer_than o peer other best is closer = ltb-true (distance o peer) (distance o other) (subst (λ (b : Option ℕ). is_nearer o peer b ≡ true) is closer)

-- a peer that is nearer than the best so far
taken : (o : ℕ) (best : Option ℕ) (r : Reach) (reaches : List Reach) (out : Option ℕ) →
    has_site r.1 o ≡ true → is_nearer o r.0 best ≡ true → IsBest o (Some r.0) reaches out →
    IsBest o best (r ∷ reaches) out
taken o best r reaches None linked closer w = let e = w.0 in absurd (cc)
taken o best r reaches (Some peer) linked closer w =
    let first : distance o peer ≤ distance o r.0 = w.before r.0 refl in
    record {
      found = ⊎_elim (λ e. let same : r.0 ≡ peer = cc in inr (r.1, inl (ap (λ (n : ℕ). let x : Reach = (n, r.1) in x) same), linked)) (λ offer. inr (offer.0, inr offer.1, offer.2)) w.found;
      before = λ other is. let less = closer_than o r.0 other best is closer in omega arith;
      least = λ q among there. ⊎_elim (λ same. subst (λ (x : Reach). distance o peer ≤ distance o x.0) same first) (λ later. w.least q later there) among;
    }

-- a peer that is not nearer than the best so far
stayed : (o : ℕ) (best : Option ℕ) (r : Reach) (reaches : List Reach) (out : Option ℕ) →
    is_nearer o r.0 best ≡ false → IsBest o best reaches out → IsBest o best (r ∷ reaches) out
stayed o None r reaches out farther w = absurd (true≢false farther)
stayed o (Some other) r reaches None farther w = let e = w.0 in absurd (cc)
stayed o (Some other) r reaches (Some peer) farther w =
    let first : distance o peer ≤ distance o other = w.before other refl in
    let less = ltb-false (distance o r.0) (distance o other) farther in
    let here : distance o peer ≤ distance o r.0 = omega arith in
    record {
      found = ⊎_elim (λ e. inl e) (λ offer. inr (offer.0, inr offer.1, offer.2)) w.found;
      before = w.before;
      least = λ q among there. ⊎_elim (λ same. subst (λ (x : Reach). distance o peer ≤ distance o x.0) same here) (λ later. w.least q later there) among;
    }

stepped : (o : ℕ) (best : Option ℕ) (r : Reach) (reaches : List Reach) (out : Option ℕ) →
    IsBest o (nearer o best r) reaches out → IsBest o best (r ∷ reaches) out
stepped o best r reaches out w =
    elim (cases_Bool (has_site r.1 o)) [
      | inr unlinked ↦ skipped o best r reaches out unlinked (subst (λ (b : Option ℕ). IsBest o b reaches out) (cond-false _ _ _ (and_left _ (is_nearer o r.0 best) unlinked)) w)
      | inl linked ↦ elim (cases_Bool (is_nearer o r.0 best)) [
        | inl closer ↦ taken o best r reaches out linked closer (subst (λ (b : Option ℕ). IsBest o b reaches out) (cond-true _ _ _ (and_from _ _ linked closer)) w)
        | inr farther ↦ stayed o best r reaches out farther (subst (λ (b : Option ℕ). IsBest o b reaches out) (cond-false _ _ _ (and_right (has_site r.1 o) _ farther)) w)
      ]
    ]

best_of : (o : ℕ) (reaches : List Reach) (best : Option ℕ) →
    IsBest o best reaches (fold (nearer o) best reaches)
best_of o [] None = (refl, λ r among. absurd among)
best_of o [] (Some peer) = record {
  found = inl refl;
  before = λ other is. let same : peer ≡ other = cc in subst (λ (n : ℕ). distance o peer ≤ distance o n) same (omega arith);
  least = λ r among. absurd among;
}
best_of o (r ∷ reaches) best = stepped o best r reaches (fold (nearer o) (nearer o best r) reaches) (best_of o reaches (nearer o best r))

pub nearest_some : (o : ℕ) (reaches : List Reach) (peer : ℕ) → nearest o reaches ≡ Some peer →
    IsNearest o reaches peer
nearest_some o reaches peer is =
    let w : IsFound o None reaches peer = subst (IsBest o None reaches) is (best_of o reaches None) in
    ⊎_elim (λ e. absurd (cc)) (λ offer. record { reach = offer.0; offers = offer.1; linked = offer.2; least = w.least }) w.found

pub nearest_none : (o : ℕ) (reaches : List Reach) → nearest o reaches ≡ None → NoneOffers o reaches
nearest_none o reaches is =
    let w : IsBest o None reaches None = subst (IsBest o None reaches) is (best_of o reaches None) in w.1
