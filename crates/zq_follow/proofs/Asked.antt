-- What peers are asked to relay.

use Rattle.std.proofs.Common.{Bool, List, None, Option, Some, false, inl, inr, refl, subst, sym, true, ℕ, ◌<◌, ◌∙◌, ◌≡◌, ◌⊎◌}
use Rattle.std.proofs.lemmas.Bool.{and_from, and_parts, both_ways, cases_lt, eq-eqb, eqb-true, false≢true, false_from_ne_true, not-true, not_from_false}
use Rattle.std.specs.Prelude.{is_none, slice_index_or}
use Rattle.zq_model.proofs.Sites.{by_site-at, by_site-past}
use Rattle.zq_model.specs.Sets.{IsIn, SITES}
use Rattle.zq_follow.proofs.Nearest.{nearest_none, nearest_some}
use Rattle.zq_follow.specs.Routes.{Reach, asked_of, chosen, far_of, is_chosen, is_remote, nearest}
use Rattle.zq_follow.specs.RouteLaws.{FarIsBeyondAll, IsFar, IsRemote, NearestIsAsked, NoneIsAskedInVain, NoneIsForgotten, OneIsAsked}
use Rattle.zq_follow.specs.SiteSet.{has_site}

chosen-at : (reaches : List Reach) (o : ℕ) → o < SITES →
    slice_index_or (chosen reaches) o None ≡ nearest o reaches
chosen-at reaches o below = by_site-at _ o None below

chosen_is : (peer : ℕ) (best : Option ℕ) → is_chosen peer best ≡ true → best ≡ Some peer
chosen_is peer None is = absurd (false≢true is)
chosen_is peer (Some best) is = let same = eqb-true best peer is in cc

none_is : (best : Option ℕ) → is_none best ≡ true → best ≡ None
none_is None is = refl
none_is (Some best) is = absurd (false≢true is)

remote_is : (own : ℕ) (linked : List Bool) (o : ℕ) → is_remote own linked o ≡ true →
    IsRemote own linked o
remote_is own linked o is =
    let parts = and_parts _ _ is in
    record {
      other = λ same. both_ways _ (not-true _ parts.0) (eq-eqb o own same);
      unlinked = λ there. both_ways _ (not-true _ parts.1) there;
    }

remote_from : (own : ℕ) (linked : List Bool) (o : ℕ) → IsRemote own linked o →
    is_remote own linked o ≡ true
remote_from own linked o remote =
    and_from _ _ (not_from_false _ (false_from_ne_true _ (λ same. remote.other (eqb-true o own same)))) (not_from_false _ (false_from_ne_true _ remote.unlinked))

-- the site has no link here, and the peer is next to it
record IsAsked (own : ℕ) (linked : List Bool) (reaches : List Reach) (peer o : ℕ) : Type 0 where
  site : o < SITES
  chosen : nearest o reaches ≡ Some peer
  remote : IsRemote own linked o

asked_is : (own : ℕ) (linked : List Bool) (reaches : List Reach) (peer o : ℕ) →
    has_site (asked_of own linked reaches peer) o ≡ true → IsAsked own linked reaches peer o
asked_is own linked reaches peer o is =
    elim (cases_lt o SITES) [
      | inl below ↦ (let parts = and_parts (is_chosen peer (slice_index_or (chosen reaches) o None)) (is_remote own linked o) (sym (by_site-at _ o false below) ∙ is) in
          record {
            site = below;
            chosen = sym (chosen-at reaches o below) ∙ chosen_is peer (slice_index_or (chosen reaches) o None) parts.0;
            remote = remote_is own linked o parts.1;
          })
      | inr past ↦ absurd (both_ways (has_site (asked_of own linked reaches peer) o) (by_site-past _ o false past) is)
    ]

asked_from : (own : ℕ) (linked : List Bool) (reaches : List Reach) (peer o : ℕ) → o < SITES →
    nearest o reaches ≡ Some peer → IsRemote own linked o →
    has_site (asked_of own linked reaches peer) o ≡ true
asked_from own linked reaches peer o below is remote =
    by_site-at _ o false below
    ∙ and_from _ _ (subst (λ (best : Option ℕ). is_chosen peer best ≡ true) (sym (chosen-at reaches o below ∙ is)) (eq-eqb peer peer refl)) (remote_from own linked o remote)

pub nearest_is_asked : NearestIsAsked
nearest_is_asked own linked reaches peer o is =
    let asked = asked_is own linked reaches peer o is in nearest_some o reaches peer asked.chosen

pub none_is_asked_in_vain : NoneIsAskedInVain
none_is_asked_in_vain own linked reaches peer o is = (asked_is own linked reaches peer o is).remote

pub one_is_asked : OneIsAsked
one_is_asked own linked reaches peer other o is also =
    let one = (asked_is own linked reaches peer o is).chosen in
    let two = (asked_is own linked reaches other o also).chosen in
    cc

far_from : (own : ℕ) (linked : List Bool) (reaches : List Reach) (o : ℕ) → o < SITES →
    nearest o reaches ≡ None → IsRemote own linked o → has_site (far_of own linked reaches) o ≡ true
far_from own linked reaches o below is remote =
    by_site-at _ o false below
    ∙ and_from _ _ (subst (λ (best : Option ℕ). is_none best ≡ true) (sym (chosen-at reaches o below ∙ is)) refl) (remote_from own linked o remote)

far_is : (own : ℕ) (linked : List Bool) (reaches : List Reach) (o : ℕ) →
    has_site (far_of own linked reaches) o ≡ true → IsFar own linked reaches o
far_is own linked reaches o is =
    elim (cases_lt o SITES) [
      | inl below ↦ (let parts = and_parts (is_none (slice_index_or (chosen reaches) o None)) (is_remote own linked o) (sym (by_site-at _ o false below) ∙ is) in
          record {
            site = below;
            remote = remote_is own linked o parts.1;
            none = nearest_none o reaches (sym (chosen-at reaches o below) ∙ none_is (slice_index_or (chosen reaches) o None) parts.0);
          })
      | inr past ↦ absurd (both_ways (has_site (far_of own linked reaches) o) (by_site-past _ o false past) is)
    ]

nobody : (own : ℕ) (linked : List Bool) (reaches : List Reach) (o : ℕ) (best : Option ℕ) →
    nearest o reaches ≡ best → IsFar own linked reaches o → best ≡ None
nobody own linked reaches o None is far = refl
nobody own linked reaches o (Some peer) is far =
    let w = nearest_some o reaches peer is in absurd (far.none (peer, w.reach) w.offers w.linked)

pub far_is_beyond_all : FarIsBeyondAll
far_is_beyond_all own linked reaches o = (
  far_is own linked reaches o,
  λ far. far_from own linked reaches o far.site (nobody own linked reaches o (nearest o reaches) refl far) far.remote,
)

forgotten : (own : ℕ) (linked : List Bool) (reaches : List Reach) (o : ℕ) (best : Option ℕ) →
    nearest o reaches ≡ best → o < SITES → IsRemote own linked o →
    (has_site (far_of own linked reaches) o ≡ true) ⊎ ((r : Reach) × IsIn r reaches × (has_site (asked_of own linked reaches r.0) o ≡ true))
forgotten own linked reaches o None is below remote = inl (far_from own linked reaches o below is remote)
forgotten own linked reaches o (Some peer) is below remote =
    let w = nearest_some o reaches peer is in
    inr ((peer, w.reach), w.offers, asked_from own linked reaches peer o below is remote)

pub none_is_forgotten : NoneIsForgotten
none_is_forgotten own linked reaches o below remote = forgotten own linked reaches o (nearest o reaches) refl below remote
