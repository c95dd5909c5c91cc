-- The live Puts of a set are those that stand on their member.
use Rattle.std.proofs.Common.{◌≡◌, ℕ, true, List, sym, ◌∙◌, eq-eqb, eqb-true, ◌==◌}
use Rattle.std.proofs.lemmas.Bool.{and_from, and_parts, both_ways, false_from_ne_true}
use Rattle.zq_model.proofs.EachOnce.{is_of_parts}
use Rattle.zq_model.proofs.Membership.{any_in, any_nothing}
use Rattle.zq_model.proofs.Places.{is_put_of_parts}
use Rattle.zq_model.proofs.Standing.{IsStanding}
use Rattle.zq_model.specs.Entry.{is_dead, removes}
use Rattle.zq_model.specs.Heaps.{heap_of}
use Rattle.zq_model.specs.Meaning.{IsLive, has_seen}
use Rattle.zq_model.specs.Operation.{Operation, has, is_on, is_removal}
use Rattle.zq_model.specs.Sets.{IsWorld}

pub live_stands : (S : List Operation) (h : ℕ) (k m : List ℕ) (s : ℕ) (p : Operation) → IsLive S k m p → p.heap ≡ h → p.site ≡ s → IsStanding S h k m s p
live_stands S h k m s p live a b = record {
  here = live.here;
  put = and_from _ _ (and_from _ _ (eq-eqb p.heap h a) live.on) (and_from _ _ (eq-eqb p.site s b) live.put);
  kept = any_nothing (removes h k m s p.n) S (λ r there e.
      let on = and_parts (is_on h k m r) _ e in
      let place = and_parts (r.heap == h) _ on.0 in
      let act = and_parts (is_removal r.act) _ on.1 in
      let seen : has r.seen p.site p.n ≡ true = rw b act.1 in
      both_ways (has_seen r p) (live.kept r there place.1 act.0) (and_from _ _ (eq-eqb r.heap p.heap (eqb-true r.heap h place.0 ∙ sym a)) seen));
}

pub standing_lives : {S : List Operation} {h : ℕ} {k m : List ℕ} {s : ℕ} {p : Operation} → IsStanding S h k m s p → IsLive S k m p
standing_lives {S} {h} {k} {m} {s} {p} stands =
    let parts = is_put_of_parts h k m s p stands.put in
    let place = and_parts (p.heap == h) _ parts.0 in
    record {
      here = stands.here;
      on = place.1;
      put = parts.2;
      kept = λ o there on removal. false_from_ne_true (has_seen o p) (λ e.
          let seen = and_parts (o.heap == p.heap) _ e in
          let same : o.heap ≡ h = eqb-true o.heap p.heap seen.0 ∙ eqb-true p.heap h place.0 in
          let dot : has o.seen s p.n ≡ true = rw (← parts.1) seen.1 in
          both_ways (is_dead S h k m s p.n) stands.kept (any_in (removes h k m s p.n) S o there (and_from _ _ (and_from _ _ (eq-eqb o.heap h same) on) (and_from _ _ removal dot))));
    }

-- in a world the live Puts on a member lie in the heap of the member
pub live_heap : (K : ℕ) (S : List Operation) (k m : List ℕ) (p : Operation) → IsWorld K S → IsLive S k m p → p.heap ≡ heap_of k m K
live_heap K S k m p world live =
    let place = is_of_parts k m p live.on in
    (world.each p live.here).heap ∙ (λ i. heap_of (place.0 i) (place.1 i) K)
