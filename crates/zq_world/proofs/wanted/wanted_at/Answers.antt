use Rattle.std.proofs.Common.{List, Some, Vec, ap, length, map, refl, subst, sym, ◌∙◌, ◌+◌, ◌≡◌, ℕ}
use Rattle.std.proofs.lemmas.List.{length-map}
use Rattle.std.proofs.lemmas.Option.{same_Some, slice_get_read}
use Rattle.std.specs.Prelude.{slice_get}
use Rattle.std.specs.declared.alloc.Global.{Global}
use Rattle.zq_posheap.proofs.Lists.{mapped_at}
use Rattle.zq_semantics.specs.Events.{Merge}
use Rattle.zq_world.proofs.Wanteds.{merge_is, wanted_none, wanted_same, wanted_with}
use Rattle.zq_world.specs.Play.{event_of}
use Rattle.zq_world.specs.Wanted.{AreWanted, places_in}
use Rattle.zq_world.proofs.wanted.wanted_at.Goals as goal
use Rattle.zq_world.proofs.wanted.wanted_at.Goals.{in-Merge+in_ok-want, in_default}

pub loop-place-init : goal.loop-place-init
loop-place-init c = record {
  number = c.in_ok-wanted.ensures.number;
  wanted = wanted_none (map event_of c.args.events.now) c.in_ok-wanted.wanted.items c.in_ok-wanted.ensures.none;
}

pub loop-place-preserved : goal.loop-place-preserved
loop-place-preserved c =
    let all = c.args.events.now in
    let events = map event_of all in
    let place = c.loop-place.place in
    let its = c.index-events-place.result in
    let here : slice_get events place ≡ Some (event_of its) = mapped_at event_of all place its (slice_get_read all (length all) place its refl c.loop-place-test.true c.index-events-place.is) in
    let old = c.loop-place.wanted.items in
    elim c.match-events-place.branch [
      | in-Merge+in_ok-want w ↦
          let event = here ∙ ap (λ e. Some (event_of e)) w.in-Merge.is in
          let new = w.want.new.wanted.items in
          let items : c.match-events-place.wanted.items ≡ new = ap (λ (v : Vec (Vec ℕ Global) Global). v.items) w.wanted-is in
          let is = w.in_ok-want.ensures.with_it in
          record {
            number = ap length items ∙ sym (length-map new (λ v. v.items)) ∙ is.number ∙ length-map old (λ v. v.items) ∙ c.loop-place.invariant.number;
            wanted = subst (λ (xs : List (Vec ℕ Global)). AreWanted (place + 1) events (places_in xs)) (sym items)
                (wanted_with place events (places_in old) w.in-Merge.site w.in-Merge.from w.in-Merge.heap w.in-Merge.moment (places_in new) event is c.loop-place.invariant.wanted);
          }
      | in_default w ↦
          let items : c.match-events-place.wanted.items ≡ old = ap (λ (v : Vec (Vec ℕ Global) Global). v.items) w.wanted-is in
          record {
            number = ap length items ∙ c.loop-place.invariant.number;
            wanted = subst (λ (xs : List (Vec ℕ Global)). AreWanted (place + 1) events (places_in xs)) (sym items)
                (wanted_same place events (places_in old) (λ site from heap moment merges. w.in_default.not-Merge site from heap moment
                (merge_is its site from heap moment (same_Some (event_of its) (Merge site from heap moment) (sym here ∙ merges)))) c.loop-place.invariant.wanted);
          }
    ]
