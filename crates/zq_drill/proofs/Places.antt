-- Lists of handles of which two were used.
use Rattle.std.proofs.Common.{ap, arith, refl, sym, ◌∙◌}
use Rattle.std.proofs.lemmas.List.{get_or-append-add, get_or_append_left, length-append, length-set, map-set, set-append_left, set-append_right}
use Rattle.std.proofs.lemmas.Option.{slice_get-map, slice_get_read}
use Rattle.std.specs.Prelude.{List, Some, length, option_map, slice_get, slice_index_or, slice_set, ℕ, ◌+◌, ◌++◌, ◌-◌, ◌<◌, ◌≡◌}
use Rattle.zq_drill.proofs.SiteShares.{same_site}
use Rattle.zq_drill.specs.Limits.{heap_count}
use Rattle.zq_drill.specs.Meetings.{AreHandedOver, IsMeeting}
use Rattle.zq_drill.specs.SiteHandles.{place_at, place_of, places_of, site_of}
use Rattle.zq_drill.specs.declared.site_handle.SiteHandle.{SiteHandle}
use Rattle.zq_spread.specs.declared.site.Site.{Site}

-- an element of the front, and the first of the back
in_front : {A : Type 0} (front back : List A) (i : ℕ) (x : A) → i < length front → x ≡ slice_index_or front i x → slice_get (front ++ back) i ≡ Some x
in_front front back i x within is =
    slice_get_read (front ++ back) (length (front ++ back)) i x refl (omega (arith, within, length-append front back)) (is ∙ sym (get_or_append_left front back x i within))

in_back : {A : Type 0} (front back : List A) (n : ℕ) (x : A) → length front ≡ n → 0 < length back → x ≡ slice_index_or back 0 x → slice_get (front ++ back) n ≡ Some x
in_back front back n x len some is =
    let place : n ≡ length front + 0 = omega (arith, len) in
    slice_get_read (front ++ back) (length (front ++ back)) n x refl (omega (arith, some, len, length-append front back))
    (is ∙ (sym (get_or-append-add front back 0 x) ∙ ap (λ k. slice_index_or (front ++ back) k x) (sym place)))

-- the first of the back is set
set_back : {A : Type 0} (front back : List A) (n : ℕ) (y : A) → length front ≡ n → slice_set (front ++ back) n y ≡ front ++ slice_set back 0 y
set_back front back n y len =
    let none : n - n ≡ 0 = omega arith in
    set-append_right front back n n y len (omega arith) ∙ ap (λ k. front ++ slice_set back k y) none

-- both are set, in either order
set_rising : {A : Type 0} (front back : List A) (i n : ℕ) (x y : A) → i < length front → length front ≡ n → slice_set front i x ++ slice_set back 0 y ≡ slice_set (slice_set (front ++ back) i x) n y
set_rising front back i n x y within len =
    sym (ap (λ xs. slice_set xs n y) (set-append_left front back i x within) ∙ set_back (slice_set front i x) back n y (length-set front i x ∙ len))

set_falling : {A : Type 0} (front back : List A) (i n : ℕ) (x y : A) → i < length front → length front ≡ n → slice_set front i x ++ slice_set back 0 y ≡ slice_set (slice_set (front ++ back) n y) i x
set_falling front back i n x y within len =
    sym (ap (λ xs. slice_set xs i x) (set_back front back n y len) ∙ set-append_left front (slice_set back 0 y) i x within)

-- ---- handles by their places

placed : (new old : SiteHandle) → new.drill_site ≡ old.drill_site → place_of new ≡ place_at (site_of old) new.pass
placed new old same = ap (λ (site : Site). place_at site new.pass) (same_site new old same)

at_place : (handles : List SiteHandle) (i : ℕ) (handle : SiteHandle) → slice_get handles i ≡ Some handle → slice_get (places_of handles) i ≡ Some (place_of handle)
at_place handles i handle is = slice_get-map place_of handles i ∙ ap (option_map place_of) is

places_set : (handles : List SiteHandle) (i k : ℕ) (new old later former : SiteHandle) → new.drill_site ≡ old.drill_site → later.drill_site ≡ former.drill_site →
    places_of (slice_set (slice_set handles i new) k later) ≡ slice_set (slice_set (places_of handles) i (place_at (site_of old) new.pass)) k (place_at (site_of former) later.pass)
places_set handles i k new old later former same alike =
    map-set place_of (slice_set handles i new) k later
    ∙ (ap (λ places. slice_set places k (place_of later)) (map-set place_of handles i new ∙ ap (slice_set (places_of handles) i) (placed new old same))
    ∙ ap (slice_set (slice_set (places_of handles) i (place_at (site_of old) new.pass)) k) (placed later former alike))

-- the sender is in the front, and the receiver is the first of the back
pub meets_rising : (handles front back : List SiteHandle) (receiver sender : ℕ) (from to gave got : SiteHandle) → handles ≡ front ++ back → length front ≡ receiver → sender < receiver → 0 < length back →
    from ≡ slice_index_or front sender from → to ≡ slice_index_or back 0 to → gave.drill_site ≡ from.drill_site → got.drill_site ≡ to.drill_site →
    AreHandedOver (site_of from) (site_of to) heap_count from.pass gave.pass to.pass got.pass → IsMeeting receiver sender (places_of handles) (places_of (slice_set front sender gave ++ slice_set back 0 got))
meets_rising handles front back receiver sender from to gave got is len below some from_is to_is from_same to_same handed =
    let within : sender < length front = omega (arith, below, len) in
    record {
      to = place_of to;
      from = place_of from;
      got = got.pass;
      gave = gave.pass;
      to_is = at_place handles receiver to (ap (λ ps. slice_get ps receiver) is ∙ in_back front back receiver to len some to_is);
      from_is = at_place handles sender from (ap (λ ps. slice_get ps sender) is ∙ in_front front back sender from within from_is);
      handed = handed;
      after_is =
          ap places_of (set_rising front back sender receiver gave got within len ∙ ap (λ ps. slice_set (slice_set ps sender gave) receiver got) (sym is))
          ∙ places_set handles sender receiver gave from got to from_same to_same;
    }

-- the receiver is in the front, and the sender is the first of the back
pub meets_falling : (handles front back : List SiteHandle) (receiver sender : ℕ) (from to gave got : SiteHandle) → handles ≡ front ++ back → length front ≡ sender → receiver < sender → 0 < length back →
    from ≡ slice_index_or back 0 from → to ≡ slice_index_or front receiver to → gave.drill_site ≡ from.drill_site → got.drill_site ≡ to.drill_site →
    AreHandedOver (site_of from) (site_of to) heap_count from.pass gave.pass to.pass got.pass → IsMeeting receiver sender (places_of handles) (places_of (slice_set front receiver got ++ slice_set back 0 gave))
meets_falling handles front back receiver sender from to gave got is len below some from_is to_is from_same to_same handed =
    let within : receiver < length front = omega (arith, below, len) in
    record {
      to = place_of to;
      from = place_of from;
      got = got.pass;
      gave = gave.pass;
      to_is = at_place handles receiver to (ap (λ ps. slice_get ps receiver) is ∙ in_front front back receiver to within to_is);
      from_is = at_place handles sender from (ap (λ ps. slice_get ps sender) is ∙ in_back front back sender from len some from_is);
      handed = handed;
      after_is =
          ap places_of (set_falling front back receiver sender got gave within len ∙ ap (λ ps. slice_set (slice_set ps sender gave) receiver got) (sym is))
          ∙ places_set handles sender receiver gave from got to from_same to_same;
    }
