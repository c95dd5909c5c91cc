use Rattle.std.proofs.Common.{List, Ok, Option, Vec, ap, arith, get_or, length, map, refl, rules, set, subst, sym, take, ℕ, ◌++◌, ◌<◌, ◌∙◌, ◌∷◌, ◌≡◌, []}
use Rattle.std.proofs.lemmas.List.{length-set, take_all}
use Rattle.std.proofs.lemmas.Option.{slice_get-get_or, slice_get_read}
use Rattle.std.specs.Prelude.{IfSome}
use Rattle.std.specs.Vec.{vec_len}
use Rattle.std.specs.declared.alloc.Global.{Global}
use Rattle.zq_commands.proofs.InTurn.{take_next}
use Rattle.zq_model.specs.Sets.{IsIn}
use Rattle.zq_model.proofs.Read.{in_place}
use Rattle.zq_posheap.proofs.Lists.{mapped_at}
use Rattle.zq_semantics.specs.Events.{Event}
use Rattle.zq_world.proofs.Keepings.{AreSoFar, far_last, far_same, far_set, ready_else, ready_now}
use Rattle.zq_world.specs.Play.{event_of}
use Rattle.zq_world.specs.Steps.{IsElsewhere, IsFrame}
use Rattle.zq_world.proofs.keeping.keep.Goals as goal
use Rattle.zq_world.proofs.keeping.keep.Goals.{in-Some, in_default}

-- the place that is read is that of an event
inside_of : (events : ℕ) (places : List ℕ) → ((place : ℕ) → IsIn place places → place < events) → (i : ℕ) → i < length places → get_or places i 0 < events
inside_of events places all i within = all (get_or places i 0) (in_place places i (get_or places i 0) (slice_get-get_or places i 0 within))

pub bounds-events-place : goal.bounds-events-place
bounds-events-place c = inside_of (length c.args.events.now) c.args.places.now c.requires.inside c.loop-i.i c.loop-i-test.true

pub offset_bounds-events-place : goal.offset_bounds-events-place
offset_bounds-events-place c =
    let inside = inside_of (length c.args.events.now) c.args.places.now c.requires.inside c.loop-i.i c.loop-i-test.true in
    search (rules, inside)

pub index_mut-requires : goal.index_mut-requires
index_mut-requires c =
    let inside = inside_of (length c.args.events.now) c.args.places.now c.requires.inside c.loop-i.i c.loop-i-test.true in
    let number : length c.loop-i.frames.items ≡ length c.args.events.now = c.loop-i.invariant.number ∙ c.requires.number in
    let room : vec_len c.loop-i.frames ≡ length c.loop-i.frames.items = search rules in
    omega (arith, inside, number, room)

pub loop-i-preserved : goal.loop-i-preserved
loop-i-preserved c =
    let events = map event_of c.args.events.now in
    let places = c.args.places.now in
    let at = c.args.at in
    let frames = c.loop-i.frames.items in
    let before = c.loop-i.invariant in
    let place = get_or places c.loop-i.i 0 in
    let inside = inside_of (length c.args.events.now) places c.requires.inside c.loop-i.i c.loop-i-test.true in
    let its = c.index-events-place.result in
    let e : Event = event_of its in
    let here = mapped_at event_of c.args.events.now place its (slice_get_read c.args.events.now (length c.args.events.now) place its refl inside c.index-events-place.is) in
    let room : place < length frames = omega (arith, inside, before.number, c.requires.number) in
    let done = take_next places c.loop-i.i place (slice_get-get_or places c.loop-i.i 0 c.loop-i-test.true) in
    elim c.match-branch-2.branch [
      | in-Some w ↦
          let items : c.match-branch-2.frames.items ≡ set frames place w.in-Some.frame = ap (λ (v : Vec (Vec ℕ Global) Global). v.items) w.frames-is in
          let is = subst (λ (r : Option (Vec ℕ Global)). IfSome r (λ bytes. IsFrame c.args.player.now.sites.items at e bytes.items)) w.in-Some.is
          (subst (λ sites. IfSome c.in_ok-frame.field-0 (λ bytes. IsFrame sites at e bytes.items)) c.deref.ensures.value c.in_ok-frame.ensures.some) in
          record {
            number = ap length items ∙ length-set frames place w.in-Some.frame ∙ before.number;
            ready = λ played held now are.
                subst (λ (ps : List ℕ). AreSoFar played at ps events c.match-branch-2.frames.items) (sym done)
                (subst (AreSoFar played at (take c.loop-i.i places ++ place ∷ []) events) (sym items)
                (far_set played at events (take c.loop-i.i places) place e frames w.in-Some.frame room here (ready_now played c.args.player.now held at now e w.in-Some.frame.items is) (before.ready played held now are)));
          }
      | in_default w ↦
          let items : c.match-branch-2.frames.items ≡ frames = ap (λ (v : Vec (Vec ℕ Global) Global). v.items) w.frames-is in
          let away = c.in_ok-frame.ensures.none (ap (λ r. Ok r) w.in_default.is) in
          record {
            number = ap length items ∙ before.number;
            ready = λ played held now are.
                subst (λ (ps : List ℕ). AreSoFar played at ps events c.match-branch-2.frames.items) (sym done)
                (subst (AreSoFar played at (take c.loop-i.i places ++ place ∷ []) events) (sym items)
                (far_same played at events (take c.loop-i.i places) place e frames here (λ bytes. ready_else played c.args.player.now held at now e bytes (subst (λ sites. IsElsewhere sites at e) c.deref.ensures.value away)) (before.ready played held now are)));
          }
    ]

pub returns-clause-ready : goal.returns-clause-ready
returns-clause-ready c = λ played held now are.
    let places = c.args.places.now in
    far_last played c.args.at (map event_of c.args.events.now) places c.loop-i.frames.items c.requires.wanted
    (subst (λ (ps : List ℕ). AreSoFar played c.args.at ps (map event_of c.args.events.now) c.loop-i.frames.items) (take_all c.loop-i.i places c.loop-i-test.false) (c.loop-i.invariant.ready played held now are))
