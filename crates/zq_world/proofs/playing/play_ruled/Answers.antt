use Rattle.std.proofs.Common.{Some, Vec, ap, arith, length, map, refl, rules, slice_index_or, subst, sym, ◌+◌, ◌<◌, ◌∙◌, ◌≡◌, ℕ, List}
use Rattle.std.proofs.lemmas.List.{length-map}
use Rattle.std.proofs.lemmas.Option.{slice_get_read, slice_get_within}
use Rattle.std.specs.Prelude.{slice_get}
use Rattle.std.specs.declared.alloc.Global.{Global}
use Rattle.zq_dots.specs.Rule.{rule_of}
use Rattle.zq_model.specs.Sets.{IsIn}
use Rattle.zq_posheap.proofs.Lists.{mapped_at}
use Rattle.zq_semantics.specs.Events.{Event, Merge, is_possible}
use Rattle.zq_world.proofs.Plays.{at_last, at_next, before, made_at, missing_here, moments_at, so_many}
use Rattle.zq_world.specs.Keeping.{AreReady, IsReady}
use Rattle.zq_world.specs.Play.{Played, event_of, run_of}
use Rattle.zq_world.specs.Wanted.{places_in}
use Rattle.zq_world.proofs.playing.play_ruled.Goals as goal
use Rattle.zq_world.proofs.playing.play_ruled.Goals.{After-is_there}

-- the places that are read for a moment are those that are wanted for it
read_at : (wanted : List (Vec ℕ Global)) (events at : ℕ) (places : Vec ℕ Global) → length wanted ≡ events → at < events → places ≡ slice_index_or wanted at places → slice_get (places_in wanted) at ≡ Some places.items
read_at wanted events at places number inside is = mapped_at (λ (v : Vec ℕ Global). v.items) wanted at places (slice_get_read wanted (length wanted) at places refl (omega (arith, number, inside)) is)

pub keep-requires-clause-inside : goal.keep-requires-clause-inside
keep-requires-clause-inside c = λ place among.
    let there = read_at c.in_ok-wanted.wanted.items (length c.args.events.now) c.loop-place.place c.index.result.now c.in_ok-wanted.ensures.number c.loop-place-test.true c.index.ensures in
    let low = c.in_ok-wanted.ensures.wanted.inside c.loop-place.place place c.index.result.now.items there (subst (IsIn place) c.deref.ensures.value among) in
    let long = length-map c.args.events.now event_of in
    omega (arith, low, long)

pub keep-requires-clause-wanted : goal.keep-requires-clause-wanted
keep-requires-clause-wanted c = λ place site from heap is.
    let there = read_at c.in_ok-wanted.wanted.items (length c.args.events.now) c.loop-place.place c.index.result.now c.in_ok-wanted.ensures.number c.loop-place-test.true c.index.ensures in
    let low = slice_get_within (map event_of c.args.events.now) place (Merge site from heap c.loop-place.place) is in
    let long = length-map c.args.events.now event_of in
    subst (IsIn place) (sym c.deref.ensures.value) (c.in_ok-wanted.ensures.wanted.each place site from heap c.loop-place.place c.index.result.now.items (omega (arith, low, long)) is there)

-- what was played before the event, and the event
module _ (c : After-is_there) where
  abbrev events : List Event
  events = map event_of c.args.events.now

  abbrev at : ℕ
  at = c.loop-place.place

  abbrev event : Event
  event = event_of c.index-events-place.result

  abbrev played : Played
  played = before (rule_of c.args.rule) c.args.heaps c.args.sites events at

  here : slice_get events at ≡ Some event
  here =
      let all = c.args.events.now in
      mapped_at event_of all at c.index-events-place.result (slice_get_read all (length all) at c.index-events-place.result refl c.loop-place-test.true c.index-events-place.is)

  moments : length (run_of played).past ≡ at + 1
  moments = let inside = slice_get_within events at event here in moments_at (rule_of c.args.rule) c.args.heaps c.args.sites events at (omega (arith, inside))

  -- it was asked whether the event can come
  asked : c.is_there.result ≡ is_possible c.args.heaps c.args.sites (run_of played) event
  asked =
      let made : length c.loop-place.player.made.items ≡ c.len.result = search rules in
      c.is_there.ensures (run_of played) (made_at (rule_of c.args.rule) c.args.heaps c.args.sites events at c.loop-place.player c.loop-place.invariant.held ∙ made) moments

  -- the frames of this moment are there too
  ready : AreReady played (at + 1) at events (map (λ frame. frame.items) c.keep.new.frames.items)
  ready =
      let inside = slice_get_within events at event here in
      c.in_ok-keep.ensures.ready played c.loop-place.invariant.held (so_many (rule_of c.args.rule) c.args.heaps c.args.sites events at (omega (arith, inside))) c.loop-place.invariant.ready

  -- the bytes that are read at the event's place are its frame
  framed : (frame : Vec ℕ Global) (bytes : List ℕ) → frame ≡ slice_index_or c.keep.new.frames.items at frame → bytes ≡ frame.items → IsReady played (length (run_of played).past) event bytes
  framed frame bytes is read =
      let frames = c.keep.new.frames.items in
      let inside = slice_get_within events at event here in
      let room : at < length frames = omega (arith, inside, c.in_ok-keep.ensures.number, c.loop-place.invariant.number) in
      let there = mapped_at (λ (f : Vec ℕ Global). f.items) frames at frame (slice_get_read frames (length frames) at frame refl room is) in
      subst (λ bytes. IsReady played (length (run_of played).past) event bytes) (sym read) (subst (λ n. IsReady played n event frame.items) (sym moments) (ready.each at event frame.items (omega arith) here there))

pub returns-then-not-is_there-clause-missing : goal.returns-then-not-is_there-clause-missing
returns-then-not-is_there-clause-missing c = λ place is.
    let d = (goal.at.returns-then-not-is_there-clause-missing c).After-is_there in
    missing_here (rule_of c.args.rule) c.args.heaps c.args.sites (events d) (at d) (event d) c.loop-place.player (here d) c.loop-place.invariant.held (sym (asked d) ∙ c.if-not-is_there.true) ∙ cc

pub step-requires : goal.step-requires
step-requires c =
    let d = (goal.at.step-requires c).After-is_there in
    let frame = framed d c.index_mut.result.now c.deref-in-loop-place.result.now c.index_mut.ensures.value (c.deref-in-loop-place.ensures.value ∙ ap (λ (v : Vec ℕ Global). v.items) c.replace-frame.ensures.value) in
    record { held = (played d, c.loop-place.invariant.held, sym (asked d) ∙ c.if-not-is_there.false, frame) }

pub loop-place-preserved : goal.loop-place-preserved
loop-place-preserved c =
    let d = (goal.at.loop-place-preserved c).After-is_there in
    let frame = framed d c.index_mut.result.now c.deref-in-loop-place.result.now c.index_mut.ensures.value (c.deref-in-loop-place.ensures.value ∙ ap (λ (v : Vec ℕ Global). v.items) c.replace-frame.ensures.value) in
    at_next (rule_of c.args.rule) c.args.heaps c.args.sites (events d) (at d) (event d) c.step.new.player c.keep.new.frames.items c.replace-frame.new.dest (here d)
    (c.in_ok-keep.ensures.number ∙ c.loop-place.invariant.number) (ready d) (c.in_ok-step.ensures.held (played d) c.loop-place.invariant.held (sym (asked d) ∙ c.if-not-is_there.false) frame)

pub returns-clause-played : goal.returns-clause-played
returns-clause-played c =
    let events = map event_of c.args.events.now in
    let played : Played = record { rule = rule_of c.args.rule; heaps = c.args.heaps; sites = c.args.sites; events = events } in
    let long = length-map c.args.events.now event_of in
    c.ended.ensures.played played (at_last (rule_of c.args.rule) c.args.heaps c.args.sites events c.loop-place.place c.loop-place.player (omega (arith, long, c.loop-place-test.false)) c.loop-place.invariant.held)
