-- A list of events that is played up to a place.

use Rattle.std.proofs.Common.{List, Ok, Some, Vec, [], ap, arith, drop, false, length, map, set, subst, suc, sym, take, zero, ℕ, ◌++◌, ◌+◌, ◌∙◌, ◌∷◌, ◌≡◌, ◌≤◌}
use Rattle.std.proofs.lemmas.List.{length-map, length-set, length-take-le, take_all}
use Rattle.std.proofs.lemmas.Option.{same_Some, slice_get_within}
use Rattle.std.specs.Prelude.{slice_get}
use Rattle.std.specs.declared.alloc.Global.{Global}
use Rattle.zq_commands.proofs.InTurn.{take_next}
use Rattle.zq_merge.specs.State.{state_at}
use Rattle.zq_model.specs.Operation.{Operation}
use Rattle.zq_model.specs.Rule.{Rule}
use Rattle.zq_posheap.proofs.Lists.{behind, mapped_at, slice_get-set_other}
use Rattle.zq_semantics.specs.Events.{Do, Event, Merge, Take, is_possible}
use Rattle.zq_semantics.specs.Runs.{first_missing}
use Rattle.zq_world.proofs.Prefixes.{missing_at, moments_of, set_stays}
use Rattle.zq_world.specs.Frames.{heap_at, placed}
use Rattle.zq_world.specs.Keeping.{AreReady, IsReady}
use Rattle.zq_world.specs.Play.{Holds, Played, after, run_of}
use Rattle.zq_world.specs.declared.player.Player.{Player}

abbrev pub frames_in : List (Vec ℕ Global) → List (List ℕ)
frames_in frames = map (λ frame. frame.items) frames

module _ (rule : Rule) (K sites : ℕ) (events : List Event) where
  -- what was played before a place
  abbrev pub before : ℕ → Played
  before place = record { rule = rule; heaps = K; sites = sites; events = take place events }

  -- the events before a place were played, and for the others the frames of earlier moments are there
  pub record IsAt (place : ℕ) (player : Player) (frames : List (Vec ℕ Global)) : Type 0 where
    pub held : Holds (before place) player
    pub number : length frames ≡ length events
    pub ready : AreReady (before place) place place events (frames_in frames)

  -- no moment is before the first
  ready_first : (played : Played) (e : Event) (bytes : List ℕ) → IsReady played 0 e bytes
  ready_first played (Do site words w1 w2) bytes = tt
  ready_first played (Take site op) bytes = tt
  ready_first played (Merge site from heap moment) bytes = λ early. absurd (omega (arith, early))

  pub at_first : (player : Player) (frames : List (Vec ℕ Global)) → Holds (before 0) player → length frames ≡ length events → IsAt 0 player frames
  at_first player frames held number = record {
    held = held;
    number = number;
    ready = record { each = λ place e bytes low here there. ready_first (before 0) e bytes };
  }

  -- a frame that is written stays the frame of its moment
  ready_later : (played : Played) (next e : Event) (bytes : List ℕ) → IsReady played (length played.events + 1) e bytes → IsReady (after played next) (length played.events + 1) e bytes
  ready_later played next (Do site words w1 w2) bytes ready = tt
  ready_later played next (Take site op) bytes ready = tt
  ready_later played next (Merge site from heap moment) bytes ready = λ early there low.
      let moments = moments_of played.rule played.heaps played.events in
      subst (λ (S : List Operation). state_at bytes ≡ Ok (heap_at played.rule played.heaps S heap))
      (sym (set_stays played.rule played.heaps played.events next moment from (omega (arith, early, moments)))) (ready early there low)

  pub so_many : (place : ℕ) → place ≤ length events → length (take place events) ≡ place
  so_many place inside = length-take-le place events inside

  -- how many moments there were, and how many operations were made
  pub moments_at : (place : ℕ) → place ≤ length events → length (run_of (before place)).past ≡ place + 1
  moments_at place inside = moments_of rule K (take place events) ∙ ap (λ n. n + 1) (so_many place inside)

  pub made_at : (place : ℕ) (player : Player) → Holds (before place) player → length (run_of (before place)).now.made ≡ length player.made.items
  made_at place player held = sym (ap length held.stands.told ∙ length-map (run_of (before place)).now.made (placed K))

  after_next : (place : ℕ) (e : Event) → slice_get events place ≡ Some e → after (before place) e ≡ before (place + 1)
  after_next place e here = ap (λ (xs : List Event). record { rule = rule; heaps = K; sites = sites; events = xs }) (sym (take_next events place e here))

  -- one event more was played, whose frame is let go
  pub at_next : (place : ℕ) (e : Event) (player : Player) (frames : List (Vec ℕ Global)) (its : Vec ℕ Global) → slice_get events place ≡ Some e → length frames ≡ length events →
      AreReady (before place) (place + 1) place events (frames_in frames) → Holds (after (before place) e) player → IsAt (place + 1) player (set frames place its)
  at_next place e player frames its here number ready held =
      let inside = slice_get_within events place e here in
      let many = so_many place (omega (arith, inside)) in
      let items = λ (f : Vec ℕ Global). f.items in
      record {
        held = subst (λ (played : Played). Holds played player) (after_next place e here) held;
        number = length-set frames place its ∙ number;
        ready = record {
          each = λ i x bytes low at there.
              let frame = behind items (set frames place its) i bytes there in
              let apart : i ≡ place → ⊥ = λ same. omega (arith, same, low) in
              let same : slice_get (frames_in frames) i ≡ Some bytes
              = mapped_at items frames i frame.0 (sym (slice_get-set_other frames place i its apart) ∙ frame.1) ∙ ap (λ bs. Some bs) frame.2 in
              let was = ready.each i x bytes (omega (arith, low)) at same in
              subst (λ (played : Played). IsReady played (place + 1) x bytes) (after_next place e here)
              (subst (λ n. IsReady (after (before place) e) (n + 1) x bytes) many
              (ready_later (before place) e x bytes (subst (λ n. IsReady (before place) (n + 1) x bytes) (sym many) was)));
        };
      }

  split_at : (xs : List Event) (place : ℕ) (e : Event) → slice_get xs place ≡ Some e → xs ≡ take place xs ++ e ∷ drop (place + 1) xs
  split_at [] zero e here = absurd (cc)
  split_at [] (suc place) e here = absurd (cc)
  split_at (x ∷ xs) zero e here = ap (λ y. y ∷ xs) (same_Some x e here)
  split_at (x ∷ xs) (suc place) e here =
      let next : suc place + 1 ≡ suc (place + 1) = omega arith in
      ap (λ ys. x ∷ ys) (split_at xs place e here) ∙ ap (λ n. take (suc place) (x ∷ xs) ++ e ∷ drop n (x ∷ xs)) (sym next)

  -- the first event that is not possible is the first that is missing
  pub missing_here : (place : ℕ) (e : Event) (player : Player) → slice_get events place ≡ Some e → Holds (before place) player →
      is_possible K sites (run_of (before place)) e ≡ false → first_missing rule K sites events ≡ Some place
  missing_here place e player here held away =
      let inside = slice_get_within events place e here in
      ap (first_missing rule K sites) (split_at events place e here)
      ∙ missing_at rule K sites (take place events) e (drop (place + 1) events) held.playable.there away
      ∙ ap (λ n. Some n) (so_many place (omega (arith, inside)))

  -- all were played
  pub at_last : (place : ℕ) (player : Player) → length events ≤ place → Holds (before place) player → Holds (record { rule = rule; heaps = K; sites = sites; events = events }) player
  at_last place player all held =
      subst (λ (xs : List Event). Holds (record { rule = rule; heaps = K; sites = sites; events = xs }) player) (take_all place events all) held
