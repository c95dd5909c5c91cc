-- Frames that are written when their moment is there.

use Rattle.std.proofs.Common.{List, Ok, Some, Vec, [], ap, arith, inl, inr, length, map, set, subst, sym, ℕ, ◌+◌, ◌<◌, ◌∙◌, ◌++◌, ◌∷◌, ◌≡◌, ◌≤◌}
use Rattle.std.proofs.lemmas.Bool.{cases_eq}
use Rattle.std.proofs.lemmas.List.{take_all}
use Rattle.std.proofs.lemmas.Option.{same_Some}
use Rattle.std.specs.Prelude.{slice_get}
use Rattle.std.specs.declared.alloc.Global.{Global}
use Rattle.zq_journal.specs.Books.{state_of}
use Rattle.zq_model.proofs.Membership.{in_or_not, in_union}
use Rattle.zq_model.specs.Operation.{Operation}
use Rattle.zq_model.specs.Sets.{IsIn}
use Rattle.zq_posheap.proofs.Lists.{behind, mapped_at, slice_get-set_other, slice_get-set_same}
use Rattle.zq_semantics.proofs.Moments.{moments_are}
use Rattle.zq_semantics.proofs.MovedBooks.{read_within}
use Rattle.zq_semantics.specs.Events.{Do, Event, Merge, Take, set_at}
use Rattle.zq_semantics.specs.Runs.{run}
use Rattle.zq_shard.specs.Shard.{HeapImage}
use Rattle.zq_world.specs.Frames.{heap_at}
use Rattle.zq_world.specs.Keeping.{AreReady, IsReady}
use Rattle.zq_world.specs.Play.{Holds, Played, run_of}
use Rattle.zq_world.specs.Steps.{IsElsewhere, IsFrame}
use Rattle.zq_world.specs.declared.player.Player.{Player}

-- the frames of this moment are written for the events of some places, and for all those of earlier moments
pub record AreSoFar (played : Played) (at : ℕ) (done : List ℕ) (events : List Event) (frames : List (Vec ℕ Global)) : Type 0 where
  pub here : (i : ℕ) (e : Event) (frame : Vec ℕ Global) → at ≤ i → IsIn i done → slice_get events i ≡ Some e → slice_get frames i ≡ Some frame → IsReady played (at + 1) e frame.items
  pub earlier : (i : ℕ) (e : Event) (frame : Vec ℕ Global) → at ≤ i → slice_get events i ≡ Some e → slice_get frames i ≡ Some frame → IsReady played at e frame.items

pub only : (i place : ℕ) → IsIn i (place ∷ []) → i ≡ place
only i place (inl same) = sym same
only i place (inr none) = absurd none

-- what is ready for later moments is for earlier ones
ready_before : (played : Played) (at : ℕ) (e : Event) (bytes : List ℕ) → IsReady played (at + 1) e bytes → IsReady played at e bytes
ready_before played at (Do site words w1 w2) bytes ready = tt
ready_before played at (Take site op) bytes ready = tt
ready_before played at (Merge site from heap moment) bytes ready = λ early. ready (omega (arith, early))

-- an event that merges no image of this moment wants no frame of it
ready_other : (played : Played) (at : ℕ) (e : Event) (bytes : List ℕ) → ((site from heap : ℕ) → e ≡ Merge site from heap at → ⊥) → IsReady played at e bytes → IsReady played (at + 1) e bytes
ready_other played at (Do site words w1 w2) bytes other ready = tt
ready_other played at (Take site op) bytes other ready = tt
ready_other played at (Merge site from heap moment) bytes other ready = λ early. elim (cases_eq moment at) [
  | inl same ↦ absurd (other site from heap (ap (Merge site from heap) same))
  | inr apart ↦ ready (omega (arith, early, apart))
]

module _ (played : Played) (at : ℕ) (events : List Event) where
  pub far_first : (frames : List (Vec ℕ Global)) → AreReady played at at events (map (λ f. f.items) frames) → AreSoFar played at [] events frames
  far_first frames are = record {
    here = λ i e frame low none. absurd none;
    earlier = λ i e frame low here there. are.each i e frame.items low here (mapped_at (λ (f : Vec ℕ Global). f.items) frames i frame there);
  }

  pub far_last : (done : List ℕ) (frames : List (Vec ℕ Global)) → ((place site from heap : ℕ) → slice_get events place ≡ Some (Merge site from heap at) → IsIn place done) →
      AreSoFar played at done events frames → AreReady played (at + 1) at events (map (λ f. f.items) frames)
  far_last done frames all far = record {
    each = λ i e bytes low here there.
        let frame = behind (λ (f : Vec ℕ Global). f.items) frames i bytes there in
        let earlier = subst (IsReady played at e) frame.2 (far.earlier i e frame.0 low here frame.1) in
        elim (in_or_not i done) [
          | inl among ↦ subst (IsReady played (at + 1) e) frame.2 (far.here i e frame.0 low among here frame.1)
          | inr away ↦ ready_other played at e bytes (λ site from heap is. away (all i site from heap (here ∙ ap (λ x. Some x) is))) earlier
        ];
  }

  -- an event that needs no frame of this moment
  pub far_same : (done : List ℕ) (place : ℕ) (e : Event) (frames : List (Vec ℕ Global)) → slice_get events place ≡ Some e → ((bytes : List ℕ) → IsReady played at e bytes → IsReady played (at + 1) e bytes) →
      AreSoFar played at done events frames → AreSoFar played at (done ++ place ∷ []) events frames
  far_same done place e frames is more far = record {
    here = λ i x frame low among here there. elim (in_union i done (place ∷ []) among) [
      | inl before ↦ far.here i x frame low before here there
      | inr last ↦
          let same = only i place last in
          let its : e ≡ x = same_Some e x (sym is ∙ ap (slice_get events) (sym same) ∙ here) in
          subst (λ (y : Event). IsReady played (at + 1) y frame.items) its (more frame.items (far.earlier i e frame low (ap (slice_get events) same ∙ is) there))
    ];
    earlier = far.earlier;
  }

  -- an event for which the frame is written
  pub far_set : (done : List ℕ) (place : ℕ) (e : Event) (frames : List (Vec ℕ Global)) (its : Vec ℕ Global) → place < length frames → slice_get events place ≡ Some e → IsReady played (at + 1) e its.items →
      AreSoFar played at done events frames → AreSoFar played at (done ++ place ∷ []) events (set frames place its)
  far_set done place e frames its inside is ready far =
      let written : (i : ℕ) (x : Event) (frame : Vec ℕ Global) → i ≡ place → slice_get events i ≡ Some x → slice_get (set frames place its) i ≡ Some frame → IsReady played (at + 1) x frame.items
      = λ i x frame same here there.
      let event : e ≡ x = same_Some e x (sym is ∙ ap (slice_get events) (sym same) ∙ here) in
      let bytes : its ≡ frame = same_Some its frame (sym (slice_get-set_same frames place its inside) ∙ ap (slice_get (set frames place its)) (sym same) ∙ there) in
      subst (λ (y : Event). IsReady played (at + 1) y frame.items) event (subst (λ (v : Vec ℕ Global). IsReady played (at + 1) e v.items) bytes ready) in
      record {
        here = λ i x frame low among here there. elim (cases_eq i place) [
          | inl same ↦ written i x frame same here there
          | inr apart ↦ elim (in_union i done (place ∷ []) among) [
            | inl before ↦ far.here i x frame low before here (sym (slice_get-set_other frames place i its apart) ∙ there)
            | inr last ↦ absurd (apart (only i place last))
          ]
        ];
        earlier = λ i x frame low here there. elim (cases_eq i place) [
          | inl same ↦ ready_before played at x frame.items (written i x frame same here there)
          | inr apart ↦ far.earlier i x frame low here (sym (slice_get-set_other frames place i its apart) ∙ there)
        ];
      }

module _ (played : Played) (player : Player) (held : Holds played player) (at : ℕ) (now : length played.events ≡ at) where
  -- what the sites have now is what they had at this moment
  set_now : (site : ℕ) → set_at (run_of played) at site ≡ (run_of played).now.sets site
  set_now site =
      moments_are played.rule played.heaps played.events at site (omega (arith, now))
      ∙ ap (λ (events : List Event). (run played.rule played.heaps events).now.sets site) (take_all at played.events (omega (arith, now)))

  pub ready_now : (e : Event) (bytes : List ℕ) → IsFrame player.sites.items at e bytes → IsReady played (at + 1) e bytes
  ready_now (Do site words w1 w2) bytes is = absurd is
  ready_now (Take site op) bytes is = absurd is
  ready_now (Merge site from heap moment) bytes is = λ before there low.
      let books = is.1.0 in
      let book = is.1.1.0 in
      let its = (held.stands.each from books is.1.1.1).each heap book is.1.1.2 in
      let state : state_of book ≡ heap_at played.rule played.heaps (set_at (run_of played) moment from) heap
      = (λ i. record { heap = its.heap i; heaps = its.heaps i; rule = its.ruled i; image = its.state i })
      ∙ ap (λ (S : List Operation). heap_at played.rule played.heaps S heap) (sym (set_now from) ∙ ap (λ m. set_at (run_of played) m from) (sym is.0)) in
      is.1.1.3 ∙ ap (λ (s : HeapImage). Ok s) state

  pub ready_else : (e : Event) (bytes : List ℕ) → IsElsewhere player.sites.items at e → IsReady played at e bytes → IsReady played (at + 1) e bytes
  ready_else (Do site words w1 w2) bytes away ready = tt
  ready_else (Take site op) bytes away ready = tt
  ready_else (Merge site from heap moment) bytes away ready = λ before there low. elim (cases_eq moment at) [
    | inl same ↦
        let number = held.stands.number in
        let books = read_within player.sites.items from (omega (arith, number, there)) in
        let are = held.stands.each from books.0 books.1 in
        let many = are.number in
        let book = read_within books.0.items heap (omega (arith, many, low)) in
        absurd (away same books.0 book.0 books.1 book.1)
    | inr apart ↦ ready (omega (arith, before, apart)) there low
  ]
