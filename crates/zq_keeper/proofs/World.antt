-- What was told is there again: heaps that were read are those of closed sets of the world.

use Rattle.std.proofs.Common.{List, None, Option, [], ap, arith, inl, inr, refl, subst, sym, ℕ, ◌∙◌, ◌∷◌, ◌≡◌, ◌≤◌}
use Rattle.std.specs.Prelude.{slice_get, slice_index}
use Rattle.zq_entries.specs.Entry.{Entry, OfPiece, OfRest, OfRound, OfSealed, OfStart}
use Rattle.zq_entries.specs.declared.start.Start.{Start}
use Rattle.zq_keeper.proofs.Reading.{blank_first, from_blank, says_that}
use Rattle.zq_keeper.proofs.Simulating.{at_place}
use Rattle.zq_keeper.specs.Laws.{AreOfWorld, IsAgain, IsOfWorld, IsRegained}
use Rattle.zq_keeper.specs.Read.{Does, TakesAll}
use Rattle.zq_keeper.specs.declared.outline.Outline.{Outline}
use Rattle.zq_links.specs.declared.piece.Piece.{Piece}
use Rattle.zq_model.proofs.Dots.{dots_below, last_above}
use Rattle.zq_model.proofs.Worlds.{vector_is}
use Rattle.zq_model.specs.Operation.{Operation}
use Rattle.zq_model.specs.Sets.{IsWorld, last}
use Rattle.zq_recovery.proofs.Keeping.{ends, firsts, pieces, rounds}
use Rattle.zq_recovery.specs.Behind.{AreBehind, Behind, IsBehind, Sets, nothing, with_each, with_piece}
use Rattle.zq_recovery.specs.declared.opening.Identity.{Identity}
use Rattle.zq_stage.specs.Piece.{Staged}
use Rattle.zq_stage.specs.Staged.{AreAllBrought}

-- ---- sets behind the stages

pub record Backed (K : ℕ) (W : List Operation) (stages : List Staged) : Type 0 where
  pub sets : Sets
  pub behind : AreBehind K W sets stages

one_entry : (K : ℕ) (W : List Operation) (of : Piece → List Operation) (e : Entry)
    (old new : List Staged) → IsWorld K W → IsOfWorld W of e → Backed K W old → Does e old new →
    Backed K W new
one_entry K W of (OfStart s) old new world here are does = subst (Backed K W) (sym does) are
one_entry K W of (OfRound batches) old new world here are does = record {
  sets = with_each batches are.sets;
  behind = rounds K W are.sets batches old new world here are.behind does;
}
one_entry K W of (OfPiece p) old new world here are does = record {
  sets = with_piece (of p) p are.sets;
  behind = pieces K W (of p) are.sets p old new world here.0 here.1 are.behind does;
}
one_entry K W of (OfSealed w) old new world here are does = subst (Backed K W) (sym does.1) are
one_entry K W of OfRest old new world here are does = subst (Backed K W) (sym does.1) are

all_entries : (i : Identity) (W : List Operation) (of : Piece → List Operation)
    (payloads : List (List ℕ)) (s t : Option Start) (old new : List Staged) →
    IsWorld i.heaps W → AreOfWorld W of payloads → Backed i.heaps W old →
    TakesAll i payloads s old t new → Backed i.heaps W new
all_entries i W of [] s t old new world here are taken =
    subst (Backed i.heaps W) (sym taken.1) are
all_entries i W of (payload ∷ payloads) s t old new world here are taken =
    let one = taken.2 in
    all_entries i W of payloads taken.0 t taken.1 new world
    (λ p e within read. here p e (inr within) read)
    (one_entry i.heaps W of one.entry old taken.1 world
    (here payload one.entry (inl refl) one.read) are one.does) taken.3

-- ---- one heap

regained : (K h : ℕ) (W : List Operation) (told : List ℕ) (b : Behind) (t : Staged) →
    IsBehind K W h b t →
    ((s : ℕ) → slice_index told s ≤ slice_index t.held.image.vector s) → IsRegained K h W told t
regained K h W told b t is covers =
    let world : IsWorld K b.set = subst (λ k. IsWorld k b.set) is.heaps is.staged.world in
    let vector = vector_is t.held.heaps b.set t.held.heap is.staged.world in
    let counter : (s : ℕ) → slice_index t.held.image.vector s ≡ last b.set h s =
    λ s. ap (λ v. slice_index v s) is.staged.vector ∙ vector.counter s
    ∙ ap (λ k. last b.set k s) is.heap in
    record {
      behind = b;
      within = is.within;
      world = world;
      closed = is.staged.closed;
      has = λ s n some most.
          (let below = covers s in
          let its = counter s in
          dots_below K b.set h s n world is.staged.closed (omega (arith, some))
          (omega (arith, most, below, its)));
      fresh = λ o within here.
          (let below : o.n ≤ last b.set h o.site = last_above b.set h o.site o within here refl in
          let its = counter o.site in
          omega (arith, below, its));
      above = λ s. (let below = covers s in omega (arith, below));
      holds = λ brought.
          (ends K W h b t is (subst (AreAllBrought b.begun b.rows b.set) (sym is.heap) brought)).holds;
    }

-- ---- all of it

pub is_again : IsAgain
is_again payloads start said told W of r is covers had world here h x there =
    let i = r.recovery.identity in
    let stages = r.recovery.stages.items in
    let first = had.first.recovery.stages.items in
    let blank = blank_first payloads r had in
    let begun : Backed i.heaps W first = record {
      sets = λ k. nothing;
      behind = firsts i W first blank.empty;
    } in
    let backed = all_entries i W of payloads None r.recovery.start first stages world here begun
    (from_blank payloads r had) in
    let its = covers h x there in
    let y : Outline = its.0 in
    let says = says_that payloads start said r is had in
    let found = at_place stages h y (ap (λ xs. slice_get xs h) says.outlines ∙ its.1) in
    let t : Staged = found.stage in
    let below : (s : ℕ) → slice_index x.vector s ≤ slice_index t.held.image.vector s =
    λ s. subst (λ (o : Outline). slice_index x.vector s ≤ slice_index o.vector s)
    (sym found.outline) (its.2 s) in
    record {
      stage = t;
      there = found.there;
      regained = regained i.heaps h W x.vector (backed.sets h) t (backed.behind h t found.there)
          below;
    }
