-- What the outlines take the stages take, and then these are the outlines again.

use Rattle.std.proofs.Common.{List, Some, [], ap, arith, false, inl, inr, refl, subst, suc, sym, true, zero, ℕ, ◌+◌, ◌∙◌, ◌∷◌, ◌≡◌}
use Rattle.std.proofs.lemmas.Bool.Decides.{nat_tests}
use Rattle.std.proofs.lemmas.List.{length-set, map-set}
use Rattle.std.proofs.lemmas.Option.{same_Some, slice_get_within}
use Rattle.std.specs.Prelude.{slice_get, slice_set, ◌==◌, ◌||◌, ◌≢◌, ◌⊎◌}
use Rattle.zq_dots.specs.Placed.{Placed}
use Rattle.zq_dots.specs.Rule.{rule_of}
use Rattle.zq_entries.specs.declared.sealed.Sealed.{Sealed}
use Rattle.zq_keeper.specs.Operations as outlines
use Rattle.zq_keeper.specs.Operations.{outline_taken, vector_taken, vector_when}
use Rattle.zq_keeper.specs.Outline.{AreAllWhole, AreOutlined, IsStageOf, outline_of, outlines_of}
use Rattle.zq_keeper.specs.Pieces as pieces
use Rattle.zq_keeper.specs.declared.outline.Outline.{Outline}
use Rattle.zq_links.specs.declared.piece.Piece.{Piece}
use Rattle.zq_model.specs.Image.{Image, image_when}
use Rattle.zq_model.specs.Operation.{Operation}
use Rattle.zq_model.specs.Rows.{rows_of}
use Rattle.zq_model.specs.Sets.{Early, Known, New, Taken, covers, taken_of}
use Rattle.zq_posheap.proofs.Lists.{slice_get-set_other, slice_get-set_same}
use Rattle.zq_recovery.specs.Step as step
use Rattle.zq_recovery.specs.declared.opening.Identity.{Identity}
use Rattle.zq_stage.proofs.Replaced.{with_rows-vector}
use Rattle.zq_stage.specs.Piece.{Staged, after_piece}
use Rattle.zq_stage.specs.Rows.{with_rows}

-- ---- a stage for each outline

-- the stage of an outline
pub record StageAt (stages : List Staged) (h : ℕ) (x : Outline) : Type 0 where
  pub stage : Staged
  pub there : slice_get stages h ≡ Some stage
  pub outline : outline_of stage ≡ x

pub at_place : (stages : List Staged) (h : ℕ) (x : Outline) →
    slice_get (outlines_of stages) h ≡ Some x → StageAt stages h x
at_place [] h x is = absurd (cc)
at_place (t ∷ stages) zero x is = record {
  stage = t;
  there = refl;
  outline = same_Some (outline_of t) x is;
}
at_place (t ∷ stages) (suc h) x is =
    let rest = at_place stages h x is in
    record { stage = rest.stage; there = rest.there; outline = rest.outline }

pub stage_at : (i : Identity) (outlines : List Outline) (stages : List Staged) (h : ℕ)
    (x : Outline) → AreOutlined i outlines stages → slice_get outlines h ≡ Some x →
    StageAt stages h x
stage_at i outlines stages h x are is =
    at_place stages h x (ap (λ xs. slice_get xs h) are.outlines ∙ is)

-- and an outline for each stage
outline_in : (stages : List Staged) (h : ℕ) (t : Staged) → slice_get stages h ≡ Some t →
    slice_get (outlines_of stages) h ≡ Some (outline_of t)
outline_in [] h t is = absurd (cc)
outline_in (u ∷ stages) zero t is = ap (λ x. Some (outline_of x)) (same_Some u t is)
outline_in (u ∷ stages) (suc h) t is = outline_in stages h t is

pub outline_at : (i : Identity) (outlines : List Outline) (stages : List Staged) (h : ℕ)
    (t : Staged) → AreOutlined i outlines stages → slice_get stages h ≡ Some t →
    slice_get outlines h ≡ Some (outline_of t)
outline_at i outlines stages h t are is =
    ap (λ xs. slice_get xs h) (sym are.outlines) ∙ outline_in stages h t is

-- ---- another stage in its place

each_put : (i : Identity) (stages : List Staged) (h : ℕ) (t after : Staged) →
    ((k : ℕ) (u : Staged) → slice_get stages k ≡ Some u → IsStageOf i k u) →
    slice_get stages h ≡ Some t → IsStageOf i h after → (k : ℕ) (u : Staged) →
    slice_get (slice_set stages h after) k ≡ Some u → IsStageOf i k u
each_put i stages h t after each there is k u here =
    elim (k == h) as (λ c. (k == h) ≡ c → IsStageOf i k u) [
      | true ↦ λ test.
          (let same : k ≡ h = grind (arith, nat_tests) in
          let read : slice_get (slice_set stages h after) k ≡ Some after =
          ap (slice_get (slice_set stages h after)) same
          ∙ slice_get-set_same stages h after (slice_get_within stages h t there) in
          let its : after ≡ u = same_Some after u (sym read ∙ here) in
          subst (λ n. IsStageOf i n u) (sym same) (subst (IsStageOf i h) its is))
      | false ↦ λ test.
          (let other : k ≢ h = grind (arith, nat_tests) in
          each k u (sym (slice_get-set_other stages h k after other) ∙ here))
    ] refl

pub put : (i : Identity) (outlines : List Outline) (stages : List Staged) (h : ℕ)
    (t after : Staged) (x : Outline) → AreOutlined i outlines stages →
    slice_get stages h ≡ Some t → IsStageOf i h after → outline_of after ≡ x →
    AreOutlined i (slice_set outlines h x) (slice_set stages h after)
put i outlines stages h t after x are there is outline = record {
  number = length-set stages h after ∙ are.number;
  each = each_put i stages h t after are.each there is;
  outlines = map-set outline_of stages h after
      ∙ ap (λ xs. slice_set xs h (outline_of after)) are.outlines
      ∙ ap (slice_set outlines h) outline;
}

-- ---- operations

vector_after : (answer : Taken) (o : Operation) (a : Image) →
    (image_when answer o a).vector ≡ vector_when answer o a.vector
vector_after New o a = refl
vector_after Known o a = refl
vector_after Early o a = refl

-- the outline of a stage after an operation
outline_took : (o : Operation) (t : Staged) →
    outline_of (step.took o t) ≡ outline_taken o (outline_of t)
outline_took o t =
    ap (λ (v : List ℕ). record (outline_of t) { vector = v })
    (vector_after (taken_of t.held.image.vector o) o t.held.image)

pub record NextOf (i : Identity) (Steps : List Staged → List Staged → Type 0)
    (old : List Staged) (new : List Outline) : Type 0 where
  pub next : List Staged
  pub steps : Steps old next
  pub outlined : AreOutlined i new next

pub can_op : (i : Identity) (p : Placed) (old new : List Outline) (stages : List Staged) →
    AreOutlined i old stages → outlines.TakesOp i p old new →
    NextOf i (step.TakesOne p) stages new
can_op i p old new stages are takes =
    let o = p.operation in
    let h = o.heap in
    let found = stage_at i old stages h takes.before are takes.there in
    let t : Staged = found.stage in
    let after : Staged = step.took o t in
    let same : outline_of t ≡ takes.before = found.outline in
    let late : taken_of t.held.image.vector o ≢ Early =
    subst (λ (x : Outline). taken_of x.vector o ≢ Early) (sym same) takes.takes.late in
    let its = are.each h t found.there in
    let outline : outline_of after ≡ takes.after =
    outline_took o t ∙ ap (outline_taken o) same ∙ sym takes.takes.outline in
    let outlined = put i old stages h t after takes.after are found.there
    (record { heap = its.heap; heaps = its.heaps; rule = its.rule }) outline in
    record {
      next = slice_set stages h after;
      steps = record {
        before = t;
        after = after;
        there = found.there;
        takes = record { late = late; stage = refl };
        stages = refl;
      };
      outlined = subst (λ xs. AreOutlined i xs (slice_set stages h after)) (sym takes.outlines)
          outlined;
    }

pub can_ops : (i : Identity) (ops : List Placed) (old new : List Outline)
    (stages : List Staged) → AreOutlined i old stages → outlines.TakesOps i ops old new →
    NextOf i (step.TakesAll ops) stages new
can_ops i [] old new stages are takes = record {
  next = stages;
  steps = refl;
  outlined = subst (λ xs. AreOutlined i xs stages) (sym takes) are;
}
can_ops i (p ∷ ops) old new stages are takes =
    let first = can_op i p old takes.0 stages are takes.1 in
    let rest = can_ops i ops takes.0 new first.next first.outlined takes.2 in
    record {
      next = rest.next;
      steps = (first.next, first.steps, rest.steps);
      outlined = rest.outlined;
    }

pub can_each : (i : Identity) (batches : List (List Placed)) (old new : List Outline)
    (stages : List Staged) → AreOutlined i old stages → outlines.TakesEach i batches old new →
    NextOf i (step.TakesEach batches) stages new
can_each i [] old new stages are takes = record {
  next = stages;
  steps = refl;
  outlined = subst (λ xs. AreOutlined i xs stages) (sym takes) are;
}
can_each i (ops ∷ batches) old new stages are takes =
    let first = can_ops i ops old takes.0 stages are takes.1 in
    let rest = can_each i batches takes.0 new first.next first.outlined takes.2 in
    record {
      next = rest.next;
      steps = (first.next, first.steps, rest.steps);
      outlined = rest.outlined;
    }

-- ---- pieces

-- the stage that a piece leaves
pub record After (i : Identity) (h : ℕ) (p : Piece) (t : Staged) (x : Outline) : Type 0 where
  pub after : Staged
  pub comes : step.Begins p t after ⊎ step.GoesOn p t after
  pub is : IsStageOf i h after
  pub outline : outline_of after ≡ x

begins : (i : Identity) (h : ℕ) (p : Piece) (t : Staged) (x y : Outline) → IsStageOf i h t →
    p.part.heap ≡ h → p.part.heaps ≡ i.heaps → p.part.rule ≡ rule_of i.rule →
    outline_of t ≡ x → pieces.Begins p x y → After i h p t y
begins i h p t x y its heap heaps rule same is = record {
  after = step.begun p;
  comes = inl (record {
    first = is.first;
    heap = record { heap = its.heap ∙ sym heap; heaps = its.heaps ∙ sym heaps };
    rule = its.rule ∙ sym rule;
    covers_old = ap (λ (o : Outline). covers p.part.image.vector o.vector)
        same ∙ is.covers_old;
    stage = refl;
  });
  is = record { heap = heap; heaps = heaps; rule = rule };
  outline = sym is.outline;
}

goes_on : (i : Identity) (h : ℕ) (p : Piece) (t : Staged) (x y : Outline) → IsStageOf i h t →
    p.part.heap ≡ h → p.part.heaps ≡ i.heaps → p.part.rule ≡ rule_of i.rule →
    outline_of t ≡ x → pieces.GoesOn p x y → After i h p t y
goes_on i h p t x y its heap heaps rule same is =
    let image : Image = with_rows (rows_of p.part.image) t.held.image in
    let after : Staged = after_piece image (step.is_end p.next) t in
    let number : t.next ≡ p.number = ap (λ (o : Outline). o.next) same ∙ is.is_next in
    let outline : outline_of after
    ≡ record (outline_of t) { next = p.number + 1; whole = t.whole || step.is_end p.next } =
    ap (λ (v : List ℕ). record { vector = v; life = t.life; next = t.next + 1; whole = t.whole || step.is_end p.next })
    (with_rows-vector (rows_of p.part.image) t.held.image)
    ∙ ap (λ (n : ℕ). record { vector = t.held.image.vector; life = t.life; next = n + 1; whole = t.whole || step.is_end p.next }) number in
    record {
      after = after;
      comes = inr (record {
        later = is.later;
        next = record {
          heap = record { heap = its.heap ∙ sym heap; heaps = its.heaps ∙ sym heaps };
          rule = its.rule ∙ sym rule;
          same_life = ap (λ (o : Outline). o.life) same ∙ is.same_life;
          is_next = number;
          few = is.few;
          vector = ap (λ (o : Outline). o.vector) same ∙ is.vector;
        };
        stage = refl;
      });
      is = record { heap = its.heap; heaps = its.heaps; rule = its.rule };
      outline = outline
          ∙ ap (λ (o : Outline). record o { next = p.number + 1; whole = o.whole || step.is_end p.next }) same
          ∙ sym is.outline;
    }

after : (i : Identity) (p : Piece) (t : Staged) (x y : Outline) → IsStageOf i p.part.heap t →
    p.part.heaps ≡ i.heaps → p.part.rule ≡ rule_of i.rule →
    outline_of t ≡ x → pieces.Begins p x y ⊎ pieces.GoesOn p x y → After i p.part.heap p t y
after i p t x y its heaps rule same (inl is) =
    begins i p.part.heap p t x y its refl heaps rule same is
after i p t x y its heaps rule same (inr is) =
    goes_on i p.part.heap p t x y its refl heaps rule same is

pub can_piece : (i : Identity) (p : Piece) (old new : List Outline) (stages : List Staged) →
    AreOutlined i old stages → pieces.Comes i p old new → NextOf i (step.Comes p) stages new
can_piece i p old new stages are comes =
    let h = p.part.heap in
    let found = stage_at i old stages h comes.before are comes.there in
    let t : Staged = found.stage in
    let left = after i p t comes.before comes.after (are.each h t found.there) comes.heaps
    comes.rule found.outline comes.comes in
    record {
      next = slice_set stages h left.after;
      steps = record {
        before = t;
        after = left.after;
        there = found.there;
        comes = left.comes;
        stages = refl;
      };
      outlined = subst (λ xs. AreOutlined i xs (slice_set stages h left.after)) (sym comes.outlines)
          (put i old stages h t left.after comes.after are found.there left.is left.outline);
    }

-- ---- whole heaps

pub can_seal : (i : Identity) (w : Sealed) (old : List Outline) (stages : List Staged) →
    AreOutlined i old stages → pieces.IsWhole i w old → step.IsWhole w stages
can_seal i w old stages are whole =
    let h = w.heap.heap in
    let found = stage_at i old stages h whole.outline are whole.there in
    record {
      stage = found.stage;
      there = found.there;
      heaps = (are.each h found.stage found.there).heaps ∙ sym whole.heaps;
      whole = ap (λ (x : Outline). x.whole) found.outline ∙ whole.whole;
      vector = ap (λ (x : Outline). x.vector) found.outline ∙ whole.vector;
    }

pub all_whole : (i : Identity) (old : List Outline) (stages : List Staged) →
    AreOutlined i old stages → AreAllWhole old → step.AreWhole stages
all_whole i old stages are whole h t there =
    whole h (outline_of t) (outline_at i old stages h t are there)
