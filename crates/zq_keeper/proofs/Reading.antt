-- Records that are read as what is said of them, one more of them, and readers of them.

use Rattle.std.proofs.Common.{List, None, Ok, Option, Some, [], ap, drop, inl, inr, length, refl, subst, suc, sym, zero, ℕ, ◌++◌, ◌∙◌, ◌∷◌, ◌≡◌}
use Rattle.std.proofs.lemmas.List.{length-set}
use Rattle.std.specs.Prelude.{replicate, slice_get, slice_set, ◌⊎◌}
use Rattle.zq_dots.specs.Placed.{Placed}
use Rattle.zq_entries.specs.Entry.{Entry, OfPiece, OfRest, OfRound, OfSealed, OfStart, start_of}
use Rattle.zq_entries.specs.Reading.{entry_at}
use Rattle.zq_entries.specs.declared.start.Start.{Start}
use Rattle.zq_keeper.proofs.Determined.{Same, same_blank, takes_all}
use Rattle.zq_keeper.proofs.Simulating.{NextOf, all_whole, can_each, can_piece, can_seal, put}
use Rattle.zq_keeper.specs.Laws.{AreTaken, IsTaken, SaysThat}
use Rattle.zq_keeper.specs.Outline.{AreOutlined, IsStageOf, empty_outline, outline_of, outlines_of}
use Rattle.zq_keeper.specs.Read.{AreBlank, Does, HasRead, IsReadAs, IsSpelled, Reads, Says, Takes, TakesAll, Turns}
use Rattle.zq_keeper.specs.declared.outline.Outline.{Outline}
use Rattle.zq_keeper.specs.declared.reader.Reader.{Reader}
use Rattle.zq_links.specs.declared.piece.Piece.{Piece}
use Rattle.zq_model.specs.Sets.{IsHeaps}
use Rattle.zq_recovery.specs.Opening.{IsOf}
use Rattle.zq_recovery.specs.Step as step
use Rattle.zq_recovery.specs.declared.opening.Identity.{Identity}
use Rattle.zq_stage.specs.Piece.{Staged}
use Rattle.zq_wal.specs.Format.{payload_over}
use Rattle.zq_wal.specs.Replay.{Replayed}

-- ---- one entry more

can : (i : Identity) (e : Entry) (old new : List Outline) (stages : List Staged) →
    AreOutlined i old stages → Says i e old new → NextOf i (Does e) stages new
can i (OfStart s) old new stages are says = record {
  next = stages;
  steps = refl;
  outlined = subst (λ xs. AreOutlined i xs stages) (sym says) are;
}
can i (OfRound batches) old new stages are says = can_each i batches old new stages are says
can i (OfPiece p) old new stages are says = can_piece i p old new stages are says
can i (OfSealed w) old new stages are says = record {
  next = stages;
  steps = (can_seal i w old stages are says.0, refl);
  outlined = subst (λ xs. AreOutlined i xs stages) (sym says.1) are;
}
can i OfRest old new stages are says = record {
  next = stages;
  steps = (all_whole i old stages are says.0, refl);
  outlined = subst (λ xs. AreOutlined i xs stages) (sym says.1) are;
}

takes_push : (i : Identity) (payloads : List (List ℕ)) (payload : List ℕ) (s t u : Option Start)
    (old mid new : List Staged) → TakesAll i payloads s old t mid → Takes i payload t mid u new →
    TakesAll i (payloads ++ payload ∷ []) s old u new
takes_push i [] payload s t u old mid new all one =
    let start : TakesAll i (payload ∷ []) t mid u new = (u, new, one, (refl, refl)) in
    subst (λ x. TakesAll i (payload ∷ []) x old u new) all.0
    (subst (λ x. TakesAll i (payload ∷ []) t x u new) all.1 start)
takes_push i (p ∷ payloads) payload s t u old mid new all one =
    (all.0, all.1, all.2, takes_push i payloads payload all.0 t u all.1 mid new all.3 one)

-- records with one more, behind whose floor an entry is read
pub read_more : (i : Identity) (payloads : List (List ℕ)) (payload : List ℕ) (e : Entry)
    (start later : Option Start) (old new : List Outline) → IsReadAs i payloads start old →
    entry_at (drop 8 payload) ≡ Ok e → Turns i e start old later new →
    IsReadAs i (payloads ++ payload ∷ []) later new
read_more i payloads payload e start later old new is read turns =
    let left = can i e old new is.last is.outlined turns.says in
    record {
      first = is.first;
      last = left.next;
      blank = is.blank;
      taken = takes_push i payloads payload None start later is.first is.last left.next is.taken
          (record { entry = e; read = read; opens = turns.opens; does = left.steps });
      outlined = left.outlined;
    }

-- an entry behind its floor
pub written : (i : Identity) (payloads : List (List ℕ)) (n : ℕ) (bytes : List ℕ) (e : Entry)
    (start later : Option Start) (old new : List Outline) → IsReadAs i payloads start old →
    IsSpelled e bytes → Turns i e start old later new →
    IsReadAs i (payloads ++ payload_over n bytes ∷ []) later new
written i payloads n bytes e start later old new is spelled turns =
    read_more i payloads (payload_over n bytes) e start later old new is spelled.read turns

-- ---- from nothing

all_empty : (xs : List Staged) →
    ((h : ℕ) (t : Staged) → slice_get xs h ≡ Some t → outline_of t ≡ empty_outline) →
    outlines_of xs ≡ replicate (length xs) empty_outline
all_empty [] each = refl
all_empty (x ∷ xs) each =
    let head : outline_of x ≡ empty_outline = each zero x refl in
    let tail : outlines_of xs ≡ replicate (length xs) empty_outline =
    all_empty xs (λ h t there. each (suc h) t there) in
    λ k. head k ∷ tail k

-- the outlines of heaps of which nothing was read
blank_outlines : (i : Identity) (stages : List Staged) → AreBlank i stages →
    outlines_of stages ≡ replicate i.heaps empty_outline
blank_outlines i stages blank =
    all_empty stages (λ h t there. ap outline_of (blank.empty h t there))
    ∙ ap (λ n. replicate n empty_outline) blank.number

blank_outlined : (i : Identity) (stages : List Staged) → AreBlank i stages →
    AreOutlined i (replicate i.heaps empty_outline) stages
blank_outlined i stages blank = record {
  number = blank.number;
  each = λ h t there.
      (let is = blank.empty h t there in
      record {
        heap = ap (λ (x : Staged). x.held.heap) is;
        heaps = ap (λ (x : Staged). x.held.heaps) is;
        rule = ap (λ (x : Staged). x.held.rule) is;
      });
  outlines = blank_outlines i stages blank;
}

-- no record, where some are read
none_read : (i : Identity) (payloads : List (List ℕ)) (start : Option Start)
    (outlines : List Outline) → IsReadAs i payloads start outlines →
    IsReadAs i [] None (replicate i.heaps empty_outline)
none_read i payloads start outlines is = record {
  first = is.first;
  last = is.first;
  blank = is.blank;
  taken = (refl, refl);
  outlined = blank_outlined i is.first is.blank;
}

-- a start alone
pub begun_read : (i : Identity) (payloads : List (List ℕ)) (start : Option Start)
    (outlines : List Outline) (s : Start) (bytes : List ℕ) → IsReadAs i payloads start outlines →
    IsOf i s → IsSpelled (OfStart (start_of s)) bytes →
    IsReadAs i (payload_over 0 bytes ∷ []) (Some s) (replicate i.heaps empty_outline)
begun_read i payloads start outlines s bytes is of spelled =
    written i [] 0 bytes (OfStart (start_of s)) None (Some s) (replicate i.heaps empty_outline)
    (replicate i.heaps empty_outline) (none_read i payloads start outlines is) spelled (record {
      opens = (s, refl, record { after = record { of = of; after = tt }; noted = refl });
      says = refl;
    })

-- ---- what stays of stages

-- the outlines of stages of the site, whatever they are
itself : (i : Identity) (outlines : List Outline) (stages : List Staged) →
    AreOutlined i outlines stages → AreOutlined i (outlines_of stages) stages
itself i outlines stages are = record { number = are.number; each = are.each; outlines = refl }

put_itself : (i : Identity) (stages : List Staged) (h : ℕ) (t after : Staged)
    (new : List Staged) → AreOutlined i (outlines_of stages) stages →
    slice_get stages h ≡ Some t → IsStageOf i h after → new ≡ slice_set stages h after →
    AreOutlined i (outlines_of new) new
put_itself i stages h t after new are there is same =
    let put_in = put i (outlines_of stages) stages h t after (outline_of after) are there is refl in
    subst (λ xs. AreOutlined i (outlines_of xs) xs) (sym same)
    (itself i (slice_set (outlines_of stages) h (outline_of after)) (slice_set stages h after) put_in)

op_stays : (i : Identity) (p : Placed) (old new : List Staged) → step.TakesOne p old new →
    AreOutlined i (outlines_of old) old → AreOutlined i (outlines_of new) new
op_stays i p old new takes are =
    let h = p.operation.heap in
    let its = are.each h takes.before takes.there in
    let is : IsStageOf i h takes.after = subst (IsStageOf i h) (sym takes.takes.stage)
    (record { heap = its.heap; heaps = its.heaps; rule = its.rule }) in
    put_itself i old h takes.before takes.after new are takes.there is takes.stages

ops_stay : (i : Identity) (ops : List Placed) (old new : List Staged) → step.TakesAll ops old new →
    AreOutlined i (outlines_of old) old → AreOutlined i (outlines_of new) new
ops_stay i [] old new takes are = subst (λ xs. AreOutlined i (outlines_of xs) xs) (sym takes) are
ops_stay i (p ∷ ops) old new takes are =
    ops_stay i ops takes.0 new takes.2 (op_stays i p old takes.0 takes.1 are)

each_stays : (i : Identity) (batches : List (List Placed)) (old new : List Staged) →
    step.TakesEach batches old new → AreOutlined i (outlines_of old) old →
    AreOutlined i (outlines_of new) new
each_stays i [] old new takes are = subst (λ xs. AreOutlined i (outlines_of xs) xs) (sym takes) are
each_stays i (ops ∷ batches) old new takes are =
    each_stays i batches takes.0 new takes.2 (ops_stay i ops old takes.0 takes.1 are)

piece_stays : (i : Identity) (p : Piece) (h : ℕ) (old new : Staged) →
    step.Begins p old new ⊎ step.GoesOn p old new → IsStageOf i h old → IsStageOf i h new
piece_stays i p h old new (inl is) its = subst (IsStageOf i h) (sym is.stage) (record {
  heap = sym is.heap.heap ∙ its.heap;
  heaps = sym is.heap.heaps ∙ its.heaps;
  rule = sym is.rule ∙ its.rule;
})
piece_stays i p h old new (inr is) its = subst (IsStageOf i h) (sym is.stage)
    (record { heap = its.heap; heaps = its.heaps; rule = its.rule })

does_stays : (i : Identity) (e : Entry) (old new : List Staged) → Does e old new →
    AreOutlined i (outlines_of old) old → AreOutlined i (outlines_of new) new
does_stays i (OfStart s) old new does are =
    subst (λ xs. AreOutlined i (outlines_of xs) xs) (sym does) are
does_stays i (OfRound batches) old new does are = each_stays i batches old new does are
does_stays i (OfPiece p) old new does are =
    let h = p.part.heap in
    put_itself i old h does.before does.after new are does.there
    (piece_stays i p h does.before does.after does.comes (are.each h does.before does.there))
    does.stages
does_stays i (OfSealed w) old new does are =
    subst (λ xs. AreOutlined i (outlines_of xs) xs) (sym does.1) are
does_stays i OfRest old new does are =
    subst (λ xs. AreOutlined i (outlines_of xs) xs) (sym does.1) are

all_stays : (i : Identity) (payloads : List (List ℕ)) (s t : Option Start)
    (old new : List Staged) → TakesAll i payloads s old t new →
    AreOutlined i (outlines_of old) old → AreOutlined i (outlines_of new) new
all_stays i [] s t old new is are =
    subst (λ xs. AreOutlined i (outlines_of xs) xs) (sym is.1) are
all_stays i (payload ∷ payloads) s t old new is are =
    all_stays i payloads is.0 t is.1 new is.3
    (does_stays i is.2.entry old is.1 is.2.does are)

-- ---- readers

-- what a reader read
read_all : (payloads : List (List ℕ)) (first last : Reader) → Replayed Reads first payloads last →
    TakesAll first.recovery.identity payloads first.recovery.start first.recovery.stages.items
    last.recovery.start last.recovery.stages.items
read_all [] first last is =
    (ap (λ (r : Reader). r.recovery.start) is, ap (λ (r : Reader). r.recovery.stages.items) is)
read_all (payload ∷ payloads) first last is =
    let next = is.0 in (
      next.recovery.start,
      next.recovery.stages.items,
      is.1.takes,
      subst (λ i. TakesAll i payloads next.recovery.start next.recovery.stages.items
          last.recovery.start last.recovery.stages.items) is.1.identity
          (read_all payloads next last is.2),
    )

same_site : (payloads : List (List ℕ)) (first last : Reader) → Replayed Reads first payloads last →
    last.recovery.identity ≡ first.recovery.identity
same_site [] first last is = ap (λ (r : Reader). r.recovery.identity) is
same_site (payload ∷ payloads) first last is =
    same_site payloads is.0 last is.2 ∙ is.1.identity

-- from nothing
pub from_blank : (payloads : List (List ℕ)) (last : Reader) (is : HasRead payloads last) →
    TakesAll last.recovery.identity payloads None is.first.recovery.stages.items
    last.recovery.start last.recovery.stages.items
from_blank payloads last is =
    let first = is.first in
    subst (λ i. TakesAll i payloads None first.recovery.stages.items last.recovery.start
    last.recovery.stages.items) (sym (same_site payloads first last is.read))
    (subst (λ s. TakesAll first.recovery.identity payloads s first.recovery.stages.items
    last.recovery.start last.recovery.stages.items) is.blank.start
    (read_all payloads first last is.read))

pub blank_first : (payloads : List (List ℕ)) (last : Reader) (is : HasRead payloads last) →
    AreBlank last.recovery.identity is.first.recovery.stages.items
blank_first payloads last is =
    subst (λ i. AreBlank i is.first.recovery.stages.items)
    (sym (same_site payloads is.first last is.read)) is.blank.blank

-- a number of heaps
pub blank_heaps : (payloads : List (List ℕ)) (r : Reader) → HasRead payloads r →
    IsHeaps r.recovery.identity.heaps
blank_heaps payloads r had =
    subst (λ (i : Identity). IsHeaps i.heaps) (sym (same_site payloads had.first r had.read))
    had.blank.heaps

-- records that a reader has read are read as what it says
pub read_as : (payloads : List (List ℕ)) (r : Reader) → HasRead payloads r →
    IsReadAs r.recovery.identity payloads r.recovery.start (outlines_of r.recovery.stages.items)
read_as payloads r had =
    let i = r.recovery.identity in
    let first = had.first.recovery.stages.items in
    let blank = blank_first payloads r had in
    let taken = from_blank payloads r had in
    record {
      first = first;
      last = r.recovery.stages.items;
      blank = blank;
      taken = taken;
      outlined = all_stays i payloads None r.recovery.start first r.recovery.stages.items taken
          (itself i (replicate i.heaps empty_outline) first (blank_outlined i first blank));
    }

-- whichever way the records are read, the same comes of it
pub same_read : (payloads : List (List ℕ)) (start : Option Start) (outlines : List Outline)
    (last : Reader) (is : IsReadAs last.recovery.identity payloads start outlines) →
    HasRead payloads last →
    Same last.recovery.start start last.recovery.stages.items is.last
same_read payloads start outlines last is had =
    let i = last.recovery.identity in
    let begun : had.first.recovery.stages.items ≡ is.first =
    same_blank i had.first.recovery.stages.items is.first (blank_first payloads last had) is.blank in
    takes_all i payloads None last.recovery.start start is.first last.recovery.stages.items is.last
    (subst (λ x. TakesAll i payloads None x last.recovery.start last.recovery.stages.items) begun
    (from_blank payloads last had)) is.taken

pub says_that : SaysThat
says_that payloads start outlines last is had =
    let same = same_read payloads start outlines last is had in
    record {
      start = same.start;
      outlines = ap outlines_of same.stages ∙ is.outlined.outlines;
    }

-- ---- each reader takes them

-- as many stages as before
many_ops : (ops : List Placed) (old new : List Staged) → step.TakesAll ops old new →
    length new ≡ length old
many_ops [] old new takes = ap length takes
many_ops (p ∷ ops) old new takes =
    many_ops ops takes.0 new takes.2 ∙ (ap length takes.1.stages
    ∙ length-set old p.operation.heap takes.1.after)

many_each : (batches : List (List Placed)) (old new : List Staged) →
    step.TakesEach batches old new → length new ≡ length old
many_each [] old new takes = ap length takes
many_each (ops ∷ batches) old new takes =
    many_each batches takes.0 new takes.2 ∙ many_ops ops old takes.0 takes.1

as_many : (e : Entry) (old new : List Staged) → Does e old new → length new ≡ length old
as_many (OfStart s) old new does = ap length does
as_many (OfRound batches) old new does = many_each batches old new does
as_many (OfPiece p) old new does = ap length does.stages ∙ length-set old p.part.heap does.after
as_many (OfSealed w) old new does = ap length does.1
as_many OfRest old new does = ap length does.1

-- the reader with other stages, behind another start
abbrev reading : (r : Reader) → Option Start → (stages : List Staged) →
    length stages ≡ length r.recovery.stages.items → Reader
reading r start stages many =
    record r { recovery = record r.recovery { start = start; stages = record r.recovery.stages { items = stages; ok = (r.recovery.stages.ok.0 ∙ sym many, r.recovery.stages.ok.1) } } }

takes_from : (payloads : List (List ℕ)) (r : Reader) (t : Option Start) (new : List Staged) →
    TakesAll r.recovery.identity payloads r.recovery.start r.recovery.stages.items t new →
    IsTaken payloads r
takes_from [] r t new is = record { last = r; read = refl }
takes_from (payload ∷ payloads) r t new is =
    let many = as_many is.2.entry r.recovery.stages.items is.1 is.2.does in
    let mid : Reader = reading r is.0 is.1 many in
    let rest = takes_from payloads mid t new is.3 in
    record { last = rest.last; read = (mid, record { identity = refl; takes = is.2 }, rest.read) }

pub are_taken : AreTaken
are_taken payloads start outlines first is blank =
    let i = first.recovery.identity in
    let begun : is.first ≡ first.recovery.stages.items =
    same_blank i is.first first.recovery.stages.items is.blank blank.blank in
    let all : TakesAll i payloads first.recovery.start first.recovery.stages.items start is.last =
    subst (λ x. TakesAll i payloads x first.recovery.stages.items start is.last) (sym blank.start)
    (subst (λ x. TakesAll i payloads None x start is.last) begun is.taken) in
    takes_from payloads first start is.last all
