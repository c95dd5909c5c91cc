-- What a call answers, and what its site has then.

use Rattle.std.proofs.Common.{Ok, ap, inl, subst, sym, ◌∙◌}
use Rattle.std.proofs.lemmas.Bool.{eq-eqb}
use Rattle.std.specs.Prelude.{List, [], map, refl, take, true, ℕ, ◌&&◌, ◌==◌, ◌∷◌, ◌≡◌, ◌≤◌}
use Rattle.zq_dots.specs.Placed.{Placed}
use Rattle.zq_journal.specs.Books.{steps_when}
use Rattle.zq_model.proofs.Lists.{in_filter}
use Rattle.zq_model.proofs.Membership.{in_left}
use Rattle.zq_model.proofs.Taken.{taken_known}
use Rattle.zq_model.proofs.Worlds.{world_part}
use Rattle.zq_model.specs.Books.{Merged, Step, TookOver}
use Rattle.zq_model.specs.Operation.{Operation, has}
use Rattle.zq_model.specs.Rule.{Rule}
use Rattle.zq_model.specs.Sets.{Early, IsClosed, IsIn, IsWorld, Known, New, Taken, taken_of, vector_of}
use Rattle.zq_notes.proofs.Alike.{take_front}
use Rattle.zq_notes.proofs.ReadOff.{AreScoresMeant}
use Rattle.zq_notes.proofs.TakenInTurn.{known_at, taken_in}
use Rattle.zq_notes.specs.Does.{Does}
use Rattle.zq_notes.specs.Gathered.{AreOf, AreOfIn, covered_by, gathered_by, gathered_in}
use Rattle.zq_notes.specs.Notes.{Answer, Asked, Handed, HandedAll, Joined, Note, Portioned, TakenOver, ToMerge, ToPortion, ToTake, ToTakeAll, ToTakeOver}
use Rattle.zq_notes.specs.Readings.{IsAnswerOf, heap_as}
use Rattle.zq_notes.specs.Sites.{Event}
use Rattle.zq_notes.specs.Thread.{IsNoteOver}
use Rattle.zq_restarts.proofs.CallsOver.{had_wider, made, read, stays, world_next}
use Rattle.zq_restarts.specs.Linked.{IsLinkedCall}
use Rattle.zq_restarts.specs.Runs.{State, has_after, left_after}
use Rattle.zq_restarts.specs.Standing.{IsStanding}
use Rattle.zq_shard.specs.Shard.{HeapImage}
use Rattle.zq_shard.specs.Taken.{answer_of}
use Rattle.zq_shard.specs.declared.spot.Spot.{Spot}
use Rattle.zq_shard.specs.declared.taken.Taken as code
use Rattle.zq_spread.specs.Batches.{steps_of_all}
use Rattle.zq_spread.specs.declared.taken_all.TakenAll.{TakenAll}
use Rattle.zq_stage.proofs.Portions.{portion_of_set}
use Rattle.zq_stage.specs.Staged.{IsPieceOf}
use Rattle.zq_stage.specs.declared.portion.Portion.{Portion}
use Rattle.zq_stage.specs.declared.portion.PortionLimits.{PortionLimits}

module _ (rule : Rule) (K : ℕ) (two : 2 ≤ K) (meant : AreScoresMeant) (now : State) (stands : IsStanding rule K now) (e : Event) (over : IsNoteOver rule K e.site (now.books e.site) e.call.note)
    (of : AreOfIn (left_after e now) e.call.note.heaps e.call.note.steps) where
  abbrev n : Note
  n = e.call.note

  abbrev S : List Operation
  S = now.has e.site

  abbrev W : List Operation
  W = left_after e now

  world : IsWorld K W
  world = world_next rule K two meant now stands e over

  within : (o : Operation) → IsIn o S → IsIn o W
  within = (had_wider rule K two meant now stands e over).within

  closed : IsClosed S
  closed = (had_wider rule K two meant now stands e over).closed

  answers : IsAnswerOf rule K e.site S n.asked n.stamp n.heaps n.answer n.steps
  answers = read rule K two meant now stands e over

  does_as : (asked : Asked) (answer : Answer) → n.asked ≡ asked → n.answer ≡ answer → Does rule K e.site n.stamp asked n.heaps answer (map (now.books e.site) n.heaps) n.steps
  does_as asked answer same_asked same_answer =
      let found = map (now.books e.site) n.heaps in
      subst (λ a. Does rule K e.site n.stamp asked n.heaps a found n.steps) same_answer (subst (λ q. Does rule K e.site n.stamp q n.heaps n.answer found n.steps) same_asked over.does)

  off_as : (asked : Asked) (answer : Answer) → n.asked ≡ asked → n.answer ≡ answer → IsAnswerOf rule K e.site S asked n.stamp n.heaps answer n.steps
  off_as asked answer same_asked same_answer =
      subst (λ a. IsAnswerOf rule K e.site S asked n.stamp n.heaps a n.steps) same_answer (subst (λ q. IsAnswerOf rule K e.site S q n.stamp n.heaps n.answer n.steps) same_asked answers)

  led : (h : ℕ) (ss : List Step) → n.heaps ≡ h ∷ [] → n.steps ≡ ss ∷ [] → has_after e now ≡ gathered_in W h ss S
  led h ss heaps steps = ap (λ hs. gathered_by W hs n.steps S) heaps ∙ ap (λ x. gathered_by W (h ∷ []) x S) steps

  -- what it was handed and answered New or Known
  taken : (op : Placed) (answer : code.Taken) → n.asked ≡ ToTake op → n.answer ≡ Handed (Ok answer) → (answer_of answer ≡ Early → ⊥) → IsIn op.operation W → IsIn op.operation (has_after e now)
  taken op answer asked answered late i =
      let o : Operation = op.operation in
      let off = off_as (ToTake op) (Handed (Ok answer)) asked answered in
      let does = does_as (ToTake op) (Handed (Ok answer)) asked answered in
      subst (IsIn o) (sym (led o.heap (steps_when (taken_of (vector_of S o.heap) o) n.stamp o) does.0 off.1))
      (by (taken_of (vector_of S o.heap) o) o i refl (λ early. late (off.0 ∙ early)))
    where
      by : (t : Taken) (o : Operation) → IsIn o W → t ≡ taken_of (vector_of S o.heap) o → (t ≡ Early → ⊥) → IsIn o (gathered_in W o.heap (steps_when t n.stamp o) S)
      by New o i same late = inl refl
      by Known o i same late = known_at K W world S within closed o i (taken_known (vector_of S o.heap) o (sym same))
      by Early o i same late = absurd (late refl)

  -- each that it took of a list
  taken_all : (heap : ℕ) (ops : List Placed) (answer : TakenAll) → n.asked ≡ ToTakeAll heap ops → n.answer ≡ HandedAll answer → (op : Placed) → IsIn op (take answer.taken ops) → IsIn op.operation W →
      IsIn op.operation (has_after e now)
  taken_all heap ops answer asked answered op here i =
      let off = off_as (ToTakeAll heap ops) (HandedAll answer) asked answered in
      let does = does_as (ToTakeAll heap ops) (HandedAll answer) asked answered in
      let so = off.3 in
      let done : take answer.taken ops ≡ so.taken = (λ k. take (so.number k) (so.split k)) ∙ take_front so.taken so.left in
      let steps : n.steps ≡ steps_of_all n.stamp so.taken (heap_as rule K S heap) ∷ [] = off.2 ∙ ap (λ (l : List Step). l ∷ []) so.steps_are in
      let of_them : AreOf W heap (steps_of_all n.stamp so.taken (heap_as rule K S heap)) =
      (subst (λ hs. AreOfIn W hs (steps_of_all n.stamp so.taken (heap_as rule K S heap) ∷ [])) does.0 (subst (AreOfIn W n.heaps) steps of)).0 in
      subst (IsIn op.operation) (sym (led heap (steps_of_all n.stamp so.taken (heap_as rule K S heap)) does.0 steps))
      (taken_in K W world heap n.stamp so.taken S (heap_as rule K S heap) (record { within = within; closed = closed; image = refl; heap = refl }) so.are of_them op (subst (IsIn op) done here) i)

  covers_it : (h : ℕ) (other : HeapImage) (o : Operation) → IsIn o W → o.heap ≡ other.heap → has other.image.vector o.site o.n ≡ true → IsIn o (covered_by W other.heap other.image)
  covers_it h other o i here known =
      in_filter (λ p. (p.heap == other.heap) && has other.image.vector p.site p.n) W o i (rw (eq-eqb o.heap other.heap here, known) refl)

  -- what an image that it merged covers
  merged : (other : HeapImage) (done : Unit {0}) → n.asked ≡ ToMerge other → n.answer ≡ Joined (Ok done) → (o : Operation) → IsIn o W → o.heap ≡ other.heap → has other.image.vector o.site o.n ≡ true →
      IsIn o (has_after e now)
  merged other done asked answered o i here known =
      let off = off_as (ToMerge other) (Joined (Ok done)) asked answered in
      let does = does_as (ToMerge other) (Joined (Ok done)) asked answered in
      subst (IsIn o) (sym (led other.heap (Merged n.stamp other.image ∷ []) does.0 off)) (in_left o (covered_by W other.heap other.image) S (covers_it other.heap other o i here known))

  -- or took over
  taken_over : (other : HeapImage) (done : Unit {0}) → n.asked ≡ ToTakeOver other → n.answer ≡ TakenOver (Ok done) → (o : Operation) → IsIn o W → o.heap ≡ other.heap →
      has other.image.vector o.site o.n ≡ true → IsIn o (has_after e now)
  taken_over other done asked answered o i here known =
      let off = off_as (ToTakeOver other) (TakenOver (Ok done)) asked answered in
      let does = does_as (ToTakeOver other) (TakenOver (Ok done)) asked answered in
      subst (IsIn o) (sym (led other.heap (TookOver n.stamp other.image ∷ []) does.0 off.1)) (in_left o (covered_by W other.heap other.image) S (covers_it other.heap other o i here known))

  -- a portion of a heap is a piece of what the site had
  portioned : (heap : ℕ) (spot : Spot) (limits : PortionLimits) (portion : Portion) → n.asked ≡ ToPortion heap spot limits → n.answer ≡ Portioned (Ok portion) → IsPieceOf S portion.part
  portioned heap spot limits portion asked answered =
      let off = off_as (ToPortion heap spot limits) (Portioned (Ok portion)) asked answered in
      portion_of_set S (heap_as rule K S heap) portion.part spot portion.next limits off.0 (record { world = world_part K S W within world; closed = closed; image = refl })

  pub linked_call : IsLinkedCall rule K now e
  linked_call = record {
    over = over;
    answers = answers;
    made = made rule K two meant now stands e over;
    stays = stays rule K two meant now stands e over;
    taken = taken;
    taken_all = taken_all;
    merged = merged;
    taken_over = taken_over;
    portioned = portioned;
  }
