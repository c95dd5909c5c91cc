-- What the sites of linked calls have: what they made, took and merged, and all that they had before; and sites that have the same hold the same.

use Rattle.std.proofs.Common.{Ok, ap, arith, inl, subst, sym, ◌∙◌}
use Rattle.std.proofs.lemmas.Bool.{eq-eqb}
use Rattle.std.specs.Prelude.{List, [], map, refl, slice_index, take, true, ℕ, ◌&&◌, ◌++◌, ◌==◌, ◌∷◌, ◌≡◌, ◌≤◌}
use Rattle.zq_dots.specs.Placed.{Placed}
use Rattle.zq_model.specs.Books.{Book, Merged, Step, TookOver}
use Rattle.zq_journal.specs.Books.{steps_when}
use Rattle.zq_model.proofs.Dots.{last_above}
use Rattle.zq_model.proofs.Membership.{in_left}
use Rattle.zq_model.proofs.Same.{image_of-same}
use Rattle.zq_model.proofs.Taken.{taken_known}
use Rattle.zq_model.proofs.Worlds.{vector_is, world_part}
use Rattle.zq_model.specs.Image.{Image}
use Rattle.zq_model.specs.Limits.{TailLimits}
use Rattle.zq_model.specs.Operation.{Operation, has}
use Rattle.zq_model.specs.Queue.{queue_of}
use Rattle.zq_model.specs.Rule.{Rule}
use Rattle.zq_model.specs.Sets.{AreSame, Early, IsIn, IsWorld, Known, New, Taken, taken_of, vector_of}
use Rattle.zq_model.proofs.Lists.{in_filter}
use Rattle.zq_notes.proofs.OfSites.{all_answers, all_world, does_as, gathered-append, gathered_on, images_by, in_later, notes_at-append, notes_here, of_world_at, off_as, stands_at, thread_at}
use Rattle.zq_notes.proofs.Alike.{take_front}
use Rattle.zq_notes.proofs.ReadOff.{AreScoresMeant}
use Rattle.zq_notes.proofs.TakenInTurn.{known_at, known_in, taken_in}
use Rattle.zq_notes.specs.Gathered.{AreImagesOf, AreOf, AreOfIn, covered_by, gathered, gathered_by, gathered_in}
use Rattle.zq_notes.specs.Linked.{HoldSame, IsLinked}
use Rattle.zq_notes.specs.Notes.{Books, Handed, HandedAll, Joined, Portioned, TakenOver, ToMerge, ToPortion, ToTake, ToTakeAll, ToTakeOver}
use Rattle.zq_notes.specs.Readings.{heap_as}
use Rattle.zq_notes.specs.Sites.{AreEventsOf, Event, books_at, has_at, made_of, notes_at}
use Rattle.zq_semantics.specs.Reading.{heaps_in}
use Rattle.zq_shard.specs.Shard.{HeapImage}
use Rattle.zq_shard.specs.Taken.{answer_of}
use Rattle.zq_shard.specs.declared.spot.Spot.{Spot}
use Rattle.zq_shard.specs.declared.taken.Taken as code
use Rattle.zq_stage.proofs.Portions.{portion_of_set}
use Rattle.zq_stage.specs.Staged.{IsPieceOf}
use Rattle.zq_stage.specs.declared.portion.Portion.{Portion}
use Rattle.zq_stage.specs.declared.portion.PortionLimits.{PortionLimits}
use Rattle.zq_spread.specs.Batches.{steps_of_all}
use Rattle.zq_spread.specs.declared.site.Site.{Site}
use Rattle.zq_spread.specs.declared.taken_all.TakenAll.{TakenAll}

-- books of the same images have the same members
members_same : (f g : Books) → ((h : ℕ) → (f h).state ≡ (g h).state) → (heaps : List ℕ) → map (λ (b : Book). b.state.members) (map f heaps) ≡ map (λ (b : Book). b.state.members) (map g heaps)
members_same f g same [] = refl
members_same f g same (h ∷ heaps) = let first = same h in let rest = members_same f g same heaps in λ i. (first i).members ∷ rest i

module _ (limits : ℕ → TailLimits) (rule : Rule) (K : ℕ) (two : 2 ≤ K) (meant : AreScoresMeant) (sites : ℕ → Site) (events : List Event) (are : AreEventsOf limits rule K sites events) where
  abbrev W : List Operation
  W = made_of events

  world : IsWorld K W
  world = all_world limits rule K two meant sites events are

  images : (s : ℕ) (before after : List Event) → events ≡ before ++ after → AreImagesOf rule K W (has_at W s before) (books_at limits rule K s before)
  images = images_by limits rule K two meant sites events are

  -- what it made by then
  own : (before after : List Event) → events ≡ before ++ after → (o : Operation) → IsIn o (made_of before) → IsIn o (has_at W o.site before)
  own before after is o i =
      let S : List Operation = has_at W o.site before in
      let stands = stands_at limits rule K two meant sites events are before after is in
      let mine : List Operation = stands.has o.site in
      let its = images o.site before after is in
      let part : IsWorld K S = world_part K S W its.within world in
      let part_mine : IsWorld K mine = world_part K mine (made_of before) (stands.images o.site).within stands.world in
      let vectors : vector_of mine o.heap ≡ vector_of S o.heap = ap (λ (a : Image). a.vector) (sym ((stands.images o.site).each o.heap).state ∙ (its.each o.heap).state) in
      let one = (vector_is K mine o.heap part_mine).counter o.site in
      let other = (vector_is K S o.heap part).counter o.site in
      let same : slice_index (vector_of mine o.heap) o.site ≡ slice_index (vector_of S o.heap) o.site = ap (λ v. slice_index v o.site) vectors in
      let low = last_above mine o.heap o.site o (stands.own o i) refl refl in
      known_in K W world S its.within its.closed o (in_later o events before after is i) (omega (arith, one, other, same, low))

  -- what it had
  stays : (s : ℕ) (before between : List Event) (o : Operation) → IsIn o (has_at W s before) → IsIn o (has_at W s (before ++ between))
  stays s before between o i =
      subst (λ notes. IsIn o (gathered W notes [])) (sym (notes_at-append s before between)) (gathered_on W (notes_at s before) (notes_at s between) [] o i)

  -- sites that have the same hold the same
  converges : (s t : ℕ) (before after past later : List Event) → events ≡ before ++ after → events ≡ past ++ later → AreSame (has_at W s before) (has_at W t past) →
      HoldSame rule K (books_at limits rule K s before) (books_at limits rule K t past)
  converges s t before after past later is was same =
      let one = images s before after is in
      let other = images t past later was in
      let part : IsWorld K (has_at W s before) = world_part K (has_at W s before) W one.within world in
      let states : (h : ℕ) → (books_at limits rule K s before h).state ≡ (books_at limits rule K t past h).state =
      (λ h. (one.each h).state ∙ image_of-same K (has_at W s before) (has_at W t past) h same part ∙ sym (other.each h).state) in
      record { images = states; queues = λ i key. queue_of rule key (members_same (books_at limits rule K s before) (books_at limits rule K t past) states (heaps_in K) i) }

  -- ---- a call

  has_next : (before : List Event) (e : Event) → has_at W e.site (before ++ e ∷ []) ≡ gathered_by W e.call.note.heaps e.call.note.steps (has_at W e.site before)
  has_next before e =
      ap (λ notes. gathered W notes []) (notes_at-append e.site before (e ∷ []) ∙ ap (λ l. notes_at e.site before ++ l) (notes_here e.site e [] refl))
      ∙ gathered-append W (notes_at e.site before) (e.call.note ∷ []) []

  module _ (before : List Event) (e : Event) (after : List Event) (is : events ≡ before ++ e ∷ after) where
    abbrev S : List Operation
    S = has_at W e.site before

    led : (h : ℕ) (ss : List Step) → e.call.note.heaps ≡ h ∷ [] → e.call.note.steps ≡ ss ∷ [] → has_at W e.site (before ++ e ∷ []) ≡ gathered_in W h ss S
    led h ss heaps steps = has_next before e ∙ ap (λ hs. gathered_by W hs e.call.note.steps S) heaps ∙ ap (λ x. gathered_by W (h ∷ []) x S) steps

    -- what it was handed and answered New or Known
    taken : (op : Placed) (answer : code.Taken) → e.call.note.asked ≡ ToTake op → e.call.note.answer ≡ Handed (Ok answer) → (answer_of answer ≡ Early → ⊥) → IsIn op.operation W →
        IsIn op.operation (has_at W e.site (before ++ e ∷ []))
    taken op answer asked answered late i =
        let o : Operation = op.operation in
        let off = off_as limits rule K two meant sites events are before e after is (ToTake op) (Handed (Ok answer)) asked answered in
        let does = does_as limits rule K two meant sites events are before e after is (ToTake op) (Handed (Ok answer)) asked answered in
        subst (IsIn o) (sym (led o.heap (steps_when (taken_of (vector_of S o.heap) o) e.call.note.stamp o) does.0 off.1))
        (by (taken_of (vector_of S o.heap) o) o i refl (λ early. late (off.0 ∙ early)))
      where
        by : (t : Taken) (o : Operation) → IsIn o W → t ≡ taken_of (vector_of S o.heap) o → (t ≡ Early → ⊥) → IsIn o (gathered_in W o.heap (steps_when t e.call.note.stamp o) S)
        by New o i same late = inl refl
        by Known o i same late =
            let its = images e.site before (e ∷ after) is in known_at K W world S its.within its.closed o i (taken_known (vector_of S o.heap) o (sym same))
        by Early o i same late = absurd (late refl)

    -- each that it took of a list
    taken_all : (heap : ℕ) (ops : List Placed) (answer : TakenAll) → e.call.note.asked ≡ ToTakeAll heap ops → e.call.note.answer ≡ HandedAll answer → (op : Placed) → IsIn op (take answer.taken ops) → IsIn op.operation W →
        IsIn op.operation (has_at W e.site (before ++ e ∷ []))
    taken_all heap ops answer asked answered op here i =
        let off = off_as limits rule K two meant sites events are before e after is (ToTakeAll heap ops) (HandedAll answer) asked answered in
        let does = does_as limits rule K two meant sites events are before e after is (ToTakeAll heap ops) (HandedAll answer) asked answered in
        let so = off.3 in
        let its = images e.site before (e ∷ after) is in
        let done : take answer.taken ops ≡ so.taken = (λ k. take (so.number k) (so.split k)) ∙ take_front so.taken so.left in
        let steps : e.call.note.steps ≡ steps_of_all e.call.note.stamp so.taken (heap_as rule K S heap) ∷ [] = off.2 ∙ ap (λ (l : List Step). l ∷ []) so.steps_are in
        let of : AreOf W heap (steps_of_all e.call.note.stamp so.taken (heap_as rule K S heap)) =
        (subst (λ hs. AreOfIn W hs (steps_of_all e.call.note.stamp so.taken (heap_as rule K S heap) ∷ [])) does.0
        (subst (AreOfIn W e.call.note.heaps) steps (of_world_at limits rule K two meant sites events are before e after is))).0 in
        subst (IsIn op.operation) (sym (led heap (steps_of_all e.call.note.stamp so.taken (heap_as rule K S heap)) does.0 steps))
        (taken_in K W world heap e.call.note.stamp so.taken S (heap_as rule K S heap) (record { within = its.within; closed = its.closed; image = refl; heap = refl }) so.are of op (subst (IsIn op) done here) i)

    -- and what an image that it merged covers
    merged : (other : HeapImage) (done : Unit {0}) → e.call.note.asked ≡ ToMerge other → e.call.note.answer ≡ Joined (Ok done) → (o : Operation) → IsIn o W → o.heap ≡ other.heap →
        has other.image.vector o.site o.n ≡ true → IsIn o (has_at W e.site (before ++ e ∷ []))
    merged other done asked answered o i here known =
        let off = off_as limits rule K two meant sites events are before e after is (ToMerge other) (Joined (Ok done)) asked answered in
        let does = does_as limits rule K two meant sites events are before e after is (ToMerge other) (Joined (Ok done)) asked answered in
        subst (IsIn o) (sym (led other.heap (Merged e.call.note.stamp other.image ∷ []) does.0 off))
        (in_left o (covered_by W other.heap other.image) S
        (in_filter (λ p. (p.heap == other.heap) && has other.image.vector p.site p.n) W o i (rw (eq-eqb o.heap other.heap here, known) refl)))

    -- or took over
    over : (other : HeapImage) (done : Unit {0}) → e.call.note.asked ≡ ToTakeOver other → e.call.note.answer ≡ TakenOver (Ok done) → (o : Operation) → IsIn o W → o.heap ≡ other.heap →
        has other.image.vector o.site o.n ≡ true → IsIn o (has_at W e.site (before ++ e ∷ []))
    over other done asked answered o i here known =
        let off = off_as limits rule K two meant sites events are before e after is (ToTakeOver other) (TakenOver (Ok done)) asked answered in
        let does = does_as limits rule K two meant sites events are before e after is (ToTakeOver other) (TakenOver (Ok done)) asked answered in
        subst (IsIn o) (sym (led other.heap (TookOver e.call.note.stamp other.image ∷ []) does.0 off.1))
        (in_left o (covered_by W other.heap other.image) S
        (in_filter (λ p. (p.heap == other.heap) && has other.image.vector p.site p.n) W o i (rw (eq-eqb o.heap other.heap here, known) refl)))

    -- a portion of a heap is a piece of what the site had
    portioned : (heap : ℕ) (spot : Spot) (limits' : PortionLimits) (portion : Portion) → e.call.note.asked ≡ ToPortion heap spot limits' → e.call.note.answer ≡ Portioned (Ok portion) → IsPieceOf S portion.part
    portioned heap spot limits' portion asked answered =
        let off = off_as limits rule K two meant sites events are before e after is (ToPortion heap spot limits') (Portioned (Ok portion)) asked answered in
        let its = images e.site before (e ∷ after) is in
        portion_of_set S (heap_as rule K S heap) portion.part spot portion.next limits' off.0 (record { world = world_part K S W its.within world; closed = its.closed; image = refl })

  pub linked : IsLinked limits rule K events
  linked = record {
    world = world;
    thread = λ s. thread_at limits rule K two meant sites events are s [] events refl;
    images = images;
    within = λ s before after is o i. (images s before after is).within o i;
    converges = converges;
    own = own;
    taken = taken;
    taken_all = taken_all;
    merged = merged;
    taken_over = over;
    portioned = portioned;
    stays = λ s before between after is o i. stays s before between o i;
    answers = all_answers limits rule K two meant sites events are;
  }
