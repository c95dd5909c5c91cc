-- A call of a running site is an event of the run of a world.

use Rattle.std.proofs.Common.{ap, ap₂, arith, inl, inr, lt-ltb, refl, subst, sym, ◌∙◌}
use Rattle.std.proofs.lemmas.Bool.{and_from, cases_lt, or_from}
use Rattle.std.proofs.lemmas.List.{append_assoc, length-append}
use Rattle.std.specs.Prelude.{Err, List, None, Ok, Some, [], false, if◌then◌else◌, length, map, pos, slice_get, take, true, ℕ, ◌+◌, ◌++◌, ◌<◌, ◌∷◌, ◌≡◌, ◌≤◌}
use Rattle.zq_dots.specs.Placed.{Placed}
use Rattle.zq_model.specs.Books as book
use Rattle.zq_model.specs.Books.{Step, Took}
use Rattle.zq_journal.specs.Books.{step_of, steps_when}
use Rattle.zq_journal.specs.declared.since.Since.TheVariants.{Ops, TooOld}
use Rattle.zq_model.proofs.JoinImages.{join-union}
use Rattle.zq_model.proofs.Membership.{in_left, in_right, in_union}
use Rattle.zq_model.proofs.OfHeaps.{in_heap_too, of_heap}
use Rattle.zq_model.proofs.Same.{image_of-same}
use Rattle.zq_model.proofs.Worlds.{closed_union, world_part}
use Rattle.zq_model.specs.Image.{Image, image_of, join}
use Rattle.zq_model.specs.Limits.{TailLimits}
use Rattle.zq_model.specs.Operation.{Operation}
use Rattle.zq_model.specs.Queue.{queue_of}
use Rattle.zq_model.specs.Rule.{Rule}
use Rattle.zq_model.specs.Sets as sets
use Rattle.zq_model.specs.Sets.{AreSame, IsClosed, IsHeaps, IsIn, IsWorld, in_heap, taken_of, vector_of}
use Rattle.zq_model.specs.Lent.{queues_of}
use Rattle.zq_model.specs.Moves.{Move, Queues}
use Rattle.zq_notes.proofs.Alike.{HasMoment, IsAlike, IsNext, after_none, after_one, closed_same, place_of, same_by, same_through, sets_next, stands, steps_of-append, take_front}
use Rattle.zq_notes.proofs.GatheredSets.{AreOnce, covered_is, covered_parts, covers_it}
use Rattle.zq_notes.proofs.HeldOnce.{once_of}
use Rattle.zq_notes.proofs.MadeKinds.{all_moved_in, none_in_turn}
use Rattle.zq_notes.proofs.MadeWorlds.{AllMadeIn, IsMadeInAll, as_many, gathered_stays_all, gathers_made_all, in_more_all, made_from_where_all, made_there_all}
use Rattle.zq_notes.proofs.MoveSteps.{AreHome, all_home, all_steps, from_all_steps, gathered_from_all, no_more, to_all_steps}
use Rattle.zq_notes.proofs.OfSites.{all_world, does_as, images_by, in_later, made_by_then, note_over, notes_apart, off_as}
use Rattle.zq_notes.proofs.PlayedTakes.{ArePossible, IsTakenRun, mid_first, taken_run}
use Rattle.zq_notes.proofs.ReadOff.{AreScoresMeant, alone, queues_are, run_found}
use Rattle.zq_notes.proofs.RunMoves.{IsAt, IsMoved, all_done, apart_is, counts_with, done_all, here_is, moved, next_within, not_full, not_worn, numbers_with, operations}
use Rattle.zq_notes.proofs.SaidCommands.{all_made, for_drawn, for_other, for_rest, is_near, not_ping, popping, popping_asks, popping_plans, popping_reads, some_there}
use Rattle.zq_notes.proofs.TakenInTurn.{gathers_alike}
use Rattle.zq_notes.specs.Does.{AreHeapsFor, Does}
use Rattle.zq_notes.specs.Gathered.{AreImagesOf, covered_by, gathered, gathered_by, gathered_in}
use Rattle.zq_notes.specs.Notes.{Answer, Asked, Books, Copied, Handed, HandedAll, Joined, Note, Portioned, Replied, RepliedEach, RepliedIf, Shown, TakenOver, ToCopy, ToDrain, ToMerge, ToPortion, ToRun, ToRunEach, ToRunWatched, ToShow, ToTake, ToTakeAll, ToTakeOver, ToTell, Told}
use Rattle.zq_notes.specs.Played.{ArePlayedAs, AreTakes, IsAskedAs, IsNone, IsPlayed, IsPlayedAs, itself, popped}
use Rattle.zq_notes.specs.Readings.{IsAnswerOf, IsRunOver, MayHandOn, heap_as, moved_in}
use Rattle.zq_notes.specs.Sites.{AreBroughtIn, AreEventsOf, Event, IsBrought, books_at, has_at, made_in, made_in_all, made_of, notes_at}
use Rattle.zq_notes.specs.Uncut.{AreRunnable, IsInFull, IsRunnable, IsThere, IsUncut, steps_in, steps_of}
use Rattle.zq_semantics.specs.Plan.{Plan, is_there, plan_of}
use Rattle.zq_semantics.specs.Run.{LAST_COUNT}
use Rattle.zq_resp.specs.Request.{IsRequest}
use Rattle.zq_semantics.specs.Doing.{Done, done, drawn, is_ping, queues_for}
use Rattle.zq_semantics.specs.Events as runs
use Rattle.zq_semantics.specs.Events.{Do, Merge, Run, Take, after_take, after_taken, answer_taken, answer_to, answer_to_take, is_blocked, is_possible, judged, set_at, state_after}
use Rattle.zq_semantics.specs.Reading.{heaps_in, queues_over}
use Rattle.zq_semantics.specs.Runs.{AreEvents, IsEvent, after_event, run_on}
use Rattle.zq_semantics.specs.State.{State, after_moves, counted, is_full, is_worn, next_stamp, standing}
use Rattle.zq_shard.specs.Shard.{HeapImage}
use Rattle.zq_shard.specs.Taken.{answer_of}
use Rattle.zq_shard.specs.declared.taken.Taken as code
use Rattle.zq_spread.specs.Batches.{IsTakenSoFar, steps_of_all}
use Rattle.zq_spread.specs.Dispatch.{HasNear}
use Rattle.zq_spread.specs.declared.site.Site.{Site}
use Rattle.zq_spread.specs.declared.taken_all.TakenAll.{TakenAll}
use Rattle.zq_words.specs.Command.{Command, Zpopmin, Zpopnear, command_of}
use Rattle.zq_words.specs.Heaps.{heaps_of}
use Rattle.zq_words.specs.Words.{Word}
use Rattle.zq_words.specs.declared.heaps.Heaps.{Heaps}
use Rattle.zq_words.specs.declared.heaps.Heaps.TheVariants.{All, Near, NoHeap, One}

-- what one call comes to in a run that stands as the sites do before it
pub record IsOne (rule : Rule) (K count : ℕ) (W : List Operation) (before : List Event) (e : Event) (r : Run) : Type 0 where
  pub events : List runs.Event
  pub played : IsPlayed rule K r e events
  pub possible : ArePossible rule K count r events
  pub each : AreEvents events
  pub alike : IsAlike W (before ++ e ∷ []) (run_on rule K events r)

none_played : (rule : Rule) (K : ℕ) (r : Run) (s : ℕ) (heaps : List ℕ) (asked : Asked) (answer : Answer) → IsNone asked → ArePlayedAs rule K r s heaps asked answer []
none_played rule K r s heaps (ToRun command w1 w2) answer none = absurd none
none_played rule K r s heaps (ToRunEach calls) answer none = absurd none
none_played rule K r s heaps (ToRunWatched watch calls) answer none = absurd none
none_played rule K r s heaps (ToTake op) answer none = absurd none
none_played rule K r s heaps (ToTakeAll heap ops) answer none = absurd none
none_played rule K r s heaps (ToMerge other) answer none = absurd none
none_played rule K r s heaps (ToTakeOver other) answer none = absurd none
none_played rule K r s heaps (ToTell heap vector) answer none = none
none_played rule K r s heaps (ToCopy heap) answer none = none
none_played rule K r s heaps (ToPortion heap spot limits) answer none = none
none_played rule K r s heaps (ToShow heap) answer none = none
none_played rule K r s heaps (ToDrain heap vector most) answer none = none

one_played : (rule : Rule) (K : ℕ) (r : Run) (s : ℕ) (heaps : List ℕ) (asked : Asked) (answer : Answer) (p : runs.Event) → IsPlayedAs rule K r s heaps asked answer p → ArePlayedAs rule K r s heaps asked answer (p ∷ [])
one_played rule K r s heaps (ToRun command w1 w2) answer p is = is
one_played rule K r s heaps (ToRunEach calls) answer p is = is
one_played rule K r s heaps (ToRunWatched watch calls) answer p is = is
one_played rule K r s heaps (ToTake op) answer p is = is
one_played rule K r s heaps (ToTakeAll heap ops) answer p is = absurd is
one_played rule K r s heaps (ToMerge other) answer p is = is
one_played rule K r s heaps (ToTakeOver other) answer p is = is
one_played rule K r s heaps (ToTell heap vector) answer p is = is
one_played rule K r s heaps (ToCopy heap) answer p is = is
one_played rule K r s heaps (ToPortion heap spot limits) answer p is = is
one_played rule K r s heaps (ToShow heap) answer p is = is
one_played rule K r s heaps (ToDrain heap vector most) answer p is = is

no_event : {rule : Rule} {K count : ℕ} {W : List Operation} {before : List Event} {e : Event} {r : Run} → IsNone e.call.note.asked → IsAlike W (before ++ e ∷ []) r → IsOne rule K count W before e r
no_event {rule = rule} {K = K} {e = e} {r = r} none stands = record {
  events = [];
  played = none_played rule K r e.site e.call.note.heaps e.call.note.asked e.call.note.answer none;
  possible = tt;
  each = tt;
  alike = stands;
}

event : {rule : Rule} {K count : ℕ} {W : List Operation} {before : List Event} {e : Event} {r : Run} (p : runs.Event) → IsPlayedAs rule K r e.site e.call.note.heaps e.call.note.asked e.call.note.answer p →
    is_possible K count r p ≡ true → IsEvent p → IsAlike W (before ++ e ∷ []) (after_event rule K r p) → IsOne rule K count W before e r
event {rule = rule} {K = K} {e = e} {r = r} p is possible request stands = record {
  events = p ∷ [];
  played = one_played rule K r e.site e.call.note.heaps e.call.note.asked e.call.note.answer p is;
  possible = (possible, tt);
  each = (request, tt);
  alike = stands;
}

-- words that ask for what the event of a call asks, and a plan that is that of the call
pub record IsSaid (rule : Rule) (K : ℕ) (S : List Operation) (w1 w2 : ℕ) (heaps : List ℕ) (command : Command) (plan : Plan) : Type 0 where
  pub words : List Word
  pub request : IsRequest words
  pub said : Command
  pub reads : command_of words ≡ Ok said
  pub fits : IsAskedAs rule K S w1 w2 heaps command said
  pub ping : is_ping said ≡ false
  pub plans : plan_of said (queues_for rule K S w1 w2 said) ≡ plan

in_front : (p : Placed) (xs ys : List Placed) → IsIn p xs → IsIn p (xs ++ ys)
in_front p [] ys i = absurd i
in_front p (x ∷ xs) ys (inl same) = inl same
in_front p (x ∷ xs) ys (inr there) = inr (in_front p xs ys there)

-- from whom the run merges what a set has
pub record HasSource (count : ℕ) (r : Run) (T : List Operation) : Type 0 where
  pub from : ℕ
  pub moment : ℕ
  pub below : from < count
  pub there : moment < length r.past
  pub same : AreSame (set_at r moment from) T

-- what was asked and answered, by their names
named_so : (P : Asked → Answer → Type 0) (q asked : Asked) (a answer : Answer) → q ≡ asked → a ≡ answer → P asked answer → P q a
named_so P q asked a answer first second x = subst (λ b. P q b) (sym second) (subst (λ c. P c answer) (sym first) x)

module _ (limits : ℕ → TailLimits) (rule : Rule) (K count : ℕ) (two : 2 ≤ K) (meant : AreScoresMeant) (sites : ℕ → Site) (events : List Event) (are : AreEventsOf limits rule K sites events) (runnable : AreRunnable limits rule K count events) where
  abbrev W : List Operation
  W = made_of events

  world : IsWorld K W
  world = all_world limits rule K two meant sites events are

  two_heaps : IsHeaps K
  two_heaps = let most = runnable.most in (omega (arith, two), most)

  -- a site past the number has made no call
  nobody : (t : ℕ) → count ≤ t → (front p rest : List Event) → events ≡ front ++ (p ++ rest) → notes_at t p ≡ []
  nobody t far front [] rest is = refl
  nobody t far front (x ∷ p) rest is =
      notes_apart t x p (λ same. let low = (runnable.each front x (p ++ rest) is).site in absurd (omega (arith, low, far, same)))
      ∙ nobody t far (front ++ x ∷ []) p rest (is ∙ sym (append_assoc front (x ∷ []) (p ++ rest)))

  module _ (before : List Event) (e : Event) (after : List Event) (is : events ≡ before ++ e ∷ after) (r : Run) (alike : IsAlike W before r) where
    abbrev s : ℕ
    s = e.site

    abbrev n : Note
    n = e.call.note

    abbrev S : List Operation
    S = has_at W s before

    abbrev st : State
    st = r.now

    abbrev books : Books
    books = books_at limits rule K s before

    abbrev stamp : ℕ
    stamp = next_stamp K st s

    own : IsRunnable limits rule K count before e
    own = runnable.each before e after is

    images : AreImagesOf rule K W S books
    images = images_by limits rule K two meant sites events are s before (e ∷ after) is

    part : IsWorld K S
    part = world_part K S W images.within world

    inside : (o : Operation) → IsIn o (st.sets s) → IsIn o W
    inside o i = images.within o ((alike.sets s).forth o i)

    closed : IsClosed (st.sets s)
    closed = closed_same (st.sets s) S (alike.sets s) images.closed

    image_is : (h : ℕ) → image_of (st.sets s) h ≡ image_of S h
    image_is h = image_of-same K (st.sets s) S h (alike.sets s) (world_part K (st.sets s) W inside world)

    vector_is : (h : ℕ) → vector_of (st.sets s) h ≡ vector_of S h
    vector_is h = ap (λ (a : Image). a.vector) (image_is h)

    queues_same : (heaps : List ℕ) → queues_over rule (st.sets s) heaps ≡ queues_over rule S heaps
    queues_same heaps = λ i key. queue_of rule key (map (λ h. (image_is h i).members) heaps)

    -- ---- numbers

    room : steps_of before + steps_in n.steps < LAST_COUNT
    room =
        let split : steps_of events ≡ steps_of before + (steps_in n.steps + steps_of after) = ap steps_of is ∙ steps_of-append before (e ∷ after) in
        let low = runnable.unworn in omega (arith, split, low)

    unworn : is_worn K st s ≡ false
    unworn = let low = room in not_worn K st s (steps_of before) alike.stamps (omega (arith, low))

    unfull : (h : ℕ) → is_full st s h ≡ false
    unfull h = let low = room in not_full st s h (steps_of before) alike.counts (omega (arith, low))

    unblocked : (h : ℕ) → is_blocked K st s h ≡ false
    unblocked h = or_from _ _ unworn (unfull h)

    stamp_low : stamp ≤ steps_of before + 1
    stamp_low = next_within K st s (steps_of before) alike.stamps

    -- ---- calls that leave the set

    gathers : (h : ℕ) (ss : List Step) → n.heaps ≡ h ∷ [] → n.steps ≡ ss ∷ [] → gathered_by W n.heaps n.steps S ≡ gathered_by W (h ∷ []) (ss ∷ []) S
    gathers h ss held steps = ap (λ hs. gathered_by W hs n.steps S) held ∙ ap (λ x. gathered_by W (h ∷ []) x S) steps

    still : (h : ℕ) (ss : List Step) → n.heaps ≡ h ∷ [] → n.steps ≡ ss ∷ [] → gathered_in W h ss S ≡ S → made_in ss (made_of before) ≡ made_of before → IsNext W before e st st
    still h ss held steps same none = record {
      here = same_by (st.sets s) S _ (alike.sets s) (sym (gathers h ss held steps ∙ same));
      others = λ t apart. refl;
      made = same_by st.made (made_of before) _ alike.made (sym (ap (λ x. made_in_all x (made_of before)) steps ∙ none));
      stamps = λ a b. let low = alike.stamps a b in omega (arith, low);
      counts = λ a b. let low = alike.counts a b in omega (arith, low);
    }

    reads_books : (h : ℕ) → n.heaps ≡ h ∷ [] → n.steps ≡ [] ∷ [] → IsNone n.asked → IsOne rule K count W before e r
    reads_books h held none idle = no_event idle (after_none W before e r alike st (still h [] held none refl refl) refl)

    hands_on : (h : ℕ) → n.heaps ≡ h ∷ [] → MayHandOn n.stamp n.steps → IsNone n.asked → IsOne rule K count W before e r
    hands_on h held (inl none) idle = reads_books h held none idle
    hands_on h held (inr told) idle = no_event idle (after_none W before e r alike st (still h (book.HandedOn n.stamp told.0 ∷ []) held told.1 refl refl) refl)

    -- ---- one more record or merge in a heap

    recorded : (h : ℕ) (ss : List Step) (T : List Operation) → n.heaps ≡ h ∷ [] → n.steps ≡ ss ∷ [] → length ss ≡ 1 → AreSame T (gathered_by W (h ∷ []) (ss ∷ []) S) → made_in_all (ss ∷ []) (made_of before) ≡ made_of before →
        IsNext W before e st (counted st s h stamp st.made T)
    recorded h ss T held steps one same none =
        let number : steps_in n.steps ≡ length ss + 0 = ap steps_in steps in
        record {
          here = subst (λ (X : List Operation). AreSame X (gathered_by W n.heaps n.steps S)) (sym (here_is st.sets s T)) (same_by T _ _ same (sym (gathers h ss held steps)));
          others = λ t apart. apart_is st.sets s T t apart;
          made = same_by st.made (made_of before) _ alike.made (sym (ap (λ x. made_in_all x (made_of before)) steps ∙ none));
          stamps = numbers_with st.stamps s h stamp (steps_of before + steps_in n.steps) (λ a b. let low = alike.stamps a b in omega (arith, low)) (let low = stamp_low in omega (arith, low, number, one));
          counts = λ a b. let low = counts_with st.counts s h (steps_of before) alike.counts a b in omega (arith, low, number, one);
        }

    -- ---- an operation that is handed over

    module _ (op : Placed) (taken : code.Taken) (asked : n.asked ≡ ToTake op) (answered : n.answer ≡ Handed (Ok taken)) where
      abbrev o : Operation
      o = op.operation

      does_take : Does rule K s n.stamp (ToTake op) n.heaps (Handed (Ok taken)) (map books n.heaps) n.steps
      does_take = does_as limits rule K two meant sites events are before e after is (ToTake op) (Handed (Ok taken)) asked answered

      off_take : IsAnswerOf rule K s S (ToTake op) n.stamp n.heaps (Handed (Ok taken)) n.steps
      off_take = off_as limits rule K two meant sites events are before e after is (ToTake op) (Handed (Ok taken)) asked answered

      sent : IsIn o (made_of before)
      sent = subst (IsThere K before) asked own.asked

      place : (i : ℕ) × (slice_get st.made i ≡ Some o) × (i < length st.made)
      place = place_of o st.made (alike.made.back o sent)

      judged_is : judged st s o ≡ taken_of (vector_of S o.heap) o
      judged_is = ap (λ v. taken_of v o) (vector_is o.heap)

      answers_all : (t : sets.Taken) → answer_taken K st s o t ≡ Some t
      answers_all sets.New = ap (λ b. if b then None else Some sets.New) (unblocked o.heap)
      answers_all sets.Known = ap (λ b. if b then None else Some sets.Known) unworn
      answers_all sets.Early = ap (λ b. if b then None else Some sets.Early) unworn

      next_taken : (t : sets.Taken) → n.steps ≡ steps_when t n.stamp o ∷ [] → IsNext W before e st (after_taken K st s o t)
      next_taken sets.New steps =
          subst (IsNext W before e st) (sym (ap (λ b. if b then st else counted st s o.heap stamp st.made (o ∷ st.sets s)) (unblocked o.heap)))
          (recorded o.heap (step_of n.stamp (Took o) ∷ []) (o ∷ st.sets s) does_take.0 steps refl (record {
            forth = λ p i. elim i [ inl same ↦ inl same | inr j ↦ inr ((alike.sets s).forth p j) ];
            back = λ p i. elim i [ inl same ↦ inl same | inr j ↦ inr ((alike.sets s).back p j) ];
          }) refl)
      next_taken sets.Known steps = still o.heap [] does_take.0 steps refl refl
      next_taken sets.Early steps = still o.heap [] does_take.0 steps refl refl

      abbrev take_event : runs.Event
      take_event = Take s place.0

      takes : IsOne rule K count W before e r
      takes =
          let t : sets.Taken = taken_of (vector_of S o.heap) o in
          let now : state_after rule K r take_event ≡ after_taken K st s o t = ap (after_take K st s) place.1 ∙ ap (after_taken K st s o) judged_is in
          let says : answer_to rule K r take_event ≡ runs.Handed (Some (answer_of taken)) =
          ap runs.Handed (ap (answer_to_take K st s) place.1 ∙ ap (answer_taken K st s o) judged_is ∙ answers_all t ∙ ap Some (sym off_take.0)) in
          event take_event
          (named_so (λ q a. IsPlayedAs rule K r s n.heaps q a take_event) n.asked (ToTake op) n.answer (Handed (Ok taken)) asked answered (refl, place.1, says))
          (and_from _ _ (lt-ltb _ _ own.site) (lt-ltb _ _ place.2)) tt
          (after_one W before e r alike (after_taken K st s o t) (next_taken t off_take.1) take_event rule K now)

    -- ---- a list of them

    module _ (heap : ℕ) (ops : List Placed) (answer : TakenAll) (asked : n.asked ≡ ToTakeAll heap ops) (answered : n.answer ≡ HandedAll answer) where
      does_all : Does rule K s n.stamp (ToTakeAll heap ops) n.heaps (HandedAll answer) (map books n.heaps) n.steps
      does_all = does_as limits rule K two meant sites events are before e after is (ToTakeAll heap ops) (HandedAll answer) asked answered

      off_all : IsAnswerOf rule K s S (ToTakeAll heap ops) n.stamp n.heaps (HandedAll answer) n.steps
      off_all = off_as limits rule K two meant sites events are before e after is (ToTakeAll heap ops) (HandedAll answer) asked answered

      so : IsTakenSoFar n.stamp ops answer (heap_as rule K S heap) off_all.0 off_all.1
      so = off_all.3

      abbrev x : HeapImage
      x = heap_as rule K S heap

      abbrev own_steps : List Step
      own_steps = steps_of_all n.stamp so.taken x

      steps_all : n.steps ≡ own_steps ∷ []
      steps_all = off_all.2 ∙ ap (λ (l : List Step). l ∷ []) so.steps_are

      number_all : steps_in n.steps ≡ length own_steps
      number_all = let all : steps_in n.steps ≡ length own_steps + 0 = ap steps_in steps_all in omega (arith, all)

      front_all : take answer.taken ops ≡ so.taken
      front_all = (λ k. take (so.number k) (so.split k)) ∙ take_front so.taken so.left

      sent_all : (p : Placed) → IsIn p ops → IsIn p.operation (made_of before)
      sent_all = subst (IsThere K before) asked own.asked

      run_all : IsTakenRun rule K count W world before r alike s heap n.stamp own.site (λ o i. in_later o events before (e ∷ after) is i) so.taken (st.sets s) x 0 r
      run_all =
          taken_run rule K count W world before r alike s heap n.stamp own.site (λ o i. in_later o events before (e ∷ after) is i) so.taken (st.sets s) x 0 r
          (mid_first rule K count W world before r alike s heap n.stamp own.site (λ o i. in_later o events before (e ∷ after) is i))
          (record { within = inside; closed = closed; image = image_is heap; heap = refl }) so.are
          (λ p i. sent_all p (subst (IsIn p) (sym so.split) (in_front p so.taken so.left i)))
          (let few = room in let number = number_all in omega (arith, few, number))

      abbrev q : Run
      q = run_on rule K run_all.events r

      next_all : IsNext W before e st q.now
      next_all =
          let mid = run_all.mid in
          let number = number_all in
          record {
            here = same_by (q.now.sets s) _ _ (subst (λ X. AreSame X (gathered_in W heap own_steps S)) (sym mid.here) (gathers_alike W heap own_steps (st.sets s) S (alike.sets s))) (sym (gathers heap own_steps does_all.0 steps_all));
            others = mid.others;
            made = same_by q.now.made (made_of before) _ (subst (λ X. AreSame X (made_of before)) (sym mid.made) alike.made) (sym (none_in_turn n.stamp so.taken x n.steps steps_all (made_of before)));
            stamps = λ a b. let low = mid.stamps a b in omega (arith, low, number);
            counts = λ a b. let low = mid.counts a b in omega (arith, low, number);
          }

      takes_all : IsOne rule K count W before e r
      takes_all =
          let mid = run_all.mid in
          let last : HasMoment W q (before ++ e ∷ []) = record {
            moment = mid.moment;
            there = mid.there;
            sets = λ t. same_through _ (q.now.sets t) _ (mid.at t) (sets_next W before e r alike q.now next_all t);
          } in
          record {
            events = run_all.events;
            played = named_so (λ a b. ArePlayedAs rule K r s n.heaps a b run_all.events) n.asked (ToTakeAll heap ops) n.answer (HandedAll answer) asked answered
                (subst (λ l. AreTakes rule K r s l run_all.events) (sym front_all) run_all.takes);
            possible = run_all.possible;
            each = run_all.each;
            alike = stands W before e r alike q.now next_all q refl mid.earlier last;
          }

    -- ---- a merge

    module _ (other : HeapImage) (finished : Unit {0}) (asked : n.asked ≡ ToMerge other) (answered : n.answer ≡ Joined (Ok finished)) where
      abbrev h : ℕ
      h = other.heap

      does_merge : Does rule K s n.stamp (ToMerge other) n.heaps (Joined (Ok finished)) (map books n.heaps) n.steps
      does_merge = does_as limits rule K two meant sites events are before e after is (ToMerge other) (Joined (Ok finished)) asked answered

      off_merge : IsAnswerOf rule K s S (ToMerge other) n.stamp n.heaps (Joined (Ok finished)) n.steps
      off_merge = off_as limits rule K two meant sites events are before e after is (ToMerge other) (Joined (Ok finished)) asked answered

      brought : IsBrought limits rule K before s h (book.Merged n.stamp other.image)
      brought =
          (subst (λ hs. AreBroughtIn limits rule K before s hs ((book.Merged n.stamp other.image ∷ []) ∷ [])) does_merge.0
          (subst (AreBroughtIn limits rule K before s n.heaps) off_merge (are before e after is).brought)).0.0

      abbrev past : List Event
      past = brought.1

      abbrev T : List Operation
      T = has_at W brought.0 past

      cut : events ≡ past ++ (brought.2 ++ e ∷ after)
      cut = is ∙ ap (λ l. l ++ e ∷ after) brought.3 ∙ append_assoc past brought.2 (e ∷ after)

      theirs : AreImagesOf rule K W T (books_at limits rule K brought.0 past)
      theirs = images_by limits rule K two meant sites events are brought.0 past (brought.2 ++ e ∷ after) cut

      image_was : other.image ≡ image_of T h
      image_was = brought.4 ∙ (theirs.each h).state

      source : HasSource count r T
      source = elim (cases_lt brought.0 count) [
        | inl low ↦ (
            let shorter : length before ≡ length past + length brought.2 = ap length brought.3 ∙ length-append past brought.2 in
            let at = alike.past (length past) (omega (arith, shorter)) in
            let same : take (length past) before ≡ past = ap (take (length past)) brought.3 ∙ take_front past brought.2 in
            record {
              from = brought.0;
              moment = at.moment;
              below = low;
              there = at.there;
              same = subst (λ p. AreSame (set_at r at.moment brought.0) (has_at W brought.0 p)) same (at.sets brought.0);
            })
        | inr far ↦ (
            let at = alike.past 0 (omega arith) in
            let none : T ≡ [] = ap (λ notes. gathered W notes []) (nobody brought.0 far [] past (brought.2 ++ e ∷ after) cut) in
            record {
              from = s;
              moment = at.moment;
              below = own.site;
              there = at.there;
              same = same_by (set_at r at.moment s) [] T (at.sets s) (sym none);
            })
      ]

      abbrev F : List Operation
      F = set_at r source.moment source.from

      abbrev merge_event : runs.Event
      merge_event = Merge s source.from h source.moment

      covers : covered_by W h other.image ≡ covered_by W h (image_of T h)
      covers = ap (covered_by W h) image_was

      merged_same : AreSame (st.sets s ++ in_heap h F) (covered_by W h other.image ++ S)
      merged_same = record {
        forth = λ p i. elim (in_union p (st.sets s) (in_heap h F) i) [
          | inl j ↦ in_right p (covered_by W h other.image) S ((alike.sets s).forth p j)
          | inr j ↦ (
              let both_parts = of_heap h F p j in
              in_left p (covered_by W h other.image) S (subst (IsIn p) (sym covers) (covers_it K W world h T theirs.closed theirs.within p (source.same.forth p both_parts.0) both_parts.1)))
        ];
        back = λ p i. elim (in_union p (covered_by W h other.image) S i) [
          | inl j ↦ (
              let k = subst (IsIn p) covers j in
              in_right p (st.sets s) (in_heap h F)
              (in_heap_too h F p (source.same.back p (covered_is K W world h T theirs.closed theirs.within p k)) (covered_parts K W world h (image_of T h) p k).1))
          | inr j ↦ in_left p (st.sets s) (in_heap h F) ((alike.sets s).back p j)
        ];
      }

      merges : IsOne rule K count W before e r
      merges =
          let T_now : List Operation = st.sets s ++ in_heap h F in
          let now : state_after rule K r merge_event ≡ counted st s h stamp st.made T_now = ap (λ b. if b then st else counted st s h stamp st.made T_now) (unblocked h) in
          let image : other.image ≡ image_of F h = image_was ∙ sym (image_of-same K F T h source.same (world_part K F W (λ p i. theirs.within p (source.same.forth p i)) world)) in
          let heap_low : h < K = subst (IsThere K before) asked own.asked in
          event merge_event
          (named_so (λ q a. IsPlayedAs rule K r s n.heaps q a merge_event) n.asked (ToMerge other) n.answer (Joined (Ok finished)) asked answered (refl, refl, image))
          (and_from _ _ (lt-ltb _ _ own.site) (and_from _ _ (lt-ltb _ _ source.below) (and_from _ _ (lt-ltb _ _ heap_low) (lt-ltb _ _ source.there)))) tt
          (after_one W before e r alike (counted st s h stamp st.made T_now)
          (recorded h (book.Merged n.stamp other.image ∷ []) T_now does_merge.0 off_merge refl merged_same refl) merge_event rule K now)

    -- ---- a heap in the place of the site's own

    module _ (other : HeapImage) (finished : Unit {0}) (asked : n.asked ≡ ToTakeOver other) (answered : n.answer ≡ TakenOver (Ok finished)) where
      abbrev at_over : ℕ
      at_over = other.heap

      does_over : Does rule K s n.stamp (ToTakeOver other) n.heaps (TakenOver (Ok finished)) (map books n.heaps) n.steps
      does_over = does_as limits rule K two meant sites events are before e after is (ToTakeOver other) (TakenOver (Ok finished)) asked answered

      off_over : IsAnswerOf rule K s S (ToTakeOver other) n.stamp n.heaps (TakenOver (Ok finished)) n.steps
      off_over = off_as limits rule K two meant sites events are before e after is (ToTakeOver other) (TakenOver (Ok finished)) asked answered

      brought_over : IsBrought limits rule K before s at_over (book.TookOver n.stamp other.image)
      brought_over =
          (subst (λ hs. AreBroughtIn limits rule K before s hs ((book.TookOver n.stamp other.image ∷ []) ∷ [])) does_over.0
          (subst (AreBroughtIn limits rule K before s n.heaps) off_over.1 (are before e after is).brought)).0.0

      abbrev past_over : List Event
      past_over = brought_over.1

      abbrev T_over : List Operation
      T_over = has_at W brought_over.0 past_over

      cut_over : events ≡ past_over ++ (brought_over.2 ++ e ∷ after)
      cut_over = is ∙ ap (λ l. l ++ e ∷ after) brought_over.3 ∙ append_assoc past_over brought_over.2 (e ∷ after)

      theirs_over : AreImagesOf rule K W T_over (books_at limits rule K brought_over.0 past_over)
      theirs_over = images_by limits rule K two meant sites events are brought_over.0 past_over (brought_over.2 ++ e ∷ after) cut_over

      -- what the site has and the other one had
      both_inside : (p : Operation) → IsIn p (S ++ T_over) → IsIn p W
      both_inside p i = elim (in_union p S T_over i) [ inl j ↦ images.within p j | inr j ↦ theirs_over.within p j ]

      both_closed : IsClosed (S ++ T_over)
      both_closed = closed_union S T_over images.closed theirs_over.closed

      both_world : IsWorld K (S ++ T_over)
      both_world = world_part K (S ++ T_over) W both_inside world

      joined_was : other.image ≡ join (image_of S at_over) (image_of T_over at_over)
      joined_was = brought_over.4 ∙ ap₂ join (images.each at_over).state (theirs_over.each at_over).state

      image_over : other.image ≡ image_of (S ++ T_over) at_over
      image_over = joined_was ∙ join-union K S T_over at_over both_world images.closed theirs_over.closed

      source_over : HasSource count r T_over
      source_over = elim (cases_lt brought_over.0 count) [
        | inl low ↦ (
            let shorter : length before ≡ length past_over + length brought_over.2 = ap length brought_over.3 ∙ length-append past_over brought_over.2 in
            let at = alike.past (length past_over) (omega (arith, shorter)) in
            let same : take (length past_over) before ≡ past_over = ap (take (length past_over)) brought_over.3 ∙ take_front past_over brought_over.2 in
            record {
              from = brought_over.0;
              moment = at.moment;
              below = low;
              there = at.there;
              same = subst (λ p. AreSame (set_at r at.moment brought_over.0) (has_at W brought_over.0 p)) same (at.sets brought_over.0);
            })
        | inr far ↦ (
            let at = alike.past 0 (omega arith) in
            let none : T_over ≡ [] = ap (λ notes. gathered W notes []) (nobody brought_over.0 far [] past_over (brought_over.2 ++ e ∷ after) cut_over) in
            record {
              from = s;
              moment = at.moment;
              below = own.site;
              there = at.there;
              same = same_by (set_at r at.moment s) [] T_over (at.sets s) (sym none);
            })
      ]

      abbrev F_over : List Operation
      F_over = set_at r source_over.moment source_over.from

      abbrev over_event : runs.Event
      over_event = Merge s source_over.from at_over source_over.moment

      covers_over : covered_by W at_over other.image ≡ covered_by W at_over (image_of (S ++ T_over) at_over)
      covers_over = ap (covered_by W at_over) image_over

      over_same : AreSame (st.sets s ++ in_heap at_over F_over) (covered_by W at_over other.image ++ S)
      over_same = record {
        forth = λ p i. elim (in_union p (st.sets s) (in_heap at_over F_over) i) [
          | inl j ↦ in_right p (covered_by W at_over other.image) S ((alike.sets s).forth p j)
          | inr j ↦ (
              let both_parts = of_heap at_over F_over p j in
              in_left p (covered_by W at_over other.image) S (subst (IsIn p) (sym covers_over) (covers_it K W world at_over (S ++ T_over) both_closed both_inside p (in_right p S T_over (source_over.same.forth p both_parts.0)) both_parts.1)))
        ];
        back = λ p i. elim (in_union p (covered_by W at_over other.image) S i) [
          | inl j ↦ (
              let k = subst (IsIn p) covers_over j in
              let there = (covered_parts K W world at_over (image_of (S ++ T_over) at_over) p k).1 in
              elim (in_union p S T_over (covered_is K W world at_over (S ++ T_over) both_closed both_inside p k)) [
                | inl own_too ↦ in_left p (st.sets s) (in_heap at_over F_over) ((alike.sets s).back p own_too)
                | inr theirs_too ↦ in_right p (st.sets s) (in_heap at_over F_over) (in_heap_too at_over F_over p (source_over.same.back p theirs_too) there)
              ])
          | inr j ↦ in_left p (st.sets s) (in_heap at_over F_over) ((alike.sets s).back p j)
        ];
      }

      takes_over : IsOne rule K count W before e r
      takes_over =
          let T_now : List Operation = st.sets s ++ in_heap at_over F_over in
          let now : state_after rule K r over_event ≡ counted st s at_over stamp st.made T_now = ap (λ b. if b then st else counted st s at_over stamp st.made T_now) (unblocked at_over) in
          let theirs_now : image_of T_over at_over ≡ image_of F_over at_over = sym (image_of-same K F_over T_over at_over source_over.same (world_part K F_over W (λ p i. theirs_over.within p (source_over.same.forth p i)) world)) in
          let mine_now : image_of S at_over ≡ image_of (st.sets s) at_over = sym (image_is at_over) in
          let image : other.image ≡ join (image_of (st.sets s) at_over) (image_of F_over at_over) = joined_was ∙ ap₂ join mine_now theirs_now in
          let heap_low : at_over < K = subst (IsThere K before) asked own.asked in
          event over_event
          (named_so (λ q a. IsPlayedAs rule K r s n.heaps q a over_event) n.asked (ToTakeOver other) n.answer (TakenOver (Ok finished)) asked answered (refl, refl, image))
          (and_from _ _ (lt-ltb _ _ own.site) (and_from _ _ (lt-ltb _ _ source_over.below) (and_from _ _ (lt-ltb _ _ heap_low) (lt-ltb _ _ source_over.there)))) tt
          (after_one W before e r alike (counted st s at_over stamp st.made T_now)
          (recorded at_over (book.TookOver n.stamp other.image ∷ []) T_now does_over.0 off_over.1 refl over_same refl) over_event rule K now)

    -- ---- a command

    module _ (command : Command) (w1 w2 : ℕ) (reply : Word) (asked : n.asked ≡ ToRun command w1 w2) (answered : n.answer ≡ Replied reply) where
      does_run : Does rule K s n.stamp (ToRun command w1 w2) n.heaps (Replied reply) (map books n.heaps) n.steps
      does_run = does_as limits rule K two meant sites events are before e after is (ToRun command w1 w2) (Replied reply) asked answered

      asks : (words : List Word) × IsRequest words × (command_of words ≡ Ok command)
      asks = subst (IsThere K before) asked own.asked

      uncut : IsUncut rule (ToRun command w1 w2) (Replied reply) (map books n.heaps) n.steps
      uncut = subst (λ a. IsUncut rule (ToRun command w1 w2) a (map books n.heaps) n.steps) answered (subst (λ q. IsUncut rule q n.answer (map books n.heaps) n.steps) asked own.uncut)

      abbrev plan : Plan
      plan = plan_of command (queues_over rule S n.heaps)

      full : IsInFull (queues_over rule S n.heaps) command reply n.steps
      full = subst (λ (q : Queues). IsInFull q command reply n.steps) (queues_are meant rule K W S books part images n.heaps) uncut

      found : (moves : List Move) × IsRunOver (queues_over rule S n.heaps) command moves reply × (n.steps ≡ map (λ k. moved_in K s n.stamp k moves (vector_of S k)) n.heaps)
      found = run_found meant rule K W S books part images s n.stamp command n.heaps reply n.steps does_run.1

      -- ---- its moves

      once : AreOnce n.heaps
      once = once_of rule K s n.stamp (ToRun command w1 w2) n.heaps (Replied reply) (map books n.heaps) n.steps two does_run

      abbrev V : ℕ → List ℕ
      V = vector_of S

      steps_found : n.steps ≡ all_steps K s n.stamp found.0 V n.heaps
      steps_found = found.2

      moves_are : found.0 ≡ plan.moves
      moves_are =
          let number : steps_in n.steps ≡ steps_in (all_steps K s n.stamp found.0 V n.heaps) = ap steps_in steps_found in
          let most = no_more K s n.stamp found.0 V n.heaps once in
          let as_many_moves = full.moves in
          all_made (queues_over rule S n.heaps) command found.0 reply found.1 (omega (arith, number, most, as_many_moves))

      steps_are : n.steps ≡ all_steps K s n.stamp plan.moves V n.heaps
      steps_are = steps_found ∙ ap (λ moves. all_steps K s n.stamp moves V n.heaps) moves_are

      home : AreHome K s n.stamp plan.moves n.heaps
      home =
          let number : steps_in n.steps ≡ steps_in (all_steps K s n.stamp plan.moves V n.heaps) = ap steps_in steps_are in
          let as_many_moves = full.moves in
          all_home K s n.stamp plan.moves V n.heaps once (omega (arith, number, as_many_moves))

      abbrev new : List Operation
      new = operations K s plan.moves V

      new_made : (p : Operation) → IsIn p new → IsMadeInAll p n.steps
      new_made p i = subst (IsMadeInAll p) (sym steps_are) (to_all_steps K s n.stamp n.heaps plan.moves V p home i)

      made_new : (p : Operation) → IsMadeInAll p n.steps → IsIn p new
      made_new p i = from_all_steps K s n.stamp n.heaps plan.moves V p (subst (IsMadeInAll p) steps_are i)

      new_inside : (p : Operation) → IsIn p new → IsIn p W
      new_inside p i = made_by_then limits rule K two meant sites events are before e after is p (made_there_all p n.steps (made_of before) (new_made p i))

      at : IsAt K s W world two_heaps V st
      at = record { within = inside; closed = closed; vectors = vector_is }

      moves_made : (standing K s stamp plan.moves st ≡ length plan.moves) × IsMoved K s stamp st (after_moves K s stamp plan.moves st) new (length plan.moves)
      moves_made =
          let low = room in
          let as_many_moves = full.moves in
          moved K s W world two_heaps stamp plan.moves V st (steps_of before) at new_inside alike.counts (omega (arith, low, as_many_moves))

      all_made_in : AllMadeIn s n.steps
      all_made_in = subst (AllMadeIn s) (sym steps_are) (all_moved_in K s n.stamp plan.moves V n.heaps)

      next_run : IsNext W before e st (after_moves K s stamp plan.moves st)
      next_run =
          let its = moves_made.1 in
          let as_many_moves = full.moves in
          let many = as_many n.stamp books n.heaps n.steps (note_over limits rule K two meant sites before e (are before e after is)).steps in
          record {
            here = record {
              forth = λ p i. elim (its.has_from p i) [
                | inl j ↦ gathered_stays_all W p n.heaps n.steps S ((alike.sets s).forth p j)
                | inr j ↦ gathers_made_all W p n.heaps n.steps S many (new_made p j)
              ];
              back = λ p i. elim (gathered_from_all W s p n.heaps n.steps S all_made_in i) [
                | inl j ↦ its.has_to p (inl ((alike.sets s).back p j))
                | inr j ↦ its.has_to p (inr (made_new p j))
              ];
            };
            others = its.others;
            made = record {
              forth = λ p i. elim (its.made_from p i) [
                | inl j ↦ in_more_all p n.steps (made_of before) (alike.made.forth p j)
                | inr j ↦ made_there_all p n.steps (made_of before) (new_made p j)
              ];
              back = λ p i. elim (made_from_where_all p n.steps (made_of before) i) [
                | inl j ↦ its.made_to p (inl (alike.made.back p j))
                | inr j ↦ its.made_to p (inr (made_new p j))
              ];
            };
            stamps = λ a b. let low = its.stamps (steps_of before) stamp_low alike.stamps a b in omega (arith, low, as_many_moves);
            counts = λ a b. let low = its.counts (steps_of before) alike.counts a b in omega (arith, low, as_many_moves);
          }

      -- ---- its event

      abbrev Said : Type 0
      Said = IsSaid rule K (st.sets s) w1 w2 n.heaps command plan

      by_itself : is_ping command ≡ false → queues_for rule K (st.sets s) w1 w2 command ≡ queues_over rule (st.sets s) n.heaps → Said
      by_itself ping same = record {
        words = asks.0;
        request = asks.1;
        said = command;
        reads = asks.2;
        fits = itself refl;
        ping = ping;
        plans = ap (plan_of command) (same ∙ queues_same n.heaps);
      }

      near_said : (key : Word) → command ≡ Zpopnear key → is_ping command ≡ false → (b : _) → is_there (queues_over rule (st.sets s) (drawn K w1 w2) key) ≡ b → n.heaps ≡ heaps_in K → Said
      near_said key near ping true some held = record {
        words = popping key;
        request = popping_asks key asks.0 asks.1 (asks.2 ∙ ap Ok near);
        said = Zpopmin key (pos 1);
        reads = popping_reads key;
        fits = popped (record { key = key; is = near; all = held; some = some }) refl;
        ping = refl;
        plans = popping_plans key (queues_over rule (st.sets s) (heaps_in K)) ∙ ap (λ c. plan_of c (queues_over rule (st.sets s) (heaps_in K))) (sym near)
            ∙ ap (plan_of command) (queues_same (heaps_in K) ∙ ap (queues_over rule S) (sym held));
      }
      near_said key near ping false none held = by_itself ping
          (ap (queues_for rule K (st.sets s) w1 w2) near ∙ for_rest rule K (st.sets s) w1 w2 key none ∙ ap (queues_over rule (st.sets s)) (sym held))

      drawn_said : (key : Word) → command ≡ Zpopnear key → is_ping command ≡ false → n.heaps ≡ drawn K w1 w2 → HasNear rule command (map books n.heaps) → Said
      drawn_said key near ping held has =
          let some : 1 ≤ length (queues_of rule (map books n.heaps) key) = subst (λ c. HasNear rule c (map books n.heaps)) near has in
          let queued : queues_of rule (map books n.heaps) ≡ queues_over rule (st.sets s) (drawn K w1 w2) =
          queues_are meant rule K W S books part images n.heaps ∙ sym (queues_same n.heaps) ∙ ap (queues_over rule (st.sets s)) held in
          by_itself ping
          (ap (queues_for rule K (st.sets s) w1 w2) near
          ∙ for_drawn rule K (st.sets s) w1 w2 key (some_there _ (subst (λ (q : Queues). 1 ≤ length (q key)) queued some))
          ∙ ap (queues_over rule (st.sets s)) (sym held))

      says : (hs : Heaps) → heaps_of command K ≡ hs → AreHeapsFor hs rule K command w1 w2 n.heaps (map books n.heaps) → Said
      says NoHeap named held = absurd held
      says (One h) named held = record {
        words = asks.0;
        request = asks.1;
        said = command;
        reads = asks.2;
        fits = itself refl;
        ping = not_ping K command (λ e. not_none h (sym named ∙ e));
        plans = ap (plan_of command) (for_other rule K (st.sets s) w1 w2 command (λ e. not_near h (sym named ∙ e)) ∙ queues_same (heaps_in K))
            ∙ sym (alone meant rule K W S books part images command h (omega (arith, two)) named)
            ∙ ap (λ hs. plan_of command (queues_over rule S hs)) (sym held);
      }
        where
          not_none : (k : ℕ) → One k ≡ NoHeap → ⊥
          not_none k e = cc

          not_near : (k : ℕ) → One k ≡ Near → ⊥
          not_near k e = cc
      says All named held =
          by_itself (not_ping K command (λ e. not_none (sym named ∙ e)))
          (for_other rule K (st.sets s) w1 w2 command (λ e. not_near (sym named ∙ e)) ∙ ap (queues_over rule (st.sets s)) (sym held))
        where
          not_none : All ≡ NoHeap → ⊥
          not_none e = cc

          not_near : All ≡ Near → ⊥
          not_near e = cc
      says Near named held =
          let near = is_near K command named in
          let ping : is_ping command ≡ false = not_ping K command (λ e. not_none (sym named ∙ e)) in
          elim held [
            | inl few ↦ drawn_said near.0 near.1 ping few.0 few.1
            | inr all ↦ near_said near.0 near.1 ping (is_there (queues_over rule (st.sets s) (drawn K w1 w2) near.0)) refl all
          ]
        where
          not_none : Near ≡ NoHeap → ⊥
          not_none e = cc

      runs_it : IsOne rule K count W before e r
      runs_it =
          let said = says (heaps_of command K) refl does_run.0 in
          let p : runs.Event = Do s said.words w1 w2 in
          let whole : done rule K s w1 w2 st (command_of said.words) ≡ all_done rule K s w1 w2 st said.said (queues_for rule K (st.sets s) w1 w2 said.said) plan =
          ap (done rule K s w1 w2 st) said.reads ∙ done_all rule K s w1 w2 st said.said (queues_for rule K (st.sets s) w1 w2 said.said) plan said.ping unworn said.plans moves_made.0 in
          event p
          (named_so (λ q a. IsPlayedAs rule K r s n.heaps q a p) n.asked (ToRun command w1 w2) n.answer (Replied reply) asked answered
          (refl, refl, refl, (said.said, said.reads, said.fits), ap (λ (d : Done). runs.Replied d.reply) whole ∙ ap runs.Replied (sym full.says)))
          (lt-ltb _ _ own.site) said.request
          (after_one W before e r alike (after_moves K s stamp plan.moves st) next_run p rule K (ap (λ (d : Done). d.now) whole))

    -- ---- each kind of call

    pub one_call : IsOne rule K count W before e r
    one_call = by n.asked n.answer refl refl
      where
        by : (asked : Asked) (answer : Answer) → n.asked ≡ asked → n.answer ≡ answer → IsOne rule K count W before e r
        by (ToRun command w1 w2) (Replied reply) asked answered = runs_it command w1 w2 reply asked answered
        by (ToRunEach calls) (RepliedEach replies) asked answered = absurd (subst (IsThere K before) asked own.asked)
        by (ToRunWatched watch calls) (RepliedIf replies) asked answered = absurd (subst (IsThere K before) asked own.asked)
        by (ToTake op) (Handed (Ok taken)) asked answered = takes op taken asked answered
        by (ToTake op) (Handed (Err fault)) asked answered =
            absurd (subst (λ a. IsUncut rule (ToTake op) a (map books n.heaps) n.steps) answered (subst (λ q. IsUncut rule q n.answer (map books n.heaps) n.steps) asked own.uncut))
        by (ToTakeAll heap ops) (HandedAll answer) asked answered = takes_all heap ops answer asked answered
        by (ToMerge other) (Joined (Ok finished)) asked answered = merges other finished asked answered
        by (ToMerge other) (Joined (Err fault)) asked answered =
            absurd (subst (λ a. IsUncut rule (ToMerge other) a (map books n.heaps) n.steps) answered (subst (λ q. IsUncut rule q n.answer (map books n.heaps) n.steps) asked own.uncut))
        by (ToTakeOver other) (TakenOver (Ok finished)) asked answered = takes_over other finished asked answered
        by (ToTakeOver other) (TakenOver (Err fault)) asked answered =
            absurd (subst (λ a. IsUncut rule (ToTakeOver other) a (map books n.heaps) n.steps) answered (subst (λ q. IsUncut rule q n.answer (map books n.heaps) n.steps) asked own.uncut))
        by (ToTell heap vector) (Told (Ok since)) asked answered =
            reads_books heap (does_as limits rule K two meant sites events are before e after is (ToTell heap vector) (Told (Ok since)) asked answered).0
            (off_as limits rule K two meant sites events are before e after is (ToTell heap vector) (Told (Ok since)) asked answered).1 (subst IsNone (sym asked) tt)
        by (ToTell heap vector) (Told (Err fault)) asked answered =
            reads_books heap (does_as limits rule K two meant sites events are before e after is (ToTell heap vector) (Told (Err fault)) asked answered).0
            (off_as limits rule K two meant sites events are before e after is (ToTell heap vector) (Told (Err fault)) asked answered).1 (subst IsNone (sym asked) tt)
        by (ToDrain heap vector most) (Told (Ok (Ops ops))) asked answered =
            hands_on heap (does_as limits rule K two meant sites events are before e after is (ToDrain heap vector most) (Told (Ok (Ops ops))) asked answered).0
            (off_as limits rule K two meant sites events are before e after is (ToDrain heap vector most) (Told (Ok (Ops ops))) asked answered).1 (subst IsNone (sym asked) tt)
        by (ToDrain heap vector most) (Told (Ok TooOld)) asked answered =
            reads_books heap (does_as limits rule K two meant sites events are before e after is (ToDrain heap vector most) (Told (Ok TooOld)) asked answered).0
            (off_as limits rule K two meant sites events are before e after is (ToDrain heap vector most) (Told (Ok TooOld)) asked answered) (subst IsNone (sym asked) tt)
        by (ToDrain heap vector most) (Told (Err fault)) asked answered =
            reads_books heap (does_as limits rule K two meant sites events are before e after is (ToDrain heap vector most) (Told (Err fault)) asked answered).0
            (off_as limits rule K two meant sites events are before e after is (ToDrain heap vector most) (Told (Err fault)) asked answered).1 (subst IsNone (sym asked) tt)
        by (ToCopy heap) (Copied (Ok copy)) asked answered =
            reads_books heap (does_as limits rule K two meant sites events are before e after is (ToCopy heap) (Copied (Ok copy)) asked answered).0
            (off_as limits rule K two meant sites events are before e after is (ToCopy heap) (Copied (Ok copy)) asked answered).1 (subst IsNone (sym asked) tt)
        by (ToCopy heap) (Copied (Err fault)) asked answered =
            reads_books heap (does_as limits rule K two meant sites events are before e after is (ToCopy heap) (Copied (Err fault)) asked answered).0
            (off_as limits rule K two meant sites events are before e after is (ToCopy heap) (Copied (Err fault)) asked answered).1 (subst IsNone (sym asked) tt)
        by (ToPortion heap spot most) (Portioned (Ok portion)) asked answered =
            reads_books heap (does_as limits rule K two meant sites events are before e after is (ToPortion heap spot most) (Portioned (Ok portion)) asked answered).0
            (off_as limits rule K two meant sites events are before e after is (ToPortion heap spot most) (Portioned (Ok portion)) asked answered).1 (subst IsNone (sym asked) tt)
        by (ToPortion heap spot most) (Portioned (Err fault)) asked answered =
            reads_books heap (does_as limits rule K two meant sites events are before e after is (ToPortion heap spot most) (Portioned (Err fault)) asked answered).0
            (off_as limits rule K two meant sites events are before e after is (ToPortion heap spot most) (Portioned (Err fault)) asked answered).1 (subst IsNone (sym asked) tt)
        by (ToShow heap) (Shown vector) asked answered =
            reads_books heap (does_as limits rule K two meant sites events are before e after is (ToShow heap) (Shown vector) asked answered).0
            (off_as limits rule K two meant sites events are before e after is (ToShow heap) (Shown vector) asked answered).1 (subst IsNone (sym asked) tt)
        by other_asked other_answer asked answered =
            absurd (does_as limits rule K two meant sites events are before e after is other_asked other_answer asked answered)
