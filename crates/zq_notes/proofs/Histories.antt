-- What a site's history gathers, and what its calls answer by then.

use Rattle.std.proofs.Common.{ap, arith, subst, sym}
use Rattle.std.specs.Prelude.{List, Some, [], map, refl, true, ℕ, ◌++◌, ◌∷◌, ◌≡◌, ◌≤◌}
use Rattle.zq_dots.specs.Rule.{rule_of}
use Rattle.zq_journal.specs.Untouched.{is_among}
use Rattle.zq_model.proofs.JoinImages.{image_of-nothing}
use Rattle.zq_model.proofs.Membership.{in_right}
use Rattle.zq_model.proofs.Same.{image_of-same}
use Rattle.zq_model.proofs.Worlds.{world_part}
use Rattle.zq_model.specs.Books.{Step}
use Rattle.zq_model.specs.Image.{image_of}
use Rattle.zq_model.specs.Limits.{TailLimits}
use Rattle.zq_model.specs.Operation.{Operation}
use Rattle.zq_model.specs.Rule.{Rule}
use Rattle.zq_model.specs.Queue.{queue_of}
use Rattle.zq_model.specs.Sets.{AreSame, IsIn, IsWorld}
use Rattle.zq_notes.proofs.FromCalls.{thread_of}
use Rattle.zq_notes.proofs.GatheredSets.{grown_by}
use Rattle.zq_notes.proofs.HeldOnce.{once_of}
use Rattle.zq_notes.proofs.Tails.{all_in_base}
use Rattle.zq_notes.proofs.ReadOff.{AreScoresMeant, read_off}
use Rattle.zq_notes.specs.Calls.{AreCallsFrom, Call, notes_of}
use Rattle.zq_notes.specs.Gathered.{AreImagesOf, AreOfWorld, HasTailOf, brought, gathered, gathered_by, gathered_in}
use Rattle.zq_notes.specs.Notes.{Books, Note, RepliedIf, ToRunWatched}
use Rattle.zq_notes.specs.Readings.{IsAnswerOf, IsReadOff}
use Rattle.zq_notes.specs.Sites.{empty_books}
use Rattle.zq_notes.specs.Thread.{IsNoteOver, IsOneThread, left_by, left_by_all}
use Rattle.zq_semantics.proofs.OneKey.{stays_as_it_was}
use Rattle.zq_semantics.specs.Reading.{answer_of, answer_over, heaps_in, queues_over}
use Rattle.zq_semantics.specs.Watching.{AreUnchanged, HasAllOf}
use Rattle.zq_spread.specs.Calls.{heaps_of}
use Rattle.zq_spread.specs.Watches.{Watch}
use Rattle.zq_spread.specs.declared.site.Site.{Site}
use Rattle.zq_words.specs.Command.{command_of}
use Rattle.zq_words.specs.Calls.{Call as Asking}
use Rattle.zq_words.specs.Words.{Word}

pub opens : (limits : TailLimits) (rule : Rule) (K : ℕ) (W : List Operation) → AreImagesOf rule K W [] (empty_books limits rule K)
opens limits rule K W = record {
  within = λ o none. absurd none;
  closed = record { before = λ o none. absurd none };
  each = λ h. record { heap = refl; heaps = refl; ruled = refl; state = sym (image_of-nothing [] h (λ o none. absurd none)); tail = none h };
}
  where
    none : (h : ℕ) → HasTailOf [] h (empty_books limits rule K h)
    none h =
        all_in_base [] h (empty_books limits rule K h) (record { before = λ o none. absurd none })
        (sym (image_of-nothing [] h (λ o none. absurd none))) refl

module _ (rule : Rule) (K site : ℕ) (W : List Operation) (two : 2 ≤ K) (world : IsWorld K W) where
  -- one call more
  grows : (S : List Operation) (books : Books) (n : Note) (notes : List Note) → AreImagesOf rule K W S books → IsNoteOver rule K site books n → AreOfWorld W (n ∷ notes) →
      AreImagesOf rule K W (gathered W (n ∷ []) S) (left_by n books)
  grows S books n notes are is of =
      grown_by K W world rule n.stamp n.heaps n.steps S books
      (once_of rule K site n.stamp n.asked n.heaps n.answer (map books n.heaps) n.steps two is.does) is.steps of.0 are

  pub gathers : (S : List Operation) (books : Books) (notes : List Note) → AreImagesOf rule K W S books → IsOneThread rule K site books notes → AreOfWorld W notes →
      AreImagesOf rule K W (gathered W notes S) (left_by_all notes books)
  gathers S books [] are is of = are
  gathers S books (n ∷ notes) are is of = gathers (gathered W (n ∷ []) S) (left_by n books) notes (grows S books n notes are is.0 of) is.1 of.1

  pub reads : AreScoresMeant → (S : List Operation) (books : Books) (before : List Note) (n : Note) (after : List Note) → AreImagesOf rule K W S books →
      IsOneThread rule K site books (before ++ n ∷ after) → AreOfWorld W (before ++ n ∷ after) → IsReadOff rule K site (gathered W before S) n
  reads meant S books [] n after are is of =
      read_off meant rule K W S books (world_part K S W are.within world) are site n.stamp n.asked n.heaps n.answer n.steps (omega (arith, two)) is.0.steps is.0.does
  reads meant S books (b ∷ before) n after are is of =
      reads meant (gathered W (b ∷ []) S) (left_by b books) before n after (grows S books b (before ++ n ∷ after) are is.0 of) is.1 of.1

  -- and what was gathered before a call is a world
  world_before : (S : List Operation) (books : Books) (before : List Note) (n : Note) (after : List Note) → AreImagesOf rule K W S books →
      IsOneThread rule K site books (before ++ n ∷ after) → AreOfWorld W (before ++ n ∷ after) → IsWorld K (gathered W before S)
  world_before S books [] n after are is of = world_part K S W are.within world
  world_before S books (b ∷ before) n after are is of =
      world_before (gathered W (b ∷ []) S) (left_by b books) before n after (grows S books b (before ++ n ∷ after) are is.0 of) is.1 of.1

  -- what a site has gathered it keeps
  kept_in : (h : ℕ) (steps : List Step) (S : List Operation) (o : Operation) → IsIn o S → IsIn o (gathered_in W h steps S)
  kept_in h [] S o i = i
  kept_in h (step ∷ steps) S o i = kept_in h steps (brought W h step ++ S) o (in_right o (brought W h step) S i)

  kept_by : (heaps : List ℕ) (steps : List (List Step)) (S : List Operation) (o : Operation) → IsIn o S → IsIn o (gathered_by W heaps steps S)
  kept_by [] steps S o i = i
  kept_by (h ∷ heaps) [] S o i = i
  kept_by (h ∷ heaps) (ss ∷ steps) S o i = kept_by heaps steps (gathered_in W h ss S) o (kept_in h ss S o i)

  kept : (notes : List Note) (S : List Operation) (o : Operation) → IsIn o S → IsIn o (gathered W notes S)
  kept [] S o i = i
  kept (n ∷ notes) S o i = kept notes (gathered_by W n.heaps n.steps S) o (kept_by n.heaps n.steps S o i)

  -- nothing on a watched key came after the vectors, where what was asked ran
  unchanged_off : (S : List Operation) (n : Note) (watch : Watch) (calls : List Asking) (replies : List Word) → IsReadOff rule K site S n → n.asked ≡ ToRunWatched watch calls → n.answer ≡ RepliedIf (Some replies) →
      AreUnchanged S (heaps_in K) watch.vectors (is_among watch.keys)
  unchanged_off S n watch calls replies is asked answered =
      let off : IsAnswerOf rule K site S (ToRunWatched watch calls) n.stamp n.heaps (RepliedIf (Some replies)) n.steps =
      subst (λ a. IsAnswerOf rule K site S (ToRunWatched watch calls) n.stamp n.heaps a n.steps) answered (subst (λ q. IsAnswerOf rule K site S q n.stamp n.heaps n.answer n.steps) asked is) in
      subst (λ hs. AreUnchanged S hs watch.vectors (is_among watch.keys)) off.1.2 off.0

  -- so the queue of each is what it was when the site had what these vectors have
  pub watches : AreScoresMeant → (S : List Operation) (books : Books) (first more : List Note) (n : Note) (after : List Note) (watch : Watch) (calls : List Asking) (replies : List Word) (key : List ℕ) →
      AreImagesOf rule K W S books → IsOneThread rule K site books (first ++ (more ++ n ∷ after)) → AreOfWorld W (first ++ (more ++ n ∷ after)) → n.asked ≡ ToRunWatched watch calls → n.answer ≡ RepliedIf (Some replies) →
      HasAllOf (gathered W first S) (heaps_in K) watch.vectors → is_among watch.keys key ≡ true →
      queues_over rule (gathered W more (gathered W first S)) (heaps_in K) key ≡ queues_over rule (gathered W first S) (heaps_in K) key
  watches meant S books [] more n after watch calls replies key are is of asked answered had watched =
      stays_as_it_was K (gathered W more S) S watch.vectors (is_among watch.keys) key (omega (arith, two)) (world_before S books more n after are is of) are.closed (λ o i. kept more S o i) had
      (unchanged_off (gathered W more S) n watch calls replies (reads meant S books more n after are is of) asked answered) watched rule
  watches meant S books (b ∷ first) more n after watch calls replies key are is of asked answered had watched =
      watches meant (gathered W (b ∷ []) S) (left_by b books) first more n after watch calls replies key (grows S books b (first ++ (more ++ n ∷ after)) are is.0 of) is.1 of.1 asked answered had watched

-- the notes of a list of calls that is cut in two
notes_split : (before : List Call) (c : Call) (after : List Call) → notes_of (before ++ c ∷ after) ≡ notes_of before ++ c.note ∷ notes_of after
notes_split [] c after = refl
notes_split (b ∷ before) c after = ap (λ l. b.note ∷ l) (notes_split before c after)

pub serves : AreScoresMeant → (site : Site) (W : List Operation) (opening : Books) (before : List Call) (c : Call) (after : List Call) → IsWorld (heaps_of site) W →
    AreImagesOf (rule_of site.rule) (heaps_of site) W [] opening → AreCallsFrom site opening (before ++ c ∷ after) → AreOfWorld W (notes_of (before ++ c ∷ after)) →
    IsReadOff (rule_of site.rule) (heaps_of site) site.number (gathered W (notes_of before) []) c.note
serves meant site W opening before c after world are over of =
    let split = notes_split before c after in
    reads (rule_of site.rule) (heaps_of site) site.number W site.some world meant [] opening (notes_of before) c.note (notes_of after) are
    (subst (IsOneThread (rule_of site.rule) (heaps_of site) site.number opening) split (thread_of site opening (before ++ c ∷ after) over)) (subst (AreOfWorld W) split of)

pub stays : (site : Site) (W : List Operation) (opening : Books) (before : List Call) (c : Call) (after : List Call) → IsWorld (heaps_of site) W →
    AreImagesOf (rule_of site.rule) (heaps_of site) W [] opening → AreCallsFrom site opening (before ++ c ∷ after) → AreOfWorld W (notes_of (before ++ c ∷ after)) →
    IsWorld (heaps_of site) (gathered W (notes_of before) [])
stays site W opening before c after world are over of =
    let split = notes_split before c after in
    world_before (rule_of site.rule) (heaps_of site) site.number W site.some world [] opening (notes_of before) c.note (notes_of after) are
    (subst (IsOneThread (rule_of site.rule) (heaps_of site) site.number opening) split (thread_of site opening (before ++ c ∷ after) over)) (subst (AreOfWorld W) split of)

-- equal sets of one world mean the same queues, and answer alike
pub alike : (rule : Rule) (K : ℕ) (W S T : List Operation) → IsWorld K W → ((o : Operation) → IsIn o S → IsIn o W) → AreSame S T →
    queues_over rule S (heaps_in K) ≡ queues_over rule T (heaps_in K)
alike rule K W S T world within same =
    let images : (h : ℕ) → image_of S h ≡ image_of T h = λ h. image_of-same K S T h same (world_part K S W within world) in
    λ i key. queue_of rule key (map (λ h. (images h i).members) (heaps_in K))

pub agree : (rule : Rule) (K : ℕ) (W S T : List Operation) → IsWorld K W → ((o : Operation) → IsIn o S → IsIn o W) → AreSame S T → (words : List Word) →
    answer_of rule K S words ≡ answer_of rule K T words
agree rule K W S T world within same words = ap (λ q. answer_over q (command_of words)) (alike rule K W S T world within same)
