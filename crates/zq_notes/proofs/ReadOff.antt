-- What calls answer over the images of a set is read off the set.

use Rattle.std.proofs.Common.{None, Option, Some, [], ap, arith, inl, inr, subst, sym, true≢false, ◌∙◌}
use Rattle.std.proofs.lemmas.Bool.{and_parts, cases_Bool}
use Rattle.std.specs.List.{list_all}
use Rattle.std.specs.Prelude.{Bool, Err, List, Ok, Result, false, length, map, not, refl, slice_index, take, true, ℕ, ℤ, ◌+◌, ◌-◌, ◌<◌, ◌∷◌, ◌↔◌, ◌≡◌, ◌≤◌}
use Rattle.zq_dots.specs.Placed.{Placed}
use Rattle.zq_model.specs.Books.{Book, Step, operations_of}
use Rattle.zq_model.specs.Reach.{begun}
use Rattle.zq_journal.specs.Answers.{IfOps}
use Rattle.zq_journal.specs.Books.{state_of, steps_when}
use Rattle.zq_journal.specs.Records.{placed_at}
use Rattle.zq_journal.specs.Untouched.{is_among, is_apart, is_untouched}
use Rattle.zq_journal.specs.declared.faults.MergeFault.{MergeFault}
use Rattle.zq_journal.specs.declared.faults.MergeFault.TheVariants as unjoined
use Rattle.zq_journal.specs.declared.faults.TakeOverFault.{TakeOverFault}
use Rattle.zq_journal.specs.declared.faults.TakeOverFault.TheVariants as kept
use Rattle.zq_journal.specs.declared.faults.TakeFault.{TakeFault}
use Rattle.zq_journal.specs.declared.faults.TakeFault.TheVariants as unheld
use Rattle.zq_journal.specs.declared.since.Since.{Since}
use Rattle.zq_journal.specs.declared.since.Since.TheVariants.{Ops, TooOld}
use Rattle.zq_model.proofs.Dots.{counter_positive, has_from, last_above}
use Rattle.zq_model.proofs.MeantQueues.{heap_in_range, whole_queue_is}
use Rattle.zq_model.proofs.Membership.{in_range_with_len}
use Rattle.zq_model.proofs.OfHeaps.{in_heap_too, of_heap}
use Rattle.zq_model.proofs.TailSets.{tail_above}
use Rattle.zq_model.proofs.Taken.{covers_at}
use Rattle.zq_model.proofs.Worlds.{vector_is, world_part}
use Rattle.zq_model.specs.Heaps.{heap_of}
use Rattle.zq_model.specs.Image.{Image, image_of}
use Rattle.zq_model.specs.Meaning.{IsScore}
use Rattle.zq_model.specs.Operation.{Operation, has}
use Rattle.zq_model.specs.Queue.{queue_of}
use Rattle.zq_model.specs.Rule.{Rule}
use Rattle.zq_model.specs.Sets.{AreSame, IsIn, IsWorld, covers, in_heap, taken_of, vector_of}
use Rattle.zq_model.specs.Tail.{lacking}
use Rattle.zq_model.proofs.Lists.{in_filter, in_filter_from}
use Rattle.zq_model.specs.Lent as lent
use Rattle.zq_model.specs.Lent.{books_after, queues_of}
use Rattle.zq_model.specs.Moves.{Move, Queues, score_in}
use Rattle.zq_notes.specs.Does.{AreHeapsFor, Does, IsTold}
use Rattle.zq_notes.proofs.Tails.{in_tail_set, tail_begun}
use Rattle.zq_notes.specs.Gathered.{AreImagesOf, HasTailOf}
use Rattle.zq_notes.specs.Notes.{Answer, Asked, Books, Copied, Handed, HandedAll, Joined, Portioned, Replied, RepliedEach, RepliedIf, Shown, TakenOver, ToCopy, ToDrain, ToMerge, ToPortion, ToRun, ToRunEach, ToRunWatched, ToShow, ToTake, ToTakeAll, ToTakeOver, ToTell, Told}
use Rattle.zq_notes.proofs.EachOff.{IsAt, legal_from, runs_off}
use Rattle.zq_notes.proofs.EachRun.{AreRunsFrom, cut_at, each_from}
use Rattle.zq_notes.proofs.HomeMoves.{at_home}
use Rattle.zq_notes.proofs.MovedSteps.{moves_are}
use Rattle.zq_notes.specs.Readings.{AreFirstLacked, AreLacked, IsAnswerOf, IsCutAt, IsOrShort, IsRunEachOff, IsRunOf, IsRunOff, IsRunOver, MayHandOn, cut_off, heap_as, in_full, is_list, moved_in, over_all, over_drawn}
use Rattle.zq_notes.specs.Thread.{AreOwnIn}
use Rattle.zq_semantics.proofs.FewMembers.{few_members}
use Rattle.zq_semantics.proofs.Lifted.{cut_same, not_popping, takes_same}
use Rattle.zq_semantics.proofs.Narrow.{plans_same}
use Rattle.zq_semantics.specs.Doing.{drawn}
use Rattle.zq_semantics.specs.Plan.{Plan, plan_of}
use Rattle.zq_semantics.specs.Procedures.{Procedure, procedure}
use Rattle.zq_semantics.specs.Replies.{bytes_of}
use Rattle.zq_semantics.specs.Run.{ForReply, IsReadShort, IsRun, MayLack, Memory, Number, Takes, cut_error, cut_pop, part, popped_of, takes_of, whole}
use Rattle.zq_semantics.specs.Reading.{heaps_in, is_reading, queues_over}
use Rattle.zq_semantics.specs.Watching.{AreUnchanged, IsUnchanged}
use Rattle.zq_shard.specs.Shard.{HeapImage}
use Rattle.zq_shard.specs.declared.spot.Spot.{Spot}
use Rattle.zq_shard.specs.declared.taken.Taken.{Taken}
use Rattle.zq_stage.specs.Portion.{IsPortion}
use Rattle.zq_stage.specs.declared.portion.Portion.{Portion}
use Rattle.zq_stage.specs.declared.portion.PortionLimits.{PortionLimits}
use Rattle.zq_spread.specs.Answers.{AreHandings, IsCopied, IsDrained, IsFirstSince, IsMerged, IsPortioned, IsShown, IsSince, IsTaken, IsTakenOver, unhanded_of}
use Rattle.zq_spread.specs.Batches.{IsTakenAll, IsTakenSoFar}
use Rattle.zq_spread.specs.Commanded.{AreAppended, IsAnswered}
use Rattle.zq_spread.specs.Dispatch.{HasNear}
use Rattle.zq_spread.specs.Each.{AreAnswered}
use Rattle.zq_spread.specs.Watching.{are_untouched}
use Rattle.zq_spread.specs.declared.faults.ReadFault.{ReadFault}
use Rattle.zq_spread.specs.declared.faults.ReadFault.TheVariants as unread
use Rattle.zq_spread.specs.declared.taken_all.TakenAll.{TakenAll}
use Rattle.zq_words.specs.Command.{Command, Del, Ping, Zadd, ZaddIncr, Zcard, Zcount, Zincrby, Zpopmin, Zpopnear, Zrange, Zrank, Zrem, Zrevrank, Zscore}
use Rattle.zq_words.specs.Heaps.{heaps_of}
use Rattle.zq_words.specs.Words.{Word}
use Rattle.zq_words.specs.declared.heaps.Heaps.{Heaps}
use Rattle.zq_words.specs.declared.heaps.Heaps.TheVariants.{All, Near, NoHeap, One}

-- ---- replies

-- a test that is not false
not_false : (b : Bool) → false ≡ not b → b ≡ true
not_false true is = refl
not_false false is = absurd (true≢false (sym is))

-- what a run comes to
pub ran_over : (rule : Rule) (site stamp : ℕ) (command : Command) (old new : List Book) (reply : Word) → IsRun rule site stamp command old new reply →
    (moves : List Move) × IsRunOver (queues_of rule old) command moves reply × (new ≡ books_after site stamp moves old)
ran_over rule site stamp command old new reply (whole books says) = ((plan_of command (queues_of rule old)).moves, in_full refl says, books)
ran_over rule site stamp command old new reply (part k want few books why says) =
    let plan = plan_of command (queues_of rule old) in
    (take k plan.moves, cut_off k want (cut_at (takes_of command (queues_of rule old)) site k plan.moves new want few why) refl says, books)

-- ---- one heap

-- where the plan is the same, and the words of a cut, a run over the one queues is one over the others
run_moved : (command : Command) (queues others : Queues) (moves : List Move) (reply : Word) → plan_of command queues ≡ plan_of command others → popped_of command ≡ None → takes_of command queues ≡ takes_of command others →
    IsRunOver queues command moves reply → IsRunOver others command moves reply
run_moved command queues others moves reply same none takes (in_full are says) = in_full (are ∙ ap (λ (p : Plan). p.moves) same) (says ∙ ap (λ (p : Plan). bytes_of p.reply) same)
run_moved command queues others moves reply same none takes (cut_off k want few are says) =
    cut_off k want (subst (λ (t : Takes). IsCutAt want t k (length (plan_of command others).moves)) takes (subst (λ (p : Plan). IsCutAt want (takes_of command queues) k (length p.moves)) same few)) (are ∙ ap (λ (p : Plan). take k p.moves) same) (says ∙ ap bytes_of (cut_same command queues others k want none))

-- two that have the same values are the same
same_options : (a b : Option ℤ) → ((x : ℤ) → a ≡ Some x → b ≡ Some x) → ((x : ℤ) → b ≡ Some x → a ≡ Some x) → a ≡ b
same_options (Some x) b forth back = sym (forth x refl)
same_options None (Some y) forth back = back y refl
same_options None None forth back = refl

heap_named : (books : Books) (heaps : List ℕ) → ((k : ℕ) → (books k).heap ≡ k) → map (λ (b : Book). b.heap) (map books heaps) ≡ heaps
heap_named books [] each = refl
heap_named books (h ∷ heaps) each = let first = each h in let rest = heap_named books heaps each in λ i. first i ∷ rest i

-- over books that are images of one set a member's score is the one that the set means
abbrev pub AreScoresMeant : Type 0
AreScoresMeant =
    (rule : Rule) (K : ℕ) (S : List Operation) (books : List Book) → IsWorld K S → lent.AreImagesOf S books → (key member : List ℕ) (score : ℤ) → IsIn (heap_of key member K) (map (λ (b : Book). b.heap) books) →
    (score_in (queues_of rule books key) member ≡ Some score) ↔ IsScore rule S key member score

module _ (named : AreScoresMeant) (rule : Rule) (K : ℕ) (W S : List Operation) (books : Books) (world : IsWorld K S) (are : AreImagesOf rule K W S books) where
  members_are : (heaps : List ℕ) → map (λ (b : Book). b.state.members) (map books heaps) ≡ map (λ h. (image_of S h).members) heaps
  members_are [] = refl
  members_are (h ∷ heaps) = let first = (are.each h).state in let rest = members_are heaps in λ i. (first i).members ∷ rest i

  pub queues_are : (heaps : List ℕ) → queues_of rule (map books heaps) ≡ queues_over rule S heaps
  queues_are heaps = λ i key. queue_of rule key (members_are heaps i)

  pub listed : (heaps : List ℕ) → lent.AreImagesOf S (map books heaps)
  listed [] b none = absurd none
  listed (h ∷ heaps) b (inl same) =
      subst (λ (c : Book). c.state ≡ image_of S c.heap) same ((are.each h).state ∙ ap (image_of S) (sym (are.each h).heap))
  listed (h ∷ heaps) b (inr there) = listed heaps b there

  -- a member's score over heaps among which its own is
  score_over : (heaps : List ℕ) (key m : List ℕ) (x : ℤ) → IsIn (heap_of key m K) heaps → (score_in (queues_over rule S heaps key) m ≡ Some x) ↔ (score_in (queues_of rule (map books heaps) key) m ≡ Some x)
  score_over heaps key m x _ = (
    λ is. subst (λ (q : Queues). score_in (q key) m ≡ Some x) (sym (queues_are heaps)) is,
    λ is. subst (λ (q : Queues). score_in (q key) m ≡ Some x) (queues_are heaps) is,
  )

  score_same : (heaps others : List ℕ) (key m : List ℕ) → IsIn (heap_of key m K) heaps → IsIn (heap_of key m K) others →
      score_in (queues_over rule S heaps key) m ≡ score_in (queues_over rule S others key) m
  score_same heaps others key m here there =
      same_options _ _ (λ x is. moves heaps others x here there is) (λ x is. moves others heaps x there here is)
    where
      in_named : (hs : List ℕ) → IsIn (heap_of key m K) hs → IsIn (heap_of key m K) (map (λ (b : Book). b.heap) (map books hs))
      in_named hs i = subst (IsIn (heap_of key m K)) (sym (heap_named books hs (λ k. (are.each k).heap))) i

      moves : (hs os : List ℕ) (x : ℤ) → IsIn (heap_of key m K) hs → IsIn (heap_of key m K) os → score_in (queues_over rule S hs key) m ≡ Some x → score_in (queues_over rule S os key) m ≡ Some x
      moves hs os x i j is =
          let means = (named rule K S (map books hs) world (listed hs) key m x (in_named hs i)).0 ((score_over hs key m x i).0 is) in
          (score_over os key m x j).1 ((named rule K S (map books os) world (listed os) key m x (in_named os j)).1 means)

  -- a command of one heap plans over that heap what it plans over all
  pub alone : (command : Command) (h : ℕ) → 0 < K → heaps_of command K ≡ One h → plan_of command (queues_over rule S (h ∷ [])) ≡ plan_of command (queues_over rule S (heaps_in K))
  alone command h some is =
      plans_same (queues_over rule S (h ∷ [])) (queues_over rule S (heaps_in K)) K h
      (λ key m at. score_same (h ∷ []) (heaps_in K) key m (inl (sym at)) (in_range_with_len 0 K (heap_of key m K) (omega arith) (let below = heap_in_range key m K some in omega (arith, below))))
      command is

  -- ---- what calls answer

  near : (command : Command) (w1 w2 : ℕ) (moves : List Move) (reply : Word) (found : List Book) → queues_of rule found ≡ queues_over rule S (drawn K w1 w2) → HasNear rule command found →
      IsRunOver (queues_over rule S (drawn K w1 w2)) command moves reply → IsRunOf rule K S w1 w2 command moves reply
  near (Zpopnear key) w1 w2 moves reply found same has is = over_drawn key refl (subst (λ (q : Queues). 1 ≤ length (q key)) same has) is
  near (Ping message) w1 w2 moves reply found same has is = absurd has
  near (Zadd key flags pairs) w1 w2 moves reply found same has is = absurd has
  near (ZaddIncr key flags increment member) w1 w2 moves reply found same has is = absurd has
  near (Zincrby key increment member) w1 w2 moves reply found same has is = absurd has
  near (Zrem key members) w1 w2 moves reply found same has is = absurd has
  near (Zscore key member) w1 w2 moves reply found same has is = absurd has
  near (Zcard key) w1 w2 moves reply found same has is = absurd has
  near (Zcount key min max) w1 w2 moves reply found same has is = absurd has
  near (Zrank key member) w1 w2 moves reply found same has is = absurd has
  near (Zrevrank key member) w1 w2 moves reply found same has is = absurd has
  near (Zrange key range is_turned with_scores) w1 w2 moves reply found same has is = absurd has
  near (Zpopmin key count) w1 w2 moves reply found same has is = absurd has
  near (Del keys) w1 w2 moves reply found same has is = absurd has

  runs : (command : Command) (w1 w2 : ℕ) (moves : List Move) (reply : Word) (heaps : List ℕ) → 0 < K → (hs : Heaps) → heaps_of command K ≡ hs →
      AreHeapsFor hs rule K command w1 w2 heaps (map books heaps) → IsRunOver (queues_over rule S heaps) command moves reply → IsRunOf rule K S w1 w2 command moves reply
  runs command w1 w2 moves reply heaps some NoHeap is held says = absurd held
  runs command w1 w2 moves reply heaps some (One h) is held says =
      over_all (run_moved command (queues_over rule S (h ∷ [])) (queues_over rule S (heaps_in K)) moves reply (alone command h some is) (not_popping K h command is)
      (takes_same K h command (queues_over rule S (h ∷ [])) (queues_over rule S (heaps_in K)) is)
      (subst (λ hs. IsRunOver (queues_over rule S hs) command moves reply) held says))
  runs command w1 w2 moves reply heaps some Near is (inl held) says =
      near command w1 w2 moves reply (map books heaps) (queues_are heaps ∙ ap (queues_over rule S) held.0) held.1 (subst (λ hs. IsRunOver (queues_over rule S hs) command moves reply) held.0 says)
  runs command w1 w2 moves reply heaps some Near is (inr held) says = over_all (subst (λ hs. IsRunOver (queues_over rule S hs) command moves reply) held says)
  runs command w1 w2 moves reply heaps some All is held says = over_all (subst (λ hs. IsRunOver (queues_over rule S hs) command moves reply) held says)

  vector_at : (h : ℕ) → (books h).state.vector ≡ vector_of S h
  vector_at h = ap (λ (a : Image). a.vector) (are.each h).state

  -- ---- each kind of call

  -- the steps of moves, by the vectors of the set
  moved_over : (site stamp : ℕ) (moves : List Move) (heaps : List ℕ) (left : List Book) (steps : List (List Step)) → left ≡ books_after site stamp moves (map books heaps) → AreAppended left (map books heaps) steps →
      steps ≡ map (λ h. moved_in K site stamp h moves (vector_of S h)) heaps
  moved_over site stamp moves heaps left steps led appended =
      moves_are site stamp K moves heaps books left steps (λ h. (are.each h).heaps) (λ h. (are.each h).heap) led appended ∙ vectors heaps
    where
      vectors : (hs : List ℕ) → map (λ h. moved_in K site stamp h moves (books h).state.vector) hs ≡ map (λ h. moved_in K site stamp h moves (vector_of S h)) hs
      vectors [] = refl
      vectors (h ∷ hs) = let rest = vectors hs in λ i. moved_in K site stamp h moves (vector_at h i) ∷ rest i

  -- the moves that a command made, over the queues of the heaps that it held
  pub run_found : (site stamp : ℕ) (command : Command) (heaps : List ℕ) (reply : Word) (steps : List (List Step)) → IsAnswered rule site stamp command reply (map books heaps) steps →
      (moves : List Move) × IsRunOver (queues_over rule S heaps) command moves reply × (steps ≡ map (λ h. moved_in K site stamp h moves (vector_of S h)) heaps)
  run_found site stamp command heaps reply steps is =
      let ran = ran_over rule site stamp command (map books heaps) is.left reply is.ran in (
        ran.0,
        subst (λ (q : Queues). IsRunOver q command ran.0 reply) (queues_are heaps) ran.1,
        moved_over site stamp ran.0 heaps is.left steps ran.2 is.appended,
      )

  run_off : (site stamp : ℕ) (command : Command) (w1 w2 : ℕ) (heaps : List ℕ) (reply : Word) (steps : List (List Step)) → 0 < K →
      AreHeapsFor (heaps_of command K) rule K command w1 w2 heaps (map books heaps) → IsAnswered rule site stamp command reply (map books heaps) steps →
      IsRunOff rule K site S command w1 w2 stamp heaps reply steps
  run_off site stamp command w1 w2 heaps reply steps some held is =
      let found = run_found site stamp command heaps reply steps is in (
        found.0,
        runs command w1 w2 found.0 reply heaps some (heaps_of command K) refl held found.1,
        found.2,
        λ m i. at_home rule K S world some heaps m command w1 w2 (map books heaps) found.0 reply (heaps_of command K) refl held found.1 i,
      )

  run_each_off : (site stamp : ℕ) (ps : List Procedure) (heaps : List ℕ) (replies : List Word) (steps : List (List Step)) → 0 < K → AreOwnIn stamp books heaps steps → heaps ≡ heaps_in K →
      AreAnswered rule site stamp ps replies (map books heaps) steps → IsRunEachOff rule K site S ps stamp heaps replies steps
  run_each_off site stamp ps heaps replies steps some own all is =
      let ran = each_from rule site stamp ps (map books heaps) is.left replies is.ran in
      let same : steps ≡ map (λ h. moved_in K site stamp h ran.0 (vector_of S h)) heaps = moved_over site stamp ran.0 heaps is.left steps ran.2 is.appended in
      let at : IsAt rule K site stamp some S books =
      record { world = world; closed = are.closed; heap = λ h. (are.each h).heap; heaps = λ h. (are.each h).heaps; state = λ h. (are.each h).state } in
      let legal = legal_from rule K site stamp some S books ran.0 at
      (subst (λ hs. AreOwnIn stamp books hs (map (λ h. moved_in K site stamp h ran.0 (vector_of S h)) hs)) all (subst (AreOwnIn stamp books heaps) same own)) in (
        ran.0,
        runs_off rule K site stamp some ps S books ran.0 replies at legal (subst (λ hs. AreRunsFrom rule site stamp ps (map books hs) ran.0 replies) all ran.1),
        all,
        same,
      )

  take_off : (site stamp : ℕ) (op : Placed) (heaps : List ℕ) (result : Result Taken TakeFault) (steps : List (List Step)) → IsTaken stamp op result (map books (op.operation.heap ∷ [])) steps →
      IsAnswerOf rule K site S (ToTake op) stamp heaps (Handed result) steps
  take_off site stamp op heaps (Ok taken) [] is = absurd is
  take_off site stamp op heaps (Ok taken) (ss ∷ []) is =
      let same = vector_at op.operation.heap in (
        is.0 ∙ ap (λ v. taken_of v op.operation) same,
        ap (λ (l : List Step). l ∷ []) (is.1 ∙ ap (λ v. steps_when (taken_of v op.operation) stamp op.operation) same),
      )
  take_off site stamp op heaps (Ok taken) (ss ∷ more ∷ steps) is = absurd is
  take_off site stamp op heaps (Err fault) [] is = absurd is
  take_off site stamp op heaps (Err unheld.WrongHeap) (ss ∷ []) is = absurd is
  take_off site stamp op heaps (Err unheld.Worn) (ss ∷ []) is = (inl refl, sym (ap (λ v. taken_of v op.operation) (vector_at op.operation.heap)) ∙ is.0, ap (λ (l : List Step). l ∷ []) is.2)
  take_off site stamp op heaps (Err unheld.NoMemory) (ss ∷ []) is = (inr refl, sym (ap (λ v. taken_of v op.operation) (vector_at op.operation.heap)) ∙ is.0, ap (λ (l : List Step). l ∷ []) is.1)
  take_off site stamp op heaps (Err fault) (ss ∷ more ∷ steps) is = absurd is

  take_all_off : (site stamp heap : ℕ) (ops : List Placed) (heaps : List ℕ) (answer : TakenAll) (steps : List (List Step)) → IsTakenAll stamp ops answer (map books (heap ∷ [])) steps →
      IsAnswerOf rule K site S (ToTakeAll heap ops) stamp heaps (HandedAll answer) steps
  take_all_off site stamp heap ops heaps answer [] is = absurd is
  take_all_off site stamp heap ops heaps answer (ss ∷ []) is =
      let its = are.each heap in
      let same : state_of (books heap) ≡ heap_as rule K S heap = (λ i. record { heap = its.heap i; heaps = its.heaps i; rule = its.ruled i; image = its.state i }) in
      ((books heap).count, ss, refl, subst (λ (s : HeapImage). IsTakenSoFar stamp ops answer s (books heap).count ss) same is)
  take_all_off site stamp heap ops heaps answer (ss ∷ more ∷ steps) is = absurd is

  merge_off : (site stamp : ℕ) (other : HeapImage) (heaps : List ℕ) (result : Result (Unit {0}) MergeFault) (steps : List (List Step)) → IsMerged stamp other result (map books (other.heap ∷ [])) steps →
      IsAnswerOf rule K site S (ToMerge other) stamp heaps (Joined result) steps
  merge_off site stamp other heaps (Ok done) [] is = absurd is
  merge_off site stamp other heaps (Ok done) (ss ∷ []) is = ap (λ (l : List Step). l ∷ []) is.1
  merge_off site stamp other heaps (Ok done) (ss ∷ more ∷ steps) is = absurd is
  merge_off site stamp other heaps (Err fault) [] is = absurd is
  merge_off site stamp other heaps (Err unjoined.WrongHeap) (ss ∷ []) is = absurd is
  merge_off site stamp other heaps (Err unjoined.WrongRule) (ss ∷ []) is = absurd is
  merge_off site stamp other heaps (Err unjoined.Worn) (ss ∷ []) is = (inl refl, ap (λ (l : List Step). l ∷ []) is.1)
  merge_off site stamp other heaps (Err unjoined.NoMemory) (ss ∷ []) is = (inr refl, ap (λ (l : List Step). l ∷ []) is.1)
  merge_off site stamp other heaps (Err fault) (ss ∷ more ∷ steps) is = absurd is

  take_over_off : (site stamp : ℕ) (other : HeapImage) (heaps : List ℕ) (result : Result (Unit {0}) TakeOverFault) (steps : List (List Step)) → IsTakenOver stamp other result (map books (other.heap ∷ [])) steps →
      IsAnswerOf rule K site S (ToTakeOver other) stamp heaps (TakenOver result) steps
  take_over_off site stamp other heaps (Ok done) [] is = absurd is
  take_over_off site stamp other heaps (Ok done) (ss ∷ []) is = (sym (ap (covers other.image.vector) (vector_at other.heap)) ∙ is.0, ap (λ (l : List Step). l ∷ []) is.2)
  take_over_off site stamp other heaps (Ok done) (ss ∷ more ∷ steps) is = absurd is
  take_over_off site stamp other heaps (Err fault) [] is = absurd is
  take_over_off site stamp other heaps (Err kept.WrongHeap) (ss ∷ []) is = absurd is
  take_over_off site stamp other heaps (Err kept.WrongRule) (ss ∷ []) is = absurd is
  take_over_off site stamp other heaps (Err kept.Worn) (ss ∷ []) is = (inl refl, ap (λ (l : List Step). l ∷ []) is.1)
  take_over_off site stamp other heaps (Err kept.Lacks) (ss ∷ []) is = (inr (refl, sym (ap (covers other.image.vector) (vector_at other.heap)) ∙ is.0), ap (λ (l : List Step). l ∷ []) is.1)
  take_over_off site stamp other heaps (Err fault) (ss ∷ more ∷ steps) is = absurd is

  show_off : (site stamp heap : ℕ) (heaps : List ℕ) (vector : List ℕ) (steps : List (List Step)) → IsShown vector (map books (heap ∷ [])) steps →
      IsAnswerOf rule K site S (ToShow heap) stamp heaps (Shown vector) steps
  show_off site stamp heap heaps vector [] is = absurd is
  show_off site stamp heap heaps vector (ss ∷ []) is = (is.0 ∙ vector_at heap, ap (λ (l : List Step). l ∷ []) is.1)
  show_off site stamp heap heaps vector (ss ∷ more ∷ steps) is = absurd is

  copy_off : (site stamp heap : ℕ) (heaps : List ℕ) (result : Result HeapImage ReadFault) (steps : List (List Step)) → IsCopied result (map books (heap ∷ [])) steps →
      IsAnswerOf rule K site S (ToCopy heap) stamp heaps (Copied result) steps
  copy_off site stamp heap heaps (Ok copy) [] is = absurd is
  copy_off site stamp heap heaps (Ok copy) (ss ∷ []) is =
      let its = are.each heap in
      (is.0 ∙ (λ i. record { heap = its.heap i; heaps = its.heaps i; rule = its.ruled i; image = its.state i }), ap (λ (l : List Step). l ∷ []) is.1)
  copy_off site stamp heap heaps (Ok copy) (ss ∷ more ∷ steps) is = absurd is
  copy_off site stamp heap heaps (Err fault) [] is = absurd is
  copy_off site stamp heap heaps (Err unread.Worn) (ss ∷ []) is = absurd is.0
  copy_off site stamp heap heaps (Err unread.NoMemory) (ss ∷ []) is = (refl, ap (λ (l : List Step). l ∷ []) is.1)
  copy_off site stamp heap heaps (Err fault) (ss ∷ more ∷ steps) is = absurd is

  portion_off : (site stamp heap : ℕ) (spot : Spot) (limits : PortionLimits) (heaps : List ℕ) (result : Result Portion ReadFault) (steps : List (List Step)) → IsPortioned spot limits result (map books (heap ∷ [])) steps →
      IsAnswerOf rule K site S (ToPortion heap spot limits) stamp heaps (Portioned result) steps
  portion_off site stamp heap spot limits heaps (Ok portion) [] is = absurd is
  portion_off site stamp heap spot limits heaps (Ok portion) (ss ∷ []) is =
      let its = are.each heap in
      let same : state_of (books heap) ≡ heap_as rule K S heap = (λ i. record { heap = its.heap i; heaps = its.heaps i; rule = its.ruled i; image = its.state i }) in
      (subst (λ (s : HeapImage). IsPortion s spot limits portion.part portion.next) same is.0, ap (λ (l : List Step). l ∷ []) is.1)
  portion_off site stamp heap spot limits heaps (Ok portion) (ss ∷ more ∷ steps) is = absurd is
  portion_off site stamp heap spot limits heaps (Err fault) [] is = absurd is
  portion_off site stamp heap spot limits heaps (Err unread.Worn) (ss ∷ []) is = absurd is.0
  portion_off site stamp heap spot limits heaps (Err unread.NoMemory) (ss ∷ []) is = (refl, ap (λ (l : List Step). l ∷ []) is.1)
  portion_off site stamp heap spot limits heaps (Err fault) (ss ∷ more ∷ steps) is = absurd is

  -- what the tail has that a vector lacks is what the set has, where the vector covers the base's
  lacked_alike : (stamp heap : ℕ) (vector : List ℕ) → covers vector (begun stamp (books heap)).base.vector ≡ true →
      AreSame (lacking vector (operations_of (begun stamp (books heap)).tail)) (lacking vector (in_heap heap S))
  lacked_alike stamp heap vector covered = record {
    forth = λ o i.
        let parts = in_filter_from (λ p. not (has vector p.site p.n)) (operations_of (begun stamp (books heap)).tail) o i in
        let mine : IsIn o S = its.told o parts.0 in
        in_filter (λ p. not (has vector p.site p.n)) (in_heap heap S) o (in_heap_too heap S o mine (tail_above heap its.start (operations_of (begun stamp (books heap)).tail) o its.tailed parts.0).0) parts.1;
    back = λ o i.
        let parts = in_filter_from (λ p. not (has vector p.site p.n)) (in_heap heap S) o i in
        let mine = of_heap heap S o parts.0 in
        in_filter (λ p. not (has vector p.site p.n)) (operations_of (begun stamp (books heap)).tail) o (elim (in_tail_set o its.start (operations_of (begun stamp (books heap)).tail) (its.all o mine.0 mine.1)) [
          | inl j ↦ absurd (true≢false (sym parts.1 ∙ ap not (known o mine.0 j mine.1)))
          | inr j ↦ j
        ]) parts.1;
  }
    where
      its : HasTailOf S heap (begun stamp (books heap))
      its = tail_begun K S world heap S (λ o i. i) stamp (books heap) (are.each heap).tail

      -- the vector covers what the base has
      known : (o : Operation) → IsIn o S → IsIn o its.start → o.heap ≡ heap → has vector o.site o.n ≡ true
      known o mine i at =
          let low = last_above its.start heap o.site o i at refl in
          let base : slice_index (begun stamp (books heap)).base.vector o.site ≡ slice_index (vector_of its.start heap) o.site = ap (λ (a : Image). slice_index a.vector o.site) its.base in
          let counter = (vector_is K its.start heap (world_part K its.start S its.within world)).counter o.site in
          let most = covers_at vector (begun stamp (books heap)).base.vector o.site covered (world.each o mine).site in
          has_from vector o.site o.n (counter_positive K S o world mine) (omega (arith, low, base, counter, most))

  -- what a peer lacks of the set
  told_off : (stamp heap : ℕ) (vector : List ℕ) (since : Since) → IsSince vector since (begun stamp (books heap)) → IfOps since (AreLacked K S heap vector)
  told_off stamp heap vector TooOld is = tt
  told_off stamp heap vector (Ops ops) is = record {
    told = lacking vector (operations_of (begun stamp (books heap)).tail);
    placed = is.ops ∙ ap (λ k. map (placed_at k) (lacking vector (operations_of (begun stamp (books heap)).tail))) (are.each heap).heaps;
    same = lacked_alike stamp heap vector (not_false _ is.too_old);
  }

  -- the first that a log lacks of it
  drained_off : (stamp heap : ℕ) (vector : List ℕ) (most : ℕ) (since : Since) → IsFirstSince vector most since (begun stamp (books heap)) → IfOps since (AreFirstLacked K S heap vector most)
  drained_off stamp heap vector most TooOld is = tt
  drained_off stamp heap vector most (Ops ops) is = record {
    told = lacking vector (operations_of (begun stamp (books heap)).tail);
    placed = is.ops ∙ ap (λ k. map (placed_at k) (take most (lacking vector (operations_of (begun stamp (books heap)).tail)))) (are.each heap).heaps;
    same = lacked_alike stamp heap vector (not_false _ is.too_old);
  }

  -- and its book may be told what was handed on
  may_hand_on : (stamp newest : ℕ) (b : Book) (ss : List Step) → AreHandings stamp newest b ss → MayHandOn stamp (ss ∷ [])
  may_hand_on stamp newest b ss (inl none) = inl (ap (λ (l : List Step). l ∷ []) none.0)
  may_hand_on stamp newest b ss (inr told) = inr (b.count + 1 - newest, ap (λ (l : List Step). l ∷ []) told.0)

  tell_off : (site stamp heap : ℕ) (vector : List ℕ) (heaps : List ℕ) (result : Result Since ReadFault) (steps : List (List Step)) → IsTold stamp vector result (map books (heap ∷ [])) steps →
      IsAnswerOf rule K site S (ToTell heap vector) stamp heaps (Told result) steps
  tell_off site stamp heap vector heaps result [] is = absurd is
  tell_off site stamp heap vector heaps (Ok since) (ss ∷ []) is = (told_off stamp heap vector since is.0, ap (λ (l : List Step). l ∷ []) is.1)
  tell_off site stamp heap vector heaps (Err unread.Worn) (ss ∷ []) is = absurd is.0
  tell_off site stamp heap vector heaps (Err unread.NoMemory) (ss ∷ []) is = (refl, ap (λ (l : List Step). l ∷ []) is.1)
  tell_off site stamp heap vector heaps result (ss ∷ more ∷ steps) is = absurd is

  drain_off : (site stamp heap : ℕ) (vector : List ℕ) (most : ℕ) (heaps : List ℕ) (result : Result Since ReadFault) (steps : List (List Step)) → IsDrained stamp vector most result (map books (heap ∷ [])) steps →
      IsAnswerOf rule K site S (ToDrain heap vector most) stamp heaps (Told result) steps
  drain_off site stamp heap vector most heaps result [] is = absurd is
  drain_off site stamp heap vector most heaps (Ok (Ops ops)) (ss ∷ []) is =
      (drained_off stamp heap vector most (Ops ops) is.0, may_hand_on stamp (unhanded_of vector (begun stamp (books heap))) (begun stamp (books heap)) ss is.1)
  drain_off site stamp heap vector most heaps (Ok TooOld) (ss ∷ []) is = ap (λ (l : List Step). l ∷ []) is.1
  drain_off site stamp heap vector most heaps (Err unread.Worn) (ss ∷ []) is = absurd is.0
  drain_off site stamp heap vector most heaps (Err unread.NoMemory) (ss ∷ []) is = (refl, ap (λ (l : List Step). l ∷ []) is.1)
  drain_off site stamp heap vector most heaps result (ss ∷ more ∷ steps) is = absurd is

  -- where a book says that keys were not changed, the set has nothing more on them than its vector
  unchanged : (stamp heap : ℕ) (vector : List ℕ) (keys : List Word) → is_untouched vector keys (begun stamp (books heap)) ≡ true → IsUnchanged S heap vector (is_among keys)
  unchanged stamp heap vector keys says = λ o mine at among.
      let parts = and_parts _ _ says in
      elim (cases_Bool (has vector o.site o.n)) [
        | inl known ↦ known
        | inr lacked ↦
            let ops : List Operation = lacking vector (operations_of (begun stamp (books heap)).tail) in
            let told : IsIn o ops = (lacked_alike stamp heap vector parts.0).back o (in_filter (λ p. not (has vector p.site p.n)) (in_heap heap S) o (in_heap_too heap S o mine at) (ap not lacked)) in
            let apart : is_apart keys o ≡ true = all_in (is_apart keys) ops o parts.1 told in
            absurd (true≢false (sym apart ∙ ap not among))
      ]
    where
      all_in : (p : Operation → Bool) (ops : List Operation) (o : Operation) → list_all p ops ≡ true → IsIn o ops → p o ≡ true
      all_in p [] o all here = absurd here
      all_in p (q ∷ ops) o all (inl same) = ap p (sym same) ∙ (and_parts _ _ all).0
      all_in p (q ∷ ops) o all (inr there) = all_in p ops o (and_parts _ _ all).1 there

  all_unchanged : (stamp : ℕ) (keys : List Word) (heaps : List ℕ) (vectors : List (List ℕ)) → are_untouched vectors keys (map (begun stamp) (map books heaps)) ≡ true → AreUnchanged S heaps vectors (is_among keys)
  all_unchanged stamp keys [] vectors says = tt
  all_unchanged stamp keys (h ∷ heaps) [] says = absurd (true≢false (sym says))
  all_unchanged stamp keys (h ∷ heaps) (v ∷ vectors) says =
      let parts = and_parts _ _ says in
      (unchanged stamp h v keys parts.0, all_unchanged stamp keys heaps vectors parts.1)

  abbrev no_steps : List Step
  no_steps = []

  idle_over : (heaps : List ℕ) → map (λ (b : Book). no_steps) (map books heaps) ≡ map (λ (h : ℕ). no_steps) heaps
  idle_over [] = refl
  idle_over (h ∷ heaps) = ap (λ (l : List (List Step)). [] ∷ l) (idle_over heaps)

  -- the answer to what was asked, and the steps, over the books of its heaps
  pub read_off : (site stamp : ℕ) (asked : Asked) (heaps : List ℕ) (answer : Answer) (steps : List (List Step)) → 0 < K → AreOwnIn stamp books heaps steps → Does rule K site stamp asked heaps answer (map books heaps) steps →
      IsAnswerOf rule K site S asked stamp heaps answer steps
  read_off site stamp (ToRun command w1 w2) heaps (Replied reply) steps some own is = run_off site stamp command w1 w2 heaps reply steps some is.0 is.1
  read_off site stamp (ToRunEach calls) heaps (RepliedEach replies) steps some own is = run_each_off site stamp (map procedure calls) heaps replies steps some own is.0 is.1
  read_off site stamp (ToRunWatched watch calls) heaps (RepliedIf (Some replies)) steps some own is =
      (all_unchanged stamp watch.keys heaps watch.vectors is.1.0, run_each_off site stamp (map procedure calls) heaps replies steps some own is.0 is.1.1)
  read_off site stamp (ToRunWatched watch calls) heaps (RepliedIf None) steps some own is = (is.0, is.1.1 ∙ idle_over heaps)
  read_off site stamp (ToTake op) heaps (Handed result) steps some own is =
      take_off site stamp op heaps result steps (subst (λ hs. IsTaken stamp op result (map books hs) steps) is.0 is.1)
  read_off site stamp (ToTakeAll heap ops) heaps (HandedAll answer) steps some own is =
      take_all_off site stamp heap ops heaps answer steps (subst (λ hs. IsTakenAll stamp ops answer (map books hs) steps) is.0 is.1)
  read_off site stamp (ToMerge other) heaps (Joined result) steps some own is =
      merge_off site stamp other heaps result steps (subst (λ hs. IsMerged stamp other result (map books hs) steps) is.0 is.1)
  read_off site stamp (ToTakeOver other) heaps (TakenOver result) steps some own is =
      take_over_off site stamp other heaps result steps (subst (λ hs. IsTakenOver stamp other result (map books hs) steps) is.0 is.1)
  read_off site stamp (ToShow heap) heaps (Shown vector) steps some own is =
      show_off site stamp heap heaps vector steps (subst (λ hs. IsShown vector (map books hs) steps) is.0 is.1)
  read_off site stamp (ToCopy heap) heaps (Copied result) steps some own is =
      copy_off site stamp heap heaps result steps (subst (λ hs. IsCopied result (map books hs) steps) is.0 is.1)
  read_off site stamp (ToPortion heap spot limits) heaps (Portioned result) steps some own is =
      portion_off site stamp heap spot limits heaps result steps (subst (λ hs. IsPortioned spot limits result (map books hs) steps) is.0 is.1)
  read_off site stamp (ToTell heap vector) heaps (Told result) steps some own is =
      tell_off site stamp heap vector heaps result steps (subst (λ hs. IsTold stamp vector result (map books hs) steps) is.0 is.1)
  read_off site stamp (ToDrain heap vector most) heaps (Told result) steps some own is =
      drain_off site stamp heap vector most heaps result steps (subst (λ hs. IsDrained stamp vector most result (map books hs) steps) is.0 is.1)
  read_off site stamp asked heaps answer steps some own is = absurd is

-- ---- commands that only read

-- they make no move
reads_only : (command : Command) (queues : Queues) → is_reading command ≡ true → (plan_of command queues).moves ≡ []
reads_only (Zscore key member) queues reads = refl
reads_only (Zcard key) queues reads = refl
reads_only (Zcount key min max) queues reads = refl
reads_only (Zrank key member) queues reads = refl
reads_only (Zrevrank key member) queues reads = refl
reads_only (Zrange key range is_turned with_scores) queues reads = refl
reads_only (Ping message) queues reads = absurd (true≢false (sym reads))
reads_only (Zadd key flags pairs) queues reads = absurd (true≢false (sym reads))
reads_only (ZaddIncr key flags increment member) queues reads = absurd (true≢false (sym reads))
reads_only (Zincrby key increment member) queues reads = absurd (true≢false (sym reads))
reads_only (Zrem key members) queues reads = absurd (true≢false (sym reads))
reads_only (Zpopmin key count) queues reads = absurd (true≢false (sym reads))
reads_only (Zpopnear key) queues reads = absurd (true≢false (sym reads))
reads_only (Del keys) queues reads = absurd (true≢false (sym reads))

-- and are cut at once, with the same words
pops_none : (command : Command) → is_reading command ≡ true → popped_of command ≡ None
pops_none (Zscore key member) reads = refl
pops_none (Zcard key) reads = refl
pops_none (Zcount key min max) reads = refl
pops_none (Zrank key member) reads = refl
pops_none (Zrevrank key member) reads = refl
pops_none (Zrange key range is_turned with_scores) reads = refl
pops_none (Ping message) reads = refl
pops_none (Zadd key flags pairs) reads = refl
pops_none (ZaddIncr key flags increment member) reads = refl
pops_none (Zincrby key increment member) reads = refl
pops_none (Zrem key members) reads = refl
pops_none (Zpopmin key count) reads = absurd (true≢false (sym reads))
pops_none (Zpopnear key) reads = absurd (true≢false (sym reads))
pops_none (Del keys) reads = refl

-- what it takes memory for is its reply
pub for_reply : (command : Command) (queues : Queues) → is_reading command ≡ true → (is_long : Bool) × (counted : ℕ) × (takes_of command queues ≡ ForReply is_long counted)
for_reply (Zscore key member) queues reads = (_, _, refl)
for_reply (Zcard key) queues reads = (_, _, refl)
for_reply (Zcount key min max) queues reads = (_, _, refl)
for_reply (Zrank key member) queues reads = (_, _, refl)
for_reply (Zrevrank key member) queues reads = (_, _, refl)
for_reply (Zrange key range is_turned with_scores) queues reads = (_, _, refl)
for_reply (Ping message) queues reads = absurd (true≢false (sym reads))
for_reply (Zadd key flags pairs) queues reads = absurd (true≢false (sym reads))
for_reply (ZaddIncr key flags increment member) queues reads = absurd (true≢false (sym reads))
for_reply (Zincrby key increment member) queues reads = absurd (true≢false (sym reads))
for_reply (Zrem key members) queues reads = absurd (true≢false (sym reads))
for_reply (Zpopmin key count) queues reads = absurd (true≢false (sym reads))
for_reply (Zpopnear key) queues reads = absurd (true≢false (sym reads))
for_reply (Del keys) queues reads = absurd (true≢false (sym reads))

short_at : (takes : Takes) (is_long : Bool) (counted k : ℕ) (moves : ℕ) → takes ≡ ForReply is_long counted → IsCutAt Memory takes k moves → (k ≤ moves) × MayLack takes 0 None []
short_at takes is_long counted k moves is few =
    let both : (k ≤ moves) × IsReadShort is_long counted = subst (λ t. IsCutAt Memory t k moves) is few in
    (both.0, subst (λ t. MayLack t 0 None []) (sym is) both.1)

-- where the set has no more members than a reply counts, a list alone may be short
pub listed_short : (command : Command) (queues : Queues) → is_reading command ≡ true → ((key : List ℕ) → length (queues key) ≤ 288230376151711744) → MayLack (takes_of command queues) 0 None [] →
    is_list queues (Ok command) ≡ true
listed_short (Zscore key member) queues reads few (inl text) = absurd (true≢false (sym text))
listed_short (Zscore key member) queues reads few (inr many) = absurd (omega (arith, many))
listed_short (Zcard key) queues reads few (inl text) = absurd (true≢false (sym text))
listed_short (Zcard key) queues reads few (inr many) = let most = few key in absurd (omega (arith, many, most))
listed_short (Zcount key min max) queues reads few (inl text) = absurd (true≢false (sym text))
listed_short (Zcount key min max) queues reads few (inr many) = let most = few key in absurd (omega (arith, many, most))
listed_short (Zrank key member) queues reads few (inl text) = absurd (true≢false (sym text))
listed_short (Zrank key member) queues reads few (inr many) = let most = few key in absurd (omega (arith, many, most))
listed_short (Zrevrank key member) queues reads few (inl text) = absurd (true≢false (sym text))
listed_short (Zrevrank key member) queues reads few (inr many) = let most = few key in absurd (omega (arith, many, most))
listed_short (Zrange key range is_turned with_scores) queues reads few (inl text) = text
listed_short (Zrange key range is_turned with_scores) queues reads few (inr many) = let most = few key in absurd (omega (arith, many, most))
listed_short (Ping message) queues reads few lacks = absurd (true≢false (sym reads))
listed_short (Zadd key flags pairs) queues reads few lacks = absurd (true≢false (sym reads))
listed_short (ZaddIncr key flags increment member) queues reads few lacks = absurd (true≢false (sym reads))
listed_short (Zincrby key increment member) queues reads few lacks = absurd (true≢false (sym reads))
listed_short (Zrem key members) queues reads few lacks = absurd (true≢false (sym reads))
listed_short (Zpopmin key count) queues reads few lacks = absurd (true≢false (sym reads))
listed_short (Zpopnear key) queues reads few lacks = absurd (true≢false (sym reads))
listed_short (Del keys) queues reads few lacks = absurd (true≢false (sym reads))

read_over : (queues : Queues) (command : Command) (moves : List Move) (reply : Word) → is_reading command ≡ true → ((key : List ℕ) → length (queues key) ≤ 288230376151711744) →
    IsRunOver queues command moves reply → IsOrShort (is_list queues (Ok command)) (bytes_of (plan_of command queues).reply) reply
read_over queues command moves reply reads few (in_full are says) = inl says
read_over queues command moves reply reads few (cut_off k Memory low are says) =
    let none = ap length (reads_only command queues reads) in
    let takes = for_reply command queues reads in
    let short = short_at (takes_of command queues) takes.0 takes.1 k (length (plan_of command queues).moves) takes.2 low in
    let most = short.0 in
    let first : k ≡ 0 = omega (arith, most, none) in
    inr (listed_short command queues reads few short.1, says ∙ ap (λ popped. bytes_of (cut_pop popped queues k Memory)) (pops_none command reads) ∙ ap (λ n. bytes_of (cut_error n Memory)) first)
read_over queues command moves reply reads few (cut_off k Number low are says) =
    let none = ap length (reads_only command queues reads) in absurd (omega (arith, low, none))

pub reads_so : (rule : Rule) (K : ℕ) (S : List Operation) (w1 w2 : ℕ) (command : Command) (moves : List Move) (reply : Word) → 2 ≤ K → IsWorld K S → is_reading command ≡ true →
    IsRunOf rule K S w1 w2 command moves reply →
    IsOrShort (is_list (queues_over rule S (heaps_in K)) (Ok command)) (bytes_of (plan_of command (queues_over rule S (heaps_in K))).reply) reply
reads_so rule K S w1 w2 command moves reply two world reads (over_all says) =
    read_over (queues_over rule S (heaps_in K)) command moves reply reads
    (λ key. few_members K S world key rule (queues_over rule S (heaps_in K) key) (whole_queue_is rule K S key world (omega (arith, two)))) says
reads_so rule K S w1 w2 command moves reply two world reads (over_drawn key is some says) = absurd (true≢false (sym (ap is_reading (sym is) ∙ reads)))
