-- A command over the books of several heaps, from where its call began to where it ended.

use Rattle.std.proofs.Common.{ap, arith, inl, inr, refl, subst, sym, ◌∙◌}
use Rattle.std.proofs.lemmas.List.{append-nil}
use Rattle.std.specs.Prelude.{IfSome, List, Some, [], length, map, max, slice_get, ℕ, ◌+◌, ◌<◌, ◌∷◌, ◌≡◌, ◌≤◌}
use Rattle.zq_commands.specs.Lending.{IsLending}
use Rattle.zq_commands.specs.VecBooks.{IsRecordedOn, lending_of, rule_in}
use Rattle.zq_dots.specs.Rule.{rule_of}
use Rattle.zq_model.specs.Books.{Book, Step, steps_of}
use Rattle.zq_model.specs.Reach.{IsWorked, begun}
use Rattle.zq_model.specs.Bounded.{IsBounded}
use Rattle.zq_model.specs.Sets.{IsIn}
use Rattle.zq_model.specs.Lent.{AreLent}
use Rattle.zq_semantics.specs.Procedures.{Procedure, RunsAll}
use Rattle.zq_semantics.specs.Run.{IsRun}
use Rattle.zq_spread.proofs.Commanded.{appended}
use Rattle.zq_spread.proofs.ManyHeaps.{seen_same, steps_same, turns_same}
use Rattle.zq_spread.proofs.LeftAsGiven.{worked_once}
use Rattle.zq_spread.proofs.Twins.{AreTwins, begun_twin, each_twins, run_twins}
use Rattle.zq_spread.specs.Calls.{AreWorkedIn, IsCall, greatest_stamp, heaps_of}
use Rattle.zq_spread.specs.Commanded.{AreAppended}
use Rattle.zq_spread.specs.Dispatch.{DoesCommand, HasHeldEach, IsCommandOver}
use Rattle.zq_spread.specs.Each.{AreCalledOver, DoesEach}
use Rattle.zq_spread.specs.Passes.{IsSlotAt, seen_at, steps_at}
use Rattle.zq_spread.specs.HeapSlots.{IsWorkedOn}
use Rattle.zq_spread.specs.Several.{AreBegunAt, AreBooksAt, AreHeapsOf, AreHeldOn, HasEndedIn, IsBegunAt, IsHeldOn, IsSameOutside, MayEndIn, books_of}
use Rattle.zq_spread.specs.Watching.{AreIdle, IsIdleOver}
use Rattle.zq_spread.specs.Turns.{HasHeldOnce, HasTurn, turns_at}
use Rattle.zq_spread.specs.declared.locked_heap.LockedHeap.{LockedHeap}
use Rattle.zq_spread.specs.declared.pass.Pass.{Pass}
use Rattle.zq_spread.specs.declared.heap_slot.HeapSlot.{HeapSlot}
use Rattle.zq_spread.specs.declared.site.Site.{Site}
use Rattle.zq_ticketlock.specs.Seats.{entry, held_logged, value_of}
use Rattle.zq_ticketlock.specs.declared.held.Held.{Held}
use Rattle.zq_words.specs.Command.{Command}
use Rattle.zq_words.specs.Words.{Word}

-- ---- the books may be lent

module _ (site : Site) (slots : (h : ℕ) (slot : HeapSlot) → slice_get site.slots.items h ≡ Some slot → IsSlotAt site h slot) where
  pub begun_books : (before : Pass) (stamp : ℕ) (heaps : List ℕ) (helds : List (Held LockedHeap)) (found : List LockedHeap) → AreBegunAt site before stamp heaps helds found → AreBooksAt site heaps (books_of helds)
  begun_books before stamp [] [] [] are = tt
  begun_books before stamp [] [] (x ∷ found) are = absurd are
  begun_books before stamp [] (held ∷ helds) found are = absurd are
  begun_books before stamp (h ∷ heaps) [] found are = absurd are
  begun_books before stamp (h ∷ heaps) (held ∷ helds) [] are = absurd are
  begun_books before stamp (h ∷ heaps) (held ∷ helds) (x ∷ found) are =
      let is = are.0 in
      let slot = slots h is.slot is.at in (
        record {
          heap = is.worked.heap ∙ is.of.heap ∙ slot.0;
          heaps = is.worked.heaps ∙ is.of.heaps ∙ slot.1;
          rule = is.worked.rule ∙ is.of.rule ∙ ap rule_of slot.2;
          bounded = is.bounded;
        },
        begun_books before stamp heaps helds found are.1,
      )

  heap_in : (heaps : List ℕ) (books : List Book) (b : Book) → AreBooksAt site heaps books → IsIn b books → IsIn b.heap heaps
  heap_in [] [] b are here = absurd here
  heap_in [] (c ∷ books) b are here = absurd are
  heap_in (h ∷ heaps) [] b are here = absurd here
  heap_in (h ∷ heaps) (c ∷ books) b are (inl same) = inl (sym are.0.heap ∙ ap (λ (d : Book). d.heap) same)
  heap_in (h ∷ heaps) (c ∷ books) b are (inr there) = inr (heap_in heaps books b are.1 there)

  lent_at : (heaps : List ℕ) (books : List Book) → AreHeapsOf site heaps → AreBooksAt site heaps books → AreLent (heaps_of site) books
  lent_at [] [] rising are = tt
  lent_at [] (c ∷ books) rising are = absurd are
  lent_at (h ∷ heaps) [] rising are = tt
  lent_at (h ∷ heaps) (c ∷ books) rising are = (
    record { heaps = are.0.heaps; bounded = subst (λ (k : ℕ). IsBounded k c.heap c.state) are.0.heaps are.0.bounded },
    λ later there. let low = rising.1 later.heap (heap_in heaps books later are.1 there) in let is = are.0.heap in omega (arith, low, is),
    lent_at heaps books rising.2 are.1,
  )

  ruled_at : (heaps : List ℕ) (books : List Book) (b : Book) → AreBooksAt site heaps books → IsIn b books → b.rule ≡ rule_of site.rule
  ruled_at [] [] b are here = absurd here
  ruled_at [] (c ∷ books) b are here = absurd are
  ruled_at (h ∷ heaps) [] b are here = absurd here
  ruled_at (h ∷ heaps) (c ∷ books) b are (inl same) = ap (λ (d : Book). d.rule) (sym same) ∙ are.0.rule
  ruled_at (h ∷ heaps) (c ∷ books) b are (inr there) = ruled_at heaps books b are.1 there

  pub rule_at : (heaps : List ℕ) (books : List Book) → 0 < length heaps → AreBooksAt site heaps books → rule_in books ≡ rule_of site.rule
  rule_at [] books some are = absurd (omega (arith, some))
  rule_at (h ∷ heaps) [] some are = absurd are
  rule_at (h ∷ heaps) (c ∷ books) some are = are.0.rule

  pub lends_at : (heaps : List ℕ) (books : List Book) → AreHeapsOf site heaps → AreBooksAt site heaps books → IsLending (lending_of books)
  lends_at [] [] rising are = record { books = tt; ruled = λ b here. absurd here }
  lends_at [] (c ∷ books) rising are = absurd are
  lends_at (h ∷ heaps) [] rising are = absurd are
  lends_at (h ∷ heaps) (c ∷ books) rising are = record {
    books = subst (λ K. AreLent K (c ∷ books)) (sym are.0.heaps) (lent_at (h ∷ heaps) (c ∷ books) rising are);
    ruled = λ b here. ruled_at (h ∷ heaps) (c ∷ books) b are here ∙ sym are.0.rule;
  }

-- each book has the call's stamp
pub begun_dated : (site : Site) (before : Pass) (stamp : ℕ) (heaps : List ℕ) (helds : List (Held LockedHeap)) (found : List LockedHeap) (b : Book) → AreBegunAt site before stamp heaps helds found →
    IsIn b (books_of helds) → b.stamp ≤ stamp
begun_dated site before stamp [] [] [] b are here = absurd here
begun_dated site before stamp [] [] (x ∷ found) b are here = absurd are
begun_dated site before stamp [] (held ∷ helds) found b are here = absurd are
begun_dated site before stamp (h ∷ heaps) [] found b are here = absurd are
begun_dated site before stamp (h ∷ heaps) (held ∷ helds) [] b are here = absurd are
begun_dated site before stamp (h ∷ heaps) (held ∷ helds) (x ∷ found) b are (inl same) =
    let is = are.0.worked.stamp_is in let stamp_same = ap (λ (d : Book). d.stamp) same in omega (arith, is, stamp_same)
begun_dated site before stamp (h ∷ heaps) (held ∷ helds) (x ∷ found) b are (inr there) = begun_dated site before stamp heaps helds found b are.1 there

-- ---- what the command made

abbrev steps_each : (olds news : List (Held LockedHeap)) → AreHeldOn olds news → List (List Step)
steps_each [] [] on = []
steps_each [] (y ∷ news) on = []
steps_each (x ∷ olds) [] on = []
steps_each (x ∷ olds) (y ∷ news) on = steps_of on.0.kept.1.records ∷ steps_each olds news on.1

-- a heap that is held, and on which nothing was worked
abbrev recorded_idle : (b : Book) → IsRecordedOn b b
recorded_idle b = record {
  stamp = omega arith;
  records = [];
  tail = sym (append-nil b.tail);
  worked = λ start steps w. subst (λ s. IsWorked b start b.stamp s) (sym (append-nil steps)) w;
}

abbrev held_idle : (helds : List (Held LockedHeap)) → AreHeldOn helds helds
held_idle [] = tt
held_idle (x ∷ helds) = (record { lock = refl; was_given = refl; kept = (refl, recorded_idle (value_of x).book); turns = refl }, held_idle helds)

module _ (site : Site) (before : Pass) (stamp : ℕ) where
  begun_twins : (heaps : List ℕ) (helds : List (Held LockedHeap)) (found : List LockedHeap) → AreBegunAt site before stamp heaps helds found →
      AreTwins (books_of helds) (map (λ (x : LockedHeap). x.book) found) (books_of helds) (map (λ (x : LockedHeap). x.book) found)
  begun_twins [] [] [] are = tt
  begun_twins [] [] (x ∷ found) are = absurd are
  begun_twins [] (held ∷ helds) found are = absurd are
  begun_twins (h ∷ heaps) [] found are = absurd are
  begun_twins (h ∷ heaps) (held ∷ helds) [] are = absurd are
  begun_twins (h ∷ heaps) (held ∷ helds) (x ∷ found) are = (begun_twin (value_of held).book x.book stamp are.0.worked, begun_twins heaps helds found are.1)

  appended_each : (heaps : List ℕ) (olds news : List (Held LockedHeap)) (found : List LockedHeap) (left : List Book) → AreBegunAt site before stamp heaps olds found → (on : AreHeldOn olds news) →
      AreTwins (books_of olds) (map (λ (x : LockedHeap). x.book) found) (books_of news) left → AreAppended left (map (λ (x : LockedHeap). x.book) found) (steps_each olds news on)
  appended_each [] [] [] [] [] are on twins = tt
  appended_each [] [] [] [] (l ∷ left) are on twins = absurd twins
  appended_each [] [] news (x ∷ found) left are on twins = absurd are
  appended_each [] [] (y ∷ news) [] left are on twins = absurd on
  appended_each [] (held ∷ olds) news found left are on twins = absurd are
  appended_each (h ∷ heaps) [] news found left are on twins = absurd are
  appended_each (h ∷ heaps) (held ∷ olds) news [] left are on twins = absurd are
  appended_each (h ∷ heaps) (held ∷ olds) [] (x ∷ found) left are on twins = absurd on
  appended_each (h ∷ heaps) (held ∷ olds) (y ∷ news) (x ∷ found) [] are on twins = absurd twins
  appended_each (h ∷ heaps) (held ∷ olds) (y ∷ news) (x ∷ found) (l ∷ left) are on twins = (
    appended (value_of held).book x.book (value_of y).book l on.0.kept.1.records on.0.kept.1.tail twins.0,
    appended_each heaps olds news found left are.1 on.1 twins.1,
  )

  -- the own work of the call in one heap
  work_of : (h : ℕ) (held y : Held LockedHeap) (x : LockedHeap) → IsBegunAt site before stamp h held x → (on : IsHeldOn held y) → (value_of y).book.stamp ≤ stamp →
      IsWorked (value_of y).book x.book stamp (steps_of on.kept.1.records)
  work_of h held y x is on high =
      let low = on.kept.1.stamp in
      let dated = is.worked.stamp_is in
      let same : (value_of y).book.stamp ≡ stamp = omega (arith, high, low, dated) in
      subst (λ s. IsWorked (value_of y).book x.book s (steps_of on.kept.1.records)) same
      (on.kept.1.worked x.book [] (subst (λ s. IsWorked (value_of held).book x.book s []) (sym same) is.worked))

  -- a heap may be ended where the command has worked
  pub may_end_each : (heaps : List ℕ) (olds news : List (Held LockedHeap)) (found : List LockedHeap) → AreBegunAt site before stamp heaps olds found → AreHeldOn olds news →
      ((b : Book) → IsIn b (books_of news) → b.stamp ≤ stamp) → MayEndIn site heaps news
  may_end_each [] [] [] found are on low = tt
  may_end_each [] [] (y ∷ news) found are on low = absurd on
  may_end_each [] (held ∷ olds) news found are on low = absurd are
  may_end_each (h ∷ heaps) [] news found are on low = absurd are
  may_end_each (h ∷ heaps) (held ∷ olds) news [] are on low = absurd are
  may_end_each (h ∷ heaps) (held ∷ olds) [] (x ∷ found) are on low = absurd on
  may_end_each (h ∷ heaps) (held ∷ olds) (y ∷ news) (x ∷ found) are on low = (
    record {
      slot = are.0.slot;
      at = are.0.at;
      lock = on.0.lock ∙ are.0.lock;
      worked = subst (λ o. IfSome o (IsWorkedOn are.0.slot (value_of y))) (sym (on.0.was_given ∙ are.0.was_given))
          (record {
            home = are.0.home;
            of = are.0.of;
            stamp = stamp;
            later = are.0.later;
            steps = steps_of on.0.kept.1.records;
            worked = work_of h held y x are.0 on.0 (low (value_of y).book (inl refl));
            total = on.0.kept.0 ∙ are.0.total;
          });
    },
    may_end_each heaps olds news found are.1 on.1 (λ b here. low b (inr here)),
  )

  -- and where it ended, the pass has seen what the command left
  ended_each : (mid after : Pass) (heaps : List ℕ) (olds news : List (Held LockedHeap)) (found : List LockedHeap) → AreBegunAt site before stamp heaps olds found → (on : AreHeldOn olds news) →
      ((b : Book) → IsIn b (books_of news) → b.stamp ≤ stamp) → after.stamp ≡ stamp → ((k : ℕ) → steps_at mid k ≡ steps_at before k) → HasEndedIn mid after heaps news →
      (left : List LockedHeap) × AreWorkedIn before after heaps found left (steps_each olds news on) × HasHeldEach before after heaps
  ended_each mid after [] [] [] [] are on low dated steps ended = ([], tt, λ k none. absurd none)
  ended_each mid after [] [] [] (x ∷ found) are on low dated steps ended = absurd are
  ended_each mid after [] [] (y ∷ news) found are on low dated steps ended = absurd on
  ended_each mid after [] (held ∷ olds) news found are on low dated steps ended = absurd are
  ended_each mid after (h ∷ heaps) [] news found are on low dated steps ended = absurd are
  ended_each mid after (h ∷ heaps) (held ∷ olds) news [] are on low dated steps ended = absurd are
  ended_each mid after (h ∷ heaps) (held ∷ olds) [] (x ∷ found) are on low dated steps ended = absurd on
  ended_each mid after (h ∷ heaps) (held ∷ olds) (y ∷ news) (x ∷ found) are on low dated steps ended =
      let rest = ended_each mid after heaps olds news found are.1 on.1 (λ b here. low b (inr here)) dated steps ended.1 in
      let own : List Step = steps_of on.0.kept.1.records in
      let work : IsWorked (value_of y).book x.book stamp own = work_of h held y x are.0 on.0 (low (value_of y).book (inl refl)) in
      let counted : steps_at after h + x.book.count ≡ steps_at mid h + (value_of y).book.count =
      subst (λ o. IfSome o (λ (z : LockedHeap). steps_at after h + z.book.count ≡ steps_at mid h + (value_of y).book.count)) (on.0.was_given ∙ are.0.was_given) ended.0.steps in
      let turn : HasTurn x ended.0.left (turns_at after h) (turns_at before h) =
      subst (λ l. HasTurn x ended.0.left (turns_at after h) l) (on.0.turns ∙ are.0.turns)
      (subst (λ o. IfSome o (λ (z : LockedHeap). HasTurn z ended.0.left (turns_at after h) (held_logged y))) (on.0.was_given ∙ are.0.was_given) ended.0.turn) in (
        ended.0.left ∷ rest.0,
        (
          record {
            follows = are.0.follows;
            worked = subst (λ b. IsWorked b x.book after.stamp own) (sym ended.0.book) (subst (λ n. IsWorked (value_of y).book x.book n own) (sym dated) work);
            seen = ended.0.seen;
            own = let made = work.count in let same = steps h in omega (arith, counted, made, same);
            turn = worked_once x ended.0.left (turns_at after h) (turns_at before h) turn;
          },
          rest.1,
        ),
        λ k is. elim is [ inl same ↦ subst (λ j. HasHeldOnce before after j) same (entry turn.0 x ended.0.left, turn.1) | inr here ↦ rest.2 k here ],
      )

  -- so it is a call, of whatever was done with these steps
  call_over : (Does : List Book → List (List Step) → Type 0) (mid after : Pass) (heaps : List ℕ) (olds news : List (Held LockedHeap)) (found : List LockedHeap) → AreBegunAt site before stamp heaps olds found →
      (on : AreHeldOn olds news) → ((b : Book) → IsIn b (books_of news) → b.stamp ≤ stamp) → after.stamp ≡ stamp → IsSameOutside heaps before mid → HasEndedIn mid after heaps news →
      ((k : ℕ) → (IsIn k heaps → ⊥) → (seen_at after k ≡ seen_at mid k) × (steps_at after k ≡ steps_at mid k) × (turns_at after k ≡ turns_at mid k)) → stamp ≡ max before.stamp (greatest_stamp found) + 1 →
      Does (map (λ (x : LockedHeap). x.book) found) (steps_each olds news on) →
      (call : IsCall Does before after heaps) × (call.found ≡ found) × HasHeldEach before after heaps
  call_over Does mid after heaps olds news found are on low dated outside ended others next done =
      let steps = λ (k : ℕ). steps_same heaps before mid k outside in
      let each = ended_each mid after heaps olds news found are on low dated steps ended in (
        record {
          found = found;
          left = each.0;
          steps = steps_each olds news on;
          next = dated ∙ next;
          worked = each.1;
          others = λ k out. let stays = others k out in (stays.0 ∙ seen_same heaps before mid k outside out, stays.1 ∙ steps k, stays.2 ∙ turns_same heaps before mid k outside out);
          done = done;
        },
        refl,
        each.2,
      )

  -- of a command
  pub called_over : (command : Command) (reply : Word) (mid after : Pass) (heaps : List ℕ) (olds news : List (Held LockedHeap)) (found : List LockedHeap) → AreBegunAt site before stamp heaps olds found →
      (on : AreHeldOn olds news) → ((b : Book) → IsIn b (books_of news) → b.stamp ≤ stamp) → after.stamp ≡ stamp → IsSameOutside heaps before mid → HasEndedIn mid after heaps news →
      ((k : ℕ) → (IsIn k heaps → ⊥) → (seen_at after k ≡ seen_at mid k) × (steps_at after k ≡ steps_at mid k) × (turns_at after k ≡ turns_at mid k)) → stamp ≡ max before.stamp (greatest_stamp found) + 1 →
      IsRun (rule_of site.rule) site.number stamp command (books_of olds) (books_of news) reply → IsCommandOver site command reply before after heaps found
  called_over command reply mid after heaps olds news found are on low dated outside ended others next ran =
      let books = map (λ (x : LockedHeap). x.book) found in
      let other = run_twins (rule_of site.rule) site.number stamp command (books_of olds) books (books_of news) reply (begun_twins heaps olds found are) ran in
      call_over (DoesCommand site after.stamp command reply) mid after heaps olds news found are on low dated outside ended others next
      (record {
        left = other.0;
        ran = subst (λ n. IsRun (rule_of site.rule) site.number n command books other.0 reply) (sym dated) other.1;
        appended = appended_each heaps olds news found other.0 are on other.2;
      })

  -- and of several procedures
  pub each_over : (ps : List Procedure) (replies : List Word) (mid after : Pass) (heaps : List ℕ) (olds news : List (Held LockedHeap)) (found : List LockedHeap) → AreBegunAt site before stamp heaps olds found →
      (on : AreHeldOn olds news) → ((b : Book) → IsIn b (books_of news) → b.stamp ≤ stamp) → after.stamp ≡ stamp → IsSameOutside heaps before mid → HasEndedIn mid after heaps news →
      ((k : ℕ) → (IsIn k heaps → ⊥) → (seen_at after k ≡ seen_at mid k) × (steps_at after k ≡ steps_at mid k) × (turns_at after k ≡ turns_at mid k)) → stamp ≡ max before.stamp (greatest_stamp found) + 1 →
      RunsAll (rule_of site.rule) site.number stamp ps (books_of olds) (books_of news) replies → AreCalledOver site ps replies before after heaps found
  each_over ps replies mid after heaps olds news found are on low dated outside ended others next ran =
      let books = map (λ (x : LockedHeap). x.book) found in
      let other = each_twins (rule_of site.rule) site.number stamp ps (books_of olds) books (books_of olds) books (books_of news) replies (begun_twins heaps olds found are) ran in
      call_over (DoesEach site after.stamp ps replies) mid after heaps olds news found are on low dated outside ended others next
      (record {
        left = other.0;
        ran = subst (λ n. RunsAll (rule_of site.rule) site.number n ps books other.0 replies) (sym dated) other.1;
        appended = appended_each heaps olds news found other.0 are on other.2;
      })

  -- a call that made nothing
  idle_steps : (heaps : List ℕ) (helds : List (Held LockedHeap)) (found : List LockedHeap) → AreBegunAt site before stamp heaps helds found →
      steps_each helds helds (held_idle helds) ≡ map (λ (b : Book). []) (map (λ (x : LockedHeap). x.book) found)
  idle_steps [] [] [] are = refl
  idle_steps [] [] (x ∷ found) are = absurd are
  idle_steps [] (held ∷ helds) found are = absurd are
  idle_steps (h ∷ heaps) [] found are = absurd are
  idle_steps (h ∷ heaps) (held ∷ helds) [] are = absurd are
  idle_steps (h ∷ heaps) (held ∷ helds) (x ∷ found) are = ap (λ l. [] ∷ l) (idle_steps heaps helds found are.1)

  pub idle_over : (mid after : Pass) (heaps : List ℕ) (helds : List (Held LockedHeap)) (found : List LockedHeap) → AreBegunAt site before stamp heaps helds found → after.stamp ≡ stamp →
      IsSameOutside heaps before mid → HasEndedIn mid after heaps helds →
      ((k : ℕ) → (IsIn k heaps → ⊥) → (seen_at after k ≡ seen_at mid k) × (steps_at after k ≡ steps_at mid k) × (turns_at after k ≡ turns_at mid k)) → stamp ≡ max before.stamp (greatest_stamp found) + 1 →
      IsIdleOver before after heaps found
  idle_over mid after heaps helds found are dated outside ended others next =
      call_over AreIdle mid after heaps helds helds found are (held_idle helds) (λ b here. begun_dated site before stamp heaps helds found b are here) dated outside ended others next
      (idle_steps heaps helds found are)

  pub may_end_idle : (heaps : List ℕ) (helds : List (Held LockedHeap)) (found : List LockedHeap) → AreBegunAt site before stamp heaps helds found → MayEndIn site heaps helds
  may_end_idle heaps helds found are = may_end_each heaps helds helds found are (held_idle helds) (λ b here. begun_dated site before stamp heaps helds found b are here)

  -- the books that are held are those found, as the call begins with them
  pub begun_are : (heaps : List ℕ) (helds : List (Held LockedHeap)) (found : List LockedHeap) → AreBegunAt site before stamp heaps helds found →
      books_of helds ≡ map (begun stamp) (map (λ (x : LockedHeap). x.book) found)
  begun_are [] [] [] are = refl
  begun_are [] [] (x ∷ found) are = absurd are
  begun_are [] (held ∷ helds) found are = absurd are
  begun_are (h ∷ heaps) [] found are = absurd are
  begun_are (h ∷ heaps) (held ∷ helds) [] are = absurd are
  begun_are (h ∷ heaps) (held ∷ helds) (x ∷ found) are =
      ap (λ b. b ∷ books_of helds) are.0.worked.is ∙ ap (λ l. begun stamp x.book ∷ l) (begun_are heaps helds found are.1)
