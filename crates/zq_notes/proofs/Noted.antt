-- The notes of a site's calls.

use Rattle.std.proofs.Common.{ap, inl, inr, subst, sym, ◌∙◌}
use Rattle.std.proofs.lemmas.Option.{same_Some}
use Rattle.std.specs.Prelude.{Err, IfOk, List, Ok, Option, Result, [], map, refl, ℕ, ◌∷◌, ◌≡◌, ◌⊎◌}
use Rattle.zq_dots.specs.Placed.{Placed}
use Rattle.zq_commands.specs.Calls.{procedures}
use Rattle.zq_dots.specs.Rule.{rule_of}
use Rattle.zq_model.specs.Books.{Book, Step}
use Rattle.zq_model.specs.Reach.{begun, worked as done_by}
use Rattle.zq_journal.specs.declared.faults.MergeFault.{MergeFault}
use Rattle.zq_journal.specs.declared.faults.TakeOverFault.{TakeOverFault}
use Rattle.zq_journal.specs.declared.faults.TakeFault.{TakeFault}
use Rattle.zq_journal.specs.declared.since.Since.{Since}
use Rattle.zq_model.specs.Heaps.{heap_of}
use Rattle.zq_notes.specs.Calls.{HasNote, HeldNone, HeldNoneIn}
use Rattle.zq_notes.specs.Does.{AreHeapsFor, Does, IsOfHeaps, IsTold}
use Rattle.zq_notes.specs.Notes.{Answer, Asked, Copied, Handed, HandedAll, Joined, Portioned, Replied, RepliedEach, RepliedIf, Shown, TakenOver, ToCopy, ToDrain, ToMerge, ToPortion, ToRun, ToRunEach, ToRunWatched, ToShow, ToTake, ToTakeAll, ToTakeOver, ToTell, Told}
use Rattle.zq_semantics.specs.Doing.{drawn}
use Rattle.zq_semantics.specs.Procedures.{procedure}
use Rattle.zq_shard.specs.Shard.{HeapImage}
use Rattle.zq_shard.specs.declared.spot.Spot.{Spot}
use Rattle.zq_shard.specs.declared.taken.Taken.{Taken}
use Rattle.zq_spread.specs.Answers.{IsAsked, IsCopied, IsDrained, IsMerged, IsPortioned, IsShown, IsSince, IsTaken, IsTakenOver, read_of}
use Rattle.zq_spread.specs.Batches.{IsTakenAll}
use Rattle.zq_spread.specs.Calls.{AreWorkedIn, HasSeenBook, IsCall, IsLikeSite, IsOfSite, heaps_of}
use Rattle.zq_spread.specs.Dispatch.{DoesCommand, DoesNear, IsCalled, IsCalledIn, IsCommand, all_heaps}
use Rattle.zq_spread.specs.Each.{AreAnswered, DoesEach}
use Rattle.zq_spread.specs.Watches.{Watch}
use Rattle.zq_spread.specs.Watching.{AreAnsweredIf, DoesWatched}
use Rattle.zq_spread.specs.declared.faults.ReadFault.{ReadFault}
use Rattle.zq_spread.specs.declared.faults.ReadFault.TheVariants as unread
use Rattle.zq_spread.specs.declared.locked_heap.LockedHeap.{LockedHeap}
use Rattle.zq_spread.specs.declared.pass.Pass.{Pass}
use Rattle.zq_spread.specs.declared.site.Site.{Site}
use Rattle.zq_spread.specs.declared.taken_all.TakenAll.{TakenAll}
use Rattle.zq_stage.specs.declared.portion.Portion.{Portion}
use Rattle.zq_stage.specs.declared.portion.PortionLimits.{PortionLimits}
use Rattle.zq_words.specs.Calls.{call_shown}
use Rattle.zq_words.specs.Command.{Command}
use Rattle.zq_words.specs.Heaps as named
use Rattle.zq_words.specs.Words.{Word}
use Rattle.zq_words.specs.declared.heaps.Heaps.{Heaps}
use Rattle.zq_words.specs.declared.heaps.Heaps.TheVariants.{All, Near, NoHeap, One}
use Rattle.zq_words.specs.declared.site_call.SiteCall.{SiteCall}

module _ (site : Site) (p : ℕ) (before after : Pass) where
  abbrev does : Asked → List ℕ → Answer → List Book → List (List Step) → Type 0
  does asked heaps answer = Does (rule_of site.rule) (heaps_of site) site.number after.stamp asked heaps answer

  -- a call that does what is asked leaves its note
  noted : (P : List Book → List (List Step) → Type 0) (asked : Asked) (heaps : List ℕ) (answer : Answer) →
      ((found : List Book) (steps : List (List Step)) → P found steps → does asked heaps answer found steps) → IsCall P before after heaps → HasNote site p before after asked answer
  noted P asked heaps answer so call = (
    record { pass = p; stamp = after.stamp; heaps = heaps; asked = asked; answer = answer; steps = call.steps },
    record {
      call = record {
        found = call.found;
        left = call.left;
        steps = call.steps;
        next = call.next;
        worked = call.worked;
        others = call.others;
        done = so (map (λ x. x.book) call.found) call.steps call.done;
      };
      stamp = refl;
      steps = refl;
    },
    refl,
    refl,
    refl,
  )

  of_heaps : (op : Placed) → IsOfSite site op → IsOfHeaps (heaps_of site) op
  of_heaps op of = record { heaps = of.heaps; placed = subst (λ k. heap_of op.operation.key op.operation.member k ≡ op.operation.heap) of.heaps of.placed }

  pub takes : (op : Placed) (result : Result Taken TakeFault) → IsOfSite site op → IsCall (IsTaken after.stamp op result) before after (op.operation.heap ∷ []) → HasNote site p before after (ToTake op) (Handed result)
  takes op result of call = noted (IsTaken after.stamp op result) (ToTake op) (op.operation.heap ∷ []) (Handed result) (λ found steps is. (refl, is, of_heaps op of)) call

  pub takes_all : (heap : ℕ) (ops : List Placed) (answer : TakenAll) → IsCall (IsTakenAll after.stamp ops answer) before after (heap ∷ []) → HasNote site p before after (ToTakeAll heap ops) (HandedAll answer)
  takes_all heap ops answer call = noted (IsTakenAll after.stamp ops answer) (ToTakeAll heap ops) (heap ∷ []) (HandedAll answer) (λ found steps is. (refl, is)) call

  pub merges : (other : HeapImage) (result : Result (Unit {0}) MergeFault) → IsLikeSite site other → IsCall (IsMerged after.stamp other result) before after (other.heap ∷ []) → HasNote site p before after (ToMerge other) (Joined result)
  merges other result like call =
      noted (IsMerged after.stamp other result) (ToMerge other) (other.heap ∷ []) (Joined result) (λ found steps is. (refl, is, record { heaps = like.heaps; ruled = like.rule })) call

  pub takes_over : (other : HeapImage) (result : Result (Unit {0}) TakeOverFault) → IsLikeSite site other → IsCall (IsTakenOver after.stamp other result) before after (other.heap ∷ []) →
      HasNote site p before after (ToTakeOver other) (TakenOver result)
  takes_over other result like call =
      noted (IsTakenOver after.stamp other result) (ToTakeOver other) (other.heap ∷ []) (TakenOver result) (λ found steps is. (refl, is, record { heaps = like.heaps; ruled = like.rule })) call

  pub copies : (heap : ℕ) (result : Result HeapImage ReadFault) → IsCall (IsCopied result) before after (heap ∷ []) → HasNote site p before after (ToCopy heap) (Copied result)
  copies heap result call = noted (IsCopied result) (ToCopy heap) (heap ∷ []) (Copied result) (λ found steps is. (refl, is)) call

  pub portions : (heap : ℕ) (spot : Spot) (limits : PortionLimits) (result : Result Portion ReadFault) → IsCall (IsPortioned spot limits result) before after (heap ∷ []) →
      HasNote site p before after (ToPortion heap spot limits) (Portioned result)
  portions heap spot limits result call = noted (IsPortioned spot limits result) (ToPortion heap spot limits) (heap ∷ []) (Portioned result) (λ found steps is. (refl, is)) call

  pub shows : (heap : ℕ) (vector : List ℕ) → IsCall (IsShown vector) before after (heap ∷ []) → HasNote site p before after (ToShow heap) (Shown vector)
  shows heap vector call = noted (IsShown vector) (ToShow heap) (heap ∷ []) (Shown vector) (λ found steps is. (refl, is)) call

  pub drains : (heap : ℕ) (vector : List ℕ) (most : ℕ) (result : Result Since ReadFault) → IsCall (IsDrained after.stamp vector most result) before after (heap ∷ []) →
      HasNote site p before after (ToDrain heap vector most) (Told result)
  drains heap vector most result call = noted (IsDrained after.stamp vector most result) (ToDrain heap vector most) (heap ∷ []) (Told result) (λ found steps is. (refl, is)) call

  -- ---- what a peer lacks

  -- the book that a call which makes no step leaves is the one with which it began
  told_in : (vector : List ℕ) (heap : ℕ) (since : Since) (found left : List LockedHeap) (steps : List (List Step)) → AreWorkedIn before after (heap ∷ []) found left steps →
      IsAsked (Ok since) (map (λ (x : LockedHeap). x.book) found) steps → HasSeenBook after heap (IsSince vector since) → IsTold after.stamp vector (Ok since) (map (λ (x : LockedHeap). x.book) found) steps
  told_in vector heap since [] left steps worked asked saw = absurd worked
  told_in vector heap since (x ∷ found) [] steps worked asked saw = absurd worked
  told_in vector heap since (x ∷ found) (y ∷ left) [] worked asked saw = absurd worked
  told_in vector heap since (x ∷ y ∷ found) (z ∷ left) (ss ∷ steps) worked asked saw = absurd asked
  told_in vector heap since (x ∷ []) (z ∷ left) (ss ∷ tt ∷ steps) worked asked saw = absurd asked
  told_in vector heap since (x ∷ []) (y ∷ left) (ss ∷ []) worked asked saw =
      let none : ss ≡ [] = asked.1 in
      let same : y ≡ saw.0 = same_Some y saw.0 (sym worked.0.seen ∙ saw.1) in
      let begins : y.book ≡ begun after.stamp x.book = worked.0.worked.is ∙ ap (λ s. done_by after.stamp s x.book) none in
      (subst (IsSince vector since) (ap (λ (k : LockedHeap). k.book) (sym same) ∙ begins) saw.2, none)

  told_of : (vector : List ℕ) (heap : ℕ) (result : Result Since ReadFault) → (call : IsCall (IsAsked result) before after (heap ∷ [])) → IfOk result (λ since. HasSeenBook after heap (IsSince vector since)) →
      IsTold after.stamp vector result (map (λ (x : LockedHeap). x.book) call.found) call.steps
  told_of vector heap (Ok since) call saw = told_in vector heap since call.found call.left call.steps call.worked call.done saw
  told_of vector heap (Err fault) call saw = unsaid (map (λ (x : LockedHeap). x.book) call.found) call.steps call.done
    where
      unsaid_of : (fault : ReadFault) (b : Book) → read_of (λ (since : Since) (book : Book). Unit {0}) (Err fault) b → read_of (λ (since : Since) (book : Book). IsSince vector since (begun after.stamp book)) (Err fault) b
      unsaid_of unread.Worn b is = absurd is
      unsaid_of unread.NoMemory b is = tt

      unsaid : (found : List Book) (steps : List (List Step)) → IsAsked (Err fault) found steps → IsTold after.stamp vector (Err fault) found steps
      unsaid [] steps is = absurd is
      unsaid (b ∷ []) [] is = absurd is
      unsaid (b ∷ []) (ss ∷ []) is = (unsaid_of fault b is.0, is.1)
      unsaid (b ∷ []) (ss ∷ more ∷ steps) is = absurd is
      unsaid (b ∷ d ∷ found) steps is = absurd is

  pub tells : (heap : ℕ) (vector : List ℕ) (result : Result Since ReadFault) → IsCall (IsAsked result) before after (heap ∷ []) → IfOk result (λ since. HasSeenBook after heap (IsSince vector since)) →
      HasNote site p before after (ToTell heap vector) (Told result)
  tells heap vector result call saw =
      let whole : IsCall (does (ToTell heap vector) (heap ∷ []) (Told result)) before after (heap ∷ []) = record {
        found = call.found;
        left = call.left;
        steps = call.steps;
        next = call.next;
        worked = call.worked;
        others = call.others;
        done = (refl, told_of vector heap result call saw);
      } in
      noted (does (ToTell heap vector) (heap ∷ []) (Told result)) (ToTell heap vector) (heap ∷ []) (Told result) (λ found steps is. is) whole

  -- ---- several things at once

  pub calls_each : (calls : List SiteCall) (replies : List Word) → IsCall (DoesEach site after.stamp (procedures calls) replies) before after (all_heaps site) →
      HasNote site p before after (ToRunEach (map call_shown calls)) (RepliedEach replies)
  calls_each calls replies call =
      noted (DoesEach site after.stamp (procedures calls) replies) (ToRunEach (map call_shown calls)) (all_heaps site) (RepliedEach replies)
      (λ found steps is. (refl, subst (λ ps. AreAnswered (rule_of site.rule) site.number after.stamp ps replies found steps) (shown calls) is)) call
    where
      shown : (cs : List SiteCall) → procedures cs ≡ map procedure (map call_shown cs)
      shown [] = refl
      shown (c ∷ cs) = ap (λ ps. procedure (call_shown c) ∷ ps) (shown cs)

  -- where nothing that is watched was changed
  pub calls_watched : (watch : Watch) (calls : List SiteCall) (replies : Option (List Word)) → IsCall (DoesWatched site after.stamp watch (procedures calls) replies) before after (all_heaps site) →
      HasNote site p before after (ToRunWatched watch (map call_shown calls)) (RepliedIf replies)
  calls_watched watch calls replies call =
      noted (DoesWatched site after.stamp watch (procedures calls) replies) (ToRunWatched watch (map call_shown calls)) (all_heaps site) (RepliedIf replies)
      (λ found steps is. (refl, subst (λ ps. AreAnsweredIf (rule_of site.rule) site.number after.stamp watch ps replies found steps) (shown_each calls) is)) call
    where
      shown_each : (cs : List SiteCall) → procedures cs ≡ map procedure (map call_shown cs)
      shown_each [] = refl
      shown_each (c ∷ cs) = ap (λ ps. procedure (call_shown c) ∷ ps) (shown_each cs)

  -- ---- commands

  pub calls : (command : Command) (w1 w2 : ℕ) (reply : Word) → IsCalled site command w1 w2 reply before after →
      HasNote site p before after (ToRun command w1 w2) (Replied reply) ⊎ HeldNone site command w1 w2 reply before after
  calls command w1 w2 reply called = by (named.heaps_of command (heaps_of site)) refl called
    where
      run_in : (heaps : List ℕ) → ((found : List Book) → AreHeapsFor (named.heaps_of command (heaps_of site)) (rule_of site.rule) (heaps_of site) command w1 w2 heaps found) → IsCommand site command reply before after heaps →
          HasNote site p before after (ToRun command w1 w2) (Replied reply)
      run_in heaps held call = noted (DoesCommand site after.stamp command reply) (ToRun command w1 w2) heaps (Replied reply) (λ found steps done. (held found, done)) call

      none_in : (heaps : Heaps) → named.heaps_of command (heaps_of site) ≡ heaps → HeldNoneIn heaps site command w1 w2 reply before after → HeldNone site command w1 w2 reply before after
      none_in heaps is held = subst (λ hs. HeldNoneIn hs site command w1 w2 reply before after) (sym is) held

      by : (heaps : Heaps) → named.heaps_of command (heaps_of site) ≡ heaps → IsCalledIn heaps site command w1 w2 reply before after →
          HasNote site p before after (ToRun command w1 w2) (Replied reply) ⊎ HeldNone site command w1 w2 reply before after
      by NoHeap is called = inr (none_in NoHeap is called)
      by (One heap) is (inl call) = inl (run_in (heap ∷ []) (λ found. subst (λ hs. AreHeapsFor hs (rule_of site.rule) (heaps_of site) command w1 w2 (heap ∷ []) found) (sym is) refl) call)
      by (One heap) is (inr worn) = inr (none_in (One heap) is worn)
      by Near is (inl call) =
          inl (noted (DoesNear site after.stamp command reply) (ToRun command w1 w2) (drawn (heaps_of site) w1 w2) (Replied reply)
          (λ found steps done. (subst (λ hs. AreHeapsFor hs (rule_of site.rule) (heaps_of site) command w1 w2 (drawn (heaps_of site) w1 w2) found) (sym is) (inl (refl, done.1)), done.0)) call)
      by Near is (inr (inl both)) = inl (run_in (all_heaps site) (λ found. subst (λ hs. AreHeapsFor hs (rule_of site.rule) (heaps_of site) command w1 w2 (all_heaps site) found) (sym is) (inr refl)) both.0)
      by Near is (inr (inr away)) = inr (none_in Near is away)
      by All is (inl call) = inl (run_in (all_heaps site) (λ found. subst (λ hs. AreHeapsFor hs (rule_of site.rule) (heaps_of site) command w1 w2 (all_heaps site) found) (sym is) refl) call)
      by All is (inr away) = inr (none_in All is away)
