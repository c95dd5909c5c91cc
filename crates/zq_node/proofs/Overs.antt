-- A heap that takes the place of one of the site's.

use Rattle.std.proofs.Common.{ap, arith, get_or, inl, inr, refl, subst, sym, ◌∙◌}
use Rattle.std.proofs.lemmas.Bool.{cases_eq}
use Rattle.std.specs.Prelude.{Err, IsErrOf, List, Ok, OnErr, OnOk, Result, [], true, ℕ, ◌≡◌, ◌≢◌, ◌∷◌, ◌⊎◌, ◌↔◌}
use Rattle.zq_dots.specs.Rule.{rule_of}
use Rattle.zq_journal.specs.declared.faults.TakeOverFault.{TakeOverFault}
use Rattle.zq_journal.specs.declared.faults.TakeOverFault.TheVariants as kept
use Rattle.zq_model.proofs.Taken.{covers_from}
use Rattle.zq_model.specs.Books.{Book, Step, steps_image}
use Rattle.zq_model.specs.Rule.{Greatest, Least, Rule}
use Rattle.zq_model.specs.Sets.{covers}
use Rattle.zq_node.proofs.Called.{alone, no_step_by}
use Rattle.zq_node.specs.Calls.{IsCalled, MadeNoStep, TookOver}
use Rattle.zq_shard.specs.Shard.{HeapImage}
use Rattle.zq_spread.specs.Answers.{IsTakenOver}
use Rattle.zq_spread.specs.Calls.{HasSeenBook, IsCall, IsLikeSite, heaps_of}
use Rattle.zq_spread.specs.Worn.{IsWornIn}
use Rattle.zq_spread.specs.declared.pass.Pass.{Pass}
use Rattle.zq_spread.specs.declared.site.Site.{Site}

rule_or : (a b : Rule) → (a ≡ b) ⊎ (a ≢ b)
rule_or Greatest Greatest = inl refl
rule_or Greatest Least = inr (λ e. cc)
rule_or Least Greatest = inr (λ e. cc)
rule_or Least Least = inl refl

-- a heap is like the site's, or it is not
like_or : (site : Site) (s : HeapImage) → IsLikeSite site s ⊎ (IsLikeSite site s → ⊥)
like_or site s = elim (cases_eq s.heaps (heaps_of site)) [
  | inl same ↦ (elim (rule_or s.rule (rule_of site.rule)) [
    | inl ruled ↦ inl (record { heaps = same; rule = ruled })
    | inr apart ↦ inr (λ like. apart like.rule)
  ])
  | inr apart ↦ inr (λ like. apart like.heaps)
]

-- what a call that exchanges a heap says
pub record IsOverOf (site : Site) (before after : Pass) (s : HeapImage) (r : Result (Unit {0}) TakeOverFault) : Type 0 where
  pub wrong_heap : IsErrOf r kept.WrongHeap ↔ (s.heaps ≢ heaps_of site)
  pub wrong_rule : IsErrOf r kept.WrongRule ↔ ((s.heaps ≡ heaps_of site) × (s.rule ≢ rule_of site.rule))
  pub unlocked : (IsLikeSite site s → ⊥) → after ≡ before
  pub called : IsLikeSite site s → IsCall (IsTakenOver after.stamp s r) before after (s.heap ∷ []) ⊎ (IsErrOf r kept.Worn × IsWornIn (s.heap ∷ []) before after)

no_steps_over : (stamp : ℕ) (s : HeapImage) (fault : TakeOverFault) (b : Book) (steps : List Step) → IsTakenOver stamp s (Err fault) (b ∷ []) (steps ∷ []) → steps ≡ []
no_steps_over stamp s kept.WrongHeap b steps is = absurd is
no_steps_over stamp s kept.WrongRule b steps is = absurd is
no_steps_over stamp s kept.Worn b steps is = is.1
no_steps_over stamp s kept.Lacks b steps is = is.1

-- one that was refused made no step
pub over_no_step : (site : Site) (before after : Pass) (s : HeapImage) (r : Result (Unit {0}) TakeOverFault) → IsOverOf site before after s r → OnErr r (MadeNoStep before after)
over_no_step site before after s (Ok done) is = tt {0}
over_no_step site before after s (Err fault) is = elim (like_or site s) [
  | inl like ↦ (elim (is.called like) [
    | inl call ↦ no_step_by (IsTakenOver after.stamp s (Err fault)) before after s.heap call (no_steps_over after.stamp s fault)
    | inr worn ↦ worn.1.0.steps
  ])
  | inr apart ↦ subst (MadeNoStep before) (sym (is.unlocked apart)) (λ h. refl)
]

not_err : (done : Unit {0}) (fault : TakeOverFault) → IsErrOf (Ok done) fault → ⊥
not_err done fault is = let e : Ok done ≡ Err fault = is in cc

-- one that was answered is of a heap like the site's
like_of : (site : Site) (before after : Pass) (s : HeapImage) (done : Unit {0}) → IsOverOf site before after s (Ok done) → IsLikeSite site s
like_of site before after s done is = elim (cases_eq s.heaps (heaps_of site)) [
  | inl same ↦ (elim (rule_or s.rule (rule_of site.rule)) [
    | inl ruled ↦ record { heaps = same; rule = ruled }
    | inr apart ↦ absurd (not_err done kept.WrongRule (is.wrong_rule.1 (same, apart)))
  ])
  | inr apart ↦ absurd (not_err done kept.WrongHeap (is.wrong_heap.1 apart))
]

call_of : (before after : Pass) (s : HeapImage) (done : Unit {0}) → IsCall (IsTakenOver after.stamp s (Ok done)) before after (s.heap ∷ []) ⊎ (IsErrOf (Ok done) kept.Worn × IsWornIn (s.heap ∷ []) before after) →
    IsCall (IsTakenOver after.stamp s (Ok done)) before after (s.heap ∷ [])
call_of before after s done (inl call) = call
call_of before after s done (inr worn) = absurd (not_err done kept.Worn worn.0)

pub over_called : (site : Site) (before after : Pass) (s : HeapImage) (r : Result (Unit {0}) TakeOverFault) → IsOverOf site before after s r → OnOk r (IsCalled site before after (TookOver s))
over_called site before after s (Err fault) is = tt {0}
over_called site before after s (Ok done) is = let like = like_of site before after s done is in (like, call_of before after s done (is.called like))

-- then the pass has seen that the site has all of it
pub over_covers : (site : Site) (before after : Pass) (s : HeapImage) (r : Result (Unit {0}) TakeOverFault) → IsOverOf site before after s r → OnOk r (HasSeenBook after s.heap (λ b. covers b.state.vector s.image.vector ≡ true))
over_covers site before after s (Err fault) is = tt {0}
over_covers site before after s (Ok done) is =
    let like = like_of site before after s done is in
    let one = alone (IsTakenOver after.stamp s (Ok done)) before after s.heap (call_of before after s done (is.called like)) in
    let state : one.left.book.state ≡ s.image = one.worked.worked.state ∙ ap (λ ss. steps_image ss one.found.book.state) one.done.2 in
    let itself : covers s.image.vector s.image.vector ≡ true = covers_from s.image.vector s.image.vector (λ t below. omega arith) in
    (one.left, one.worked.seen, ap (λ a. covers a.vector s.image.vector) state ∙ itself)
