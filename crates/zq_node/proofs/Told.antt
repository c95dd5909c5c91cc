-- What is told to a peer, and whether a frame is for the site.

use Rattle.std.proofs.Common.{ap, arith, get_or, inl, inr, refl, subst, sym, ◌∙◌}
use Rattle.std.proofs.Math.Nat.{le-max_right}
use Rattle.std.specs.Prelude.{Err, IfErr, IsErrAnd, IsErrOf, List, MatchBool, None, Ok, OnOk, Result, Some, [], false, true, ℕ, ◌≡◌, ◌≢◌, ◌∷◌, ◌⊎◌, ◌↔◌}
use Rattle.zq_dots.specs.Rule.{rule_of}
use Rattle.zq_links.specs.Frame.{Frame}
use Rattle.zq_links.specs.declared.frame.Frame as code
use Rattle.zq_links.specs.declared.frame.Frame.TheVariants as heard
use Rattle.zq_links.specs.declared.frame.Have as said
use Rattle.zq_model.proofs.Covered.{reached_covers_too}
use Rattle.zq_model.specs.Books.{Book, Step, steps_image}
use Rattle.zq_journal.specs.declared.faults.MergeFault.{MergeFault}
use Rattle.zq_journal.specs.declared.faults.MergeFault.TheVariants as unjoined
use Rattle.zq_model.proofs.JoinKeeps.{join_vector_at}
use Rattle.zq_model.proofs.Taken.{covers_from}
use Rattle.zq_model.specs.Image.{join}
use Rattle.zq_model.specs.Rule.{Rule}
use Rattle.zq_model.specs.Sets.{covers}
use Rattle.zq_node.proofs.Called.{Stays, alone, no_step_by}
use Rattle.zq_node.specs.Calls.{IsCalled, MadeNoStep, Merged}
use Rattle.zq_node.specs.Faults.{IsOwnFault, unmerged}
use Rattle.zq_node.specs.Hearing.{IsFaultOf, IsForSite, IsNotFor, IsRefusedFor, HasSiteRule, IsTold, IsToldOf}
use Rattle.zq_node.specs.declared.faults.NodeFault.{NodeFault}
use Rattle.zq_node.specs.declared.faults.NodeFault.TheVariants as node
use Rattle.zq_shard.specs.Shard.{HeapImage}
use Rattle.zq_spread.specs.Answers.{IsMerged}
use Rattle.zq_spread.specs.Calls.{HasSeenBook, IsCall, IsLikeSite, heaps_of}
use Rattle.zq_spread.specs.Worn.{IsWornIn}
use Rattle.zq_spread.specs.declared.pass.Pass.{Pass}
use Rattle.zq_spread.specs.declared.site.Site.{Site}

-- a peer that lacks something is told it
pub told_lacking : (site : Site) (before after : Pass) (heap : ℕ) (theirs vector : List ℕ) (frame : Frame) → covers theirs vector ≡ false → IsTold site before after heap theirs frame →
    IsToldOf site before after heap theirs vector (Some frame)
told_lacking site before after heap theirs vector frame lacks told =
    subst (λ b. MatchBool b ((after ≡ before) × (Some frame ≡ None)) ((f : Frame) × (Some frame ≡ Some f) × IsTold site before after heap theirs f)) (sym lacks) (frame, refl, told)

-- ---- faults

-- what is said of a fault is said of the fault that is handed on
pub if_err : {A : Type 0} (P : NodeFault → Type 0) (r : Result A NodeFault) (fault : NodeFault) → IsErrAnd r (λ e. e ≡ fault) → P fault → IfErr r P
if_err P (Ok x) fault is holds = absurd is
if_err P (Err e) fault is holds = subst P (sym is) holds

pub if_err_all : {A E : Type 0} {P : E → Type 0} (r : Result A E) → ((e : E) → P e) → IfErr r P
if_err_all (Ok x) all = tt {0}
if_err_all (Err e) all = all e

pub if_err_map : {A E : Type 0} {P Q : E → Type 0} (r : Result A E) → IfErr r P → ((e : E) → P e → Q e) → IfErr r Q
if_err_map (Ok x) p f = tt {0}
if_err_map (Err e) p f = f e p

pub ok_always : {A E : Type 0} {P : Type 0} (r : Result A E) → P → OnOk r P
ok_always (Ok x) p = p
ok_always (Err e) p = tt {0}

-- the site's own fault, after the frame was judged
pub own_fault : (site : Site) (frame : code.Frame) (fault : NodeFault) → IsOwnFault fault → IsForSite site frame → HasSiteRule site frame → IsRefusedFor site frame fault
own_fault site frame node.WrongHeap own is rule = absurd own
own_fault site frame node.WrongRule own is rule = absurd own
own_fault site frame node.Worn own is rule = (is, rule)
own_fault site frame node.NoMemory own is rule = (is, rule)

-- why a Have is refused
pub have_fault : (site : Site) (h : said.Have) (fault : NodeFault) → IsNotFor site h.heap h.heaps (rule_of h.rule) fault → IsFaultOf site (heard.Have h) fault
have_fault site h node.WrongHeap is = is
have_fault site h node.WrongRule is = is
have_fault site h node.Worn is = absurd is
have_fault site h node.NoMemory is = absurd is

-- why a State is refused
pub state_fault : (site : Site) (s : HeapImage) (heap heaps : ℕ) (rule : Rule) (fault : NodeFault) → heap ≡ s.heap → heaps ≡ s.heaps → rule ≡ s.rule → IsNotFor site heap heaps rule fault → IsFaultOf site (heard.State s) fault
state_fault site s heap heaps rule fault one other same is =
    fault_at fault (subst (λ r. IsNotFor site s.heap s.heaps r fault) same (subst (λ k. IsNotFor site s.heap k rule fault) other (subst (λ h. IsNotFor site h heaps rule fault) one is)))
  where
    fault_at : (fault : NodeFault) → IsNotFor site s.heap s.heaps s.rule fault → IsFaultOf site (heard.State s) fault
    fault_at node.WrongHeap is = is
    fault_at node.WrongRule is = is
    fault_at node.Worn is = absurd is
    fault_at node.NoMemory is = absurd is

-- ---- a heap that is merged

no_steps_merged : (stamp : ℕ) (s : HeapImage) (fault : MergeFault) (b : Book) (steps : List Step) → IsMerged stamp s (Err fault) (b ∷ []) (steps ∷ []) → steps ≡ []
no_steps_merged stamp s unjoined.WrongHeap b steps is = absurd is
no_steps_merged stamp s unjoined.WrongRule b steps is = absurd is
no_steps_merged stamp s unjoined.Worn b steps is = is.1
no_steps_merged stamp s unjoined.NoMemory b steps is = is.1

-- a merge that was refused made no step
pub merge_stopped : (before after : Pass) (s : HeapImage) (r : Result (Unit {0}) MergeFault) (fault : MergeFault) → r ≡ Err fault →
    IsCall (IsMerged after.stamp s r) before after (s.heap ∷ []) ⊎ (IsErrOf r unjoined.Worn × IsWornIn (s.heap ∷ []) before after) → MadeNoStep before after
merge_stopped before after s r fault is (inl call) =
    no_step_by (IsMerged after.stamp s (Err fault)) before after s.heap (subst (λ x. IsCall (IsMerged after.stamp s x) before after (s.heap ∷ [])) is call) (no_steps_merged after.stamp s fault)
merge_stopped before after s r fault is (inr stopped) = stopped.1.0.steps

-- one that was answered is a call
pub merge_called : (site : Site) (before after : Pass) (s : HeapImage) (r : Result (Unit {0}) MergeFault) → r ≡ Ok tt → IsLikeSite site s →
    IsCall (IsMerged after.stamp s r) before after (s.heap ∷ []) ⊎ (IsErrOf r unjoined.Worn × IsWornIn (s.heap ∷ []) before after) → IsCalled site before after (Merged s)
merge_called site before after s r is like (inl call) = (like, subst (λ x. IsCall (IsMerged after.stamp s x) before after (s.heap ∷ [])) is call)
merge_called site before after s r is like (inr stopped) = absurd (let e : r ≡ Err unjoined.Worn = stopped.0 in let f : Ok tt ≡ Err unjoined.Worn = sym is ∙ e in cc)

-- a heap that is like the site's is refused by the site's own fault alone
pub own_merge : (site : Site) (s : HeapImage) (r : Result (Unit {0}) MergeFault) (fault : MergeFault) → r ≡ Err fault → IsLikeSite site s →
    IsErrOf r unjoined.WrongHeap ↔ (s.heaps ≢ heaps_of site) → IsErrOf r unjoined.WrongRule ↔ ((s.heaps ≡ heaps_of site) × (s.rule ≢ rule_of site.rule)) → IsOwnFault (unmerged fault)
own_merge site s r unjoined.WrongHeap is like heap rule = absurd (heap.0 is like.heaps)
own_merge site s r unjoined.WrongRule is like heap rule = absurd ((rule.0 is).1 like.rule)
own_merge site s r unjoined.Worn is like heap rule = tt
own_merge site s r unjoined.NoMemory is like heap rule = tt

-- the book has all of the heap
abbrev pub Covers : HeapImage → Book → Type 0
Covers s b = covers b.state.vector s.image.vector ≡ true

pub covers_stays : (s : HeapImage) → Stays (Covers s)
covers_stays s later earlier reached all = reached_covers_too later earlier s.image.vector reached all

-- the pass has seen all that was merged
pub merged_covers : (site : Site) (before after : Pass) (s : HeapImage) → IsCalled site before after (Merged s) → HasSeenBook after s.heap (Covers s)
merged_covers site before after s is =
    let one = alone (IsMerged after.stamp s (Ok tt)) before after s.heap is.1 in
    let state : one.left.book.state ≡ join one.found.book.state s.image = one.worked.worked.state ∙ ap (λ ss. steps_image ss one.found.book.state) one.done.1 in
    let all : covers (join one.found.book.state s.image).vector s.image.vector ≡ true =
    covers_from (join one.found.book.state s.image).vector s.image.vector (λ t below. let at = join_vector_at one.found.book.state s.image t below in let more = le-max_right (get_or one.found.book.state.vector t 0) (get_or s.image.vector t 0) in omega (arith, at, more)) in
    (one.left, one.worked.seen, ap (λ a. covers a.vector s.image.vector) state ∙ all)
