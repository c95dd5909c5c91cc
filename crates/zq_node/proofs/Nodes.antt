-- How the work of a node goes on, by the node.

use Rattle.std.proofs.Common.{ap, append_assoc, arith, get_or, inl, inr, refl, subst, sym, ◌∙◌}
use Rattle.std.proofs.lemmas.Bool.{cases_eq}
use Rattle.std.proofs.lemmas.List.{take_all, take_more}
use Rattle.std.proofs.lemmas.Option.{slice_get_past, slice_get_read}
use Rattle.std.specs.Prelude.{Err, IfSome, IsErrAnd, IsErrOf, List, None, Ok, Result, Some, [], length, option_to_list, slice_get, take, true, ℕ, ◌+◌, ◌++◌, ◌<◌, ◌≡◌, ◌≢◌, ◌≤◌, ◌∷◌, ◌⊎◌}
use Rattle.zq_dots.specs.Placed.{Placed}
use Rattle.zq_model.specs.Operation.{has}
use Rattle.zq_model.specs.Sets.{IsIn}
use Rattle.zq_node.proofs.Called.{HasOperation, in_stays, known_call, seen_after}
use Rattle.zq_node.proofs.Changed.{put_found, put_heard, put_keeps}
use Rattle.zq_node.proofs.Works.{further, idle, of_more, parked_more, stays_heard, took}
use Rattle.zq_node.specs.Calls.{IsCalled, IsEarlyTo, IsKnownTo, MadeNoStep, Took}
use Rattle.zq_node.specs.Faults.{IsOwnFault}
use Rattle.zq_node.specs.Hearing.{AreOpsStopped, IsStopOf}
use Rattle.zq_node.specs.Node.{IsNode, IsSameHome, home_of, most_of, parked_of, pass_of, site_of}
use Rattle.zq_node.specs.Parked.{Entries, HasPlaceOf, IsParked, IsPutAway, Parking, place_of}
use Rattle.zq_node.specs.Work.{AreTurns, DoesAfter, HasWorked, IsHeard, IsTurn, IsWork, WaitIn, WasShort, WasStopped, WasWorn}
use Rattle.zq_node.specs.declared.faults.NodeFault.{NodeFault}
use Rattle.zq_node.specs.declared.faults.NodeFault.TheVariants as node
use Rattle.zq_node.specs.declared.node.Node.{Node}
use Rattle.zq_shard.specs.declared.taken.Taken.{Taken}
use Rattle.zq_shard.specs.declared.taken.Taken.TheVariants.{Early, Known, New}
use Rattle.zq_spread.specs.Calls.{HasSeenBook, IsOfSite, heaps_of}
use Rattle.zq_spread.specs.Passes.{seen_at}
use Rattle.zq_spread.specs.declared.pass.Pass.{Pass}
use Rattle.zq_spread.specs.declared.site.Site.{Site}

-- the same site
pub home_site : (a b : Node) → IsSameHome a b → site_of b ≡ site_of a
home_site a b same = ap (λ h. h.0.site.now) same

-- as many operations may be parked
pub home_most : (a b : Node) → IsSameHome a b → most_of b ≡ most_of a
home_most a b same = ap (λ h. h.1) same

pub then_worked : (ops : List Placed) (a b c : Node) → IsSameHome a b → HasWorked ops a b → HasWorked ops b c → HasWorked ops a c
then_worked ops a b c home one other =
    further (site_of a) ops (parked_of a) (parked_of b) (parked_of c) (pass_of a) (pass_of b) (pass_of c) one
    (subst (λ s. IsWork s ops (parked_of b) (parked_of c) (pass_of b) (pass_of c)) (home_site a b home) other)

pub then_stopped : (ops : List Placed) (a b c : Node) → IsSameHome a b → HasWorked ops a b → WasStopped ops b c → WasStopped ops a c
then_stopped ops a b c home one stopped = (
  stopped.0,
  further (site_of a) ops (parked_of a) (parked_of b) (parked_of c) (pass_of a) (pass_of b) stopped.0 one
      (subst (λ s. IsWork s ops (parked_of b) (parked_of c) (pass_of b) stopped.0) (home_site a b home) stopped.1),
  stopped.2,
)

pub worked_more : (ops all : List Placed) (a b : Node) → ((o : Placed) → IsIn o ops → IsIn o all) → HasWorked ops a b → HasWorked all a b
worked_more ops all a b within is = of_more (site_of a) ops all (parked_of a) (parked_of b) (pass_of a) (pass_of b) within is

pub stopped_more : (ops all : List Placed) (a b : Node) → ((o : Placed) → IsIn o ops → IsIn o all) → WasStopped ops a b → WasStopped all a b
stopped_more ops all a b within is = (is.0, of_more (site_of a) ops all (parked_of a) (parked_of b) (pass_of a) is.0 within is.1, is.2)

pub none_in : (all : List Placed) (o : Placed) → IsIn o [] → IsIn o all
none_in all o none = absurd none

-- what waits in the heaps below waits in one more
pub waits_more : (a b : Node) (heap : ℕ) → HasWorked [] a b → ((k : ℕ) → (k ≡ heap → ⊥) → seen_at (pass_of b) k ≡ seen_at (pass_of a) k) → WaitIn b heap →
    ((o : Placed) → IsParked (parked_of a) o → o.operation.heap < heap → IsEarlyTo (pass_of a) o) → (o : Placed) → IsParked (parked_of b) o → o.operation.heap < heap + 1 → IsEarlyTo (pass_of b) o
waits_more a b heap is others here before o there below = elim (cases_eq o.operation.heap heap) [
  | inl same ↦ here o there same
  | inr apart ↦ (
      let was : IsParked (parked_of a) o = elim (is.found o there) [ inl p ↦ p | inr none ↦ absurd none ] in
      let early = before o was (omega arith) in
      (early.0, others o.operation.heap apart ∙ early.1, early.2))
]

-- ---- an operation that was handed to the site

pub handed_work : (a b : Node) (o : Placed) (answer : Taken) → parked_of b ≡ parked_of a → IsCalled (site_of a) (pass_of a) (pass_of b) (Took o answer) → HasWorked (o ∷ []) a b
handed_work a b o answer same is =
    subst (λ e. IsWork (site_of a) (o ∷ []) (parked_of a) e (pass_of a) (pass_of b)) (sym same) (took (site_of a) (o ∷ []) (parked_of a) (pass_of a) (pass_of b) o answer (inl (inl refl)) is)

-- the node with this parked
abbrev pub keeping : Node → Parking → Node
keeping mid parked = record { home = mid.home; pass = mid.pass; parked = parked }

-- where it was put away what is parked is the site's
pub put_node : (old mid : Node) (parked : Parking) (o : Placed) → IsNode mid → IsSameHome old mid → IsOfSite (site_of old) o → o.operation.heap < heaps_of (site_of old) → IsPutAway (most_of mid) o (parked_of mid) parked.entries →
    IsNode (keeping mid parked)
put_node old mid parked o node same of within put =
    let there : IsOfSite (site_of mid) o × (o.operation.heap < heaps_of (site_of mid)) = subst (λ s. IsOfSite s o × (o.operation.heap < heaps_of s)) (sym (home_site old mid same)) (of, within) in
    record {
      home = node.home;
      pass = node.pass;
      parked = λ p here. elim (put_found (most_of mid) o (parked_of mid) parked.entries p put here) [
        | inl before ↦ node.parked p before
        | inr e ↦ subst (λ q. IsOfSite (site_of mid) q × (q.operation.heap < heaps_of (site_of mid))) e there
      ];
    }

-- a call that was refused, where nothing was done before it
pub only_stopped : (ops : List Placed) (a b : Node) → parked_of b ≡ parked_of a → MadeNoStep (pass_of a) (pass_of b) → WasStopped ops a b
only_stopped ops a b same none =
    (pass_of a, subst (λ e. IsWork (site_of a) ops (parked_of a) e (pass_of a) (pass_of a)) (sym same) (idle (site_of a) ops (parked_of a) (pass_of a)), none)

-- after it one was parked, or not
pub parked_work : (a b : Node) (o : Placed) → pass_of b ≡ pass_of a → ((p : Placed) → IsParked (parked_of a) p → IsParked (parked_of b) p) →
    ((p : Placed) → IsParked (parked_of b) p → IsParked (parked_of a) p ⊎ (o ≡ p)) → HasWorked (o ∷ []) a b
parked_work a b o same kept found =
    subst (λ p. IsWork (site_of a) (o ∷ []) (parked_of a) (parked_of b) (pass_of a) p) (sym same)
    (parked_more (site_of a) (o ∷ []) (parked_of a) (parked_of b) (pass_of a) kept (λ p there. elim (found p there) [ inl before ↦ inl before | inr is ↦ inr (inl is) ]))

-- ---- what is handed on

-- what is handed on is the fault
pub same_err : {A : Type 0} (r : Result A NodeFault) (fault n : NodeFault) → IsErrAnd r (λ e. e ≡ fault) → IsErrOf r n → fault ≡ n
same_err (Ok x) fault n is wrong = absurd is
same_err (Err e) fault n is wrong = let same : e ≡ n = cc in sym is ∙ same

pub own_heap : (fault : NodeFault) → IsOwnFault fault → fault ≡ node.WrongHeap → ⊥
own_heap fault own is = subst IsOwnFault is own

-- ---- turns

does_work : (answer : Taken) (asked new : Node) (o : Placed) → DoesAfter answer o asked new → HasWorked (o ∷ []) asked new
does_work New asked new o does = worked_more [] (o ∷ []) asked new (none_in (o ∷ [])) does.0
does_work Known asked new o does = subst (HasWorked (o ∷ []) asked) (sym does) (idle (site_of asked) (o ∷ []) (parked_of asked) (pass_of asked))
does_work Early asked new o does =
    parked_work asked new o does.0 (λ p. put_keeps (most_of asked) o (parked_of asked) (parked_of new) p does.1) (λ p. put_found (most_of asked) o (parked_of asked) (parked_of new) p does.1)

-- what a turn does is work with the operation
pub turn_work : (a b : Node) (o : Placed) → IsTurn o a b → HasWorked (o ∷ []) a b
turn_work a b o t =
    then_worked (o ∷ []) a t.asked b t.home (handed_work a t.asked o t.answer t.parked t.called) (does_work t.answer t.asked b o t.does)

pub turns_home : (ops : List Placed) (a b : Node) → AreTurns ops a b → IsSameHome a b
turns_home [] a b are = ap home_of are
turns_home (o ∷ ops) a b are = turns_home ops are.0 b are.2 ∙ are.1.stays

pub turns_work : (ops : List Placed) (a b : Node) → AreTurns ops a b → HasWorked ops a b
turns_work [] a b are = subst (HasWorked [] a) (sym are) (idle (site_of a) [] (parked_of a) (pass_of a))
turns_work (o ∷ ops) a b are =
    let one = worked_more (o ∷ []) (o ∷ ops) a are.0 (λ p here. elim here [ inl same ↦ inl same | inr none ↦ absurd none ]) (turn_work a are.0 o are.1) in
    let others = worked_more ops (o ∷ ops) are.0 b (λ p here. inr here) (turns_work ops are.0 b are.2) in
    then_worked (o ∷ ops) a are.0 b are.1.stays one others

pub turns_more : (ops : List Placed) (a b c : Node) (o : Placed) → AreTurns ops a b → IsTurn o b c → AreTurns (ops ++ o ∷ []) a c
turns_more [] a b c o are t = (c, subst (λ n. IsTurn o n c) are t, refl)
turns_more (x ∷ ops) a b c o are t = (are.0, are.1, turns_more ops are.0 b c o are.2 t)

pub turns_next : (ops : List Placed) (i : ℕ) (x : Placed) (a b c : Node) → i < length ops → x ≡ get_or ops i x → AreTurns (take i ops) a b → IsTurn x b c → AreTurns (take (i + 1) ops) a c
turns_next ops i x a b c below is are t =
    let more : take (i + 1) ops ≡ take i ops ++ x ∷ [] = take_more ops i x below ∙ ap (λ y. take i ops ++ y ∷ []) (sym is) in
    subst (λ l. AreTurns l a c) (sym more) (turns_more (take i ops) a b c x are t)

-- what was handed to the site is the site's
pub turns_site : (ops : List Placed) (a b : Node) → AreTurns ops a b → (o : Placed) → IsIn o ops → IsOfSite (site_of a) o
turns_site [] a b are o here = absurd here
turns_site (x ∷ ops) a b are o here = elim here [
  | inl same ↦ subst (IsOfSite (site_of a)) same are.1.called.0
  | inr later ↦ subst (λ s. IsOfSite s o) (home_site a are.0 are.1.stays) (turns_site ops are.0 b are.2 o later)
]

-- ---- what was heard

-- it is known or parked
abbrev pub IsThere : Node → Placed → Type 0
IsThere node o = IsKnownTo (pass_of node) o ⊎ HasPlaceOf (parked_of node) o

-- one of the same heap and dot is known
known_too : (pass : Pass) (p o : Placed) → place_of p ≡ place_of o → IsKnownTo pass p → IsKnownTo pass o
known_too pass p o same known = subst (λ q. HasSeenBook pass q.0 (λ b. has b.state.vector q.1 q.2 ≡ true)) same known

pub stays_there : (ops : List Placed) (a b : Node) (o : Placed) → HasWorked ops a b → IsThere a o → IsThere b o
stays_there ops a b o is (inl known) = inl (seen_after (HasOperation o) (in_stays o) (site_of a) (pass_of a) (pass_of b) o.operation.heap is.calls is.called known)
stays_there ops a b o is (inr had) = elim (stays_heard (site_of a) ops (parked_of a) (parked_of b) (pass_of a) (pass_of b) had.0 is (inr had.1)) [
  | inl known ↦ inl (known_too (pass_of b) had.0 o had.2 known)
  | inr parked ↦ inr (had.0, parked, had.2)
]

-- or it was Early, and as many were parked as may be
abbrev IsTooMany : Node → Placed → Type 0
IsTooMany old o = (asked : Pass) × IsCalled (site_of old) (pass_of old) asked (Took o Early) × (most_of old ≤ length (parked_of old))

does_heard : (answer : Taken) (a asked new : Node) (o : Placed) → IsSameHome a asked → parked_of asked ≡ parked_of a → IsCalled (site_of a) (pass_of a) (pass_of asked) (Took o answer) → DoesAfter answer o asked new → IsThere new o ⊎ IsTooMany a o
does_heard New a asked new o home same called does =
    let late : New ≢ Early = λ e. absurd (cc) in
    inl (stays_there [] asked new o does.0 (inl (known_call (site_of a) (pass_of a) (pass_of asked) o New late called)))
does_heard Known a asked new o home same called does =
    let late : Known ≢ Early = λ e. absurd (cc) in
    inl (inl (subst (λ n. IsKnownTo (pass_of n) o) (sym does) (known_call (site_of a) (pass_of a) (pass_of asked) o Known late called)))
does_heard Early a asked new o home same called does = elim (put_heard (most_of asked) o (parked_of asked) (parked_of new) does.1) [
  | inl there ↦ inl (inr there)
  | inr many ↦ inr (pass_of asked, called, subst (λ most. most ≤ length (parked_of a)) (home_most a asked home) (subst (λ (e : Entries). most_of asked ≤ length e) same many))
]

-- each that had its turn is heard
pub each_heard : (first ops : List Placed) (start old new : Node) → AreTurns first start old → AreTurns ops old new → (o : Placed) → IsIn o ops → IsHeard (first ++ ops) start new o
each_heard first [] start old new before are o here = absurd here
each_heard first (x ∷ ops) start old new before are o here = elim here [
  | inl same ↦ subst (IsHeard (first ++ x ∷ ops) start new) same (elim (does_heard are.1.answer old are.1.asked are.0 x are.1.home are.1.parked are.1.called are.1.does) [
    | inl there ↦ (elim (stays_there ops are.0 new x (turns_work ops are.0 new are.2) there) [ inl known ↦ inl known | inr parked ↦ inr (inl parked) ])
    | inr many ↦ inr (inr (record {
      first = first;
      rest = ops;
      split = refl;
      found = old;
      turns = before;
      asked = many.0;
      called = subst (λ s. IsCalled s (pass_of old) many.0 (Took x Early)) (home_site start old (turns_home first start old before)) many.1;
      full = many.2;
    }))
  ])
  | inr later ↦ subst (λ l. IsHeard l start new o) (append_assoc first (x ∷ []) ops) (each_heard (first ++ x ∷ []) ops start are.0 new (turns_more first start old are.0 x before are.1) are.2 o later)
]

-- and stays so
pub still_heard : (all ops : List Placed) (start a b : Node) (o : Placed) → HasWorked ops a b → IsHeard all start a o → IsHeard all start b o
still_heard all ops start a b o is (inl known) = elim (stays_there ops a b o is (inl known)) [ inl still ↦ inl still | inr parked ↦ inr (inl parked) ]
still_heard all ops start a b o is (inr (inl parked)) = elim (stays_there ops a b o is (inr parked)) [ inl known ↦ inl known | inr still ↦ inr (inl still) ]
still_heard all ops start a b o is (inr (inr dropped)) = inr (inr dropped)

-- ---- where it stops

-- the site's own fault, where the operation is the site's
pub own_stop : (site : Site) (o : Placed) (why : NodeFault) → IsOwnFault why → IsOfSite site o → IsStopOf site (Some o) why
own_stop site o node.WrongHeap own is = absurd own
own_stop site o node.WrongRule own is = absurd own
own_stop site o node.Worn own is = is
own_stop site o node.NoMemory own is = is

-- operations are heard no further than before this one
pub stopped_at : (ops : List Placed) (i : ℕ) (x : Placed) (old mid new : Node) (why : NodeFault) → i < length ops → x ≡ get_or ops i x → AreTurns (take i ops) old mid →
    IsStopOf (site_of mid) (Some x) why → WasStopped (x ∷ []) mid new → (why ≡ node.WrongHeap → new ≡ mid) → (why ≡ node.NoMemory → WasShort x mid new) →
    (why ≡ node.Worn → WasWorn x mid new) → AreOpsStopped ops old new why
stopped_at ops i x old mid new why below is turns stop stopped unheard short worn =
    let here : slice_get ops i ≡ Some x = slice_get_read ops (length ops) i x refl below is in
    record {
      place = record {
        at = i;
        within = omega arith;
        before = turns_site (take i ops) old mid turns;
        stop = subst (λ p. IsStopOf (site_of old) p why) (sym here) (subst (λ s. IsStopOf s (Some x) why) (home_site old mid (turns_home (take i ops) old mid turns)) stop);
      };
      heard = mid;
      turns = turns;
      stopped = subst (λ p. WasStopped (option_to_list p) mid new) (sym here) stopped;
      unheard = unheard;
      short = λ none. subst (λ p. IfSome p (λ o. WasShort o mid new)) (sym here) (short none);
      worn = λ last. subst (λ p. IfSome p (λ o. WasWorn o mid new)) (sym here) (worn last);
    }

-- or after the last one
pub stopped_after : (ops : List Placed) (old mid new : Node) (why : NodeFault) → AreTurns ops old mid → IsOwnFault why → WasStopped [] mid new → AreOpsStopped ops old new why
stopped_after ops old mid new why turns own stopped =
    let all : ops ≡ take (length ops) ops = sym (take_all (length ops) ops (omega arith)) in
    let past : slice_get ops (length ops) ≡ None = slice_get_past ops (length ops) (omega arith) in
    let turned : AreTurns (take (length ops) ops) old mid = subst (λ l. AreTurns l old mid) all turns in
    record {
      place = record {
        at = length ops;
        within = omega arith;
        before = turns_site (take (length ops) ops) old mid turned;
        stop = subst (λ p. IsStopOf (site_of old) p why) (sym past) own;
      };
      heard = mid;
      turns = turned;
      stopped = subst (λ p. WasStopped (option_to_list p) mid new) (sym past) stopped;
      unheard = λ wrong. absurd (own_heap why own wrong);
      short = λ none. subst (λ p. IfSome p (λ o. WasShort o mid new)) (sym past) tt;
      worn = λ last. subst (λ p. IfSome p (λ o. WasWorn o mid new)) (sym past) tt;
    }
