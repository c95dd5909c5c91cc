-- The loads of `serving`, and the store to it.
use Rattle.std.proofs.Common.{◌≡◌, ℕ, ◌+◌, ◌<◌, ◌≤◌, ◌≢◌, ◌==◌, Bool, true, false, Option, Some, None, List, [], ◌∷◌, set, refl, sym, ap, subst, ◌∙◌, arith}
use Rattle.std.specs.Prelude.{MatchBool}
use Rattle.std.proofs.lemmas.Bool.{eqb-true, false_from_ne_true}
use mathlib.Core.Option as maybe
use lib.ListN.{get_elem?}
use Rattle.atomic_table.specs.Table.{State, keeps, takes, gives, Allows, step}
use Rattle.atomic_table.proofs.Lists.{set_else}
use Rattle.zq_ticketlock.specs.declared.turns.Entry.{Entry}
use Rattle.zq_ticketlock.specs.declared.view.View.{View}
use Rattle.zq_ticketlock.specs.declared.view.View.TheVariants.{Vacant, Idle, Met, Waiting, Holding, Spent}
use Rattle.zq_ticketlock.specs.Log.{AreLogged, IsChain, Log}
use Rattle.zq_ticketlock.specs.Views.{Sat, is_idle, is_waiting, turns_by}
use Rattle.zq_ticketlock.specs.Order.{Standing, slot, Knows, Stands, IsRuled}
use Rattle.zq_ticketlock.specs.Steps.{Looked, Arrived, Takes, Released, Settled}
use Rattle.zq_ticketlock.proofs.Logs.{chain_longer, chained, logged_each, logged_here, logged_still, with_turn}
use Rattle.zq_ticketlock.proofs.Stages.{idle_seat, waiting_seat}
use Rattle.zq_ticketlock.proofs.Standings.{Moves, at_changed, one_view, kept, allowed, knows_each}

module _ {T : Type 0} (holds : T → Type 0) (follows : T → T → Type 0) where
  abbrev Rule : State (Option T) (View T) → Type 0
  Rule = IsRuled holds follows

  -- a seat that does not hold gets a view of one that does not hold
  pub other_view : (at : Standing T) (views : List (View T)) (seat : ℕ) (v w : View T) → Stands holds follows at views
      → get_elem? views seat ≡ maybe.some v → v ≢ Holding at.serving at.value at.turns → Knows holds follows at seat w
      → AreLogged at.log at.serving (turns_by w) → Stands holds follows at (set views seat w)
  other_view at views seat v w stands here idle mine own = record {
    order = stands.order;
    sound = stands.sound;
    held = λ out. set_else views seat (at.owner at.serving) w (λ same. idle (one_view views seat (at.owner at.serving) v (Holding at.serving at.value at.turns) here (stands.held out) (sym same))) ∙ stands.held out;
    knows = knows_each holds follows at at views seat w stands.knows mine (λ other apart u k. k);
    logged = logged_each at.log at.serving views seat w stands.logged own;
    chain = stands.chain;
    opened = stands.opened;
  }

  -- by a step that leaves the words, a seat that does not hold gets such a view
  pub notes : (at : Standing T) (views : List (View T)) (seat word number : ℕ) (v w : View T) → Stands holds follows at views
      → get_elem? views seat ≡ maybe.some v → v ≢ Holding at.serving at.value at.turns → Knows holds follows at seat w → AreLogged at.log at.serving (turns_by w)
      → set (at.serving ∷ at.next ∷ []) word number ≡ at.serving ∷ at.next ∷ []
      → Moves holds follows at views seat [] word number (λ after. after ≡ (w, []))
  notes at views seat word number v w stands here idle mine own words =
      (w, keeps, tt, record { at = at; words = words; homes = refl; stands = other_view at views seat v w stands here idle mine own }, refl)

  pub looks : (slots seat : ℕ) (me : Sat T) → is_idle me ≡ true → Allows Rule slots seat me 0 (λ n. n) (Looked (step slots 0 0 0 maybe.none) me)
  looks slots seat me idle =
      let is = idle_seat me idle in
      let v : View T = Idle is.0 is.1 is.2 is.3 in
      allowed holds follows slots seat me (v, []) 0 (λ n. n) (Looked (step slots 0 0 0 maybe.none)) is.4 (λ m out e. cc)
      (λ at views stands here. let k = stands.knows seat v here in
      notes at views seat 0 at.serving v (Idle at.serving at.serving is.2 is.3) stands here (λ e. cc) (omega arith, stands.order, k.2) (stands.logged seat v here) refl)

  pub settles : (slots seat low : ℕ) (x y : T) (turns : List (Entry T)) (me : Sat T) → me ≡ (Met low x y turns, []) → ((z : T) → follows z z) → Allows Rule slots seat me 0 (λ n. n) (Settled follows (step slots 0 0 0 maybe.none) me)
  settles slots seat low x y turns me is reflexive =
      let v : View T = Met low x y turns in
      allowed holds follows slots seat me (v, []) 0 (λ n. n) (Settled follows (step slots 0 0 0 maybe.none)) is (λ m out e. cc)
      (λ at views stands here. let k = stands.knows seat v here in
      let m = notes at views seat 0 at.serving v (Idle at.serving at.serving at.value turns) stands here (λ e. cc) (omega arith, stands.order, reflexive at.value) (stands.logged seat v here) refl in
      (m.0, m.1, m.2, m.3, (at.value, m.4, (k.1, k.2), chained at.log at.serving at.value turns stands.chain (stands.logged seat v here))))

  -- where the value is home, a seat takes it out by the ticket n that is served
  pub takes_out : (at : Standing T) (views : List (View T)) (seat word number n : ℕ) (v : View T) (x : T) (turns : List (Entry T)) (next : ℕ) (owner : ℕ → ℕ) → Stands holds follows at views
      → get_elem? views seat ≡ maybe.some v → turns_by v ≡ turns → (at.out ≡ true → ⊥) → at.serving ≡ n → follows at.value x
      → set (at.serving ∷ at.next ∷ []) word number ≡ at.serving ∷ next ∷ []
      → at.next ≤ next → at.serving < next → owner at.serving ≡ seat → ((k : ℕ) → k < at.next → at.owner k ≢ seat → owner k ≡ at.owner k)
      → Moves holds follows at views seat [] word number (Takes follows holds n (Some x) turns)
  takes_out at views seat word number n v x turns next owner stands here has home same follow words more below mine others =
      let is_home : at.out ≡ false = false_from_ne_true at.out home in
      let after : Standing T = record { value = at.value; out = true; owner = owner; serving = at.serving; next = next; turns = turns; log = at.log } in
      let w : View T = Holding at.serving at.value turns in
      let now : Stands holds follows after (set views seat w) = record {
        order = omega arith;
        sound = stands.sound;
        held = λ out. ap (get_elem? (set views seat w)) mine ∙ at_changed views seat v w here;
        knows = knows_each holds follows at after views seat w stands.knows (refl, below, mine, refl, refl) (stay is_home);
        logged = logged_each at.log at.serving views seat w stands.logged (subst (λ us. AreLogged at.log at.serving us) has (stands.logged seat v here));
        chain = stands.chain;
        opened = stands.opened;
      } in (
        w,
        takes 0 (Some at.value),
        ap (λ (o : Bool). maybe.some (slot o at.value)) is_home,
        record { at = after; words = words; homes = refl; stands = now },
        (at.value, ap (λ (m : ℕ). let p : Sat T = (Holding m at.value turns, (0, Some at.value) ∷ []) in p) same, stands.sound, follow),
      )
    where
      stay : at.out ≡ false → (other : ℕ) → other ≢ seat → (u : View T) → Knows holds follows at other u
          → Knows holds follows (record { value = at.value; out = true; owner = owner; serving = at.serving; next = next; turns = turns; log = at.log }) other u
      stay is_home other apart (Vacant m out) k = absurd k
      stay is_home other apart (Idle low reached x us) k = (k.0, (let come = k.1 in omega arith), k.2)
      stay is_home other apart (Met low x y us) k = k
      stay is_home other apart (Waiting m x us) k = (k.0, (let low = k.1 in omega arith), others m k.1 (λ own. apart (sym k.2 ∙ own)) ∙ k.2, k.3)
      stay is_home other apart (Holding m x us) k = absurd (let p : true ≡ false = sym k.3 ∙ is_home in cc)
      stay is_home other apart Spent k = tt

  pub arrives : (slots seat n : ℕ) (me : Sat T) → is_waiting n me ≡ true → Allows Rule slots seat me 0 (λ k. k) (Arrived follows holds (step slots 0 0 0 maybe.none) me)
  arrives slots seat n me waiting =
      let is = waiting_seat n me waiting in
      allowed holds follows slots seat me (Waiting n is.0 is.1, []) 0 (λ k. k) (Arrived follows holds (step slots 0 0 0 maybe.none)) is.2 (λ m out e. cc)
      (λ at views stands here. turn is.0 is.1 at views stands here (at.serving == n) (eqb-true at.serving n))
    where
      turn : (x : T) (turns : List (Entry T)) (at : Standing T) (views : List (View T)) → Stands holds follows at views → get_elem? views seat ≡ maybe.some (Waiting n x turns)
          → (b : Bool) → (b ≡ true → at.serving ≡ n)
          → Moves holds follows at views seat [] 0 at.serving (λ after. MatchBool b (Takes follows holds n (Some x) turns after) (after ≡ (Waiting n x turns, [])))
      turn x turns at views stands here true is =
          let same = is refl in
          let k = stands.knows seat (Waiting n x turns) here in
          let below : at.serving < at.next = let low = k.1 in omega arith in
          let mine : at.owner at.serving ≡ seat = ap at.owner same ∙ k.2 in
          let home : at.out ≡ true → ⊥ = λ out.
          let e : Waiting n x turns ≡ Holding at.serving at.value at.turns = one_view views seat (at.owner at.serving) (Waiting n x turns) (Holding at.serving at.value at.turns) here (stands.held out) (sym mine) in cc in
          takes_out at views seat 0 at.serving n (Waiting n x turns) x turns at.next at.owner stands here refl home same k.3 refl (omega arith) below mine (λ m low apart. refl)
      turn x turns at views stands here false is =
          notes at views seat 0 at.serving (Waiting n x turns) (Waiting n x turns) stands here (λ e. cc) (stands.knows seat (Waiting n x turns) here) (stands.logged seat (Waiting n x turns) here) refl

  pub releases : (slots seat n : ℕ) (x y : T) (turns : List (Entry T)) (me : Sat T) → me ≡ (Holding n x turns, (0, Some y) ∷ []) → holds y → follows y x → ((z : T) → follows z z) → ((z u v : T) → follows z u → follows u v → follows z v)
      → Allows Rule slots seat me 0 (λ _. n + 1) (λ _. Released (step slots 0 (n + 1) 0 maybe.none) me (n + 1))
  releases slots seat n x y turns me is sound follow reflexive transitive =
      let v : View T = Holding n x turns in
      let more : List (Entry T) = record { ticket = n; turn = record { given = x; home = y } } ∷ turns in
      let w : View T = Idle (n + 1) (n + 1) y more in
      allowed holds follows slots seat me (v, (0, Some y) ∷ []) 0 (λ _. n + 1) (λ m _. Released (step slots 0 (n + 1) 0 maybe.none) m (n + 1)) is (λ m out e. cc)
      (λ at views stands here.
      let k = stands.knows seat v here in
      let here_now = k.0 in let below = k.1 in
      let log : Log T = with_turn at.log n (record { given = x; home = y }) in
      let after : Standing T = record { value = y; out = false; owner = at.owner; serving = n + 1; next = at.next; turns = at.turns; log = log } in
      let before : (us : List (Entry T)) → AreLogged at.log at.serving us → AreLogged at.log n us = λ us all. subst (λ m. AreLogged at.log m us) (sym k.0) all in
      let chain : IsChain at.log n x = subst (λ (p : ℕ × T). IsChain at.log p.0 p.1) (λ i. (sym k.0 i, k.4 i)) stands.chain in
      let later : (z : T) → follows at.value z → follows y z = λ z f. transitive y at.value z (subst (λ (u : T). follows y u) (sym k.4) follow) f in (
        w,
        gives,
        tt,
        kept holds follows after (set views seat w) (record {
          order = omega arith;
          sound = sound;
          held = λ out. absurd (let p : false ≡ true = out in cc);
          knows = knows_each holds follows at after views seat w stands.knows (omega arith, omega arith, reflexive y) (moved at log k.0 k.2 later);
          logged = logged_each log (n + 1) views seat w
              (λ other u there. logged_still at.log n (record { given = x; home = y }) (turns_by u) (before (turns_by u) (stands.logged other u there)))
              (logged_here at.log n (record { given = x; home = y }) (subst (λ m. at.log.first ≤ m) (sym k.0) stands.opened), logged_still at.log n (record { given = x; home = y }) turns (before turns (stands.logged seat v here)));
          chain = chain_longer at.log n x y chain;
          opened = (let from = stands.opened in omega arith);
        }),
        (λ z is. ap (λ (u : T). let p : Sat T = (Idle (n + 1) (n + 1) u (record { ticket = n; turn = record { given = x; home = u } } ∷ turns), []) in p) (let e : Some y ≡ Some z = ap (λ (l : List (ℕ × Option T)). head_of l) is in cc)),
      ))
    where
      head_of : List (ℕ × Option T) → Option T
      head_of [] = None
      head_of (p ∷ ps) = p.1

      moved : (at : Standing T) (log : Log T) → n ≡ at.serving → at.owner n ≡ seat → ((z : T) → follows at.value z → follows y z)
          → (other : ℕ) → other ≢ seat → (v : View T) → Knows holds follows at other v → Knows holds follows (record { value = y; out = false; owner = at.owner; serving = n + 1; next = at.next; turns = at.turns; log = log }) other v
      moved at log here mine later other apart (Vacant m out) k = absurd k
      moved at log here mine later other apart (Idle low reached z us) k = ((let m = k.0 in omega arith), k.1, later z k.2)
      moved at log here mine later other apart (Met low z u us) k = ((let m = k.0 in omega arith), later z k.1, later u k.2)
      moved at log here mine later other apart (Waiting m z us) k =
          let from = k.0 in
          let differs : m ≢ n = λ same. apart (sym k.2 ∙ ap at.owner same ∙ mine) in (omega arith, k.1, k.2, later z k.3)
      moved at log here mine later other apart (Holding m z us) k = absurd (apart (sym k.2 ∙ ap at.owner (k.0 ∙ sym here) ∙ mine))
      moved at log here mine later other apart Spent k = tt
