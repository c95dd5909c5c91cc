-- The compare-exchanges on `next`.
use Rattle.std.proofs.Common.{◌≡◌, ℕ, ◌+◌, ◌<◌, ◌≢◌, ◌==◌, Bool, true, false, cond, Option, Some, List, [], set, refl, sym, ap, ◌∙◌, arith, eq-eqb, ne_eqb}
use Rattle.std.specs.Prelude.{MatchBool}
use Rattle.std.proofs.lemmas.Bool.{eqb-false, eqb-true}
use mathlib.Core.Option as maybe
use lib.ListN.{get_elem?}
use prog.Atomic.{either}
use Rattle.atomic_table.specs.Table.{State, keeps, Allows, step}
use Rattle.atomic_table.proofs.Lists.{set_else}
use Rattle.zq_ticketlock.specs.declared.turns.Entry.{Entry}
use Rattle.zq_ticketlock.specs.declared.view.View.{View}
use Rattle.zq_ticketlock.specs.declared.view.View.TheVariants.{Idle, Waiting, Holding}
use Rattle.zq_ticketlock.specs.Views.{Sat, is_idle, low_of}
use Rattle.zq_ticketlock.specs.Order.{Standing, Stands, IsRuled}
use Rattle.zq_ticketlock.specs.Steps.{Drew, Tried, Takes}
use Rattle.zq_ticketlock.proofs.Logs.{logged_each}
use Rattle.zq_ticketlock.proofs.Stages.{idle_seat}
use Rattle.zq_ticketlock.proofs.Standings.{Moves, one_view, kept, allowed, knows_each, still_knows}
use Rattle.zq_ticketlock.proofs.Looks.{notes, takes_out}

-- the owners, once a seat has drawn ticket n
abbrev owned : (ℕ → ℕ) → ℕ → ℕ → ℕ → ℕ
owned owner n seat k = cond (k == n) seat (owner k)

owned-here : (owner : ℕ → ℕ) (n seat : ℕ) → owned owner n seat n ≡ seat
owned-here owner n seat = ap (λ b. cond b seat (owner n)) (eq-eqb n n refl)

owned-other : (owner : ℕ → ℕ) (n seat k : ℕ) → k ≢ n → owned owner n seat k ≡ owner k
owned-other owner n seat k apart = ap (λ b. cond b seat (owner k)) (ne_eqb k n apart)

module _ {T : Type 0} (holds : T → Type 0) (follows : T → T → Type 0) where
  abbrev Rule : State (Option T) (View T) → Type 0
  Rule = IsRuled holds follows

  pub draws : (slots seat n : ℕ) (me : Sat T) → is_idle me ≡ true → Allows Rule slots seat me 1 (λ k. either (k == n) (n + 1) k) (Drew (step slots 1 n (n + 1) maybe.none) me)
  draws slots seat n me idle =
      let is = idle_seat me idle in
      allowed holds follows slots seat me (Idle is.0 is.1 is.2 is.3, []) 1 (λ k. either (k == n) (n + 1) k) (Drew (step slots 1 n (n + 1) maybe.none)) is.4 (λ m out e. cc)
      (λ at views stands here. draw is.0 is.1 is.2 is.3 at views stands here (at.next == n) (eqb-true at.next n))
    where
      draw : (low reached : ℕ) (x : T) (turns : List (Entry T)) (at : Standing T) (views : List (View T)) → Stands holds follows at views → get_elem? views seat ≡ maybe.some (Idle low reached x turns)
          → (b : Bool) → (b ≡ true → at.next ≡ n)
          → Moves holds follows at views seat [] 1 (either b (n + 1) at.next) (λ after. MatchBool b (after ≡ (Waiting n x turns, [])) (after ≡ (Idle low at.next x turns, [])))
      draw low reached x turns at views stands here true is =
          let same = is refl in
          let k = stands.knows seat (Idle low reached x turns) here in
          let order = stands.order in
          let w : View T = Waiting n x turns in
          let after : Standing T = record { value = at.value; out = at.out; owner = owned at.owner n seat; serving = at.serving; next = n + 1; turns = at.turns; log = at.log } in
          let kept_owner : (m : ℕ) → m < at.next → owned at.owner n seat m ≡ at.owner m = λ m below. owned-other at.owner n seat m (omega arith) in
          let still_held : at.out ≡ true → get_elem? (set views seat w) (owned at.owner n seat at.serving) ≡ maybe.some (Holding at.serving at.value at.turns) = λ out.
          let there = stands.held out in
          let below = (stands.knows (at.owner at.serving) (Holding at.serving at.value at.turns) there).1 in
          let apart : at.owner at.serving ≢ seat = λ one. let e : Idle low reached x turns ≡ Holding at.serving at.value at.turns = one_view views seat (at.owner at.serving) (Idle low reached x turns) (Holding at.serving at.value at.turns) here there (sym one) in cc in
          ap (get_elem? (set views seat w)) (kept_owner at.serving below) ∙ (set_else views seat (at.owner at.serving) w apart ∙ there) in (
            w,
            keeps,
            tt,
            kept holds follows after (set views seat w) (record {
              order = omega arith;
              sound = stands.sound;
              held = still_held;
              knows = knows_each holds follows at after views seat w stands.knows (omega arith, omega arith, owned-here at.owner n seat, k.2)
                  (λ other apart u. still_knows holds follows at after refl refl (omega arith) kept_owner (λ o. o) other u);
              logged = logged_each at.log at.serving views seat w stands.logged (stands.logged seat (Idle low reached x turns) here);
              chain = stands.chain;
              opened = stands.opened;
            }),
            refl,
          )
      draw low reached x turns at views stands here false is =
          let k = stands.knows seat (Idle low reached x turns) here in
          notes holds follows at views seat 1 at.next (Idle low reached x turns) (Idle low at.next x turns) stands here (λ e. cc) (k.0, omega arith, k.2) (stands.logged seat (Idle low reached x turns) here) refl

  pub tries : (slots seat n : ℕ) (me : Sat T) → is_idle me ≡ true → low_of me.0 ≡ n → Allows Rule slots seat me 1 (λ k. either (k == n) (n + 1) k) (Tried follows holds (step slots 1 n (n + 1) maybe.none) me)
  tries slots seat n me idle low =
      let is = idle_seat me idle in
      let same : is.0 ≡ n = sym (ap (λ (m : Sat T). low_of m.0) is.4) ∙ low in
      let at_n : me ≡ (Idle n is.1 is.2 is.3, []) = is.4 ∙ ap (λ (k : ℕ). let p : Sat T = (Idle k is.1 is.2 is.3, []) in p) same in
      allowed holds follows slots seat me (Idle n is.1 is.2 is.3, []) 1 (λ k. either (k == n) (n + 1) k) (Tried follows holds (step slots 1 n (n + 1) maybe.none)) at_n (λ m out e. cc)
      (λ at views stands here. try is.1 is.2 is.3 at views stands here (at.next == n) (eqb-true at.next n) (eqb-false at.next n))
    where
      try : (reached : ℕ) (x : T) (turns : List (Entry T)) (at : Standing T) (views : List (View T)) → Stands holds follows at views → get_elem? views seat ≡ maybe.some (Idle n reached x turns)
          → (b : Bool) → (b ≡ true → at.next ≡ n) → (b ≡ false → at.next ≢ n)
          → Moves holds follows at views seat [] 1 (either b (n + 1) at.next) (λ after. MatchBool b (Takes follows holds n (Some x) turns after) ((after ≡ (Idle n at.next x turns, [])) × (n < at.next)))
      try reached x turns at views stands here true is isnt =
          let same = is refl in
          let k = stands.knows seat (Idle n reached x turns) here in
          let low = k.0 in
          let order = stands.order in
          let served : at.serving ≡ n = omega arith in
          -- nobody holds where all tickets that were drawn have been served
          let home : at.out ≡ true → ⊥ = λ out.
          let below = (stands.knows (at.owner at.serving) (Holding at.serving at.value at.turns) (stands.held out)).1 in omega arith in
          takes_out holds follows at views seat 1 (n + 1) n (Idle n reached x turns) x turns (n + 1) (owned at.owner n seat) stands here refl home served k.2 refl (omega arith) (omega arith)
          (ap (owned at.owner n seat) served ∙ owned-here at.owner n seat) (λ m below apart. owned-other at.owner n seat m (omega arith))
      try reached x turns at views stands here false is isnt =
          let k = stands.knows seat (Idle n reached x turns) here in
          let low = k.0 in
          let order = stands.order in
          let other : at.next ≢ n = isnt refl in
          let m = notes holds follows at views seat 1 at.next (Idle n reached x turns) (Idle n at.next x turns) stands here (λ e. cc) (k.0, omega arith, k.2) (stands.logged seat (Idle n reached x turns) here) refl in
          (m.0, m.1, m.2, m.3, (m.4, omega arith))
