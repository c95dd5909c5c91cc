-- The log of a lock: what seats have of it.
use Rattle.std.proofs.Common.{◌≡◌, ℕ, ◌+◌, ◌<◌, ◌≤◌, ◌≢◌, ◌==◌, ◌++◌, cond, List, [], ◌∷◌, set, inl, inr, refl, sym, ap, subst, ◌∙◌, ⊎_elim, arith, eq-eqb, ne_eqb}
use Rattle.std.proofs.Math.Nat.{eq-or-lt_of_le}
use mathlib.Core.Option as maybe
use lib.ListN.{get_elem?}
use Rattle.atomic_table.proofs.Lists.{at_set}
use Rattle.zq_ticketlock.specs.declared.turns.Entry.{Entry}
use Rattle.zq_ticketlock.specs.declared.turns.Turn.{Turn}
use Rattle.zq_ticketlock.specs.declared.view.View.{View}
use Rattle.zq_ticketlock.specs.Log.{AreChained, AreLogged, IsAmong, IsChain, IsLogged, Log}
use Rattle.zq_ticketlock.specs.Views.{turns_by}

module _ {T : Type 0} where
  -- each seat's turns are the log's, where one has a new view
  pub logged_each : (log : Log T) (serving : ℕ) (views : List (View T)) (seat : ℕ) (w : View T)
      → ((other : ℕ) (v : View T) → get_elem? views other ≡ maybe.some v → AreLogged log serving (turns_by v))
      → AreLogged log serving (turns_by w)
      → (other : ℕ) (v : View T) → get_elem? (set views seat w) other ≡ maybe.some v → AreLogged log serving (turns_by v)
  logged_each log serving views seat w all mine other v there =
      ⊎_elim
      (λ (t : (other ≡ seat) × (w ≡ v)). subst (λ (u : View T). AreLogged log serving (turns_by u)) t.1 mine)
      (λ (t : (other ≢ seat) × (get_elem? views other ≡ maybe.some v)). all other v t.1)
      (at_set views seat other w v there)

  pub logged_both : (log : Log T) (serving : ℕ) (xs ys : List (Entry T)) → AreLogged log serving xs → AreLogged log serving ys → AreLogged log serving (xs ++ ys)
  logged_both log serving [] ys first second = second
  logged_both log serving (x ∷ xs) ys first second = (first.0, logged_both log serving xs ys first.1 second)

  -- the log with one turn more
  abbrev pub with_turn : Log T → ℕ → Turn T → Log T
  with_turn log n turn = record { first = log.first; at = λ k. cond (k == n) turn (log.at k) }

  here_turn : (log : Log T) (n : ℕ) (turn : Turn T) → (with_turn log n turn).at n ≡ turn
  here_turn log n turn = ap (λ b. cond b turn (log.at n)) (eq-eqb n n refl)

  other_turn : (log : Log T) (n k : ℕ) (turn : Turn T) → k ≢ n → (with_turn log n turn).at k ≡ log.at k
  other_turn log n k turn apart = ap (λ b. cond b turn (log.at k)) (ne_eqb k n apart)

  -- what was logged stays so
  pub logged_still : (log : Log T) (n : ℕ) (turn : Turn T) (xs : List (Entry T)) → AreLogged log n xs → AreLogged (with_turn log n turn) (n + 1) xs
  logged_still log n turn [] all = tt
  logged_still log n turn (x ∷ xs) all =
      let below = all.0.1 in
      ((all.0.0, omega arith, other_turn log n x.ticket turn (omega arith) ∙ all.0.2), logged_still log n turn xs all.1)

  -- and the turn itself is logged
  pub logged_here : (log : Log T) (n : ℕ) (turn : Turn T) → log.first ≤ n → IsLogged (with_turn log n turn) (n + 1) (record { ticket = n; turn = turn })
  logged_here log n turn from = (from, omega arith, here_turn log n turn)

  -- the chain goes on with a turn that was given what the lock had
  pub chain_longer : (log : Log T) (n : ℕ) (x y : T) → IsChain log n x → IsChain (with_turn log n (record { given = x; home = y })) (n + 1) y
  chain_longer log n x y chain =
      let turn : Turn T = record { given = x; home = y } in
      record {
        next = λ k from below. ⊎_elim
            (λ (last : k + 1 ≡ n).
            let prior : (with_turn log n turn).at k ≡ log.at k = other_turn log n k turn (omega arith) in
            ap (λ m. ((with_turn log n turn).at m).given) last
            ∙ ap (λ (t : Turn T). t.given) (here_turn log n turn)
            ∙ chain.last k from last
            ∙ ap (λ (t : Turn T). t.home) (sym prior))
            (λ (more : k + 1 < n).
            ap (λ (t : Turn T). t.given) (other_turn log n (k + 1) turn (omega arith))
            ∙ chain.next k from more
            ∙ ap (λ (t : Turn T). t.home) (sym (other_turn log n k turn (omega arith))))
            (eq-or-lt_of_le {n = k + 1} {m = n} (omega arith));
        last = λ k from is.
            let same : k ≡ n = omega arith in
            sym (ap (λ m. ((with_turn log n turn).at m).home) same ∙ ap (λ (t : Turn T). t.home) (here_turn log n turn));
      }

  logged_at : (log : Log T) (serving : ℕ) (xs : List (Entry T)) (e : Entry T) → AreLogged log serving xs → IsAmong e xs → IsLogged log serving e
  logged_at log serving [] e all among = absurd among
  logged_at log serving (x ∷ xs) e all (inl same) = subst (IsLogged log serving) (sym same) all.0
  logged_at log serving (x ∷ xs) e all (inr among) = logged_at log serving xs e all.1 among

  -- so turns that are the log's are those of one history
  pub chained : (log : Log T) (serving : ℕ) (value : T) (xs : List (Entry T)) → IsChain log serving value → AreLogged log serving xs → AreChained xs
  chained log serving value xs chain all = λ e f first second.
      let one = logged_at log serving xs e all first in
      let other = logged_at log serving xs f all second in
      let low = other.1 in
      record {
        same = λ is. sym one.2 ∙ ap log.at is ∙ other.2;
        next = λ is.
            let below : e.ticket + 1 < serving = omega arith in
            ap (λ (t : Turn T). t.given) (sym other.2)
            ∙ ap (λ n. (log.at n).given) is
            ∙ chain.next e.ticket one.0 below
            ∙ ap (λ (t : Turn T). t.home) one.2;
      }
