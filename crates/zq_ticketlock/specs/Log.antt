-- The log of a lock, which exists in proofs alone: by each ticket that was served the value that
-- was given and the one that was put home.
use Rattle.std.specs.Prelude.{◌≡◌, ℕ, ◌+◌, ◌<◌, ◌≤◌, ◌⊎◌, List, [], ◌∷◌}
use Rattle.zq_ticketlock.specs.declared.turns.Entry.{Entry}
use Rattle.zq_ticketlock.specs.declared.turns.Turn.{Turn}

-- the holds from the first ticket up to the one that is served now
pub record Log (T : Type 0) : Type 0 where
  pub first : ℕ
  pub at : ℕ → Turn T

module _ {T : Type 0} where
  -- the hold is the log's
  abbrev pub IsLogged : Log T → ℕ → Entry T → Type 0
  IsLogged log serving e = (log.first ≤ e.ticket) × (e.ticket < serving)
      × (log.at e.ticket ≡ e.turn)

  abbrev pub AreLogged : Log T → ℕ → List (Entry T) → Type 0
  AreLogged log serving [] = Unit {0}
  AreLogged log serving (e ∷ entries) = IsLogged log serving e × AreLogged log serving entries

  -- each hold was given what the one before it put home, and the lock has what the last one put
  -- home
  pub record IsChain (log : Log T) (serving : ℕ) (value : T) : Type 0 where
    pub next : (n : ℕ) → log.first ≤ n → n + 1 < serving → (log.at (n + 1)).given ≡ (log.at n).home
    pub last : (n : ℕ) → log.first ≤ n → n + 1 ≡ serving → value ≡ (log.at n).home

  abbrev pub IsAmong : Entry T → List (Entry T) → Type 0
  IsAmong e [] = ⊥
  IsAmong e (f ∷ entries) = (e ≡ f) ⊎ IsAmong e entries

  -- holds by one ticket are one hold, and a hold by the next ticket was given what the one before
  -- it put home
  pub record IsBefore (e f : Entry T) : Type 0 where
    pub same : e.ticket ≡ f.ticket → e.turn ≡ f.turn
    pub next : f.ticket ≡ e.ticket + 1 → f.turn.given ≡ e.turn.home

  -- so it is with any two of them
  abbrev pub AreChained : List (Entry T) → Type 0
  AreChained entries = (e f : Entry T) → IsAmong e entries → IsAmong f entries → IsBefore e f
