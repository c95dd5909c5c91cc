-- What each step tells the seat that steps: of the seat before, the number found, and the seat
-- after.
use Rattle.std.specs.Prelude.{◌≡◌, ℕ, ◌<◌, ◌==◌, ◌++◌, true, Option, Some, None, IfSome, List, [], ◌∷◌, MatchBool}
use Rattle.atomic_table.specs.Table.{Step}
use Rattle.zq_ticketlock.specs.Log.{AreChained}
use Rattle.zq_ticketlock.specs.declared.turns.Entry.{Entry}
use Rattle.zq_ticketlock.specs.declared.view.View.{View}
use Rattle.zq_ticketlock.specs.declared.view.View.TheVariants.{Vacant, Idle, Met, Waiting, Holding}
use Rattle.zq_ticketlock.specs.Views.{Sat, first_of, seen_by, ticket_of, turns_by, turns_with}

module _ {T : Type 0} where
  -- an idle seat has read this number in `serving`: `next` has come as far
  abbrev pub noted : ℕ → View T → View T
  noted n (Idle low reached x turns) = Idle n n x turns
  noted n view = view

  -- an idle seat has read this number in `next`
  abbrev pub reaching : ℕ → View T → View T
  reaching n (Idle low reached x turns) = Idle low n x turns
  reaching n view = view

  -- an idle seat has drawn this ticket
  abbrev pub waiting : ℕ → View T → View T
  waiting n (Idle low reached x turns) = Waiting n x turns
  waiting n view = view

  -- an idle seat has taken in another's view, and the turns of both are its own
  abbrev pub met : View T → View T → View T
  met (Idle low reached x turns) (Idle m passed y others) = Met low x y (turns ++ others)
  met view _ = view

  -- the seat of a vacant lock has its empty slot out
  abbrev pub Emptied : Step (Option T) → Sat T → ℕ → Sat T → Type 0
  Emptied step me found after = after ≡ (Vacant (first_of me.0) true, (0, None) ∷ [])

  -- it has put the first value home, which it has then seen
  abbrev pub Filled : Step (Option T) → Sat T → ℕ → Sat T → Type 0
  Filled step me found after = (x : T) → me.1 ≡ (0, Some x) ∷ [] →
      after ≡ (Idle (first_of me.0) (first_of me.0) x [], [])

  -- a look notes the number found
  abbrev pub Looked : Step (Option T) → Sat T → ℕ → Sat T → Type 0
  Looked step me found after = after ≡ (noted found me.0, me.1)

  -- a draw wins where it finds the ticket that it names, and else notes the number found
  abbrev pub Drew : Step (Option T) → Sat T → ℕ → Sat T → Type 0
  Drew step me found after =
      MatchBool (found == step.first) (after ≡ (waiting step.first me.0, me.1))
      (after ≡ (reaching found me.0, me.1))

  -- a release leaves the seat idle: it has seen the value that it put home, and has a turn more
  abbrev pub Released : Step (Option T) → Sat T → ℕ → Sat T → Type 0
  Released step me found after = (x : T) → me.1 ≡ (0, Some x) ∷ [] →
      after ≡ (Idle step.first step.first x (turns_with x me.0), [])

  module _ (follows : T → T → Type 0) where
    -- the value follows all that was seen
    abbrev pub FollowsSeen : T → Option T → Type 0
    FollowsSeen x seen = IfSome seen (follows x)

    -- the value follows both values of a joined view
    abbrev pub FollowsBoth : T → View T → Type 0
    FollowsBoth x (Met low y z turns) = follows x y × follows x z
    FollowsBoth x _ = Unit {0}

    -- a seat that was joined with another has seen the value where the lock stands, which follows
    -- what either had seen; and the holds of both are those of one history
    abbrev pub Settled : Step (Option T) → Sat T → ℕ → Sat T → Type 0
    Settled step me found after = (x : T) × (after ≡ (Idle found found x (turns_by me.0), []))
        × FollowsBoth x me.0 × AreChained (turns_by me.0)

    module _ (holds : T → Type 0) where
      -- the seat holds by ticket n, and has the value out, which follows what it had seen
      abbrev pub Takes : ℕ → Option T → List (Entry T) → Sat T → Type 0
      Takes n seen turns after =
          (x : T) × (after ≡ (Holding n x turns, (0, Some x) ∷ [])) × holds x × FollowsSeen x seen

      -- a look with a ticket takes the value where that ticket is served, and else changes nothing
      abbrev pub Arrived : Step (Option T) → Sat T → ℕ → Sat T → Type 0
      Arrived step me found after =
          MatchBool (found == ticket_of me.0)
          (Takes (ticket_of me.0) (seen_by me.0) (turns_by me.0) after) (after ≡ me)

      -- a try takes the value where the ticket that is served was not drawn yet, and else notes the
      -- later number found
      abbrev pub Tried : Step (Option T) → Sat T → ℕ → Sat T → Type 0
      Tried step me found after =
          MatchBool (found == step.first) (Takes step.first (seen_by me.0) (turns_by me.0) after)
          ((after ≡ (reaching found me.0, me.1)) × (step.first < found))
