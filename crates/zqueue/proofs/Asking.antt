-- The words of a command are of a log or of none.

use Rattle.std.proofs.Common.{List, None, Option, Some, ap, arith, codes, inl, inr, sym, ◌∙◌, ◌≡◌, ℕ}
use Rattle.std.specs.Prelude.{Err, IfOk, Ok, Result, slice_index}
use Rattle.zqueue.specs.Asked.{Asks, AsksOfLog, AsksOther, NamesOther}
use Rattle.zqueue.specs.declared.asked.Command.TheVariants.{Adopt, Check, Drill, Inspect, Members, Pipe, Serve, Site, Status, Stop}
use Rattle.zqueue.specs.declared.asked.Command.{Command}

-- two texts that begin otherwise
apart : (name one other : List ℕ) → name ≡ one → name ≡ other →
    (slice_index one 0 ≡ slice_index other 0 → ⊥) → ⊥
apart name one other is also differ = differ (ap (λ t. slice_index t 0) (sym is ∙ also))

no_other : (name : List ℕ) (rest : List (List ℕ)) (command : Command) → name ≡ codes "inspect" →
    NamesOther name rest command → ⊥
no_other name rest Pipe is names =
    apart name (codes "inspect") (codes "pipe") is names.0 (λ e. omega (arith, e))
no_other name rest (Serve path) is names =
    apart name (codes "inspect") (codes "serve") is names.0 (λ e. omega (arith, e))
no_other name rest (Site path) is names =
    apart name (codes "inspect") (codes "site") is names.0 (λ e. omega (arith, e))
no_other name rest (Stop path) is names =
    apart name (codes "inspect") (codes "stop") is names.0 (λ e. omega (arith, e))
no_other name rest (Status path) is names =
    apart name (codes "inspect") (codes "status") is names.0 (λ e. omega (arith, e))
no_other name rest (Drill seed rounds) is names =
    apart name (codes "inspect") (codes "drill") is names.0 (λ e. omega (arith, e))
no_other name rest (Adopt old new site) is names =
    apart name (codes "inspect") (codes "adopt") is names.0 (λ e. omega (arith, e))
no_other name rest (Inspect path) is names = names
no_other name rest (Check path) is names = names
no_other name rest (Members key path) is names = names

asks_of_log : (name : List ℕ) (rest : List (List ℕ)) (command : Option Command) →
    name ≡ codes "inspect" → AsksOfLog rest command → Asks name rest command
asks_of_log name rest None is asks = λ command names. elim names [
  | inl of ↦ asks command of.1
  | inr other ↦ no_other name rest command is other
]
asks_of_log name rest (Some command) is asks = inl (is, asks)

asks_other : (name : List ℕ) (rest : List (List ℕ)) (command : Option Command) →
    (name ≡ codes "inspect" → ⊥) → AsksOther name rest command → Asks name rest command
asks_other name rest None not asks = λ command names. elim names [
  | inl of ↦ not of.0
  | inr other ↦ asks command other
]
asks_other name rest (Some command) not asks = inr asks

-- where there is a command, or none
pub log_asked : {E : Type 0} (result : Result (Option Command) E) (name : List ℕ)
    (rest : List (List ℕ)) → name ≡ codes "inspect" → IfOk result (AsksOfLog rest) →
    IfOk result (Asks name rest)
log_asked (Ok command) name rest is asks = asks_of_log name rest command is asks
log_asked (Err e) name rest is asks = tt

pub other_asked : {E : Type 0} (result : Result (Option Command) E) (name : List ℕ)
    (rest : List (List ℕ)) → (name ≡ codes "inspect" → ⊥) → IfOk result (AsksOther name rest) →
    IfOk result (Asks name rest)
other_asked (Ok command) name rest not asks = asks_other name rest command not asks
other_asked (Err e) name rest not asks = tt
