-- What is read and written as a link opens.

use Rattle.std.specs.Io.KnownBytes.{Appends, Consumes}
use Rattle.std.specs.List.{slice_get}
use Rattle.std.specs.Prelude.{Bool, Err, List, None, Ok, Option, Result, Some, [], drop, false, if◌then◌else◌, nat_le, true, unwrap_or, ℕ, ◌&&◌, ◌++◌, ◌==◌, ◌≡◌}
use Rattle.zq_wire.specs.Opened.{opening_of}
use Rattle.zq_wire.specs.Said.{said_by}
use Rattle.zq_wire.specs.declared.form.Form.{Form}
use Rattle.zq_wire.specs.declared.form.Form.TheVariants as form
use Rattle.zq_wire.specs.declared.link.Opened.{Opened}
use Rattle.zq_wire.specs.declared.link.Unopened.{Unopened}
use Rattle.zq_wire.specs.declared.link.Unopened.TheVariants.{Lost, Old, Refused}
use Rattle.zq_wire.specs.declared.opening.Opening.{Opening}
use Rattle.zq_wire.specs.declared.opening.Opening.TheVariants.{Answers, Waits, Welcome}
use Rattle.zq_wire.specs.declared.refusal.Refusal.{Refusal}
use Rattle.zq_wire.specs.declared.refusal.Refusal.TheVariants as refusal
use Rattle.zq_wire.specs.declared.side.Side.{Side}
use Rattle.zq_wire.specs.declared.versions.Versions.{Versions}

-- the answer that is due, where one is
abbrev pub answer_in : Opening → Option (List ℕ)
answer_in Waits = None
answer_in (Answers answer) = Some answer
answer_in (Welcome peer version run answer used) = answer

-- An answer is written where it is due and was not written before: whether it was owed and is owed
-- still, and what the writer held and holds.
abbrev pub Pays : Bool → Bool → Option (List ℕ) → Option (List ℕ) → Option (List ℕ) → Type 0
Pays true owes held holds None = (owes ≡ true) × (holds ≡ held)
Pays true owes held holds (Some answer) = (owes ≡ false) × Appends held holds answer
Pays false owes held holds answer = (owes ≡ false) × (holds ≡ held)

-- the bytes of an answer, where there is one
abbrev pub answer_bytes : Option (List ℕ) → List ℕ
answer_bytes None = []
answer_bytes (Some answer) = answer

-- A peer that has to be greeted in the old form is told from the others that are refused.
abbrev pub reason_of : Refusal → Unopened
reason_of (refusal.Form form.Old) = Old
reason_of why = Refused why

-- The peer is welcome for this text. Its frames begin behind its opening. What was written are
-- these bytes and then, where one is owed, the answer.
pub record IsWelcomed (side : Side) (said text : List ℕ) (held holds : Option (List ℕ))
    (front : List ℕ) (opened : Opened) : Type 0 where
  pub own : Option (List ℕ)
  pub used : ℕ
  pub welcome : opening_of side said text
      ≡ Ok (Welcome opened.peer opened.version opened.run own used)
  pub frames : opened.first.items ≡ drop used text
  pub written : Appends held holds (front ++ answer_bytes own)

-- what comes of a text for a side that greeted so: what the writer held and holds, and what is
-- written first
abbrev pub ComesOf : Side → List ℕ → List ℕ → Option (List ℕ) → Option (List ℕ) → List ℕ →
    Result Opened Unopened → Type 0
ComesOf side said text held holds front (Ok opened) =
    IsWelcomed side said text held holds front opened
ComesOf side said text held holds front (Err (Refused why)) = opening_of side said text ≡ Err why
ComesOf side said text held holds front (Err Old) =
    opening_of side said text ≡ Err (refusal.Form form.Old)
ComesOf side said text held holds front (Err Lost) = Unit {0}

-- of a link that was lost nothing is said
abbrev pub UnlessLost : Result Opened Unopened → Type 0 → Type 0
UnlessLost (Ok opened) P = P
UnlessLost (Err (Refused why)) P = P
UnlessLost (Err Old) P = P
UnlessLost (Err Lost) P = Unit {0}

-- a side that greeted so, and had heard this before: what the reader had and has, and what the
-- writer held and holds
abbrev pub Hears : Side → List ℕ → List ℕ → Option (List ℕ) → Option (List ℕ) →
    Option (List ℕ) → Option (List ℕ) → Result Opened Unopened → Type 0
Hears side said heard had has held holds result = UnlessLost result
    ((piece : List ℕ) × Consumes had has piece
    × ComesOf side said (heard ++ piece) held holds [] result)

-- the same with its greeting
abbrev pub Greets : Side → List ℕ → Option (List ℕ) → Option (List ℕ) →
    Option (List ℕ) → Option (List ℕ) → Result Opened Unopened → Type 0
Greets side heard had has held holds result = UnlessLost result
    ((piece : List ℕ) × Consumes had has piece
    × ComesOf side (said_by side) (heard ++ piece) held holds (said_by side) result)

-- a side that dials
abbrev pub Opens : Side → Option (List ℕ) → Option (List ℕ) → Option (List ℕ) →
    Option (List ℕ) → Result Opened Unopened → Type 0
Opens side had has held holds result = UnlessLost result
    ((text : List ℕ) × Consumes had has text
    × ComesOf side (said_by side) text held holds (said_by side) result)

-- the form in which these versions are told to a peer that greets so: the old one where that has
-- its mark, and version 1 is spoken
abbrev pub form_heard : Versions → List ℕ → Form
form_heard versions text = if unwrap_or (slice_get text 8) 0 == 1 && nat_le versions.lowest 1
    then form.Old else form.New

-- a side in the form in which it answers a peer that greets so
abbrev pub answering : Side → List ℕ → Side
answering side text = record side { form = form_heard side.versions text }

-- a side that accepts
abbrev pub Accepts : Side → Option (List ℕ) → Option (List ℕ) → Option (List ℕ) →
    Option (List ℕ) → Result Opened Unopened → Type 0
Accepts side had has held holds result = UnlessLost result
    ((text : List ℕ) × Consumes had has text
    × ComesOf (answering side text) (said_by (answering side text)) text held holds
    (said_by (answering side text)) result)
