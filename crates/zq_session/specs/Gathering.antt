-- Bytes that are gathered, and written when they are many.
use Rattle.std.specs.Prelude.{◌≡◌, ℕ, List, ◌++◌, Result, Ok, Err}
use Rattle.zq_session.specs.Steps.{Does, Fills, Says}
use Rattle.zq_session.specs.declared.outcome.SessionFault.{SessionFault}
use Rattle.zq_session.specs.declared.outcome.SessionFault.TheVariants.{Read, Write, NoMemory}

-- the ends of a peer, and what is gathered for it
pub record Held (S : Type 0) : Type 0 where
  pub ends : S
  pub gathered : List ℕ

abbrev pub held : {S : Type 0} → S → List ℕ → Held S
held ends gathered = record { ends = ends; gathered = gathered }

-- The bytes were put behind what was gathered. The first of all this is written, in full parts, and
-- the rest is gathered.
abbrev pub Gathers : {S : Type 0} → Does S → Held S → Held S → List ℕ → Type 0
Gathers does old new bytes = (sent : List ℕ) × Fills does old.ends new.ends sent
    × (old.gathered ++ bytes ≡ sent ++ new.gathered)

-- The same, where the writer failed at the last part: the rest is lost.
abbrev pub IsCutOff : {S : Type 0} → Does S → Held S → Held S → List ℕ → Type 0
IsCutOff does old new bytes = (sent lost : List ℕ) × Says does old.ends new.ends sent
    × (old.gathered ++ bytes ≡ sent ++ lost)

-- The bytes that were put behind what was gathered, by how it ended.
abbrev pub Puts : {S T : Type 0} → Does S → Held S → Held S → List ℕ → Result T SessionFault →
    Type 0
Puts does old new bytes (Ok done) = Gathers does old new bytes
Puts does old new bytes (Err Read) = ⊥
Puts does old new bytes (Err Write) = IsCutOff does old new bytes
Puts does old new bytes (Err NoMemory) = Gathers does old new bytes
