-- Which fault a word draws, and what it does to a frame and to those that are held back.
use Rattle.std.specs.Prelude.{ℕ, ◌%◌, ◌<◌, ◌==◌, cond, List, [], ◌∷◌, ◌++◌, length, take, drop}
use Rattle.zq_links.specs.declared.fault.Fault.{Fault}
use Rattle.zq_links.specs.declared.fault.Fault.TheVariants.{Lost, Doubled, HeldBack, Overtakes, Spared}
use Rattle.zq_links.specs.Frames.{newest}
use Rattle.zq_links.specs.Limits.{most_held}

-- by its remainder modulo 8
abbrev pub fault_of : ℕ → Fault
fault_of word =
    cond (word % 8 == 0) Lost
    (cond (word % 8 == 1) Doubled
    (cond (word % 8 == 2) HeldBack (cond (word % 8 == 3) Overtakes Spared)))

-- what is passed on now, in this order
abbrev pub passed_on : Fault → List (List ℕ) → List ℕ → List (List ℕ)
passed_on Lost held frame = []
passed_on Doubled held frame = frame ∷ frame ∷ []
passed_on HeldBack held frame = []
passed_on Overtakes held frame = frame ∷ take 1 held
passed_on Spared held frame = frame ∷ []

-- what is held back then, the oldest first
abbrev pub held_after : Fault → List (List ℕ) → List ℕ → List (List ℕ)
held_after Lost held frame = held
held_after Doubled held frame = held
held_after HeldBack held frame = newest (held ++ frame ∷ [])
held_after Overtakes held frame = drop 1 held
held_after Spared held frame = held

-- memory is asked for: for the list of what is passed on, for a copy, or for one place more behind
-- those that are held. To lose a frame takes none, and where as many are held as a link holds the
-- frame has the place that the oldest leaves.
abbrev pub AsksMemory : Fault → List (List ℕ) → Type 0
AsksMemory Lost held = ⊥
AsksMemory Doubled held = Unit {0}
AsksMemory HeldBack held = length held < most_held
AsksMemory Overtakes held = Unit {0}
AsksMemory Spared held = Unit {0}
