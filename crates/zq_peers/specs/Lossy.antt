-- Carriage over faulty links.

use Rattle.rand_pcg.specs.Lcg.{Lcg}
use Rattle.rand_pcg.specs.Pcg.{pcg32}
use Rattle.std.specs.Prelude.{Bool, List, MatchOption, false, map, slice_get, slice_set, true, ℕ, ◌≡◌, ◌⊎◌}
use Rattle.zq_links.specs.Faults.{AsksMemory, fault_of, held_after, passed_on}
use Rattle.zq_peers.specs.Carried.{AreCarried, Carriage}

-- links, each with the frames that it holds back, and the generator of their words
abbrev pub Links : Type 0
Links = List (List (List ℕ))

-- each frame, to this site
abbrev pub each_to : ℕ → List (List ℕ) → List (ℕ × List ℕ)
each_to to frames = map (λ frame. (to, frame)) frames

-- The frame came to a link that held these, to which a word drew a fault. What the fault passes on
-- is carried, and nothing else. Where there was no memory for that, and only where some is asked
-- for, nothing is, and the link holds what it held.
abbrev pub IsPassed : {C : Type 0} → Carriage (List ℕ) C → List (List ℕ) → List (List ℕ) → C → C →
    ℕ → ℕ → List ℕ → Bool → Type 0
IsPassed carries held left old new to word frame whole =
    ((left ≡ held_after (fault_of word) held frame)
    × AreCarried carries old new (each_to to (passed_on (fault_of word) held frame)) whole)
    ⊎ ((left ≡ held) × (new ≡ old) × (whole ≡ false) × AsksMemory (fault_of word) held)

-- A frame to a site that is not there is dropped. To another it goes over the site's link, by the
-- generator's next word; the other links stay.
abbrev pub IsLossy : {C : Type 0} → Carriage (List ℕ) C → Links → Links → Lcg → Lcg → C → C → ℕ →
    List ℕ → Bool → Type 0
IsLossy carries links after words next old new to frame whole =
    MatchOption (slice_get links to) ((after ≡ links) × (next ≡ words) × (new ≡ old)
    × (whole ≡ true))
    (λ held. (next ≡ (pcg32 words).1)
    × ((left : List (List ℕ)) × (after ≡ slice_set links to left)
    × IsPassed carries held left old new to (pcg32 words).0 frame whole))
