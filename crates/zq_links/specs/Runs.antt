-- What a link passes on of all the frames that come.
use Rattle.std.specs.Prelude.{ℕ, ◌+◌, ◌≤◌, List, [], ◌∷◌, ◌++◌, map, flat_map, sum_by, All, Contains}
use Rattle.zq_links.specs.declared.fault.Fault.{Fault}
use Rattle.zq_links.specs.declared.fault.Fault.TheVariants.{Lost, Doubled, HeldBack, Overtakes, Spared}
use Rattle.zq_links.specs.Faults.{passed_on, held_after}

-- the frames that are passed on, from first to last, where frames come with these faults and those
-- are held
abbrev pub passed_by : List (List ℕ) → List (Fault × List ℕ) → List (List ℕ)
passed_by held [] = []
passed_by held (x ∷ came) = passed_on x.0 held x.1 ++ passed_by (held_after x.0 held x.1) came

-- a copy of a frame that is doubled
abbrev pub copy_of : Fault × List ℕ → List (List ℕ)
copy_of (Doubled, frame) = frame ∷ []
copy_of (Lost, frame) = []
copy_of (HeldBack, frame) = []
copy_of (Overtakes, frame) = []
copy_of (Spared, frame) = []

abbrev pub frames_of : List (Fault × List ℕ) → List (List ℕ)
frames_of came = map (λ x. x.1) came

-- each frame that is passed on came
abbrev pub NoneIsInvented : Type 0
NoneIsInvented = (came : List (Fault × List ℕ)) →
    All (Contains (frames_of came)) (passed_by [] came)

-- No frame is passed on more often than it came and was doubled. The weight may be 1 for one frame
-- and 0 for the others.
abbrev pub NoneIsRepeated : Type 0
NoneIsRepeated =
    (weight : List ℕ → ℕ) (came : List (Fault × List ℕ))
    → sum_by weight (passed_by [] came) ≤ sum_by weight (frames_of came)
    + sum_by weight (flat_map copy_of came)
