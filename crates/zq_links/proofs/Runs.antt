-- What a link passes on came, and not more often.
use Rattle.std.proofs.Common.{ℕ, ◌+◌, ◌-◌, ◌≤◌, List, [], ◌∷◌, ◌++◌, length, take, arith}
use Rattle.std.specs.Prelude.{sum_by, flat_map, All, Contains}
use Rattle.std.proofs.lemmas.List.Sums.{sum_by-cons, sum_by-append, sum_by_push, sum_by-take-drop}
use Rattle.std.proofs.lemmas.List.Elements.{All-nil, All-cons, All-head, All-tail, All-append, All-push, All-take, All-drop, All-contains_itself}
use Rattle.zq_links.specs.Limits.{most_held}
use Rattle.zq_links.specs.declared.fault.Fault.{Fault}
use Rattle.zq_links.specs.declared.fault.Fault.TheVariants.{Lost, Doubled, HeldBack, Overtakes, Spared}
use Rattle.zq_links.specs.Frames.{newest}
use Rattle.zq_links.specs.Faults.{passed_on, held_after}
use Rattle.zq_links.specs.Runs.{passed_by, copy_of, frames_of, NoneIsInvented, NoneIsRepeated}

module _ (P : List ℕ → Type 0) where
  -- what is true of the frame and of those that are held is true of what is passed on
  passed_all : (fault : Fault) (held : List (List ℕ)) (frame : List ℕ) → All P held → P frame → All P (passed_on fault held frame)
  passed_all Lost held frame are is = All-nil P
  passed_all Doubled held frame are is = All-cons P frame (frame ∷ []) is (All-cons P frame [] is (All-nil P))
  passed_all HeldBack held frame are is = All-nil P
  passed_all Overtakes held frame are is = All-cons P frame (take 1 held) is (All-take P 1 held are)
  passed_all Spared held frame are is = All-cons P frame [] is (All-nil P)

  -- and of what is held then
  held_all : (fault : Fault) (held : List (List ℕ)) (frame : List ℕ) → All P held → P frame → All P (held_after fault held frame)
  held_all Lost held frame are is = are
  held_all Doubled held frame are is = are
  held_all HeldBack held frame are is =
      All-drop P (length (held ++ frame ∷ []) - most_held) (held ++ frame ∷ []) (All-push P held frame are is)
  held_all Overtakes held frame are is = All-drop P 1 held are
  held_all Spared held frame are is = are

  run_all : (held : List (List ℕ)) (came : List (Fault × List ℕ)) → All P held → All P (frames_of came) → All P (passed_by held came)
  run_all held [] are come = All-nil P
  run_all held (x ∷ came) are come =
      let is = All-head P x.1 (frames_of came) come in
      All-append P (passed_on x.0 held x.1) (passed_by (held_after x.0 held x.1) came)
      (passed_all x.0 held x.1 are is)
      (run_all (held_after x.0 held x.1) came (held_all x.0 held x.1 are is) (All-tail P x.1 (frames_of came) come))

pub none_is_invented : NoneIsInvented
none_is_invented came =
    let P = Contains (frames_of came) in run_all P [] came (All-nil P) (All-contains_itself (frames_of came))

module _ (weight : List ℕ → ℕ) where
  weigh-newest : (frames : List (List ℕ)) → sum_by weight (newest frames) ≤ sum_by weight frames
  weigh-newest frames = omega (arith, sum_by-take-drop weight frames (length frames - most_held))

  -- what is passed on and what is held then weigh no more than what was held, the frame and its copy
  step_weighs : (fault : Fault) (held : List (List ℕ)) (frame : List ℕ)
      → sum_by weight (passed_on fault held frame) + sum_by weight (held_after fault held frame)
      ≤ sum_by weight held + (weight frame + sum_by weight (copy_of (fault, frame)))
  step_weighs Lost held frame = omega arith
  step_weighs Doubled held frame = omega arith
  step_weighs HeldBack held frame =
      omega (arith, weigh-newest (held ++ frame ∷ []), sum_by_push weight held frame)
  step_weighs Overtakes held frame =
      omega (arith, sum_by-cons weight frame (take 1 held), sum_by-take-drop weight held 1)
  step_weighs Spared held frame = omega arith

  run_weighs : (held : List (List ℕ)) (came : List (Fault × List ℕ))
      → sum_by weight (passed_by held came) ≤ sum_by weight held + (sum_by weight (frames_of came) + sum_by weight (flat_map copy_of came))
  run_weighs held [] = omega arith
  run_weighs held (x ∷ came) =
      let next = held_after x.0 held x.1 in
      omega (
        arith,
        step_weighs x.0 held x.1,
        run_weighs next came,
        sum_by-append weight (passed_on x.0 held x.1) (passed_by next came),
        sum_by-cons weight x.1 (frames_of came),
        sum_by-append weight (copy_of x) (flat_map copy_of came),
      )

pub none_is_repeated : NoneIsRepeated
none_is_repeated weight came = omega (arith, run_weighs weight [] came)
