-- What the spelling of a frame is about.
use Rattle.std.proofs.Common.{ap, refl, ◌∙◌}
use Rattle.std.specs.Prelude.{List, [], ℕ, ◌∷◌, ◌≡◌}
use Rattle.zq_delta.specs.Spelling as delta
use Rattle.zq_links.specs.About.{about, topic_at}
use Rattle.zq_links.specs.Frame.{Frame}
use Rattle.zq_links.specs.Spelling.{HaveIn, IsSpelled, OpsIn, Spelled, StateIn, frame_spelling, have_bytes, ops_bytes, value_of}
use Rattle.zq_merge.specs.Spelling as merge
use Rattle.zq_merge.specs.State as state
use Rattle.zq_merge.specs.declared.version.Version.TheVariants.{One, Three, Two}

-- what a spelling is about is what its frame is about
pub topic_spelled : (s : Spelled) → topic_at (frame_spelling s) ≡ about (value_of s)
unfolding have_bytes ops_bytes delta.fields state.fields merge.frame_bytes
topic_spelled (HaveIn One have) = refl
topic_spelled (HaveIn Two have) = refl
topic_spelled (HaveIn Three have) = refl
topic_spelled (OpsIn []) = refl
topic_spelled (OpsIn (op ∷ ops)) = refl
topic_spelled (StateIn v state) = refl

-- the same of the bytes of a frame
pub topic_of_spelled : (bytes : List ℕ) (frame : Frame) → IsSpelled frame bytes → topic_at bytes ≡ about frame
topic_of_spelled bytes frame (s, has, is, spelled) = ap topic_at spelled ∙ topic_spelled s ∙ ap about is
