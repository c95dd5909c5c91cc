-- Frames one after the other.
use Rattle.std.proofs.Common.{◌≡◌, ℕ, ◌≤◌, List, [], ◌∷◌, ◌++◌, length, map, refl, sym, ap, subst, ◌∙◌, append_assoc, false, Vec, Global}
use Rattle.std.specs.List.{flat_map}
use Rattle.std.proofs.lemmas.List.{append-nil, map-append}
use Rattle.std.proofs.lemmas.List.Elements.{All-nil, All-push}
use Rattle.std.proofs.lemmas.Grind.{flat_map-append}
use Rattle.zq_wire.specs.Framed.{framed}
use Rattle.zq_wire.specs.Stream.{Frames, Reaches, frames_in, is_begun}

abbrev Small : ℕ → List ℕ → Type 0
Small most frame = length frame ≤ most

pub reaches_none : (most : ℕ) (bytes : List ℕ) → Reaches most bytes [] bytes
reaches_none most bytes = record { spelled = refl; small = All-nil (Small most) }

-- one frame more
pub reaches_one : (most : ℕ) (bytes mid after : List ℕ) (all : Frames) (frame : List ℕ) → Reaches most bytes all mid → mid ≡ framed frame ++ after → length frame ≤ most
    → Reaches most bytes (all ++ frame ∷ []) after
reaches_one most bytes mid after all frame reaches is small =
    record {
      spelled =
          reaches.spelled ∙ (ap (λ mid. flat_map framed all ++ mid) is
          ∙ (sym (append_assoc (flat_map framed all) (framed frame) after)
          ∙ ap (λ front. front ++ after) (sym (flat_map-append framed all (frame ∷ []) ∙ ap (λ last. flat_map framed all ++ last) (append-nil (framed frame))))));
      small = All-push (Small most) all frame reaches.small small;
    }

-- the frames of a vector that one more was pushed on
pub reaches_at : (most : ℕ) (bytes rest left : List ℕ) (all : Frames) → Reaches most bytes all rest → rest ≡ left → Reaches most bytes all left
reaches_at most bytes rest left all reaches is = subst (λ rest. Reaches most bytes all rest) is reaches

-- nothing has come where nothing is begun
pub none_begun : (bytes : List ℕ) → is_begun bytes ≡ false → bytes ≡ []
none_begun [] none = refl
none_begun (b ∷ bytes) none = absurd cc

-- the frames of a vector on which one was pushed
pub frames_more : (before after : Vec (Vec ℕ Global) Global) (frame : Vec ℕ Global) → after.items ≡ before.items ++ frame ∷ [] → frames_in after ≡ frames_in before ++ frame.items ∷ []
frames_more before after frame is = ap (map (λ f. f.items)) is ∙ map-append (λ f. f.items) before.items (frame ∷ [])

-- a frame was pushed on a vector, and it stood before the rest
pub reaches_with : (most : ℕ) (bytes mid rest : List ℕ) (before after : Vec (Vec ℕ Global) Global) (frame : Vec ℕ Global) → Reaches most bytes (frames_in before) mid
    → mid ≡ framed frame.items ++ rest → length frame.items ≤ most → after.items ≡ before.items ++ frame ∷ [] → Reaches most bytes (frames_in after) rest
reaches_with most bytes mid rest before after frame reaches is small more =
    subst (λ frames. Reaches most bytes frames rest) (sym (frames_more before after frame more)) (reaches_one most bytes mid rest (frames_in before) frame.items reaches is small)
