-- The bytes of the frames that a link holds last.
use Rattle.std.proofs.Common.{◌≡◌, ℕ, ◌-◌, List, [], ◌∷◌, ◌++◌, map, length, drop, sym, ap, ◌∙◌, Vec, Global}
use Rattle.std.proofs.lemmas.List.{map-append, drop-map, length-map}
use Rattle.zq_links.specs.Limits.{most_held}
use Rattle.zq_links.specs.Frames.{newest}

-- the newest frames have the newest bytes
map-newest : {A B : Type 0} (f : A → B) (xs : List A) → map f (newest xs) ≡ newest (map f xs)
map-newest f xs = sym (drop-map f (length xs - most_held) xs) ∙ ap (λ n. drop (n - most_held) (map f xs)) (sym (length-map xs f))

-- with one frame behind those that are held
pub newest_with : (held : List (List ℕ)) (frames after : List (Vec ℕ Global)) (frame : Vec ℕ Global)
    → map (λ f. f.items) frames ≡ held → after ≡ newest (frames ++ frame ∷ [])
    → map (λ f. f.items) after ≡ newest (held ++ frame.items ∷ [])
newest_with held frames after frame is now =
    ap (map (λ f. f.items)) now ∙ map-newest (λ f. f.items) (frames ++ frame ∷ [])
    ∙ ap newest (map-append (λ f. f.items) frames (frame ∷ []) ∙ ap (λ l. l ++ frame.items ∷ []) is)
