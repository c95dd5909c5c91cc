-- Frames that are heard one after the other.

use Rattle.std.proofs.Common.{Global, List, Vec, [], map, refl, subst, sym, ℕ, ◌++◌, ◌∷◌}
use Rattle.std.proofs.lemmas.List.{map-append}
use Rattle.zq_site.specs.Heard.{AreHeard}
use Rattle.zq_wire.specs.Stream.{Frames}

pub heard_join : {H : Type 0} (hears : H → List ℕ → H → Type 0) (a b c : H) (xs ys : Frames) → AreHeard hears a b xs → AreHeard hears b c ys → AreHeard hears a c (xs ++ ys)
heard_join hears a b c [] ys same more = subst (λ s. AreHeard hears s c ys) (sym same) more
heard_join hears a b c (x ∷ xs) ys (mid, one, rest) more = (mid, one, heard_join hears mid b c xs ys rest more)

-- and one more frame
pub heard_next : {H : Type 0} (hears : H → List ℕ → H → Type 0) (a b c : H) (done : List (Vec ℕ Global)) (frame : Vec ℕ Global)
    → AreHeard hears a b (map (λ f. f.items) done) → hears b frame.items c → AreHeard hears a c (map (λ f. f.items) (done ++ frame ∷ []))
heard_next hears a b c done frame before one =
    subst (AreHeard hears a c) (sym (map-append (λ f. f.items) done (frame ∷ []))) (heard_join hears a b c (map (λ f. f.items) done) (frame.items ∷ []) before (c, one, refl))
