-- What a site has of each of its heaps in turn.

use Rattle.std.proofs.Common.{ap, arith, refl, subst, sym, ◌∙◌}
use Rattle.std.specs.Prelude.{List, [], length, ℕ, ◌+◌, ◌++◌, ◌∷◌, ◌≡◌}
use Rattle.zq_links.specs.Frame.{Frame, OfHave}
use Rattle.zq_node.proofs.Called.{called_on}
use Rattle.zq_node.specs.Calls.{AreCalled, Call, IsCalled, Saw}
use Rattle.zq_node.specs.Hearing.{have_at, haves_from, shown_from}
use Rattle.zq_spread.specs.declared.pass.Pass.{Pass}
use Rattle.zq_spread.specs.declared.site.Site.{Site}

shown_more : (h n : ℕ) (vectors : List (List ℕ)) (v : List ℕ) → n ≡ h + length vectors → shown_from h (vectors ++ v ∷ []) ≡ shown_from h vectors ++ Saw n v ∷ []
shown_more h n [] v is = let same : h ≡ n = omega arith in ap (λ k. Saw k v ∷ []) same
shown_more h n (w ∷ vectors) v is = ap (λ (calls : List Call). Saw h w ∷ calls) (shown_more (h + 1) n vectors v (omega arith))

haves_more : (site : Site) (h n : ℕ) (vectors : List (List ℕ)) (v : List ℕ) → n ≡ h + length vectors → haves_from site h (vectors ++ v ∷ []) ≡ haves_from site h vectors ++ OfHave (have_at site n v) ∷ []
haves_more site h n [] v is = let same : h ≡ n = omega arith in ap (λ k. OfHave (have_at site k v) ∷ []) same
haves_more site h n (w ∷ vectors) v is = ap (λ (frames : List Frame). OfHave (have_at site h w) ∷ frames) (haves_more site (h + 1) n vectors v (omega arith))

-- one more vector was shown, and one more frame says it
pub shown_next : (site : Site) (a b c : Pass) (n : ℕ) (vectors : List (List ℕ)) (v : List ℕ) → length vectors ≡ n → AreCalled site a b (shown_from 0 vectors) → IsCalled site b c (Saw n v) →
    AreCalled site a c (shown_from 0 (vectors ++ v ∷ []))
shown_next site a b c n vectors v count are is =
    subst (AreCalled site a c) (sym (shown_more 0 n vectors v (omega arith))) (called_on site a b c (shown_from 0 vectors) (Saw n v ∷ []) are (c, is, refl))

pub haves_next : (site : Site) (n : ℕ) (vectors : List (List ℕ)) (v : List ℕ) (frames : List Frame) (frame : Frame) → length vectors ≡ n → frames ≡ haves_from site 0 vectors → frame ≡ OfHave (have_at site n v) →
    frames ++ frame ∷ [] ≡ haves_from site 0 (vectors ++ v ∷ [])
haves_next site n vectors v frames frame count are is =
    ap (λ l. l ++ frame ∷ []) are ∙ ap (λ f. haves_from site 0 vectors ++ f ∷ []) is ∙ sym (haves_more site 0 n vectors v (omega arith))
