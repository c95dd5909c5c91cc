-- The sites of a drill, by their numbers.
use Rattle.std.proofs.Common.{ap, arith, subst, sym, ◌∙◌}
use Rattle.std.proofs.lemmas.List.{length-append, length-map, map-append}
use Rattle.std.proofs.lemmas.List.Elements.{All-push}
use Rattle.std.proofs.lemmas.Option.{get_or_from_slice_get, slice_get_within}
use Rattle.std.specs.Prelude.{All, List, Some, [], length, slice_get, suc, zero, ℕ, ◌+◌, ◌++◌, ◌∷◌, ◌≡◌}
use Rattle.zq_drill.proofs.Nexts.{next}
use Rattle.zq_drill.specs.SiteHandles.{Place, numbers_of, place_of, places_of, site_of}
use Rattle.zq_drill.specs.declared.site_handle.SiteHandle.{SiteHandle}
use Rattle.zq_spread.specs.declared.site.Site.{Site}

-- the numbers below this one, in rising order
abbrev pub below : ℕ → List ℕ
below zero = []
below (suc n) = below n ++ n ∷ []

-- a handle more, of a site of the next number
pub one_more : (n : ℕ) (before after : List SiteHandle) (handle : SiteHandle) → numbers_of (places_of before) ≡ below n → after ≡ before ++ handle ∷ [] → (site_of handle).number ≡ n → numbers_of (places_of after) ≡ below (n + 1)
one_more n before after handle are is number =
    ap (λ handles. numbers_of (places_of handles)) is
    ∙ (ap numbers_of (map-append place_of before (handle ∷ []))
    ∙ (map-append (λ (place : Place). place.site.number) (places_of before) (place_of handle ∷ [])
    ∙ (ap (λ ns. ns ++ (site_of handle).number ∷ []) are ∙ (ap (λ m. below n ++ m ∷ []) number ∙ ap below (next n)))))

-- what holds of all holds with one pushed, and of the first
pub pushed_all : {A : Type 0} (P : A → Type 0) (new old : List A) (x : A) → new ≡ old ++ x ∷ [] → All P old → P x → All P new
pushed_all P new old x is all holds = subst (All P) (sym is) (All-push P old x all holds)

-- the last of three that leave from the end stood first
pub first_of_three : {A : Type 0} (three two one none : List A) (x y z : A) → three ≡ two ++ x ∷ [] → two ≡ one ++ y ∷ [] → one ≡ none ++ z ∷ [] → length three ≡ 3 → slice_get three 0 ≡ Some z
first_of_three three two one [] x y z first second third len = ap (λ xs. slice_get xs 0) (first ∙ ap (λ xs. xs ++ x ∷ []) (second ∙ ap (λ xs. xs ++ y ∷ []) third))
first_of_three three two one (n ∷ none) x y z first second third len =
    let three_is = ap length first ∙ length-append two (x ∷ []) in
    let two_is = ap length second ∙ length-append one (y ∷ []) in
    let one_is = ap length third ∙ length-append (n ∷ none) (z ∷ []) in
    absurd (omega (arith, three_is, two_is, one_is, len))

-- the first is at the site of all
pub of_site : (handles : List SiteHandle) (site : Site) (first : SiteHandle) → All (λ handle. site_of handle ≡ site) handles → slice_get handles 0 ≡ Some first → site_of first ≡ site
of_site handles site first all is = ap site_of (sym (get_or_from_slice_get handles 0 first first is)) ∙ all 0 first (slice_get_within handles 0 first is)

-- three are there
pub three_posts : (handles : List SiteHandle) → numbers_of (places_of handles) ≡ 0 ∷ 1 ∷ 2 ∷ [] → length handles ≡ 3
three_posts handles are =
    let numbers : length (numbers_of (places_of handles)) ≡ 3 = ap length are in
    omega (arith, numbers, length-map (places_of handles) (λ (place : Place). place.site.number), length-map handles place_of)
