-- What lists are that were listed by handles.
use Rattle.std.proofs.Common.{ap, arith, subst, sym, ◌∙◌}
use Rattle.std.proofs.lemmas.List.{append_assoc, length-map}
use Rattle.std.proofs.lemmas.List.Elements.{All-cons}
use Rattle.std.specs.List.{IsFirstAndRest}
use Rattle.std.specs.List.Sorted.{IsSorted}
use Rattle.std.specs.Prelude.{All, List, [], length, map, ℕ, ℤ, ◌++◌, ◌∷◌, ◌≡◌}
use Rattle.std.specs.declared.alloc.Global.{Global}
use Rattle.std.specs.declared.vec.Vec.{Vec}
use Rattle.zq_drill.specs.Listed.{AreListed, IsListed}
use Rattle.zq_drill.specs.Lists.{listed, lists_of}
use Rattle.zq_drill.specs.SiteHandles.{Place, place_of, places_of, site_of}
use Rattle.zq_drill.specs.declared.site_handle.SiteHandle.{SiteHandle}
use Rattle.zq_model.specs.Meaning.{Scored, scored_cmp}
use Rattle.zq_spread.specs.declared.pass.Pass.{Pass}

-- there are as many as handles
pub listed_number : (places : List Place) (lists : List (List Scored)) → AreListed places lists → length lists ≡ length places
listed_number [] [] is = omega arith
listed_number [] (list ∷ lists) is = absurd is
listed_number (place ∷ places) [] is = absurd is
listed_number (place ∷ places) (list ∷ lists) is = omega (arith, listed_number places lists is.2)

-- each is sorted
pub listed_sorted : (places : List Place) (lists : List (List Scored)) → AreListed places lists → All (IsSorted scored_cmp) lists
listed_sorted [] [] is = λ k d high. absurd (omega (arith, high))
listed_sorted [] (list ∷ lists) is = absurd is
listed_sorted (place ∷ places) [] is = absurd is
listed_sorted (place ∷ places) (list ∷ lists) is = All-cons (IsSorted scored_cmp) list lists is.1.sorted (listed_sorted places lists is.2)

-- a list is listed before the others
pub listed_next : (handle : SiteHandle) (others handles : List SiteHandle) (list : List Scored) (lists : List (List Scored)) (after : Pass) → IsFirstAndRest handles handle others → IsListed (site_of handle) handle.pass after list → AreListed (places_of others) lists → AreListed (places_of handles) (list ∷ lists)
listed_next handle others handles list lists after is one rest = subst (λ (ps : List SiteHandle). AreListed (places_of ps) (list ∷ lists)) (sym is.0) (after, one, rest)

-- what is appended one by one is appended together
pub appended : {A : Type 0} (old mid new : List A) (x : A) (xs : List A) → mid ≡ old ++ (x ∷ []) → new ≡ mid ++ xs → new ≡ old ++ (x ∷ xs)
appended old mid new x xs first then = then ∙ (ap (λ ys. ys ++ xs) first ∙ append_assoc old (x ∷ []) xs)

-- there are as many places as handles
pub places_number : (handles : List SiteHandle) → length (places_of handles) ≡ length handles
places_number handles = length-map handles place_of

-- there are as many as vectors
pub lists_number : (lists : List (Vec (ℤ × Vec ℕ Global) Global)) → length (lists_of lists) ≡ length lists
lists_number lists = length-map lists (λ list. map listed list.items)
