-- What is carried one after the other, over a list.
use Rattle.std.proofs.Common.{Global, Vec, ap, map, refl, subst, sym, take, ◌<◌, ◌+◌, ◌∙◌}
use Rattle.std.proofs.Math.ListN.{get_or}
use Rattle.std.proofs.lemmas.Grind.{flat_map-append}
use Rattle.std.proofs.lemmas.List.{map-append, take_more}
use Rattle.std.specs.Prelude.{Bool, List, [], false, flat_map, length, true, ℕ, ◌&&◌, ◌++◌, ◌∷◌, ◌≡◌}
use Rattle.zq_links.specs.Frame.{Frame, frame_of}
use Rattle.zq_links.specs.declared.frame.Frame as code
use Rattle.zq_node.specs.Hearing.{sent_to}
use Rattle.zq_peers.specs.Carried.{AreCarried, Carriage}
use Rattle.zq_peers.specs.Lossy.{each_to}

both_assoc : (a b c : Bool) → (a && b) && c ≡ a && (b && c)
both_assoc true b c = refl
both_assoc false b c = refl

both_true : (a : Bool) → a && true ≡ a
both_true true = refl
both_true false = refl

-- what was carried, and then more
pub carried_on : {X C : Type 0} (carries : Carriage X C) (a b c : C) (xs ys : List (ℕ × X)) (u v : Bool) → AreCarried carries a b xs u → AreCarried carries b c ys v →
    AreCarried carries a c (xs ++ ys) (u && v)
carried_on carries a b c [] ys u v (here, whole) more = subst (λ s. AreCarried carries s c ys (u && v)) (sym here) (subst (AreCarried carries b c ys) (sym (ap (λ w. w && v) whole)) more)
carried_on carries a b c (x ∷ xs) ys u v (mid, first, others, one, rest, whole) more =
    (mid, first, (others && v), one, carried_on carries mid b c xs ys others v rest more, ap (λ w. w && v) whole ∙ both_assoc first others v)

-- and one more
carried_one : {X C : Type 0} (carries : Carriage X C) (a b c : C) (xs : List (ℕ × X)) (to : ℕ) (x : X) (u v : Bool) → AreCarried carries a b xs u → carries b to x v c →
    AreCarried carries a c (xs ++ (to, x) ∷ []) (u && v)
carried_one carries a b c xs to x u v before one = carried_on carries a b c xs ((to, x) ∷ []) u v before (c, v, true, one, (refl, refl), sym (both_true v))

-- the same of bytes that go to one site
pub carried_next : {C : Type 0} (carries : Carriage (List ℕ) C) (a b c : C) (to : ℕ) (done : List (Vec ℕ Global)) (frame : Vec ℕ Global) (u v w : Bool) → w ≡ (u && v) →
    AreCarried carries a b (each_to to (map (λ f. f.items) done)) u → carries b to frame.items v c →
    AreCarried carries a c (each_to to (map (λ f. f.items) (done ++ frame ∷ []))) w
carried_next carries a b c to done frame u v w both before one =
    let bytes = ap (each_to to) (map-append (λ f. f.items) done (frame ∷ [])) ∙ map-append (λ bytes. (to, bytes)) (map (λ f. f.items) done) (frame.items ∷ []) in
    subst (AreCarried carries a c (each_to to (map (λ f. f.items) (done ++ frame ∷ [])))) (sym both) (subst (λ l. AreCarried carries a c l (u && v)) (sym bytes) (carried_one carries a b c (each_to to (map (λ f. f.items) done)) to frame.items u v before one))

-- one for each element of a list: those of its first elements were carried, and then that of the next
pub sent_next : {C X Y : Type 0} (carries : Carriage Y C) (site : X → ℕ) (what : X → Y) (a b c : C) (xs : List X) (i : ℕ) (x : X) (u v w : Bool) → w ≡ (u && v) → i < length xs → x ≡ get_or xs i x →
    AreCarried carries a b (map (λ y. (site y, what y)) (take i xs)) u → carries b (site x) (what x) v c → AreCarried carries a c (map (λ y. (site y, what y)) (take (i + 1) xs)) w
sent_next {C} {X} {Y} carries site what a b c xs i x u v w both below is before one =
    let f : X → ℕ × Y = λ y. (site y, what y) in
    let parcels = ap (map f) (take_more xs i x below ∙ ap (λ y. take i xs ++ y ∷ []) (sym is)) ∙ map-append f (take i xs) (x ∷ []) in
    subst (AreCarried carries a c (map f (take (i + 1) xs))) (sym both) (subst (λ l. AreCarried carries a c l (u && v)) (sym parcels) (carried_one carries a b c (map f (take i xs)) (site x) (what x) u v before one))

-- the same with some for each element
pub sent_more : {C X Y : Type 0} (carries : Carriage Y C) (f : X → List (ℕ × Y)) (a b c : C) (xs : List X) (i : ℕ) (x : X) (u v w : Bool) → w ≡ (u && v) → i < length xs → x ≡ get_or xs i x →
    AreCarried carries a b (flat_map f (take i xs)) u → AreCarried carries b c (f x) v → AreCarried carries a c (flat_map f (take (i + 1) xs)) w
sent_more carries f a b c xs i x u v w both below is before some =
    let parcels = ap (flat_map f) (take_more xs i x below ∙ ap (λ y. take i xs ++ y ∷ []) (sym is)) ∙ flat_map-append f (take i xs) (x ∷ []) in
    let whole = carried_on carries b c c (f x) [] v true some (refl, refl) in
    subst (AreCarried carries a c (flat_map f (take (i + 1) xs))) (sym both) (subst (λ l. AreCarried carries a c l (u && v)) (sym parcels) (carried_on carries a b c (flat_map f (take i xs)) (f x ++ []) u v before (subst (AreCarried carries b c (f x ++ [])) (both_true v) whole)))

pub to_one : (to : ℕ) (frames : List code.Frame) → map (λ f. (to, frame_of f)) frames ≡ sent_to to (map frame_of frames)
to_one to [] = refl
to_one to (f ∷ frames) = ap (λ (l : List (ℕ × Frame)). (to, frame_of f) ∷ l) (to_one to frames)
