-- Whether another run used a site's number, with what the site was asked before and after.

use Rattle.std.proofs.Common.{Bool, List, Option, ap, below_more, false, inl, inr, refl, subst, sym, true, ℕ, ⊎_elim, ◌+◌, ◌<◌, ◌↔◌, ◌∙◌, ◌≡◌, ◌≤◌}
use Rattle.std.proofs.lemmas.Bool.{and_parts, cases_lt, false≢true, iff_false, not-true}
use Rattle.std.specs.Prelude.{Err, IsSome, MatchResult, None, Ok, Result, Some, is_ok, is_some, not, slice_index, ◌⊎◌}
use Rattle.zq_links.specs.Batch.{IsOneOf}
use Rattle.zq_links.specs.Control.{control_of}
use Rattle.zq_links.specs.ControlSpelling.{control_spelling}
use Rattle.zq_links.specs.Frame.{frame_of}
use Rattle.zq_links.specs.Pieces.{piece_bytes}
use Rattle.zq_links.specs.declared.control.Control as control
use Rattle.zq_links.specs.declared.frame.Frame as code
use Rattle.zq_links.specs.declared.piece.Piece.{Piece}
use Rattle.zq_node.specs.declared.node.Node.{Node}
use Rattle.zq_replica.proofs.Shown.{shown_after, shown_before}
use Rattle.zq_replica.specs.Fence.{IsFencedIn, IsFree, IsFreeIn, IsJudged, IsJudgedIn, IsWeighed, IsWeighedBy, IsWeighedByBytes, IsWeighedByControl, IsWeighedByPiece, Sent}
use Rattle.zq_replica.specs.Joined.{HasHeardControl, HasHeardFrame}
use Rattle.zq_replica.specs.Nodes.{Shows, WasShown}
use Rattle.zq_replica.specs.Sites.{fence_of, is_heeded, is_up}
use Rattle.zq_replica.specs.Told.{told_by, told_by_control}
use Rattle.zq_replica.specs.declared.joining.Joining.{Joining}
use Rattle.zq_replica.specs.declared.replica.Replica.{Replica}

pub free_after : (own heap known : ℕ) (a b c : Node) → Shows a b → IsFreeIn own heap known b c →
    IsFreeIn own heap known a c
free_after own heap known a b c first (inl none) = inl none
free_after own heap known a b c first (inr w) =
    inr (w.0, shown_after a b c heap w.0 first w.1, w.2)

pub free_before : (own heap known : ℕ) (a b c : Node) → IsFreeIn own heap known a b → Shows b c →
    IsFreeIn own heap known a c
free_before own heap known a b c (inl none) then = inl none
free_before own heap known a b c (inr w) then =
    inr (w.0, shown_before a b c heap w.0 w.1 then, w.2)

pub fenced_after : (peer heap known : ℕ) (a b c : Node) (was now : Replica) → Shows a b →
    IsFencedIn peer heap known b c was now → IsFencedIn peer heap known a c was now
fenced_after peer heap known a b c was now first w =
    (w.0, shown_after a b c heap w.0 first w.1, w.2, w.3)

-- one heap more was judged, and the site is free
pub free_more : (own : ℕ) (told : ℕ → ℕ) (a b c : Node) (n : ℕ) →
    ((h : ℕ) → h < n → IsFreeIn own h (told h) a b) → Shows a b → Shows b c →
    IsFreeIn own n (told n) b c → (h : ℕ) → h < n + 1 → IsFreeIn own h (told h) a c
free_more own told a b c n each first then last =
    below_more (λ h. IsFreeIn own h (told h) a c) n (λ h less. free_before own h (told h) a b c (each h less) then) (free_after own n (told n) a b c first last)

-- by the answer that was given
pub judged_true : (peer heap known : ℕ) (a b : Node) (was now : Replica) (answer : Bool) →
    answer ≡ true → IsJudgedIn peer heap known a b was now answer →
    IsFencedIn peer heap known a b was now
judged_true peer heap known a b was now answer is judged =
    subst (λ (x : Bool). IsJudgedIn peer heap known a b was now x) is judged

pub judged_false : (peer heap known : ℕ) (a b : Node) (was now : Replica) (answer : Bool) →
    answer ≡ false → IsJudgedIn peer heap known a b was now answer →
    (now ≡ was) × IsFreeIn was.own heap known a b
judged_false peer heap known a b was now answer is judged =
    subst (λ (x : Bool). IsJudgedIn peer heap known a b was now x) is judged

-- the site is fenced, and nothing more is done
pub weighed_fenced : (peer : ℕ) (told : ℕ → ℕ) (Hears : Joining → Joining → Type 0) (a b : Node)
    (was now : Replica) (sent : Sent) (answer : Bool) → answer ≡ true →
    IsJudged peer told a b was now answer → IsWeighed peer told Hears a b was now sent sent
weighed_fenced peer told Hears a b was now sent answer is judged =
    let w = subst (λ (x : Bool). IsJudged peer told a b was now x) is judged in
    inl (w.0, w.1, refl)

-- the site is free, and stays so
pub weighed_free : (peer : ℕ) (told : ℕ → ℕ) (Hears : Joining → Joining → Type 0) (a b c : Node)
    (was mid now : Replica) (sent after : Sent) (answer : Bool) → answer ≡ false →
    IsJudged peer told a b was mid answer → fence_of now ≡ fence_of mid →
    Hears mid.joining now.joining → IsWeighed peer told Hears a c was now sent after
weighed_free peer told Hears a b c was mid now sent after answer is judged kept heard =
    let w = subst (λ (x : Bool). IsJudged peer told a b was mid x) is judged in
    inr (b, w.1, kept ∙ ap fence_of w.0, subst (λ (r : Replica). Hears r.joining now.joining) w.0 heard)

-- after a failure of what comes then the site is not fenced either
pub stays_free : (peer : ℕ) (told : ℕ → ℕ) (a b : Node) (was mid now : Replica) (answer : Bool) →
    answer ≡ false → IsJudged peer told a b was mid answer → fence_of now ≡ fence_of mid →
    fence_of now ≡ fence_of was
stays_free peer told a b was mid now answer is judged kept =
    let w = subst (λ (x : Bool). IsJudged peer told a b was mid x) is judged in
    kept ∙ ap fence_of w.0

-- no fewer, where it is not so that there are fewer
pub not_fewer : (answer : Bool) (m n : ℕ) → ((answer ≡ true) ↔ (m < n)) → answer ≡ false → n ≤ m
not_fewer answer m n iff is =
    ⊎_elim (λ less. absurd (iff_false iff is less)) (λ most. most) (cases_lt m n)

-- one heap was judged, where what is told is so much
pub fenced_so : (peer heap known : ℕ) (told : ℕ → ℕ → ℕ → ℕ) (a b c : Node)
    (was mid now : Replica) (answer : Bool) → answer ≡ true → mid ≡ was →
    known ≡ told mid.own mid.heaps heap → Shows a b → IsJudgedIn peer heap known b c mid now answer →
    IsFencedIn peer heap (told was.own was.heaps heap) a c was now
fenced_so peer heap known told a b c was mid now answer is same so first judged =
    let here = judged_true peer heap known b c mid now answer is judged in
    let of_was = subst (λ (r : Replica). IsFencedIn peer heap known b c r now) same here in
    let as_told = so ∙ ap (λ (r : Replica). told r.own r.heaps heap) same in
    fenced_after peer heap (told was.own was.heaps heap) a b c was now first (subst (λ (k : ℕ). IsFencedIn peer heap k b c was now) as_told of_was)

pub free_so : (peer heap known : ℕ) (told : ℕ → ℕ → ℕ → ℕ) (b c : Node) (was mid now : Replica)
    (answer : Bool) → answer ≡ false → mid ≡ was → known ≡ told mid.own mid.heaps heap →
    IsJudgedIn peer heap known b c mid now answer →
    (now ≡ was) × IsFreeIn was.own heap (told was.own was.heaps heap) b c
free_so peer heap known told b c was mid now answer is same so judged =
    let here = judged_false peer heap known b c mid now answer is judged in
    let free = subst (λ (r : Replica). IsFreeIn r.own heap known b c) same here.1 in
    let as_told = so ∙ ap (λ (r : Replica). told r.own r.heaps heap) same in
    (here.0 ∙ same, subst (λ (k : ℕ). IsFreeIn was.own heap k b c) as_told free)

-- what comes of the rest, to its end or not
pub weighed_by : {E : Type 0} → (r : Result (Unit {0}) E) (peer : ℕ) (told : ℕ → ℕ)
    (Hears : Joining → Joining → Type 0) (a b c : Node) (was mid now : Replica) (sent after : Sent)
    (answer : Bool) → answer ≡ false → IsJudged peer told a b was mid answer →
    fence_of now ≡ fence_of mid → Hears mid.joining now.joining →
    MatchResult r (λ _. IsWeighed peer told Hears a c was now sent after)
    (λ _. fence_of now ≡ fence_of was)
weighed_by (Ok x) peer told Hears a b c was mid now sent after answer is judged kept heard =
    weighed_free peer told Hears a b c was mid now sent after answer is judged kept heard
weighed_by (Err e) peer told Hears a b c was mid now sent after answer is judged kept heard =
    stays_free peer told a b was mid now answer is judged kept

-- the same of the bytes
pub bytes_by_frame : {E F : Type 0} → (r : Result (Unit {0}) E) (s : Result (Unit {0}) F)
    (peer : ℕ) (frame : code.Frame) (bytes : List ℕ) (a c : Node) (was now : Replica)
    (sent after : Sent) → is_ok s ≡ is_ok r → IsOneOf (frame_of frame) bytes →
    MatchResult r (λ _. IsWeighedBy peer frame a c was now sent after)
    (λ _. fence_of now ≡ fence_of was) →
    MatchResult s (λ _. IsWeighedByBytes peer bytes a c was now sent after)
    (λ _. fence_of now ≡ fence_of was)
bytes_by_frame (Ok x) (Ok y) peer frame bytes a c was now sent after alike of w =
    inl (frame, of, w)
bytes_by_frame (Ok x) (Err f) peer frame bytes a c was now sent after alike of w =
    absurd (false≢true alike)
bytes_by_frame (Err e) (Ok y) peer frame bytes a c was now sent after alike of w =
    absurd (false≢true (sym alike))
bytes_by_frame (Err e) (Err f) peer frame bytes a c was now sent after alike of w = w

-- the same of the bytes of a piece
pub bytes_by_piece : {E F : Type 0} → (r : Result (Unit {0}) E) (s : Result (Unit {0}) F)
    (peer : ℕ) (p : Piece) (bytes : List ℕ) (a c : Node) (was now : Replica)
    (sent after : Sent) → is_ok s ≡ is_ok r → bytes ≡ piece_bytes p →
    MatchResult r (λ _. IsWeighedByPiece peer p a c was now sent after)
    (λ _. fence_of now ≡ fence_of was) →
    MatchResult s (λ _. IsWeighedByBytes peer bytes a c was now sent after)
    (λ _. fence_of now ≡ fence_of was)
bytes_by_piece (Ok x) (Ok y) peer p bytes a c was now sent after alike of w =
    inr (inr (p, of, w))
bytes_by_piece (Ok x) (Err f) peer p bytes a c was now sent after alike of w =
    absurd (false≢true alike)
bytes_by_piece (Err e) (Ok y) peer p bytes a c was now sent after alike of w =
    absurd (false≢true (sym alike))
bytes_by_piece (Err e) (Err f) peer p bytes a c was now sent after alike of w = w
