-- What becomes of what came of a heap in pieces.

use Rattle.std.proofs.Common.{Bool, List, None, Option, Some, ap, false, inl, inr, refl, subst, sym, true, ℕ, ◌∙◌, ◌≡◌}
use Rattle.std.proofs.lemmas.Bool.{and_from, and_parts, eqb-true, false≢true}
use Rattle.std.specs.Prelude.{Err, IfNone, IfSome, Ok, OnErr, OnOk, Result, is_some, ◌==◌, ◌⊎◌}
use Rattle.zq_dots.specs.Placed.{Placed}
use Rattle.zq_links.specs.declared.frame.Frame as code
use Rattle.zq_links.specs.declared.piece.Piece.{Piece}
use Rattle.zq_node.specs.declared.node.Node.{Node}
use Rattle.zq_replica.specs.Fence.{IsJudged, IsStanding, IsSteady}
use Rattle.zq_replica.specs.Gathered.{AreFed, IsFedIn, IsGatheringBy, IsGatheringPiece, IsWholeIn, is_awaited, is_gathered, is_part_of, is_whole}
use Rattle.zq_replica.specs.declared.gathering.Gathering.{Gathering}
use Rattle.zq_replica.specs.declared.gathering.Stray.{Stray}
use Rattle.zq_replica.specs.declared.joining.Joining.{Joining}
use Rattle.zq_replica.specs.declared.replica.Replica.{Replica}
use Rattle.zq_shard.specs.Shard.{HeapImage}

-- what is steady stands, and has gathered nothing
pub standing_by : (a b : Replica) → IsSteady a b → IsStanding a b
standing_by a b steady = ap (λ p. (p.0, p.1)) steady

pub gathered_by : (a b : Replica) → IsSteady a b → b.gathering ≡ a.gathering
gathered_by a b steady = ap (λ p. p.2) steady

-- so does a site that is judged
pub gathered_judged : (peer : ℕ) (told : ℕ → ℕ) (a b : Node) (was now : Replica) (answer : Bool) →
    IsJudged peer told a b was now answer → now.gathering ≡ was.gathering
gathered_judged peer told a b was now true w = ap (λ (r : Replica). r.gathering) w.1.3
gathered_judged peer told a b was now false w = ap (λ (r : Replica). r.gathering) w.0

-- a site that is free is as it was before it was judged
free_is : (peer : ℕ) (told : ℕ → ℕ) (a b : Node) (was mid : Replica) (answer : Bool) →
    answer ≡ false → IsJudged peer told a b was mid answer → mid ≡ was
free_is peer told a b was mid answer is judged =
    (subst (λ (x : Bool). IsJudged peer told a b was mid x) is judged).0

pub frame_after : (peer : ℕ) (told : ℕ → ℕ) (frame : code.Frame) (a b : Node)
    (was mid : Replica) (joining : Joining) (after : Option Gathering) (answer : Bool) →
    answer ≡ false → IsJudged peer told a b was mid answer →
    IsGatheringBy peer (record mid { joining = joining }) frame after →
    IsGatheringBy peer was frame after
frame_after peer told frame a b was mid joining after answer is judged gathers =
    subst (λ (r : Replica). IsGatheringBy peer (record r { joining = joining }) frame after) (free_is peer told a b was mid answer is judged) gathers

pub piece_after : (peer : ℕ) (told : ℕ → ℕ) (p : Piece) (a b : Node) (was mid : Replica)
    (after : Option Gathering) (answer : Bool) → answer ≡ false →
    IsJudged peer told a b was mid answer → IsGatheringPiece peer mid p after →
    IsGatheringPiece peer was p after
piece_after peer told p a b was mid after answer is judged gathers =
    subst (λ (r : Replica). IsGatheringPiece peer r p after) (free_is peer told a b was mid answer is judged) gathers

-- what came is a part of the heap of the peer
pub from_peer : (peer heap : ℕ) (g : Gathering) → is_part_of peer heap (Some g) ≡ true →
    g.from ≡ peer
from_peer peer heap g part =
    eqb-true g.from peer (and_parts (g.from == peer) (g.receiving.staged.held.heap == heap) part).0

pub gathered_so : (peer heap same : ℕ) (was : Replica) (g : Gathering) → heap ≡ same →
    was.gathering ≡ Some g → is_part_of peer heap (Some g) ≡ true →
    is_awaited peer heap was ≡ true → is_gathered peer same was ≡ true
gathered_so peer heap same was g is before part awaited =
    subst (λ (h : ℕ). is_gathered peer h was ≡ true) is (and_from (is_part_of peer heap was.gathering) (is_awaited peer heap was) (ap (is_part_of peer heap) before ∙ part) awaited)

-- what holds holds of a refusal
pub refused_so : (r : Result Bool Stray) (P : Type 0) → P → OnErr r P
refused_so (Ok x) P holds = tt
refused_so (Err e) P holds = holds

-- all of it came
pub whole_in : (r : Option HeapImage) (before : Option Gathering) (g : Gathering) →
    before ≡ Some g → is_whole before ≡ true →
    IfSome r (λ s. s ≡ g.receiving.staged.held) → IfSome r (IsWholeIn before)
whole_in (Some s) before g is whole held =
    subst (λ (o : Option Gathering). IsWholeIn o s) (sym is) (sym (ap is_whole is) ∙ whole, held)
whole_in None before g is whole held = tt

pub taken_out : (r : Option HeapImage) (after : Option Gathering) → after ≡ None →
    IfSome r (λ _. after ≡ None)
taken_out (Some s) after is = is
taken_out None after is = tt

pub not_left : (r : Option HeapImage) (P : Type 0) (before : Option Gathering) (g : Gathering) →
    before ≡ Some g → is_whole before ≡ true → is_some r ≡ g.receiving.staged.whole → IfNone r P
not_left (Some s) P before g is whole some = tt
not_left None P before g is whole some =
    absurd (false≢true (some ∙ (sym (ap is_whole is) ∙ whole)))

-- it took operations, before and after which it was as it was
pub fed_some : (r : Result (Unit {0}) Stray) (ops : List Placed) (before after : Option Gathering)
    (g h : Gathering) → before ≡ Some g → after ≡ Some h → h.from ≡ g.from →
    OnOk r (AreFed ops g.receiving h.receiving) → OnOk r (IsFedIn ops before after)
fed_some (Ok x) ops before after g h was now from fed =
    subst (λ (o : Option Gathering). IsFedIn ops o after) (sym was) (h, now, from, fed)
fed_some (Err e) ops before after g h was now from fed = tt

pub fed_between : (ops : List Placed) (a b c d : Replica) → IsSteady a b →
    IsFedIn ops b.gathering c.gathering → IsSteady c d →
    IsFedIn ops a.gathering d.gathering ⊎ (d.gathering ≡ None)
fed_between ops a b c d first fed then =
    let before = subst (λ (o : Option Gathering). IsFedIn ops o c.gathering) (gathered_by a b first) fed in
    inl (subst (λ (o : Option Gathering). IsFedIn ops a.gathering o) (sym (gathered_by c d then)) before)

pub standing_between : (a b c d : Replica) → IsSteady a b → IsStanding b c → IsStanding c d →
    IsStanding a d
standing_between a b c d first mid then = then ∙ (mid ∙ standing_by a b first)
