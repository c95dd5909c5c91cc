-- What is to be written is read again.

use Rattle.std.proofs.Common.{List, None, Option, Some, [], length, refl, subst, sym, ℕ, ◌++◌, ◌∷◌, ◌≡◌}
use Rattle.std.specs.Prelude.{IfSome, IsSome}
use Rattle.zq_dots.specs.Placed.{Placed}
use Rattle.zq_entries.specs.Entry.{Entry, OfPiece, OfRound, OfSealed}
use Rattle.zq_entries.specs.declared.sealed.Sealed as sealed
use Rattle.zq_entries.specs.declared.start.Start.{Start}
use Rattle.zq_keeper.proofs.Counting.{comes_counted, each_counted, none_counted}
use Rattle.zq_keeper.proofs.Reading.{begun_read, written}
use Rattle.zq_keeper.specs.Keeper.{IsNextFile, IsStartOf}
use Rattle.zq_keeper.specs.Operations.{chosen}
use Rattle.zq_keeper.specs.Outline.{AreCounted}
use Rattle.zq_keeper.specs.Read.{IsReadAs, IsSpelled}
use Rattle.zq_keeper.specs.Switch.{Begun, IsPieced, IsSealing, IsStartEntry}
use Rattle.zq_keeper.specs.Turn.{IsShare, IsTurn}
use Rattle.zq_keeper.specs.declared.next.Next.{Next}
use Rattle.zq_keeper.specs.declared.outline.Outline.{Outline}
use Rattle.zq_keeper.specs.declared.turn.Share.{Share}
use Rattle.zq_keeper.specs.declared.turn.Turn.{Turn}
use Rattle.zq_links.specs.declared.piece.Piece.{Piece}
use Rattle.zq_recovery.specs.declared.opening.Identity.{Identity}
use Rattle.zq_wal.specs.Format.{payload_over}

-- ---- the log

pub turn_read : (i : Identity) (payloads : List (List ℕ)) (start : Option Start)
    (outlines : List Outline) (e : Entry) (t : Turn) → IsReadAs i payloads start outlines →
    IsTurn i start outlines e t →
    IsReadAs i (payloads ++ payload_over (length payloads) t.entry.items ∷ []) (Some t.start)
    t.heaps.items
turn_read i payloads start outlines e t is turn =
    written i payloads (length payloads) t.entry.items e start (Some t.start) outlines t.heaps.items
    is turn.entry turn.turns

-- behind a call that left the log as it was
pub turn_read_after : (i j : Identity) (p q : List (List ℕ)) (start : Option Start)
    (outlines : List Outline) (e : Entry) (t : Turn) → j ≡ i → q ≡ p → IsReadAs i p start outlines →
    IsTurn i start outlines e t →
    IsReadAs j (q ++ payload_over (length q) t.entry.items ∷ []) (Some t.start) t.heaps.items
turn_read_after i j p q start outlines e t identity same is turn =
    subst (λ x. IsReadAs x (q ++ payload_over (length q) t.entry.items ∷ []) (Some t.start)
    t.heaps.items) (sym identity)
    (subst (λ l. IsReadAs i (l ++ payload_over (length l) t.entry.items ∷ []) (Some t.start)
    t.heaps.items) (sym same) (turn_read i p start outlines e t is turn))

pub start_after : (i j : Identity) (start : Option Start) (s : Start) → j ≡ i → start ≡ Some s →
    IfSome start (IsStartOf i) → IsStartOf j s
start_after i j start s identity same is =
    subst (λ x. IsStartOf x s) (sym identity) (subst (λ x. IfSome x (IsStartOf i)) same is)

-- ---- the next file

pub share_read : (i : Identity) (start : Option Start) (file : Option ℕ) (next : Option Next)
    (payloads : List (List ℕ)) (batches : List (List Placed)) (s : Share) → IsSome start →
    IsNextFile i start file next payloads → IsShare i batches next (Some s) →
    IsReadAs i (payloads ++ payload_over 0 s.entry.items ∷ []) start s.next.heaps.items
share_read i start file None payloads batches s some is share = absurd (cc)
share_read i start file (Some n) payloads batches s some is share =
    written i payloads 0 s.entry.items (OfRound (chosen n.parts.items batches)) start start
    n.heaps.items s.next.heaps.items is.1 share.entry
    (record { opens = (some, refl); says = share.noted })

pub share_counted : (i : Identity) (start : Option Start) (file : Option ℕ) (next : Option Next)
    (payloads : List (List ℕ)) (batches : List (List Placed)) (s : Share) →
    IsNextFile i start file next payloads → IsShare i batches next (Some s) →
    AreCounted s.next.heaps.items
share_counted i start file None payloads batches s is share = absurd (cc)
share_counted i start file (Some n) payloads batches s is share =
    each_counted i (chosen n.parts.items batches) n.heaps.items s.next.heaps.items share.noted is.2

pub piece_read : (i : Identity) (start : Option Start) (file : Option ℕ) (next : Option Next)
    (payloads : List (List ℕ)) (outlines : List Outline) (p : Piece) (bytes : List ℕ) (m : Next) →
    IsSome start → IsNextFile i start file next payloads → IsSpelled (OfPiece p) bytes →
    IsPieced i outlines p next (Some m) →
    IsReadAs i (payloads ++ payload_over 0 bytes ∷ []) start m.heaps.items
piece_read i start file None payloads outlines p bytes m some is spelled pieced = absurd pieced
piece_read i start file (Some n) payloads outlines p bytes m some is spelled pieced =
    written i payloads 0 bytes (OfPiece p) start start n.heaps.items m.heaps.items is.1 spelled
    (record { opens = (some, refl); says = pieced.1.comes })

pub piece_counted : (i : Identity) (start : Option Start) (file : Option ℕ) (next : Option Next)
    (payloads : List (List ℕ)) (outlines : List Outline) (p : Piece) (m : Next) →
    IsNextFile i start file next payloads → IsPieced i outlines p next (Some m) →
    AreCounted m.heaps.items
piece_counted i start file None payloads outlines p m is pieced = absurd pieced
piece_counted i start file (Some n) payloads outlines p m is pieced =
    comes_counted i p n.heaps.items m.heaps.items pieced.1.comes is.2

pub seal_read : (i : Identity) (start : Option Start) (file : Option ℕ) (next : Option Next)
    (payloads : List (List ℕ)) (heap : ℕ) (w : sealed.Sealed) (bytes : List ℕ) (m : Next) →
    IsSome start → IsNextFile i start file next payloads → IsSpelled (OfSealed w) bytes →
    IsSealing i heap next w m →
    IsReadAs i (payloads ++ payload_over 0 bytes ∷ []) start m.heaps.items
seal_read i start file None payloads heap w bytes m some is spelled sealing = absurd sealing
seal_read i start file (Some n) payloads heap w bytes m some is spelled sealing =
    written i payloads 0 bytes (OfSealed w) start start n.heaps.items m.heaps.items is.1 spelled
    (record { opens = (some, refl); says = (sealing.whole, sealing.heaps) })

pub seal_counted : (i : Identity) (start : Option Start) (file : Option ℕ) (next : Option Next)
    (payloads : List (List ℕ)) (heap : ℕ) (w : sealed.Sealed) (m : Next) →
    IsNextFile i start file next payloads → IsSealing i heap next w m → AreCounted m.heaps.items
seal_counted i start file None payloads heap w m is sealing = absurd sealing
seal_counted i start file (Some n) payloads heap w m is sealing =
    subst AreCounted (sym sealing.heaps) is.2

-- ---- a next file that is begun

pub begin_read : (i : Identity) (start : Option Start) (payloads staged : List (List ℕ))
    (outlines : List Outline) (bytes : List ℕ) (n : Next) → staged ≡ [] →
    IfSome start (IsStartOf i) → IsReadAs i payloads start outlines → IsStartEntry start bytes →
    Begun i (Some n) → IsReadAs i (staged ++ payload_over 0 bytes ∷ []) start n.heaps.items
begin_read i None payloads staged outlines bytes n none of is spelled begun = absurd spelled
begin_read i (Some s) payloads staged outlines bytes n none of is spelled begun =
    subst (λ l. IsReadAs i (l ++ payload_over 0 bytes ∷ []) (Some s) n.heaps.items) (sym none)
    (subst (λ xs. IsReadAs i (payload_over 0 bytes ∷ []) (Some s) xs) (sym begun.0)
    (begun_read i payloads (Some s) outlines s bytes is of.of spelled))

pub begin_counted : (i : Identity) (n : Next) → Begun i (Some n) → AreCounted n.heaps.items
begin_counted i n begun = subst AreCounted (sym begun.0) (none_counted i.heaps)
