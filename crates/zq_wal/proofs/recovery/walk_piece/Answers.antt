use Rattle.std.proofs.Common.{◌≡◌, ◌<◌, ◌≤◌, ◌++◌, ◌∙◌, IfSome, List, Option, ap, length, subst, sym, take, ℕ}
use Rattle.zq_wal.specs.Format.{recovered}
use Rattle.zq_wal.specs.Replay.{Replayed}
use Rattle.zq_wal.specs.Walk.{IsWalk}
use Rattle.zq_wal.proofs.recovery.walk_piece.Goals as goal

pub returns-clause-walk : goal.returns-clause-walk
returns-clause-walk g c =
    let old = g.S.Source.given c.args.source.now in
    let new = g.S.Source.given c.next_piece.new.source in
    let items = c.next_piece.new.piece.items in
    let n = c.in-Some.n in
    let more : (0 < n) × (n ≤ length items) × (new ≡ old ++ take n items) =
    subst (λ (x : Option ℕ). IfSome x (λ n. (0 < n) × (n ≤ length items) × (new ≡ old ++ take n items))) c.in-Some.is c.in_ok-n.ensures.some in
    let given : new ≡ old ++ take n c.deref.result.now = more.2 ∙ ap (λ (l : List ℕ). old ++ take n l) (sym c.deref.ensures.value) in
    subst (λ (l : List ℕ). IsWalk l c.take_all.new.self) (sym given) (c.in_ok-take_all.ensures.walk old c.requires.walk)

pub returns-clause-replayed : goal.returns-clause-replayed
returns-clause-replayed g c = λ first so_far.
    let old = g.S.Source.given c.args.source.now in
    let new = g.S.Source.given c.next_piece.new.source in
    let items = c.next_piece.new.piece.items in
    let n = c.in-Some.n in
    let more : (0 < n) × (n ≤ length items) × (new ≡ old ++ take n items) =
    subst (λ (x : Option ℕ). IfSome x (λ n. (0 < n) × (n ≤ length items) × (new ≡ old ++ take n items))) c.in-Some.is c.in_ok-n.ensures.some in
    let given : new ≡ old ++ take n c.deref.result.now = more.2 ∙ ap (λ (l : List ℕ). old ++ take n l) (sym c.deref.ensures.value) in
    subst (λ (l : List ℕ). Replayed g.R.Replay.replays first (recovered l) c.take_all.new.replay) (sym given) (c.in_ok-take_all.ensures.replayed old first c.requires.walk so_far)
