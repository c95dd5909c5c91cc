use Rattle.std.proofs.Common.{◌≡◌, ◌+◌, List, ℕ, refl, sym, ◌∙◌, ap, subst}
use Rattle.std.specs.Prelude.{nat_lt, ◌||◌}
use Rattle.zq_wal.specs.Format.{floor_of, recovered}
use Rattle.zq_wal.specs.Replay.{Replayed}
use Rattle.zq_wal.proofs.Replays.{replayed_push}
use Rattle.zq_wal.proofs.Walks.{known_late, known_next, recovered_one, recovered_stays}
use Rattle.zq_wal.proofs.walk.Known.take_record.Goals as goal

pub returns-then-self-clause-known : goal.returns-then-self-clause-known
returns-then-self-clause-known g c =
    let old = c.args.self.now in
    let highest : (n : ℕ) → nat_lt n c.higher-self.result ≡ (nat_lt n old.highest || nat_lt n (floor_of c.args.payload.now)) =
    λ n. c.higher-self.ensures n ∙ ap (λ (f : ℕ). nat_lt n old.highest || nat_lt n f) c.floor.ensures in
    λ bytes long some is. known_late bytes c.args.payload.now old (record { count = old.count; end = old.end; torn = old.torn; damaged = old.damaged; highest = c.higher-self.result })
    some is c.if-self.true refl refl refl refl highest

pub returns-then-self-clause-replayed : goal.returns-then-self-clause-replayed
returns-then-self-clause-replayed g c = λ bytes first some is so_far.
    subst (λ (l : List (List ℕ)). Replayed g.R.Replay.replays first l c.args.replay.now) (sym (recovered_stays bytes (sym is.torn ∙ c.if-self.true))) so_far

pub returns-clause-known : goal.returns-clause-known
returns-clause-known g c =
    let old = c.args.self.now in
    let highest : (n : ℕ) → nat_lt n c.higher-self.result ≡ (nat_lt n old.highest || nat_lt n (floor_of c.args.payload.now)) =
    λ n. c.higher-self.ensures n ∙ ap (λ (f : ℕ). nat_lt n old.highest || nat_lt n f) c.floor.ensures in
    λ bytes long some is. known_next bytes c.args.payload.now old (record { count = old.count + 1; end = c.args.end; torn = old.torn; damaged = old.damaged; highest = c.higher-self.result })
    some is c.if-self.false refl long refl refl highest

pub returns-clause-replayed : goal.returns-clause-replayed
returns-clause-replayed g c = λ bytes first some is so_far.
    let payload = c.args.payload.now in
    subst (λ (l : List (List ℕ)). Replayed g.R.Replay.replays first l c.replay.new.self) (sym (recovered_one bytes payload (sym is.torn ∙ c.if-self.false) some))
    (replayed_push g.R.Replay.replays first c.args.replay.now c.replay.new.self (recovered bytes) payload so_far c.in_ok-replay.ensures.replayed)
