use Rattle.std.proofs.Common.{sym, arith, inl, inr}
use Rattle.std.proofs.lemmas.Bool.{cases_Bool}
use Rattle.zq_model.proofs.Taken.{covers_at, covers_from}
use Rattle.zq_model.specs.Sets.{covers}
use Rattle.zq_dots.proofs.Counters.{sites_is}
use Rattle.zq_dots.proofs.vector.Vector.covers.Goals as goal

-- src/vector.rt:79:17
pub returns-then-self-site-clause-value : goal.returns-then-self-site-clause-value
returns-then-self-site-clause-value c =
    rw (← c.self.view_is, ← c.other.view_is) elim (cases_Bool (covers c.self.inside.counters c.other.inside.counters)) [
      | inl holds ↦ (let less = covers_at c.self.inside.counters c.other.inside.counters c.loop-site.site holds (omega (arith, sites_is)) in absurd (omega arith))
      | inr fails ↦ sym fails
    ]

-- src/vector.rt:73:5
pub returns-clause-value : goal.returns-clause-value
returns-clause-value c = rw (← c.self.view_is, ← c.other.view_is) (sym (covers_from c.self.inside.counters c.other.inside.counters (λ t below. c.loop-site.invariant t (omega (arith, sites_is)))))
