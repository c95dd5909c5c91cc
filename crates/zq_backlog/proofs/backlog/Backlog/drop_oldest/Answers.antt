use Rattle.std.proofs.Common.{ap, arith, get_or, length, max, refl, slice_set, ◌+◌, ◌<◌, ◌∙◌, ◌≡◌}
use Rattle.zq_backlog.proofs.Kept.{IsKeptAs, count_small, kept_without}
use Rattle.zq_backlog.specs.BacklogView.{log_of, ops_of}
use Rattle.zq_backlog.specs.Log.{Log, without}
use Rattle.zq_backlog.specs.declared.backlog.Backlog.TheInside.{Inside}
use Rattle.zq_backlog.proofs.backlog.Backlog.drop_oldest.Goals as goal

pub overflow_add-self : goal.overflow_add-self
overflow_add-self c = omega (arith, count_small c.self.inside c.self.invariant)

pub invariant_of-self : goal.invariant_of-self
invariant_of-self c =
    let b = c.self.inside in
    let dot = c.in-Some.dot in
    let some : 0 < length (ops_of b) = omega (arith, ap (λ (l : Log). length l.ops) c.self.view_is, c.requires) in
    let new : Inside = record { base = c.set.new.self; last = b.last; dots = c.pop_front.new.self; texts = c.drop_oldest.new.self; first = b.first + 1; most = b.most } in
    let base : c.set.new.self ≡ slice_set b.base dot.site (max (get_or b.base dot.site 0) dot.n) = c.set.ensures ∙ ap (slice_set b.base dot.site) (c.max.ensures ∙ ap (λ n. max n dot.n) c.get-known.ensures.counter) in
    let now : IsKeptAs new (without 1 (log_of b)) = kept_without b new dot c.self.invariant some c.in-Some.ensures.lookup base refl c.drop_oldest.ensures c.pop_front.ensures.rest refl refl in
    now.kept
