use Rattle.std.proofs.Common.{refl}
use Rattle.zq_backlog.proofs.Kept.{IsKeptAs, kept_skipped}
use Rattle.zq_backlog.specs.BacklogView.{log_of}
use Rattle.zq_backlog.specs.Log.{skipped}
use Rattle.zq_backlog.specs.declared.backlog.Backlog.TheInside.{Inside}
use Rattle.zq_backlog.proofs.backlog.Backlog.skip.Goals as goal

pub skip_base-requires : goal.skip_base-requires
skip_base-requires c = c.self.invariant.log.base.wide

pub invariant_of-self : goal.invariant_of-self
invariant_of-self c =
    let b = c.self.inside in
    let new : Inside = record { base = c.skip_base.new.base; last = c.join_with.new.self; dots = b.dots; texts = b.texts; first = b.first; most = b.most } in
    let now : IsKeptAs new (skipped c.args.v.now (log_of b)) = kept_skipped b new c.args.v.now c.self.invariant c.skip_base.ensures.bounded c.skip_base.ensures.base c.join_with.ensures refl refl refl refl in
    now.kept
