use Rattle.std.proofs.Common.{List, None, Some, ap, subst, sym, ℕ, ◌∙◌, ◌≡◌}
use Rattle.std.specs.FinMap.{find}
use Rattle.std.specs.Map.{keys_of}
use Rattle.std.specs.Prelude.{slice_get}
use Rattle.zq_queue.specs.Entries.{bytes_cmp}
use Rattle.zq_shard.proofs.AtIndex.{key_is}
use Rattle.zq_shard.proofs.ByBytes.{updated}
use Rattle.zq_shard.specs.Queues.{HasAt}
use Rattle.zq_shard.proofs.queues.remove_at.Goals.{After-drop}
use Rattle.zq_shard.proofs.queues.remove_at.Goals as goal

-- without the pair at the index the map has nothing at its key, and the same at the others
without : (c : After-drop) (key : List ℕ) → slice_get (keys_of c.args.queues.now.entries) c.args.index ≡ Some key →
    HasAt key None c.args.queues.now.entries c.swap_remove_index.new.self.entries
without c key there =
    let old = c.args.queues.now in
    let pair = c.in-Some.pair in
    let at : slice_get old.entries c.args.index ≡ Some pair = sym c.swap_remove_index.ensures.entry ∙ c.in-Some.is in
    subst (λ k. HasAt k None old.entries c.swap_remove_index.new.self.entries) (key_is old c.args.index key pair.0 pair.1 there at)
    (updated pair.0 None old.entries c.swap_remove_index.new.self.entries c.in-Some.ensures.updates.1 c.in-Some.ensures.updates.3)

pub returns-then-len-room-clause-without : goal.returns-then-len-room-clause-without
returns-then-len-room-clause-without c = λ key there q.
    ap (find bytes_cmp q) c.shrink_to.ensures.entries ∙ without (goal.at.returns-then-len-room-clause-without c).After-drop key there q

pub returns-else-room-gt-SMALL-clause-without : goal.returns-else-room-gt-SMALL-clause-without
returns-else-room-gt-SMALL-clause-without c = without (goal.at.returns-else-room-gt-SMALL-clause-without c).After-drop
