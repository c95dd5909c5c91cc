use Rattle.std.proofs.Common.{None, ap, map, ◌∙◌}
use Rattle.zq_inspect.proofs.Keyed.{keys_lent}
use Rattle.zq_inspect.proofs.reporting.counted.Goals as goal
use Rattle.zq_inspect.specs.Keys.{key_of, keys_from}
use Rattle.zq_model.specs.Rows.{Row, rows_of}
use Rattle.zq_shard.specs.Shard.{HeapImage}

pub returns-clause-keys : goal.returns-clause-keys
returns-clause-keys c =
    c.count_keys.ensures ∙ ap (λ rows. keys_from None (map key_of rows)) c.deref.ensures.value
    ∙ ap (keys_from None) (keys_lent c.in_ok-rows.rows.items)
    ∙ ap (λ rows. keys_from None (map (λ (row : Row). row.key) rows)) c.in_ok-rows.ensures.rows
    ∙ ap (λ (h : HeapImage). keys_from None (map (λ (row : Row). row.key) (rows_of h.image)))
    c.held.ensures
