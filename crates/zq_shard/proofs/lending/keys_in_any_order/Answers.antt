use Rattle.std.proofs.Common.{[], ap, ap₂, append_assoc, append-nil, map, subst, sym, ◌++◌, ◌∙◌, ◌∷◌, ◌≡◌}
use Rattle.std.proofs.lemmas.List.{map-append}
use Rattle.std.proofs.lemmas.Map.Iter.{rest_all, rest_more}
use Rattle.std.specs.Cmp.Lexicographic.{pointwise}
use Rattle.std.specs.List.{IsDistinct}
use Rattle.std.specs.Map.Iter.{deref_pair}
use Rattle.std.specs.Prelude.{nat_eq}
use Rattle.zq_shard.proofs.KeysInOrder.{distinct_keys}
use Rattle.zq_shard.specs.Listed.{lent_key}
use Rattle.zq_shard.proofs.lending.keys_in_any_order.Goals as goal
use Rattle.zq_shard.proofs.lending.keys_in_any_order.Goals.{In-None}

pub loop-key-init : goal.loop-key-init
loop-key-init c = ap₂ (λ ks es. map lent_key ks ++ map (λ e. e.0) es) c.in_ok-keys.ensures.items c.into_iter-key-iterator.ensures.into_iter_gives.0

pub loop-key-preserved : goal.loop-key-preserved
loop-key-preserved c =
    let rest = rest_more deref_pair c.loop-key.key-iterator c.next.new.self c.next.result (c.in-Some.key, c.in-Some.field-0-1) c.in-Some.is c.next.ensures.steps in
    let left = map (λ e. e.0) c.next.new.self in
    ap (λ ks. map lent_key ks ++ left) c.in_ok-push.ensures.items
    ∙ ap (λ ks. ks ++ left) (map-append lent_key c.loop-key.keys.items (c.as_slice.result ∷ []))
    ∙ append_assoc (map lent_key c.loop-key.keys.items) (lent_key c.as_slice.result ∷ []) left
    ∙ ap (λ k. map lent_key c.loop-key.keys.items ++ k ∷ left) c.as_slice.ensures
    ∙ ap (λ es. map lent_key c.loop-key.keys.items ++ map (λ e. e.0) es) (sym rest)
    ∙ c.loop-key.invariant

whole : (c : In-None) → map lent_key c.loop-key.keys.items ≡ map (λ e. e.0) c.args.queues.now.entries
whole c =
    sym (append-nil (map lent_key c.loop-key.keys.items))
    ∙ ap (λ es. map lent_key c.loop-key.keys.items ++ map (λ e. e.0) es) (sym (rest_all deref_pair c.loop-key.key-iterator c.next.new.self c.next.result c.in-None.is c.next.ensures.steps))
    ∙ c.loop-key.invariant

pub returns-clause-keys : goal.returns-clause-keys
returns-clause-keys c = whole (goal.at.returns-clause-keys c).In-None

pub returns-clause-distinct : goal.returns-clause-distinct
returns-clause-distinct c =
    subst (IsDistinct (pointwise nat_eq)) (sym (whole (goal.at.returns-clause-distinct c).In-None))
    (distinct_keys c.args.queues.now.entries c.into_iter-key-iterator.ensures.into_iter_gives.4)
