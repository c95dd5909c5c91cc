use Rattle.std.proofs.Common.{ap, arith, drop, length, map, refl, sym, take, ◌+◌, ◌-◌, ◌∙◌, ◌≡◌}
use Rattle.std.proofs.lemmas.List.{drop-map, length-drop, take_all}
use Rattle.zq_merge.proofs.KeyGroups.{key_ends}
use Rattle.zq_merge.proofs.Written.{at_map}
use Rattle.zq_merge.specs.Groups.{group_len}
use Rattle.zq_shard.specs.Listed.{lent_row}
use Rattle.zq_merge.proofs.keys.key_end.Goals as goal

pub returns-clause-key : goal.returns-clause-key
returns-clause-key c =
    let rows = c.args.rows.now in
    let place = c.args.place in
    let row = c.index-rows-place.result in
    let at = at_map lent_row rows place row c.requires c.index-rows-place.is in
    let others : take (length rows - (place + 1)) (drop (place + 1) rows) ≡ drop (place + 1) rows = take_all (length rows - (place + 1)) (drop (place + 1) rows) (omega (arith, length-drop (place + 1) rows)) in
    let size : c.group_len.result ≡ group_len row.key.now (drop (place + 1) (map lent_row rows)) =
    c.group_len.ensures.exact ∙ (ap (λ r. group_len r.key.now (map lent_row (take (length rows - (place + 1)) (drop (place + 1) rows)))) (sym c.index-rows-place.is)
    ∙ (ap (λ rs. group_len row.key.now (map lent_row rs)) others ∙ ap (group_len row.key.now) (sym (drop-map lent_row (place + 1) rows)))) in
    key_ends (map lent_row rows) place c.group_len.result (place + 1 + c.group_len.result) (lent_row row) at.1 at.0 size refl
