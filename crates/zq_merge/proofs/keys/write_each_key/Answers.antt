use Rattle.std.proofs.Common.{ap, drop, map, subst, sym, take, ◌-◌, ◌∙◌, ◌≡◌}
use Rattle.std.proofs.lemmas.List.{drop-map, take-map}
use Rattle.zq_merge.proofs.KeyGroups.{key_written, writable_drop, writable_take}
use Rattle.zq_merge.specs.Groups.{group_key}
use Rattle.zq_merge.specs.Keys.{by_key}
use Rattle.zq_merge.specs.Spelling.{key_bytes}
use Rattle.zq_merge.specs.declared.version.Version.TheVariants.{Three}
use Rattle.zq_model.specs.Sets.{IsIn}
use Rattle.zq_shard.specs.Listed.{lent_row}
use Rattle.zq_merge.proofs.keys.write_each_key.Goals as goal

pub write_key-requires-clause-writable : goal.write_key-requires-clause-writable
write_key-requires-clause-writable c row here =
    let rows = c.args.rows.now in
    let place = c.loop-place.place in
    let width = c.key_end-end.result - place in
    let part : map lent_row (take width (drop place rows)) ≡ take width (drop place (map lent_row rows)) = sym (take-map lent_row width (drop place rows)) ∙ ap (take width) (sym (drop-map lent_row place rows)) in
    writable_take width (drop place (map lent_row rows)) (writable_drop place (map lent_row rows) c.requires) row (subst (IsIn row) part here)

pub loop-place-preserved : goal.loop-place-preserved
loop-place-preserved c =
    let rows = c.args.rows.now in
    let place = c.loop-place.place in
    let width = c.key_end-end.result - place in
    let part : map lent_row (take width (drop place rows)) ≡ take width (drop place (map lent_row rows)) = sym (take-map lent_row width (drop place rows)) ∙ ap (take width) (sym (drop-map lent_row place rows)) in
    record {
      written = key_written (key_bytes Three) (by_key (drop place (map lent_row rows))) (group_key (take width (drop place (map lent_row rows)))) (group_key (map lent_row (take width (drop place rows)))) (by_key (drop c.key_end-end.result (map lent_row rows))) c.loop-place.out.items c.write_key.new.out.items _ c.key_end-end.ensures.key (ap group_key part) c.in_ok-write_key.ensures c.loop-place.invariant.written;
      within = c.key_end-end.ensures.most;
    }
