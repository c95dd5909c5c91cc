use Rattle.std.proofs.Common.{length, List, ◌≡◌}
use Rattle.std.specs.List.{All, flat_map}
use Rattle.zq_batch.proofs.Looked.{if_some, other_ops}
use Rattle.zq_delta.specs.Spelling.{op_spelling}
use Rattle.zq_delta.specs.declared.version.Version.TheVariants.{Two}
use Rattle.zq_dots.specs.Placed.{IsRanged, Placed}
use Rattle.zq_batch.proofs.spelled.append_recoded.Goals as goal

pub returns-in-Some-clause-other : goal.returns-in-Some-clause-other
returns-in-Some-clause-other c =
    other_ops c.append_views.result c.deref.result.now c.in-Some.views.items c.args.count c.args.spelled.now c.deref.ensures.value c.append_views.ensures.other
    (if_some (λ v. (ops : List Placed) → All IsRanged ops → length ops ≡ c.args.count → c.args.spelled.now ≡ flat_map (op_spelling Two) ops → v.items ≡ ops) c.in_ok-look_each.field-0 c.in-Some.views c.in-Some.is c.in_ok-look_each.ensures.found)
