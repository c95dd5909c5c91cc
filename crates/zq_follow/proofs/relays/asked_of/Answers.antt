use Rattle.std.proofs.Common.{None, arith, false, ◌&&◌, ◌∙◌}
use Rattle.std.specs.Prelude.{slice_index_or}
use Rattle.zq_dots.proofs.Counters.{sites_is}
use Rattle.zq_model.proofs.Sites.{by_site_from}
use Rattle.zq_follow.specs.Routes.{is_chosen, is_remote}
use Rattle.zq_follow.proofs.relays.asked_of.Goals as goal

pub returns : goal.returns
returns c =
    c.from_array.ensures
    ∙ by_site_from (λ o. is_chosen c.args.peer (slice_index_or c.args.chosen.now o None) && is_remote c.args.own c.args.linked.now o) c.loop-number.held false c.loop-number.invariant.wide (λ t below. c.loop-number.invariant.done t (omega (arith, sites_is)))
