use Rattle.std.proofs.Common.{map, ◌∷◌}
use Rattle.zq_drill.proofs.AllListed.{appended, listed_next}
use Rattle.zq_drill.proofs.drilling.+list_each.Goals as goal
use Rattle.zq_drill.specs.Lists.{listed, lists_of}

pub returns : goal.returns
returns g t c =
    let rest = c.in_ok-list_each.ensures in
    let list = map listed c.in_ok-list.list.items in (
      list ∷ rest.0,
      appended (lists_of c.args.lists.now.items) (lists_of c.append.new.lists.items) (lists_of c.list_each.new.lists.items) list rest.0 c.in_ok-append.ensures rest.1,
      listed_next c.in-Some.handle.now c.in-Some.others.now c.args.handles.now list rest.0 c.list_all.new.handle.pass c.in-Some.ensures.cases c.in_ok-list.ensures.listed rest.2,
    )
