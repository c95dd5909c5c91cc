use Rattle.std.proofs.Common.{List, ap, arith, subst, sym}
use Rattle.zq_drill.proofs.AllListed.{listed_number, lists_number, places_number}
use Rattle.zq_drill.proofs.Outcomes.{if_ok_both}
use Rattle.zq_drill.proofs.drilling.finish.Goals as goal
use Rattle.zq_drill.specs.Listed.{AreListed}
use Rattle.zq_drill.specs.Lists.{lists_of}
use Rattle.zq_drill.specs.SiteHandles.{places_of}
use Rattle.zq_model.specs.Meaning.{Scored}

pub write_report-requires : goal.write_report-requires
write_report-requires g c =
    let all = subst (λ (ls : List (List Scored)). AreListed (places_of c.args.handles.now) ls) (sym (ap lists_of c.deref.ensures.value)) c.in_ok-lists.ensures in
    let number = listed_number (places_of c.args.handles.now) (lists_of c.deref.result.now) all in
    omega (arith, number, lists_number c.deref.result.now, places_number c.args.handles.now, c.requires)

pub returns : goal.returns
returns g c =
    let lists = lists_of c.deref.result.now in
    let all = subst (λ (ls : List (List Scored)). AreListed (places_of c.args.handles.now) ls) (sym (ap lists_of c.deref.ensures.value)) c.in_ok-lists.ensures in
    if_ok_both c.write_report.result c.write_report.ensures.written c.write_report.ensures.equal (λ equal written is. (lists, all, is, written))
