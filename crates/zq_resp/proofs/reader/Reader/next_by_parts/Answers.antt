use Rattle.std.proofs.Common.{[], ap, sym, ◌∙◌, append-nil, arith}
use Rattle.std.proofs.lemmas.List.{take_all}
use Rattle.zq_resp.specs.Partial.{text_so_far}
use Rattle.zq_resp.specs.Suspended.{views}
use Rattle.zq_resp.specs.Unfinished.{kept}
use Rattle.zq_resp.proofs.Limits.{stands_part}
use Rattle.zq_resp.proofs.Streams.{fed_none, fed_one}
use Rattle.zq_resp.proofs.reader.Reader.next_by_parts.Goals as goal

pub returns-then-is_empty-clause-fed : goal.returns-then-is_empty-clause-fed
returns-then-is_empty-clause-fed c =
    let u = c.in-Some.unfinished in
    let before = sym c.self.view_is ∙ ap kept (sym c.in-Some.ensures.value) in
    let stands = rw (sym c.in-Some.ensures.value) at c.self.invariant in
    rw before (fed_none (text_so_far u.partial) [] (text_so_far u.partial) (sym (append-nil (text_so_far u.partial))) (stands_part u stands))

pub returns-in-More-clause-fed : goal.returns-in-More-clause-fed
returns-in-More-clause-fed c =
    let old = c.in-Some.unfinished in
    let new = c.in-More.unfinished in
    let before = sym c.self.view_is ∙ ap kept (sym c.in-Some.ensures.value) in
    let step = rw c.in-More.is at c.in_ok-progress.ensures.step in
    let whole = take_all c.in_ok-progress.taken c.args.piece.now (omega (arith, step.1)) in
    rw (before, whole)
    (fed_none (text_so_far old.partial) c.args.piece.now (text_so_far new.partial) step.2 (stands_part new step.0))

pub returns-in-Whole-clause-fed : goal.returns-in-Whole-clause-fed
returns-in-Whole-clause-fed c =
    let old = c.in-Some.unfinished in
    let before = sym c.self.view_is ∙ ap kept (sym c.in-Some.ensures.value) in
    let step = rw c.in-Whole.is at c.in_ok-progress.ensures.step in
    rw (before, c.new.ensures.begun, c.request_of.ensures)
    (fed_one (text_so_far old.partial) c.args.piece.now (views c.in-Whole.words) c.in_ok-progress.taken step.1)
