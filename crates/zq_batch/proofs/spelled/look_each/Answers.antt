use Rattle.std.proofs.Common.{ap, arith, length, refl, ◌∙◌, ◌+◌}
use Rattle.std.proofs.lemmas.List.{length_push}
use Rattle.zq_batch.proofs.Looked.{looked_all, looked_more, looked_none, looked_there}
use Rattle.zq_batch.proofs.spelled.look_each.Goals as goal

pub loop-number-init : goal.loop-number-init
loop-number-init c = record {
  size = ap length c.in_ok-views.ensures.items;
  looked = λ ops ranged count is. rw c.in_ok-views.ensures.items (looked_none ops c.args.spelled.now ranged is);
}

pub loop-number-preserved : goal.loop-number-preserved
loop-number-preserved c = record {
  size = ap length c.in_ok-append.ensures ∙ (length_push c.loop-number.views.items c.in-Some.view ∙ ap (λ n. n + 1) c.loop-number.invariant.size);
  looked = λ ops ranged count is. rw c.in_ok-append.ensures (looked_more c.loop-number.views.items ops c.in-Some.view c.loop-number.rest.now c.look.new.bytes.now (c.loop-number.invariant.looked ops ranged count is) (let size = c.loop-number.invariant.size in omega arith) c.in-Some.ensures.found c.in-Some.ensures.sound);
}

pub returns-in_default-clause-none : goal.returns-in_default-clause-none
returns-in_default-clause-none c = λ none ops ranged count is.
    looked_there c.loop-number.views.items ops c.loop-number.rest.now (c.loop-number.invariant.looked ops ranged count is) (let size = c.loop-number.invariant.size in omega arith) (c.in_default.ensures.none refl)

pub returns-clause-found : goal.returns-clause-found
returns-clause-found c = λ ops ranged count is.
    looked_all c.loop-number.views.items ops c.loop-number.rest.now (c.loop-number.invariant.looked ops ranged count is) (let size = c.loop-number.invariant.size in omega arith)
