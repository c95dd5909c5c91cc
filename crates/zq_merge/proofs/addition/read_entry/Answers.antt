use Rattle.std.proofs.Common.{ap, subst, sym, Ok, ◌++◌, ◌∙◌, ◌≡◌}
use Rattle.zq_merge.specs.Bounds.{AreAdditionsBounded}
use Rattle.zq_merge.specs.Spelling.{additions_bytes}
use Rattle.zq_model.specs.Rows.{additions_from}
use Rattle.zq_merge.proofs.addition.read_entry.Goals as goal

pub returns-clause-exact : goal.returns-clause-exact
returns-clause-exact c =
    let listed : additions_from 0 c.in_ok-entry.entry ≡ c.in_ok-additions.additions.items = c.in_ok-entry.ensures.listed ∙ c.deref.ensures.value in
    c.in_ok-additions.ensures.exact ∙ ap (λ x. Ok (x, c.read_counted.new.bytes.now)) (sym listed)

pub returns-clause-found : goal.returns-clause-found
returns-clause-found c =
    let listed : additions_from 0 c.in_ok-entry.entry ≡ c.in_ok-additions.additions.items = c.in_ok-entry.ensures.listed ∙ c.deref.ensures.value in
    c.in_ok-additions.ensures.found ∙ ap (λ x. additions_bytes c.args.version x ++ c.read_counted.new.bytes.now) (sym listed)

pub returns-clause-bounded : goal.returns-clause-bounded
returns-clause-bounded c =
    let listed : additions_from 0 c.in_ok-entry.entry ≡ c.in_ok-additions.additions.items = c.in_ok-entry.ensures.listed ∙ c.deref.ensures.value in
    subst (AreAdditionsBounded c.args.vector.now) (sym listed) c.in_ok-additions.ensures.bounded
