use Rattle.std.proofs.Common.{[], ap, arith, length, rules, subst, sym, ◌++◌, ◌+◌, ◌∙◌, ◌∷◌, ◌≡◌}
use Rattle.std.proofs.lemmas.List.{length-append}
use Rattle.std.specs.Vec.{vec_len}
use Rattle.zq_backlog.proofs.Runs.{cut_push, ends_push}
use Rattle.zq_backlog.specs.Run.{AreEnds, cut}
use Rattle.zq_backlog.specs.Written.{spelling}
use Rattle.zq_backlog.proofs.run.Run.push.Goals as goal

pub invariant_of-self-2 : goal.invariant_of-self-2
unfolding spelling
invariant_of-self-2 c =
    let r = c.self.inside in
    let text = spelling c.args.op.now in
    let bytes : c.append_op.new.out.items ≡ r.bytes.items ++ text = c.in_ok-append_op.ensures.written in
    let count : vec_len c.append_op.new.out ≡ length c.append_op.new.out.items = search rules in
    let long : length c.append_op.new.out.items ≡ length r.bytes.items + length text = ap length bytes ∙ length-append r.bytes.items text in
    let end : c.len-end.result ≡ length r.bytes.items + length text = c.len-end.ensures ∙ count ∙ long in
    let ends : c.push_reserved.new.self.items ≡ r.ends.items ++ (length r.bytes.items + length text) ∷ [] =
    c.push_reserved.ensures.items ∙ ap (λ es. es ++ c.len-end.result ∷ []) c.in_ok-reserve.ensures.items ∙ ap (λ e. r.ends.items ++ e ∷ []) end in
    record { ends = subst (λ n. AreEnds 0 c.push_reserved.new.self.items n) (sym long) (subst (λ es. AreEnds 0 es (length r.bytes.items + length text)) (sym ends) (ends_push 0 (length r.bytes.items) (length text) r.ends.items c.self.invariant.ends)) }

pub returns-clause-pushed : goal.returns-clause-pushed
unfolding spelling
returns-clause-pushed c =
    let r = c.self.inside in
    let text = spelling c.args.op.now in
    let bytes : c.append_op.new.out.items ≡ r.bytes.items ++ text = c.in_ok-append_op.ensures.written in
    let count : vec_len c.append_op.new.out ≡ length c.append_op.new.out.items = search rules in
    let long : length c.append_op.new.out.items ≡ length r.bytes.items + length text = ap length bytes ∙ length-append r.bytes.items text in
    let end : c.len-end.result ≡ length r.bytes.items + length text = c.len-end.ensures ∙ count ∙ long in
    let ends : c.push_reserved.new.self.items ≡ r.ends.items ++ (length r.bytes.items + length text) ∷ [] =
    c.push_reserved.ensures.items ∙ ap (λ es. es ++ c.len-end.result ∷ []) c.in_ok-reserve.ensures.items ∙ ap (λ e. r.ends.items ++ e ∷ []) end in
    (λ i. cut 0 (ends i) (bytes i))
    ∙ cut_push 0 r.ends.items r.bytes.items text c.self.invariant.ends
    ∙ ap (λ ts. ts ++ text ∷ []) c.self.view_is

pub returns-clause-bounded : goal.returns-clause-bounded
unfolding spelling
returns-clause-bounded c =
    let r = c.self.inside in
    let text = spelling c.args.op.now in
    let bytes : c.append_op.new.out.items ≡ r.bytes.items ++ text = c.in_ok-append_op.ensures.written in
    let count : vec_len c.append_op.new.out ≡ length c.append_op.new.out.items = search rules in
    let had : vec_len r.bytes ≡ length r.bytes.items = search rules in
    let long : length c.append_op.new.out.items ≡ length r.bytes.items + length text = ap length bytes ∙ length-append r.bytes.items text in
    omega (arith, c.if-end-start.false, c.len-start.ensures, c.len-end.ensures, count, had, long)
