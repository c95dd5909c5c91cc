use Rattle.std.proofs.Common.{List, [], ap, append_assoc, arith, drop, false, length, subst, sym, true, ℕ, ◌+◌, ◌++◌, ◌∙◌, ◌∷◌, ◌≡◌, ◌≤◌}
use Rattle.std.proofs.lemmas.List.{append-nil, drop_all, length-append, take_all}
use Rattle.zq_dots.specs.Placed.{Placed}
use Rattle.zq_journal.proofs.Lacking.{each_after, missing_after, own_at}
use Rattle.zq_journal.specs.Records.{missing_of, records_over}
use Rattle.zq_journal.specs.declared.records.Record as code
use Rattle.zq_journal.proofs.since.missing.Goals as goal
use Rattle.zq_journal.proofs.since.missing.Goals.{then-is_new_to+in_ok-op+in_ok-push, else-is_new_to}

pub op-requires : goal.op-requires
op-requires c =
    own_at c.args.heap c.args.heaps c.args.vector.now c.loop-place.seen c.args.tail.now.items c.loop-place.place c.index-record.result.now (omega arith) c.index-record.ensures
    c.loop-place.invariant.each

pub loop-place-preserved : goal.loop-place-preserved
loop-place-preserved c =
    let h : ℕ = c.args.heap in
    let K : ℕ = c.args.heaps in
    let v : List ℕ = c.args.vector.now in
    let i : ℕ = c.loop-place.place in
    let had : List Placed = c.loop-place.ops.items in
    let others : List Placed = missing_of v (records_over h K c.set.new.self (drop (i + 1) c.args.tail.now.items)) in
    let more =
    missing_after h K v c.loop-place.seen c.args.tail.now.items i c.index-record.result.now (omega arith) c.index-record.ensures
    c.dot-dot.result.site c.dot-dot.result.n c.set.new.self (c.dot-dot.ensures.site h K c.loop-place.seen) (c.dot-dot.ensures.n h K c.loop-place.seen) c.set.ensures in
    record {
      ops =
          elim c.if-is_new_to.branch [
            | then-is_new_to+in_ok-op+in_ok-push w ↦
                ap (λ l. l.items ++ others) w.ops-is
                ∙ ap (λ xs. xs ++ others) w.in_ok-push.ensures.items
                ∙ append_assoc had (w.in_ok-op.field-0 ∷ []) others
                ∙ ap (λ (p : Placed). had ++ (p ∷ others)) w.in_ok-op.ensures
                ∙ ap (λ xs. had ++ xs) (sym (more true (sym w.if-is_new_to.true ∙ c.is_new_to.ensures h K c.loop-place.seen)))
                ∙ c.loop-place.invariant.ops
            | else-is_new_to w ↦
                ap (λ l. l.items ++ others) w.ops-is
                ∙ ap (λ xs. had ++ xs) (sym (more false (sym w.if-is_new_to.false ∙ c.is_new_to.ensures h K c.loop-place.seen)))
                ∙ c.loop-place.invariant.ops
          ];
      few =
          elim c.if-is_new_to.branch [
            | then-is_new_to+in_ok-op+in_ok-push w ↦ (
                let longer = ap length (ap (λ l. l.items) w.ops-is ∙ w.in_ok-push.ensures.items) in
                let one = length-append had (w.in_ok-op.field-0 ∷ []) in
                omega (arith, longer, one, c.len.ensures, c.loop-place.ops.ok.0, c.if-len-most.false, c.loop-place.invariant.few))
            | else-is_new_to w ↦ (let same = ap (λ l. length l.items) w.ops-is in omega (arith, same, c.loop-place.invariant.few))
          ];
      each =
          each_after h K v c.loop-place.seen c.args.tail.now.items i c.index-record.result.now (omega arith) c.index-record.ensures
          c.dot-dot.result.site c.dot-dot.result.n c.set.new.self (c.dot-dot.ensures.site h K c.loop-place.seen) (c.dot-dot.ensures.n h K c.loop-place.seen) c.set.ensures
          c.loop-place.invariant.each;
    }

pub returns : goal.returns
returns c =
    let tail : List code.Record = c.args.tail.now.items in
    let all : List Placed = missing_of c.args.vector.now (records_over c.args.heap c.args.heaps c.args.start.now.seen (drop c.args.start.now.place tail)) in
    let none : drop c.loop-place.place tail ≡ [] = drop_all c.loop-place.place tail (omega arith) in
    let whole : c.loop-place.ops.items ≡ all =
    sym (append-nil c.loop-place.ops.items)
    ∙ ap (λ rs. c.loop-place.ops.items ++ missing_of c.args.vector.now (records_over c.args.heap c.args.heaps c.loop-place.seen rs)) (sym none)
    ∙ c.loop-place.invariant.ops in
    let few : length all ≤ c.args.most = subst (λ ps. length ps ≤ c.args.most) whole c.loop-place.invariant.few in
    whole ∙ sym (take_all c.args.most all few)
