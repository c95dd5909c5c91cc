use Rattle.std.proofs.Common.{List, ap, arith, drop, length, subst, sym, true, true≢false, ℕ, ◌+◌, ◌-◌, ◌<◌, ◌∙◌, ◌≡◌}
use Rattle.std.specs.Prelude.{slice_index, slice_set}
use Rattle.zq_journal.proofs.Oldest.{counted_at, covers_after}
use Rattle.zq_journal.proofs.Weights.{first_of}
use Rattle.zq_journal.proofs.Wholes.{under_at}
use Rattle.zq_journal.specs.Records.{LacksFirst, placed_in, vector_under, whole}
use Rattle.zq_journal.specs.declared.records.Record as code
use Rattle.zq_model.proofs.Dots.{has_not_from}
use Rattle.zq_model.specs.Operation.{has}
use Rattle.zq_model.specs.Sets.{covers}
use Rattle.zq_journal.proofs.start.Start.from_newest.Goals as goal
use Rattle.zq_journal.proofs.start.Start.from_newest.Goals.{else-get-dot-via-then-get-dot+else-covers-2, else-get-dot-via-else-get-dot}

pub loop-newer-preserved : goal.loop-newer-preserved
loop-newer-preserved c =
    let items : List code.Record = c.args.tail.now.items in
    let last : List ℕ = c.args.last.now in
    let place : ℕ = c.len.result - 1 - c.loop-newer.newer in
    let long : c.len.result ≡ length items = c.len.ensures ∙ c.args.tail.now.ok.0 in
    let behind : length items - c.loop-newer.newer ≡ place + 1 = omega arith in
    let here : place ≡ length items - (c.loop-newer.newer + 1) = omega arith in
    let below : place < length items = omega arith in
    let before : (h K : ℕ) → c.loop-newer.seen ≡ vector_under h K last (drop (place + 1) items) = λ h K. c.loop-newer.invariant.seen h K ∙ ap (λ k. vector_under h K last (drop k items)) behind in
    record {
      seen = λ h K.
          subst (λ k. c.set.new.self ≡ vector_under h K last (drop k items)) here
          (under_at h K last c.loop-newer.seen c.set.new.self items place c.dot-dot.result.site c.dot-dot.result.n c.index.result.now below c.index.ensures
          (before h K) (c.dot-dot.ensures.site h K last) (c.dot-dot.ensures.n h K last) c.set.ensures);
      uncovered = λ h K counted covered.
          let site : c.dot-dot.result.site ≡ (placed_in (whole h K last c.index.result.now.what)).operation.site = c.dot-dot.ensures.site h K last in
          let n : c.dot-dot.result.n ≡ (placed_in (whole h K last c.index.result.now.what)).operation.n = c.dot-dot.ensures.n h K last in
          let own : slice_index c.loop-newer.seen c.dot-dot.result.site ≡ c.dot-dot.result.n =
          ap (slice_index c.loop-newer.seen) site
          ∙ ap (λ v. slice_index v (placed_in (whole h K last c.index.result.now.what)).operation.site) (before h K)
          ∙ counted_at h K last items place c.index.result.now counted below c.index.ensures
          ∙ sym n in
          let all : covers c.args.vector.now (slice_set c.loop-newer.seen c.dot-dot.result.site (c.dot-dot.result.n - 1)) ≡ true = ap (covers c.args.vector.now) (sym c.set.ensures) ∙ covered in
          elim c.else-get-dot.branch [
            | else-get-dot-via-then-get-dot+else-covers-2 w ↦ true≢false (sym covered ∙ sym w.covers-then-get-dot.ensures.value ∙ w.if-covers-2.false)
            | else-get-dot-via-else-get-dot w ↦
                c.loop-newer.invariant.uncovered h K counted
                (covers_after c.args.vector.now c.loop-newer.seen c.dot-dot.result.site c.dot-dot.result.n c.dot-dot.ensures.counted own (λ is. w.if-get-dot.false (c.get.ensures.counter ∙ is)) all)
          ];
    }

pub returns-then-covers-2-clause-seen : goal.returns-then-covers-2-clause-seen
returns-then-covers-2-clause-seen c = λ h K.
    let items : List code.Record = c.args.tail.now.items in
    let last : List ℕ = c.args.last.now in
    let place : ℕ = c.len.result - 1 - c.loop-newer.newer in
    let long : c.len.result ≡ length items = c.len.ensures ∙ c.args.tail.now.ok.0 in
    let behind : length items - c.loop-newer.newer ≡ place + 1 = omega arith in
    under_at h K last c.loop-newer.seen c.set.new.self items place c.dot-dot.result.site c.dot-dot.result.n c.index.result.now (omega arith) c.index.ensures
    (c.loop-newer.invariant.seen h K ∙ ap (λ k. vector_under h K last (drop k items)) behind) (c.dot-dot.ensures.site h K last) (c.dot-dot.ensures.n h K last) c.set.ensures

pub returns-then-covers-2-clause-lacked : goal.returns-then-covers-2-clause-lacked
returns-then-covers-2-clause-lacked c = λ h K counted covered.
    let items : List code.Record = c.args.tail.now.items in
    let v : List ℕ = c.args.vector.now in
    let r : code.Record = c.index.result.now in
    let place : ℕ = c.len.result - 1 - c.loop-newer.newer in
    let long : c.len.result ≡ length items = c.len.ensures ∙ c.args.tail.now.ok.0 in
    let site : c.dot-dot.result.site ≡ (placed_in (whole h K v r.what)).operation.site = c.dot-dot.ensures.site h K v in
    let n : c.dot-dot.result.n ≡ (placed_in (whole h K v r.what)).operation.n = c.dot-dot.ensures.n h K v in
    let above : slice_index v c.dot-dot.result.site < c.dot-dot.result.n = omega (arith, c.get.ensures.counter, c.if-get-dot.true, c.dot-dot.ensures.counted) in
    subst (LacksFirst h K v) (sym (first_of items place r (omega arith) c.index.ensures))
    (sym (ap (λ s. has v s c.dot-dot.result.n) site ∙ ap (has v (placed_in (whole h K v r.what)).operation.site) n) ∙ has_not_from v c.dot-dot.result.site c.dot-dot.result.n above)

pub returns-clause-lacked : goal.returns-clause-lacked
returns-clause-lacked c = λ h K counted covered.
    let items : List code.Record = c.args.tail.now.items in
    let last : List ℕ = c.args.last.now in
    let long : c.len-newer-end.result ≡ length items = c.len-newer-end.ensures ∙ c.args.tail.now.ok.0 in
    let all : length items - c.loop-newer.newer ≡ 0 = omega arith in
    absurd (c.loop-newer.invariant.uncovered h K counted
    (ap (covers c.args.vector.now) (c.loop-newer.invariant.seen h K ∙ ap (λ k. vector_under h K last (drop k items)) all) ∙ covered))
