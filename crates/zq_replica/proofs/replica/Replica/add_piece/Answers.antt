use Rattle.std.proofs.Common.{ap, refl, sym, ℕ, ◌∙◌}
use Rattle.zq_replica.proofs.Gathers.{from_peer, gathered_by, gathered_so, refused_so, standing_by}
use Rattle.zq_replica.proofs.Replaced.{added_first, added_next}
use Rattle.zq_replica.specs.Gathered.{is_awaited}
use Rattle.zq_replica.proofs.replica.Replica.add_piece.Goals as goal

pub returns-then-piece-eq0-clause-added : goal.returns-then-piece-eq0-clause-added
returns-then-piece-eq0-clause-added c = λ yes.
    let same = ap (λ (h : ℕ). is_awaited c.args.from h c.args.self.now) (sym c.heap-heap.ensures.same) in
    added_first c.args.from c.args.piece c.args.self.now c.begin.new.self.gathering
    (same ∙ (sym c.is_awaited.ensures ∙ c.if-not-is_awaited.false)) (c.begin.ensures.begun yes)

pub returns-then-piece-eq0-clause-passed : goal.returns-then-piece-eq0-clause-passed
returns-then-piece-eq0-clause-passed c = λ other.
    c.begin.ensures.passed other
    ∙ gathered_by c.args.self.now c.wait_on.new.self c.wait_on.ensures

pub returns-then-piece-eq0-clause-standing : goal.returns-then-piece-eq0-clause-standing
returns-then-piece-eq0-clause-standing c =
    c.begin.ensures.standing ∙ standing_by c.args.self.now c.wait_on.new.self c.wait_on.ensures

pub returns-in-Some-clause-added : goal.returns-in-Some-clause-added
returns-in-Some-clause-added c = λ yes.
    let same = ap (λ (h : ℕ). is_awaited c.args.from h c.args.self.now) (sym c.heap-heap.ensures.same) in
    added_next c.args.from c.args.piece c.args.self.now c.in-Some.gathering c.add.new.self _
    (same ∙ (sym c.is_awaited.ensures ∙ c.if-not-is_awaited.false))
    (sym (gathered_by c.args.self.now c.wait_on.new.self c.wait_on.ensures) ∙ c.in-Some.is) refl
    (from_peer c.args.from c.heap-heap.result c.in-Some.gathering (sym c.is_of.ensures ∙ c.if-is_of.true))
    c.add.ensures.from c.in_ok-add-in-Some.ensures.next c.in_ok-add-in-Some.ensures.added

pub returns-in_err-add-in-Some-clause-stray : goal.returns-in_err-add-in-Some-clause-stray
returns-in_err-add-in-Some-clause-stray c =
    refused_so c.from_residual.result _ (gathered_so c.args.from c.heap-heap.result c.args.piece.part.heap c.args.self.now
    c.in-Some.gathering c.heap-heap.ensures.same
    (sym (gathered_by c.args.self.now c.wait_on.new.self c.wait_on.ensures) ∙ c.in-Some.is)
    (sym c.is_of.ensures ∙ c.if-is_of.true)
    (sym c.is_awaited.ensures ∙ c.if-not-is_awaited.false))
