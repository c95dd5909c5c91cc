use Rattle.std.proofs.Common.{List, ap, arith, length, subst, sym, ℕ, ◌∙◌, ◌∷◌, ◌≡◌, ◌≤◌}
use Rattle.std.specs.Prelude.{IfErr, IfOk, OnErr, false, max, true, ◌⊎◌}
use Rattle.zq_journal.specs.Books.{state_of}
use Rattle.zq_shard.specs.Shard.{queue_at}
use Rattle.zq_spread.proofs.ManyHeaps.{back_first, back_on_more, begun_on_more, has_room, on_err, seats_rest}
use Rattle.zq_spread.proofs.Refused.{stop_handed, stop_on_more}
use Rattle.zq_spread.proofs.site.Site.+try_begin_all.Goals as goal
use Rattle.zq_spread.specs.Several.{AreBack, AreHeapsOf, HasBegun, HasSeatsIn, helds_of}
use Rattle.zq_spread.specs.Worn.{IsStopOf}
use Rattle.zq_spread.specs.declared.locked_heap.LockedHeap.{LockedHeap}

pub returns-in_err-held-clause-back : goal.returns-in_err-held-clause-back
returns-in_err-held-clause-back t c =
    let site = c.args.self.now in
    let h : ℕ = c.from-heap.result in
    let rest : List ℕ = c.in-Some.others.now in
    let cut : c.args.heaps.now ≡ h ∷ rest = c.in-Some.ensures.cases.0 ∙ ap (λ k. k ∷ rest) (sym c.from-heap.ensures) in
    let are : AreHeapsOf site (h ∷ rest) = subst (AreHeapsOf site) cut c.requires.heaps in
    let has = subst (λ l. HasSeatsIn site l c.args.pass.now) cut c.requires.seats in
    on_err c.from_residual.result
    (subst (λ l. AreBack site l c.args.pass.now c.try_lock_in.new.pass) (sym cut) (back_first site h rest are c.args.pass.now c.try_lock_in.new.pass has c.in_err-held.ensures.back))

pub try_begin_all-begins-requires : goal.try_begin_all-begins-requires
try_begin_all-begins-requires t c =
    let site = c.args.self.now in
    let h : ℕ = c.from-heap.result in
    let rest : List ℕ = c.in-Some.others.now in
    let cut : c.args.heaps.now ≡ h ∷ rest = c.in-Some.ensures.cases.0 ∙ ap (λ k. k ∷ rest) (sym c.from-heap.ensures) in
    let are : AreHeapsOf site (h ∷ rest) = subst (AreHeapsOf site) cut c.requires.heaps in
    let has = subst (λ l. HasSeatsIn site l c.args.pass.now) cut c.requires.seats in
    let long = ap length cut in (
      omega (arith, c.decreases, long),
      (are.2, (seats_rest site h rest are c.args.pass.now c.try_lock_in.new.pass has c.in_ok-held.ensures.outside, (c.requires.empty, (let most = c.requires.room in omega (arith, long, most))))),
    )

pub go_on-requires-clause-room : goal.go_on-requires-clause-room
go_on-requires-clause-room t c =
    let rest : List ℕ = c.in-Some.others.now in
    let long = ap length c.in-Some.ensures.cases.0 in
    let most = c.requires.room in
    let stays = c.try_begin_all-begins.ensures.stays in
    has_room c.args.self.now c.try_lock_in.new.pass rest c.args.key.now c.with-now.result _ _ c.try_begin_all-begins.result c.try_begin_all-begins.ensures.begun (omega (arith, long, most, stays))

pub returns-clause-begun : goal.returns-clause-begun
returns-clause-begun t c =
    let site = c.args.self.now in
    let h : ℕ = c.from-heap.result in
    let rest : List ℕ = c.in-Some.others.now in
    let cut : c.args.heaps.now ≡ h ∷ rest = c.in-Some.ensures.cases.0 ∙ ap (λ k. k ∷ rest) (sym c.from-heap.ensures) in
    let are : AreHeapsOf site (h ∷ rest) = subst (AreHeapsOf site) cut c.requires.heaps in
    subst (λ l. IfOk c.go_on.result (λ stamp. HasBegun site c.args.pass.now l c.args.key.now c.args.scan stamp (helds_of c.go_on.new.holds))) (sym cut)
    (begun_on_more site c.args.pass.now c.try_lock_in.new.pass h rest c.args.key.now c.args.scan c.with-now.result c.in_ok-held.held _ _ c.try_begin_all-begins.result c.go_on.result c.go_on.ensures.same are
    c.in_ok-held.ensures.held c.in_ok-held.ensures.follows c.in_ok-held.ensures.turns c.in_ok-held.ensures.outside (c.with-now.ensures.stamp ∙ ap (λ (v : LockedHeap). max c.args.scan.stamp v.book.stamp) c.value.ensures) (λ enough. subst (λ (v : LockedHeap). (c.args.scan.is_enough ≡ true) ⊎ (1 ≤ length (queue_at (state_of v.book) c.args.key.now))) c.value.ensures (c.with-now.ensures.enough enough)) c.try_begin_all-begins.ensures.begun c.go_on.ensures.begun)

pub returns-clause-back : goal.returns-clause-back
returns-clause-back t c =
    let site = c.args.self.now in
    let h : ℕ = c.from-heap.result in
    let rest : List ℕ = c.in-Some.others.now in
    let cut : c.args.heaps.now ≡ h ∷ rest = c.in-Some.ensures.cases.0 ∙ ap (λ k. k ∷ rest) (sym c.from-heap.ensures) in
    let are : AreHeapsOf site (h ∷ rest) = subst (AreHeapsOf site) cut c.requires.heaps in
    subst (λ l. OnErr c.go_on.result (AreBack site l c.args.pass.now c.go_on.new.pass)) (sym cut)
    (back_on_more site h rest c.args.pass.now c.try_lock_in.new.pass c.try_begin_all-begins.new.pass c.go_on.new.pass c.in_ok-held.held _ c.try_begin_all-begins.result c.go_on.result c.go_on.ensures.same are
    c.in_ok-held.ensures.outside c.in_ok-held.ensures.follows c.in_ok-held.ensures.turns c.try_begin_all-begins.ensures.back c.go_on.ensures.outside c.go_on.ensures.home)

pub returns-clause-why : goal.returns-clause-why
returns-clause-why t c =
    let site = c.args.self.now in
    let h : ℕ = c.from-heap.result in
    let rest : List ℕ = c.in-Some.others.now in
    let cut : c.args.heaps.now ≡ h ∷ rest = c.in-Some.ensures.cases.0 ∙ ap (λ k. k ∷ rest) (sym c.from-heap.ensures) in
    let are : AreHeapsOf site (h ∷ rest) = subst (AreHeapsOf site) cut c.requires.heaps in
    subst (λ l. IfErr c.go_on.result (IsStopOf c.args.scan.stamp c.args.scan.is_enough l c.args.key.now c.args.pass.now c.go_on.new.pass)) (sym cut)
    (stop_on_more site h rest are c.args.pass.now c.try_lock_in.new.pass c.try_begin_all-begins.new.pass c.go_on.new.pass c.in_ok-held.held c.args.scan.stamp c.with-now.result.stamp c.args.scan.is_enough c.with-now.result.is_enough
    c.args.key.now _ c.try_begin_all-begins.result c.go_on.result c.go_on.ensures.same c.in_ok-held.ensures.outside c.go_on.ensures.outside c.go_on.ensures.home c.in_ok-held.ensures.turns
    (c.with-now.ensures.stamp ∙ ap (λ (v : LockedHeap). max c.args.scan.stamp v.book.stamp) c.value.ensures)
    (λ more. subst (λ (v : LockedHeap). (c.args.scan.is_enough ≡ false) × (length (queue_at (state_of v.book) c.args.key.now) ≡ 0)) c.value.ensures (c.with-now.ensures.none more)) c.try_begin_all-begins.ensures.why)

pub returns-in_err-held-clause-why : goal.returns-in_err-held-clause-why
returns-in_err-held-clause-why t c =
    let h : ℕ = c.from-heap.result in
    let rest : List ℕ = c.in-Some.others.now in
    let cut : c.args.heaps.now ≡ h ∷ rest = c.in-Some.ensures.cases.0 ∙ ap (λ k. k ∷ rest) (sym c.from-heap.ensures) in
    stop_handed c.args.scan.stamp c.args.scan.is_enough h rest c.args.key.now c.args.heaps.now c.args.pass.now c.try_lock_in.new.pass c.from_residual.result _ cut c.from_residual.ensures.1 c.in_err-held.ensures.why
