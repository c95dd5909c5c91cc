use Rattle.std.proofs.Common.{ap, arith, inl, inr, sym, ◌∙◌, ◌≡◌}
use Rattle.std.proofs.lemmas.Bool.{cases_eq}
use Rattle.std.proofs.lemmas.Option.{none-some, same_Some}
use Rattle.std.specs.FinMap.{get, len}
use Rattle.std.specs.Prelude.{List, Some, [], length, min, slice_get, ℕ, ◌++◌, ◌∷◌, ◌≢◌}
use Rattle.zq_dots.specs.Rule.{rule_of}
use Rattle.zq_posheap.proofs.Lists.{there_is}
use Rattle.zq_queue.specs.Queued.{Queued}
use Rattle.zq_shard.proofs.AllStanding.{named_at}
use Rattle.zq_shard.proofs.AtKeys.{empty_from_len, key_entries}
use Rattle.zq_shard.proofs.ByBytes.{found}
use Rattle.zq_shard.proofs.Members.{get-members_in}
use Rattle.zq_shard.proofs.Pieces.{firsts_last, firsts_none, none_any}
use Rattle.zq_shard.specs.Queues.{Keyed}
use Rattle.zq_shard.specs.Standing.{firsts_of}
use Rattle.zq_shard.proofs.queues.Queues.last_of.Goals.{After-checked_sub}
use Rattle.zq_shard.proofs.queues.Queues.last_of.Goals as goal

-- the key of the number with its names
at_key : (c : After-checked_sub) → slice_get c.args.self.now.order c.args.key ≡ Some (c.in_ok-name.name.now, c.in_ok-name.boxed.now.places)
at_key c = named_at (rule_of c.self.inside.rule) c.self.inside.queues.entries c.args.self.now c.args.key c.in_ok-name.name.now c.in_ok-name.boxed.now c.self.view_is (sym c.in_ok-name.ensures.entry)

-- its queue has members, as many as names
long : (c : After-checked_sub) → c.len.result ≡ length c.in_ok-name.boxed.now.places
long c = c.len.ensures.places ∙ ap (λ (q : Queued). length q.places) c.get-queue.ensures

has_members : (c : After-checked_sub) → c.len.result ≢ 0
has_members c none =
    (c.self.invariant c.in_ok-name.name.now c.in_ok-name.boxed.now (found c.self.inside.queues.entries c.in_ok-name.name.now ∙ c.in_ok-name.ensures.value)).1
    (empty_from_len c.in_ok-name.boxed.now.entries (ap (λ (q : Queued). len q.entries) (sym c.get-queue.ensures) ∙ sym c.len.ensures.number ∙ none))

pub returns-in_err-number-clause-nothing : goal.returns-in_err-number-clause-nothing
returns-in_err-number-clause-nothing c =
    let d = (goal.at.returns-in_err-number-clause-nothing c).After-checked_sub in
    let none : min c.args.members (length c.in_ok-name.boxed.now.places) ≡ 0 = omega (arith, long d, c.min.ensures, c.in_err-number.ensures) in
    none_any c.from_residual-in_err-number.result (firsts_none (slice_get c.args.self.now.order c.args.key) (c.in_ok-name.name.now, c.in_ok-name.boxed.now.places) (at_key d) c.args.members none)

pub returns-in_err-number-clause-full : goal.returns-in_err-number-clause-full
returns-in_err-number-clause-full c =
    let d = (goal.at.returns-in_err-number-clause-full c).After-checked_sub in
    none_any c.from_residual-in_err-number.result (λ within.
    let zero : min c.args.members c.len.result ≡ 0 = omega (arith, c.min.ensures, c.in_err-number.ensures) in
    elim (cases_eq c.len.result 0) as (λ _. c.args.members ≡ 0) [ inl none ↦ absurd (has_members d none) | inr some ↦ omega (arith, zero, some) ])

pub returns-in_err-member-clause-nothing : goal.returns-in_err-member-clause-nothing
returns-in_err-member-clause-nothing c =
    let d = (goal.at.returns-in_err-member-clause-nothing c).After-checked_sub in
    let places = c.get-queue.result.now.places in
    let name = there_is places c.in_ok-number.number (omega (arith, c.in_ok-number.ensures, c.min.ensures, c.len.ensures.places)) in
    absurd (none-some name.0 (c.in_err-member.ensures.member ∙ name.1))

pub returns-in_err-member-clause-full : goal.returns-in_err-member-clause-full
returns-in_err-member-clause-full c =
    let places = c.get-queue.result.now.places in
    let name = there_is places c.in_ok-number.number (omega (arith, c.in_ok-number.ensures, c.min.ensures, c.len.ensures.places)) in
    absurd (none-some name.0 (c.in_err-member.ensures.member ∙ name.1))

pub returns-clause-last : goal.returns-clause-last
returns-clause-last c =
    let d = (goal.at.returns-clause-last c).After-checked_sub in
    let order = c.args.self.now.order in
    let number = c.in_ok-number.number in
    let e : List ℕ × List (List ℕ) = (c.in_ok-name.name.now, c.in_ok-name.boxed.now.places) in
    let at = ap (λ (q : Queued). slice_get q.places number) (sym c.get-queue.ensures) ∙ sym c.in_ok-member.ensures.member in
    firsts_last (slice_get order c.args.key) e (at_key d) c.args.members number c.in_ok-member.member.now (omega (arith, c.in_ok-number.ensures, c.min.ensures, long d)) at
    ∙ (λ k. firsts_of number (slice_get order c.args.key) ++ (sym c.as_slice.ensures k, c.in_ok-member.member.now) ∷ [])

pub returns-clause-small : goal.returns-clause-small
returns-clause-small c = λ e is.
    let d = (goal.at.returns-clause-small c).After-checked_sub in
    let same = ap (λ (x : List ℕ × List (List ℕ)). length x.1) (same_Some e _ (sym is ∙ at_key d)) in
    omega (arith, same, long d, c.len.ensures.small)

pub returns-clause-entry : goal.returns-clause-entry
returns-clause-entry c =
    let entries = c.self.inside.queues.entries in
    let key = c.as_slice.result.now in
    let member = c.in_ok-member.member.now in
    ap (λ (s : Keyed). get s.members (key, member)) (sym c.self.view_is) ∙ get-members_in entries (key, member)
    ∙ ap (λ es. get es member) (key_entries entries c.in_ok-name.name.now key (Some c.in_ok-name.boxed.now) (sym c.as_slice.ensures) (sym c.in_ok-name.ensures.value))
    ∙ ap (λ (q : Queued). get q.entries member) (sym c.get-queue.ensures) ∙ c.in_ok-member.ensures.entry
