use Rattle.std.proofs.Common.{Some, ap, length, refl, rules, subst, ◌∙◌, ◌≡◌, ◌≤◌, ℕ}
use Rattle.std.proofs.lemmas.Option.{slice_get_past, slice_get_read}
use Rattle.std.specs.Prelude.{slice_get}
use Rattle.zq_peers.proofs.Handings.{handed_nowhere, handed_there}
use Rattle.zq_peers.specs.Handings.{IsReceipt}
use Rattle.zq_peers.proofs.straight.StraightCarry.carry.Goals as goal

pub returns-in-Some : goal.returns-in-Some
returns-in-Some g c =
    let ms = c.args.self.now.mailboxes.now in
    let from = c.args.self.now.from in
    let there = c.in-Some.ensures.lookup in
    let mailbox = c.in-Some.mailbox.now in
    let handed = c.give-handed in
    let read = slice_get_read ms (length ms) c.from.result mailbox refl there.3.0 there.1 in
    let P : ℕ → Type 0 = λ place. slice_get ms place ≡ Some mailbox in
    let at = subst P (c.from.ensures ∙ c.value.ensures.same) read in
    let receipt : IsReceipt mailbox from c.args.frame.items c.had_memory-whole.result handed.result = record { mailbox_is = handed.ensures.mailbox; from_is = handed.ensures.from; frame_is = ap (λ v. v.items) handed.ensures.frame; slip = handed.ensures.slip; whole_is = c.had_memory-whole.ensures } in
    handed_there ms from c.args.to c.args.frame.items c.had_memory-whole.result mailbox handed.result at receipt

pub returns-in-None : goal.returns-in-None
returns-in-None g c =
    let ms = c.args.self.now.mailboxes.now in
    let P : ℕ → Type 0 = λ place. length ms ≤ place in
    let past : length ms ≤ c.from.result = search rules in
    handed_nowhere ms c.args.self.now.from c.args.to c.args.frame.items (slice_get_past ms c.args.to (subst P (c.from.ensures ∙ c.value.ensures.same) past))
