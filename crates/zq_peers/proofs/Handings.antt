-- Frames that were handed to mailboxes.
use Rattle.std.proofs.Common.{refl, subst, sym}
use Rattle.std.specs.Prelude.{Bool, List, MatchOption, None, Option, Some, slice_get, true, ℕ, ◌≡◌}
use Rattle.zq_peers.specs.Handings.{IsHandedOn, IsReceipt}
use Rattle.zq_peers.specs.declared.mailbox.Handed.{Handed}
use Rattle.zq_peers.specs.declared.mailbox.Mailbox.{Mailbox}

-- the mailbox of its place was given a frame
pub handed_there : (ms : List Mailbox) (from to : ℕ) (frame : List ℕ) (whole : Bool) (mailbox : Mailbox) (handed : Handed) → slice_get ms to ≡ Some mailbox → IsReceipt mailbox from frame whole handed →
    IsHandedOn ms ms from from to frame whole (Some handed)
handed_there ms from to frame whole mailbox handed at receipt =
    let P : Option Mailbox → Type 0 = λ o. MatchOption o ((Some handed ≡ None) × (whole ≡ true)) (λ m. (h : Handed) × (Some handed ≡ Some h) × IsReceipt m from frame whole h) in
    record { mailboxes = refl; from = refl; handed = subst P (sym at) (handed, refl, receipt) }

-- there is no mailbox for a frame
pub handed_nowhere : (ms : List Mailbox) (from to : ℕ) (frame : List ℕ) → slice_get ms to ≡ None → IsHandedOn ms ms from from to frame true None
handed_nowhere ms from to frame at =
    let last : Option Handed = None in
    let P : Option Mailbox → Type 0 = λ o. MatchOption o ((last ≡ None) × (true ≡ true)) (λ m. (h : Handed) × (last ≡ Some h) × IsReceipt m from frame true h) in
    record { mailboxes = refl; from = refl; handed = subst P (sym at) (refl, refl) }
