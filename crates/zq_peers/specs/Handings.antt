-- Carriage into mailboxes.

use Rattle.std.specs.Prelude.{Bool, List, MatchOption, None, Option, Some, slice_get, true, ℕ, ◌≡◌}
use Rattle.zq_peers.specs.declared.mailbox.Handed.{Handed}
use Rattle.zq_peers.specs.declared.mailbox.Mailbox.{Mailbox}
use Rattle.zq_peers.specs.Fates.{had_memory}
use Rattle.zq_peers.specs.Slips.{IsSlip}

-- the receipt says that this mailbox was given this frame of this site, what became of it by the
-- most that waits there, and whether there was memory for it
pub record IsReceipt (mailbox : Mailbox) (from : ℕ) (frame : List ℕ) (whole : Bool)
    (handed : Handed) : Type 0 where
  pub mailbox_is : handed.mailbox.value ≡ mailbox
  pub from_is : handed.slip.from ≡ from
  pub frame_is : handed.slip.frame.value.items ≡ frame
  pub slip : IsSlip mailbox.most handed.slip
  pub whole_is : whole ≡ had_memory handed.slip.fate

-- The mailbox at the place of the site that it goes to was given the frame, as one of the sender's;
-- where there is none it is dropped. Nothing else changes.
pub record IsHandedOn (old new : List Mailbox) (sender sender' : ℕ) (to : ℕ) (frame : List ℕ)
    (whole : Bool) (last : Option Handed) : Type 0 where
  pub mailboxes : new ≡ old
  pub from : sender' ≡ sender
  pub handed : MatchOption (slice_get old to) ((last ≡ None) × (whole ≡ true))
      (λ mailbox. (handed : Handed) × (last ≡ Some handed)
      × IsReceipt mailbox sender frame whole handed)
