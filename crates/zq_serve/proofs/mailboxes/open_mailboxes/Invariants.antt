use Rattle.std.proofs.Common.{map, ◌≡◌}
use Rattle.std.specs.Prelude.{replicate}
use Rattle.zq_serve.proofs.mailboxes.open_mailboxes.Given as goal

abbrev pub invariant-loop-site : goal.invariant-loop-site
invariant-loop-site l = map (λ mailbox. mailbox.most) l.mailboxes.items ≡ replicate l._site l.most
