-- Replies whose texts end no line, in what came of requests that were answered together.

use Rattle.std.specs.Prelude.{IsTrue}
use Rattle.zq_commands.specs.Arrays.{are_writable}
use Rattle.zq_resp.specs.Reply.{is_writable}
use Rattle.zq_session.specs.declared.queued.Transacted.{Transacted}
use Rattle.zq_session.specs.declared.queued.Transacted.TheVariants.{Ran, TurnedAway, Touched}

abbrev pub AreAllWritable : Transacted → Type 0
AreAllWritable (Ran replies) = IsTrue (are_writable replies.items)
AreAllWritable Touched = Unit {0}
AreAllWritable (TurnedAway reply) = IsTrue (is_writable reply)
