-- What is written for a request that does not run.

use Rattle.std.specs.Prelude.{Err, Ok, true, ◌∷◌, ◌≡◌}
use Rattle.zq_semantics.specs.Replies.{bytes_of}
use Rattle.zq_semantics.specs.Run.{Memory, cut_error}
use Rattle.zq_resp.specs.Reply.{line}
use Rattle.zq_words.specs.Command.{Reading}
use Rattle.zq_words.specs.Refused.{refused_text}
use Rattle.zq_words.specs.Shown.{takes_memory}
use Rattle.zq_words.specs.Words.{Word}

-- the reply to a request that does not run: what is no command is answered by the first reason; a
-- ZADD of several pairs may find no memory for them
abbrev pub IsRefusalOf : Reading → Word → Type 0
IsRefusalOf (Ok command) reply = (takes_memory (Ok command) ≡ true)
    × (reply ≡ bytes_of (cut_error 0 Memory))
IsRefusalOf (Err refused) reply = reply ≡ 45 ∷ line (refused_text refused)
