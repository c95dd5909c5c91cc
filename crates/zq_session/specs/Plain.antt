-- How a server of a site that one session alone uses answers.

use Rattle.std.specs.List.{range_with_len}
use Rattle.std.specs.Prelude.{Bool, Err, List, Ok, Option, false, map, true, ℕ, ◌+◌, ◌<◌, ◌∷◌, ◌≡◌}
use Rattle.zq_commands.specs.Beginning.{begun}
use Rattle.zq_commands.specs.Running.{IsRead}
use Rattle.zq_commands.specs.SiteBooks.{empty_book}
use Rattle.zq_commands.specs.VecBooks.{rule_in}
use Rattle.zq_model.specs.Books.{Book}
use Rattle.zq_journal.specs.Books.{LAST_STAMP}
use Rattle.zq_model.specs.Rule.{Greatest}
use Rattle.zq_semantics.specs.Replies.{bytes_of, ping_reply}
use Rattle.zq_semantics.specs.Run.{ForReply, IsRun, Memory, Number, cut_error, is_long}
use Rattle.zq_resp.specs.Reply.{line, reply_bytes}
use Rattle.zq_resp.specs.declared.reply.Reply.{Reply}
use Rattle.zq_semantics.specs.Books.{greatest_stamp}
use Rattle.zq_words.specs.Command.{Command, Ping, Reading, command_of}
use Rattle.zq_words.specs.Refused.{refused_text}
use Rattle.zq_words.specs.Shown.{takes_memory}
use Rattle.zq_words.specs.Words.{Word}

-- the number of the site
abbrev pub SITE : ℕ
SITE = 0

-- the greatest of a member's scores counts
abbrev pub AreRuledGreatest : List Book → Type 0
AreRuledGreatest books = rule_in books ≡ Greatest

-- the books of so many heaps, in which nothing was done
abbrev pub no_keys : ℕ → List Book
no_keys heaps = map (empty_book heaps Greatest) (range_with_len 0 heaps)

-- the books as the next call begins with them: its stamp is the one after the greatest of theirs
abbrev pub next_begun : List Book → List Book
next_begun books = map (begun (greatest_stamp books + 1)) books

abbrev pub is_ping : Command → Bool
is_ping (Ping message) = true
is_ping command = false

-- what a command makes of the books, and the bytes of its reply: PING asks for no stamp; every
-- other command runs at the greatest stamp of the books plus 1, over the books whose tails were cut
-- where they are long, and none runs where that stamp is at its last value; a ZADD of several pairs
-- may find no memory for them
pub data RunsCommand (old : List Book) (command : Command) (new : List Book) (reply : Word) : Type 0
  where
    pings : (message : Option Word) → command ≡ Ping message → new ≡ old →
        IsRead (ForReply (is_long message) 0) (ping_reply message) reply →
        RunsCommand old command new reply
    runs : is_ping command ≡ false → greatest_stamp old < LAST_STAMP →
        IsRun Greatest SITE (greatest_stamp old + 1) command (next_begun old) new reply →
        RunsCommand old command new reply
    worn : is_ping command ≡ false → greatest_stamp old ≡ LAST_STAMP → new ≡ old →
        reply ≡ bytes_of (cut_error 0 Number) → RunsCommand old command new reply
    unread : takes_memory (Ok command) ≡ true → new ≡ old → reply ≡ bytes_of (cut_error 0 Memory) →
        RunsCommand old command new reply

-- the same of a request: what is no command is answered by the first reason, and changes nothing
abbrev pub RunsReading : List Book → Reading → List Book → Word → Type 0
RunsReading old (Ok command) new reply = RunsCommand old command new reply
RunsReading old (Err refused) new reply = (new ≡ old) × (reply ≡ 45 ∷ line (refused_text refused))

-- the books before, the request's words, the reply, the books after
abbrev pub AnswersByPlan : List Book → List Word → Reply → List Book → Type 0
AnswersByPlan old words reply new = RunsReading old (command_of words) new (reply_bytes reply)
