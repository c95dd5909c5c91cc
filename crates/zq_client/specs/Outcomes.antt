-- What comes of a request that a connection answers itself.

use Rattle.std.specs.Prelude.{Err, IsTrue, Ok, Result, ◌≡◌}
use Rattle.std.specs.declared.alloc.AllocError.{AllocError}
use Rattle.zq_client.specs.Clients.{Client}
use Rattle.zq_client.specs.Texts.{denied, refused}
use Rattle.zq_client.specs.declared.why.Why.{Why}
use Rattle.zq_resp.specs.Reply.{is_writable, reply_bytes}
use Rattle.zq_resp.specs.declared.reply.Reply.{Reply}
use Rattle.zq_words.specs.Words.{Word}
use Rattle.zq_words.specs.declared.refused.Refused.{Refused}

-- the connection afterwards, and the bytes of the reply
pub record Outcome : Type 0 where
  pub client : Client
  pub bytes : Word

abbrev pub told : Client → Word → Outcome
told client bytes = record { client = client; bytes = bytes }

-- the reply has these bytes, and its texts end no line
pub record IsReply (bytes : Word) (reply : Reply) : Type 0 where
  pub bytes_are : reply_bytes reply ≡ bytes
  pub writable : IsTrue (is_writable reply)

-- the same, where memory may be refused
abbrev pub Answers : Word → Result Reply AllocError → Type 0
Answers bytes (Ok reply) = IsReply bytes reply
Answers bytes (Err error) = Unit {0}

-- the connection is left so, and the reply is this
pub record IsTold (outcome : Outcome) (new : Client) (reply : Reply) : Type 0 where
  pub client : new ≡ outcome.client
  pub bytes : reply_bytes reply ≡ outcome.bytes
  pub writable : IsTrue (is_writable reply)

-- the same; where memory is refused, the connection is as it was
abbrev pub Comes : Outcome → Client → Result Reply AllocError → Client → Type 0
Comes outcome old (Ok reply) new = IsTold outcome new reply
Comes outcome old (Err error) new = new ≡ old
