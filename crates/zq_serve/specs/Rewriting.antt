-- What a request is answered that is read as another one.

use Rattle.std.specs.Prelude.{Bool, Err, List, None, Ok, Option, Result, Some, false, true, ◌∷◌, ◌≡◌}
use Rattle.zq_dialect.specs.Rewrites.{Rewrites}
use Rattle.zq_dialect.specs.Said.{said_of}
use Rattle.zq_resp.specs.Reply.{line, reply_bytes}
use Rattle.zq_resp.specs.declared.reply.Reply.{Reply}
use Rattle.zq_serve.specs.Preparing.{Preparing}
use Rattle.zq_session.specs.Session.{Relation}
use Rattle.zq_session.specs.Transacting.{PreparesRefused}
use Rattle.zq_session.specs.declared.queued.Queued.{Queued}
use Rattle.zq_words.specs.Refused.{refused_text}
use Rattle.zq_words.specs.Words.{Word}
use Rattle.zq_words.specs.declared.refused.Refused.{Refused}

-- as the words that came, as the words that these became, or they are refused and nothing changes
abbrev pub IsAnsweredBy : {S : Type 0} → Relation S → Result (Option (List Word)) Refused → S →
    List Word → Reply → S → Type 0
IsAnsweredBy answers (Ok None) old words reply new = answers old words reply new
IsAnsweredBy answers (Ok (Some others)) old words reply new = answers old others reply new
IsAnsweredBy answers (Err refused) old words reply new = (new ≡ old)
    × (reply_bytes reply ≡ 45 ∷ line (refused_text refused))

-- as the words that they are rewritten to
abbrev pub IsRewritten : {S : Type 0} → Relation S → S → List Word → Reply → S → Type 0
IsRewritten answers old words reply new = (made : Result (Option (List Word)) Refused)
    × Rewrites made words (said_of words) × IsAnsweredBy answers made old words reply new

-- that where words are rewritten, and else as they came
abbrev pub IsAnsweredAs : {S : Type 0} → Relation S → Bool → S → List Word → Reply → S → Type 0
IsAnsweredAs answers true old words reply new = IsRewritten answers old words reply new
IsAnsweredAs answers false old words reply new = answers old words reply new

-- what waits for a request is what would wait for the words that are read in its place
abbrev pub IsPreparedBy : {S : Type 0} → Preparing S → Result (Option (List Word)) Refused → S →
    List Word → Result Queued Reply → Type 0
IsPreparedBy prepares (Ok None) state words result = prepares state words result
IsPreparedBy prepares (Ok (Some others)) state words result = prepares state others result
IsPreparedBy prepares (Err refused) state words result = PreparesRefused refused result

abbrev pub IsPreparedRewritten : {S : Type 0} → Preparing S → S → List Word →
    Result Queued Reply → Type 0
IsPreparedRewritten prepares state words result = (made : Result (Option (List Word)) Refused)
    × Rewrites made words (said_of words) × IsPreparedBy prepares made state words result

abbrev pub IsPreparedAs : {S : Type 0} → Preparing S → Bool → S → List Word →
    Result Queued Reply → Type 0
IsPreparedAs prepares true state words result = IsPreparedRewritten prepares state words result
IsPreparedAs prepares false state words result = prepares state words result
