-- Requests of one connection that wait one after the other, whatever others do meanwhile.

use Rattle.std.specs.Prelude.{List, Ok, Some, [], ◌∷◌, ◌≡◌}
use Rattle.zq_client.specs.declared.profile.Profile.{Profile}
use Rattle.zq_resp.specs.declared.reply.Reply.{Reply}
use Rattle.zq_serve.specs.Callers.{Caller}
use Rattle.zq_serve.specs.Desks.{AnswersAtDesk, way_of}
use Rattle.zq_serve.specs.Preparing.{Inside, Preparing}
use Rattle.zq_serve.specs.Transactions.{IsReadAs}
use Rattle.zq_serve.specs.declared.knowing.Way.TheVariants as way
use Rattle.zq_session.specs.declared.queued.Queued.{Queued}
use Rattle.zq_words.specs.Words.{Word}

-- each of these requests comes to wait, and what answers inside may be anything when it comes
abbrev pub Waits : {S : Type 0} → Inside S → Profile → Caller → List (List Word) → Caller → Type 0
Waits i profile before [] after = after ≡ before
Waits {S} i profile before (words ∷ requests) after = (old : S) × (new : S) × (reply : Reply)
    × (mid : Caller) × (way_of before words ≡ way.PutOff)
    × AnswersAtDesk i profile old (Some before) words reply new (Some mid)
    × Waits i profile mid requests after

-- what waits is each of these requests, as it was read when it came
abbrev pub AreRead : {S : Type 0} → Preparing S → List (List Word) → List Queued → Type 0
AreRead prepares [] queue = queue ≡ []
AreRead prepares (words ∷ requests) [] = ⊥
AreRead {S} prepares (words ∷ requests) (q ∷ queue) = (state : S)
    × IsReadAs prepares state words (Ok q) × AreRead prepares requests queue
