-- Which commands a site answers, and what it tells the others.

use Rattle.std.specs.List.{list_all}
use Rattle.std.specs.Prelude.{Bool, List, [], codes, decimal, false, not, true, ℕ, ◌++◌, ◌||◌, ◌∷◌, ◌≡◌}
use Rattle.zq_resp.specs.Reply.{line, reply_bytes}
use Rattle.zq_resp.specs.declared.reply.Reply.{Reply}
use Rattle.zq_serve.specs.declared.admission.Admits.{Admits}
use Rattle.zq_serve.specs.declared.admission.Admits.TheVariants.{All, NoAdditions, NoChanges, Pings, Readings}
use Rattle.zq_session.specs.declared.queued.Queued.{Queued}
use Rattle.zq_session.specs.declared.queued.Queued.TheVariants as queued
use Rattle.zq_words.specs.Words.{Word, is}

-- whether a request of this name writes
abbrev pub writes : Word → Bool
writes name = is name (codes "ZADD") || (is name (codes "ZINCRBY") || (is name (codes "ZREM")
    || (is name (codes "ZPOPMIN") || (is name (codes "ZPOPNEAR") || (is name (codes "DEL")
    || (is name (codes "ZPOPMAX") || (is name (codes "ZREMRANGEBYSCORE")
    || is name (codes "ZREMRANGEBYRANK"))))))))

abbrev pub is_write : List Word → Bool
is_write [] = false
is_write (name ∷ words) = writes name

-- whether a command of this name adds
abbrev pub adds : Word → Bool
adds name = is name (codes "ZADD") || is name (codes "ZINCRBY")

abbrev pub is_addition : List Word → Bool
is_addition [] = false
is_addition (name ∷ words) = adds name

abbrev pub is_ping : List Word → Bool
is_ping [] = false
is_ping (name ∷ words) = is name (codes "PING")

-- which commands are answered: PING alone once the site is fenced, whatever else holds, else
-- readings while it waits, or while the disk is full, else those that add nothing while the process
-- is full, and else all
abbrev pub admits_by : Bool → Bool → Bool → Bool → Admits
admits_by true waits disk full = Pings
admits_by false true disk full = Readings
admits_by false false true full = NoChanges
admits_by false false false true = NoAdditions
admits_by false false false false = All

-- whether these words are answered
abbrev pub is_admitted : Admits → List Word → Bool
is_admitted All words = true
is_admitted Readings words = not (is_write words)
is_admitted NoChanges words = not (is_write words)
is_admitted NoAdditions words = not (is_addition words)
is_admitted Pings words = is_ping words

-- what a command that writes is told while this site waits for its peers
abbrev pub loading_of : ℕ → List ℕ
loading_of site = codes "LOADING site " ++ (decimal site ++ codes " waits for its peers")

-- what the others are told at a site
abbrev pub refusal_of : ℕ → Admits → List ℕ
refusal_of site All = []
refusal_of site Readings = loading_of site
refusal_of site NoChanges = codes "MISCONF the disk of this site is full"
refusal_of site NoAdditions = codes "OOM command not allowed when used memory > 'maxmemory'."
refusal_of site Pings = codes "ERR this site number was used by another run"

-- these words are not answered, but refused by this reply
pub record IsHeldBack (site : ℕ) (admits : Admits) (words : List Word) (reply : Reply) : Type 0
  where
    pub refused : is_admitted admits words ≡ false
    pub told : reply_bytes reply ≡ 45 ∷ line (refusal_of site admits)

-- whether what waits is answered; what a connection answers itself, and what is refused, is no
-- business of this
abbrev pub is_admitted_later : Admits → Queued → Bool
is_admitted_later admits (queued.Asked request) = is_admitted admits request
is_admitted_later admits other = true

abbrev pub are_admitted : Admits → List Queued → Bool
are_admitted admits queue = list_all (is_admitted_later admits) queue

-- one of those that waited is not answered any more, and so none is
abbrev pub AreHeldBack : ℕ → Admits → List Queued → Reply → Type 0
AreHeldBack site admits queue reply = (are_admitted admits queue ≡ false)
    × (reply_bytes reply ≡ 45 ∷ line (refusal_of site admits))
