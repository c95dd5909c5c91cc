-- AUTH.

use Rattle.sha2.specs.Sha256.{sha256}
use Rattle.std.specs.Prelude.{Bool, List, None, Option, Some, [], codes, if◌then◌else◌, true, ◌&&◌, ◌∷◌}
use Rattle.std.specs.Str.{bytes_eq}
use Rattle.zq_client.specs.Clients.{Client, known, missed}
use Rattle.zq_client.specs.Outcomes.{Outcome, told}
use Rattle.zq_client.specs.Texts.{OK, denied, refused}
use Rattle.zq_client.specs.declared.why.Why.TheVariants as why
use Rattle.zq_words.specs.Words.{Word}
use Rattle.zq_words.specs.declared.refused.Refused.TheVariants as reason

-- a text is the password of this digest, or there is no password to show
abbrev pub is_shown : Option Word → Word → Bool
is_shown None text = true
is_shown (Some digest) text = bytes_eq (sha256 text) digest

-- the user is the one that there is, and the password is right
abbrev pub is_right : Option Word → Word → Word → Bool
is_right digest user text = is_shown digest text && bytes_eq user (codes "default")

-- where there is a password to show, a wrong one counts
abbrev pub wrong : Option Word → Client → Client
wrong None client = client
wrong (Some digest) client = missed client

abbrev pub refuse : Option Word → Client → Outcome
refuse digest client = told (wrong digest client) (denied why.WrongPassword)

abbrev pub enter : Option Word → Client → Word → Word → Outcome
enter digest client user text =
    if is_right digest user text then told (known client) OK else refuse digest client

-- a password alone is that of the user that there is
abbrev pub show : Option Word → Client → Word → Outcome
show None client text = told client (denied why.NoPassword)
show (Some digest) client text = enter (Some digest) client (codes "default") text

abbrev pub auth : Option Word → Client → List Word → Outcome
auth digest client [] = told client (refused reason.Words)
auth digest client (text ∷ []) = show digest client text
auth digest client (user ∷ text ∷ []) = enter digest client user text
auth digest client (a ∷ b ∷ c ∷ words) = told client (refused reason.Syntax)
