-- Why a peer is not welcome, in words.

use Rattle.std.specs.Prelude.{List, codes, decimal, if◌then◌else◌, ℕ, ◌++◌, ◌==◌}
use Rattle.zq_wire.specs.declared.form.Form.TheVariants.{New, Old}
use Rattle.zq_wire.specs.declared.refusal.Refusal.{Refusal}
use Rattle.zq_wire.specs.declared.refusal.Refusal.TheVariants as refusal
use Rattle.zq_wire.specs.declared.versions.Versions.{Versions}

-- a range of versions
abbrev pub words_of_versions : Versions → List ℕ
words_of_versions range = if range.lowest == range.highest
    then codes "version " ++ decimal range.lowest
    else codes "versions " ++ (decimal range.lowest ++ (codes " to " ++ decimal range.highest))

abbrev pub words_of : Refusal → List ℕ
words_of refusal.Magic = codes "it does not greet as a site does"
words_of (refusal.Version heard own) = codes "it speaks " ++ (words_of_versions heard
    ++ (codes " of the protocol, and this site " ++ words_of_versions own))
words_of (refusal.Form Old) = codes "it greets in the old form"
words_of (refusal.Form New) = codes "it greets in the new form"
words_of refusal.SameSite = codes "it has the number of this site"
words_of (refusal.Unexpected number) = codes "site " ++ decimal number ++ codes " is not expected"
words_of (refusal.Heaps number) = codes "it has " ++ decimal number ++ codes " heaps"
words_of refusal.Rule = codes "it has another rule"
words_of refusal.SecretThere = codes "it wants a secret, and this site has none"
words_of refusal.SecretHere = codes "it has no secret, and this site wants one"
words_of refusal.Answer = codes "it does not know the secret"
