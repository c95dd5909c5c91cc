-- What the two sites of a link say, as bytes.

use Rattle.std.specs.Prelude.{List, None, Option, Some, [], option_map, ℕ, ◌++◌, ◌∷◌}
use Rattle.zq_dots.specs.Rule.{rule_of}
use Rattle.zq_dots.specs.declared.rule.Rule.{Rule}
use Rattle.zq_fields.specs.Spelling.{rule_byte}
use Rattle.zq_wire.specs.Hmac.{hmac}
use Rattle.zq_wire.specs.Told.{Told, told_in}
use Rattle.zq_wire.specs.declared.answer.Party.{Party}
use Rattle.zq_wire.specs.declared.form.Form.{Form}
use Rattle.zq_wire.specs.declared.form.Form.TheVariants.{New, Old}
use Rattle.zq_wire.specs.declared.side.Side.{Side}

-- "zq-peer" and a line feed
abbrev pub magic : List ℕ
magic = 122 ∷ 113 ∷ 45 ∷ 112 ∷ 101 ∷ 101 ∷ 114 ∷ 10 ∷ []

-- the version 1; or 0, and the lowest and the highest version
abbrev pub version_bytes : Option Told → List ℕ
version_bytes None = 1 ∷ []
version_bytes (Some told) = 0 ∷ told.versions.lowest ∷ told.versions.highest ∷ []

-- the run, where it is told
abbrev pub run_bytes : Option Told → List ℕ
run_bytes None = []
run_bytes (Some told) = told.name ++ (told.start ++ told.counters)

-- whether there is a secret, and the nonce where there is one
abbrev pub nonce_bytes : Option (List ℕ) → List ℕ
nonce_bytes None = 0 ∷ []
nonce_bytes (Some nonce) = 1 ∷ nonce

-- the magic word, the versions, and the terms of a site with so many heaps and this rule
abbrev pub front : Option Told → ℕ → ℕ → Rule → List ℕ
front told site heaps rule =
    magic ++ (version_bytes told ++ (site ∷ heaps ∷ rule_byte (rule_of rule) ∷ []))

-- the greeting of such a site, in the new form where it tells of its run
abbrev pub greeting : Option Told → ℕ → ℕ → Rule → Option (List ℕ) → List ℕ
greeting told site heaps rule nonce =
    front told site heaps rule ++ (run_bytes told ++ nonce_bytes nonce)

-- what a side tells, in its form
abbrev pub told_by : Side → Option Told
told_by side = told_in side.form side

abbrev pub front_by : Side → List ℕ
front_by side = front (told_by side) side.site side.heaps side.rule

abbrev pub run_by : Side → List ℕ
run_by side = run_bytes (told_by side)

-- the greeting of this site, with its nonce where it has a secret
abbrev pub said_by : Side → List ℕ
said_by side = greeting (told_by side) side.site side.heaps side.rule
    (option_map (λ secret. secret.nonce) side.secret)

-- one of the two sites of a link: its number, its nonce, and what is answered for of its greeting
pub record Claimant : Type 0 where
  pub site : ℕ
  pub nonce : List ℕ
  pub greeting : List ℕ

abbrev pub claimant_of : Party → Claimant
claimant_of party = record {
  site = party.site;
  nonce = party.nonce;
  greeting = party.greeting.now;
}

-- In the new form a greeting is answered for whole, and not at all in the old one.
abbrev pub covered : Form → List ℕ → List ℕ
covered Old greeting = []
covered New greeting = greeting

abbrev pub claimant : Form → ℕ → List ℕ → List ℕ → Claimant
claimant form site nonce greeting = record {
  site = site;
  nonce = nonce;
  greeting = covered form greeting;
}

-- what is answered for: the version, the number of the site that answers, the other's, their nonces
-- in this order, and so what is covered of their greetings
abbrev pub claim : ℕ → Claimant → Claimant → List ℕ
claim version own other = version ∷ own.site ∷ other.site
    ∷ own.nonce ++ (other.nonce ++ (own.greeting ++ other.greeting))

-- the answer that the first of two sites owes to the other
abbrev pub answer : List ℕ → ℕ → Claimant → Claimant → List ℕ
answer key version own other = hmac key (claim version own other)
