-- Reading what a peer says.

use Rattle.std.specs.List.{find}
use Rattle.std.specs.Option.{ok_or}
use Rattle.std.specs.Prelude.{Err, List, Ok, Result, if◌then◌else◌, ℕ, ◌==◌}
use Rattle.std.specs.Str.{bytes_eq}
use Rattle.zq_dots.specs.Rule.{rule_of}
use Rattle.zq_dots.specs.declared.rule.Rule.{Rule}
use Rattle.zq_wire.specs.Ranges.{version_at}
use Rattle.zq_wire.specs.Said.{magic}
use Rattle.zq_wire.specs.Steps.{byte_at, bytes_at, ◌>>=◌}
use Rattle.zq_wire.specs.Told.{run_at}
use Rattle.zq_wire.specs.declared.met.Met.{Met}
use Rattle.zq_wire.specs.declared.refusal.Refusal.TheVariants as refusal
use Rattle.zq_wire.specs.declared.side.Side.{Side}
use Rattle.zq_wire.specs.declared.stop.Stop.{Stop}
use Rattle.zq_wire.specs.declared.stop.Stop.TheVariants.{Refused}
use Rattle.zq_fields.specs.Spelling.{rule_byte}

-- the magic word, and what follows
unfoldable pub magic_at : List ℕ → Result (List ℕ) Stop
magic_at bytes = do
  word ← bytes_at 8 bytes
  if bytes_eq word.0 magic then Ok word.1 else Err (Refused refusal.Magic)

-- the site of this number among those that are expected
abbrev pub expected : ℕ → List ℕ → Result ℕ Stop
expected number peers = ok_or (find (λ peer. peer == number) peers)
    (Refused (refusal.Unexpected number))

-- a site that is not this one and is expected
unfoldable pub site_at : ℕ → List ℕ → List ℕ → Result (ℕ × List ℕ) Stop
site_at own peers bytes = do
  byte ← byte_at bytes
  peer ← if byte.0 == own then Err (Refused refusal.SameSite) else expected byte.0 peers
  Ok (peer, byte.1)

-- this number of heaps, and what follows
unfoldable pub heaps_at : ℕ → List ℕ → Result (List ℕ) Stop
heaps_at heaps bytes = do
  byte ← byte_at bytes
  if byte.0 == heaps then Ok byte.1 else Err (Refused (refusal.Heaps byte.0))

-- this rule, and what follows
unfoldable pub rule_at : Rule → List ℕ → Result (List ℕ) Stop
rule_at rule bytes = do
  byte ← byte_at bytes
  if byte.0 == rule_byte (rule_of rule) then Ok byte.1 else Err (Refused refusal.Rule)

-- a peer that agrees in everything before the secret, and what it tells of its run
unfoldable pub peer_at : Side → List ℕ → Result (Met × List ℕ) Stop
peer_at side bytes = do
  after_magic ← magic_at bytes
  version ← version_at side.versions side.form after_magic
  peer ← site_at side.site side.peers.now version.1
  after_heaps ← heaps_at side.heaps peer.1
  after_rule ← rule_at side.rule after_heaps
  run ← run_at side.form side.heaps after_rule
  Ok (record { peer = peer.0; version = version.0; run = run.0 }, run.1)

-- no secret, and what follows
unfoldable pub open_at : List ℕ → Result (List ℕ) Stop
open_at bytes = do
  byte ← byte_at bytes
  if byte.0 == 0 then Ok byte.1 else Err (Refused refusal.SecretThere)

-- the nonce of a peer with a secret
unfoldable pub nonce_at : List ℕ → Result (List ℕ × List ℕ) Stop
nonce_at bytes = do
  byte ← byte_at bytes
  if byte.0 == 1 then bytes_at 16 byte.1 else Err (Refused refusal.SecretHere)

-- this answer, and what follows
unfoldable pub answer_at : List ℕ → List ℕ → Result (List ℕ) Stop
answer_at owed bytes = do
  said ← bytes_at 32 bytes
  if bytes_eq said.0 owed then Ok said.1 else Err (Refused refusal.Answer)
