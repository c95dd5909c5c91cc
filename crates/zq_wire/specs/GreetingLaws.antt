-- When a peer is welcome, in the words of what it says.

use Rattle.std.specs.List.{Contains}
use Rattle.std.specs.Prelude.{All, Err, List, None, Ok, Option, Result, Some, length, replicate, ℕ, ◌++◌, ◌-◌, ◌<◌, ◌^◌, ◌≡◌, ◌≢◌, ◌≤◌, ◌↔◌, ◌⊎◌}
use Rattle.zq_wire.specs.Hmac.{hmac}
use Rattle.zq_wire.specs.Opened.{opening_of}
use Rattle.zq_wire.specs.Ranges.{IsGreatestCommon}
use Rattle.zq_wire.specs.Said.{Claimant, answer, claim, claimant, greeting, said_by}
use Rattle.zq_wire.specs.Told.{IsToldIfNew, Told, form_of, run_of, told_in, versions_of}
use Rattle.zq_wire.specs.declared.form.Form.TheVariants.{New}
use Rattle.zq_wire.specs.declared.opening.Opening.{Opening}
use Rattle.zq_wire.specs.declared.opening.Opening.TheVariants.{Answers, Waits, Welcome}
use Rattle.zq_wire.specs.declared.refusal.Refusal.{Refusal}
use Rattle.zq_wire.specs.declared.run.Run.{Run}
use Rattle.zq_wire.specs.declared.side.Secret.{Secret}
use Rattle.zq_wire.specs.declared.side.Side.{Side}

-- another site, and one that is expected
abbrev pub IsExpected : Side → ℕ → Type 0
IsExpected side peer = (peer ≢ side.site) × Contains side.peers.now peer

-- A peer that tells this agrees with a side: it greets in the same form, the range of its versions
-- begins above 0, and this version is the greatest that both speak.
pub record Agrees (side : Side) (told : Option Told) (version : ℕ) : Type 0 where
  pub form : form_of told ≡ side.form
  pub some : 1 ≤ (versions_of told).lowest
  pub common : IsGreatestCommon side.versions (versions_of told) version
  pub whole : IsToldIfNew side.heaps told

-- all that a peer says before frames, where neither has a secret
abbrev pub said_openly : Side → Option Told → ℕ → List ℕ
said_openly side told peer = greeting told peer side.heaps side.rule None

-- the greeting of a peer that has a secret, and this nonce
abbrev pub greeting_of_peer : Side → Option Told → ℕ → List ℕ → List ℕ
greeting_of_peer side told peer nonce = greeting told peer side.heaps side.rule (Some nonce)

-- what each of the two answers for
abbrev pub own_claimant : Side → List ℕ → Secret → Claimant
own_claimant side said secret = claimant side.form side.site secret.nonce said

abbrev pub peer_claimant : Side → Option Told → ℕ → List ℕ → Claimant
peer_claimant side told peer nonce = claimant side.form peer nonce
    (greeting_of_peer side told peer nonce)

-- the answer that the peer owes, and the one that this side owes
abbrev pub peer_answer : Side → List ℕ → Secret → Option Told → ℕ → ℕ → List ℕ → List ℕ
peer_answer side said secret told peer version nonce = answer secret.key.now version
    (peer_claimant side told peer nonce) (own_claimant side said secret)

abbrev pub own_answer : Side → List ℕ → Secret → Option Told → ℕ → ℕ → List ℕ → List ℕ
own_answer side said secret told peer version nonce = answer secret.key.now version
    (own_claimant side said secret) (peer_claimant side told peer nonce)

-- all that a peer says before frames, where both have a secret: its greeting and the answer that it
-- owes
abbrev pub said_by_secret : Side → List ℕ → Secret → Option Told → ℕ → ℕ → List ℕ → List ℕ
said_by_secret side said secret told peer version nonce = greeting_of_peer side told peer nonce
    ++ peer_answer side said secret told peer version nonce

-- what a welcome without a secret comes from
pub record IsWelcomeOpenly (side : Side) (heard : List ℕ) (peer version : ℕ) (run : Option Run)
    (own : Option (List ℕ)) (used : ℕ) : Type 0 where
  pub expected : IsExpected side peer
  pub told : Option Told
  pub agrees : Agrees side told version
  pub run_told : run ≡ run_of told
  pub own_none : own ≡ None
  pub used_all : used ≡ length (said_openly side told peer)
  pub frames : List ℕ
  pub said : heard ≡ said_openly side told peer ++ frames

-- what a welcome with a secret comes from, for a side that greeted so
pub record IsWelcomeBySecret (side : Side) (greeted : List ℕ) (secret : Secret) (heard : List ℕ)
    (peer version : ℕ) (run : Option Run) (own : Option (List ℕ)) (used : ℕ) : Type 0 where
  pub expected : IsExpected side peer
  pub told : Option Told
  pub agrees : Agrees side told version
  pub run_told : run ≡ run_of told
  pub nonce : List ℕ
  pub nonce_long : length nonce ≡ 16
  pub owes : own ≡ Some (own_answer side greeted secret told peer version nonce)
  pub used_all : used ≡ length (said_by_secret side greeted secret told peer version nonce)
  pub frames : List ℕ
  pub said : heard ≡ said_by_secret side greeted secret told peer version nonce ++ frames

-- Without a secret a peer is welcome exactly where it is expected and says nothing else before its
-- frames.
abbrev pub WelcomeOpenly : Type 0
WelcomeOpenly = (side : Side) (greeted heard : List ℕ) (peer version : ℕ) (run : Option Run)
    (own : Option (List ℕ)) (used : ℕ) → side.secret ≡ None
    → (opening_of side greeted heard ≡ Ok (Welcome peer version run own used))
    ↔ IsWelcomeOpenly side heard peer version run own used

-- With a secret a peer is welcome exactly where it is expected and answers as the secret has it.
abbrev pub WelcomeBySecret : Type 0
WelcomeBySecret = (side : Side) (greeted : List ℕ) (secret : Secret) (heard : List ℕ)
    (peer version : ℕ) (run : Option Run) (own : Option (List ℕ)) (used : ℕ)
    → side.secret ≡ Some secret
    → (opening_of side greeted heard ≡ Ok (Welcome peer version run own used))
    ↔ IsWelcomeBySecret side greeted secret heard peer version run own used

-- A welcome stays where more is heard.
abbrev pub WelcomeStays : Type 0
WelcomeStays = (side : Side) (greeted heard more : List ℕ) (peer version : ℕ) (run : Option Run)
    (own : Option (List ℕ)) (used : ℕ)
    → opening_of side greeted heard ≡ Ok (Welcome peer version run own used) →
    opening_of side greeted (heard ++ more) ≡ Ok (Welcome peer version run own used)

-- A refusal stays where more is heard.
abbrev pub RefusalStays : Type 0
RefusalStays = (side : Side) (greeted heard more : List ℕ) (refusal : Refusal) →
    opening_of side greeted heard ≡ Err refusal →
    opening_of side greeted (heard ++ more) ≡ Err refusal

-- what may become of an answer that is due: it is due still, or the peer is welcome with it, or the
-- peer is refused
abbrev pub StillOwes : List ℕ → Result Opening Refusal → Type 0
StillOwes own (Ok (Answers again)) = again ≡ own
StillOwes own (Ok (Welcome peer version run again used)) = again ≡ Some own
StillOwes own (Err refusal) = Unit {0}
StillOwes own (Ok Waits) = ⊥

-- An answer that is due stays the same where more is heard.
abbrev pub AnswerStays : Type 0
AnswerStays = (side : Side) (greeted heard more : List ℕ) (own : List ℕ) →
    opening_of side greeted heard ≡ Ok (Answers own) →
    StillOwes own (opening_of side greeted (heard ++ more))

-- What one site answers for is never what another answers for.
abbrev pub ClaimsDiffer : Type 0
ClaimsDiffer = (version again : ℕ) (own peer one other : Claimant) → own.site ≢ one.site →
    claim version own peer ≢ claim again one other

-- two messages that have the same tag
pub record IsCollision (key one other : List ℕ) : Type 0 where
  pub differ : one ≢ other
  pub same : hmac key one ≡ hmac key other

-- what a peer answers for: the greeting that it sent and, of the same length, the one that it heard
pub record AreHeard (sender hearer : Claimant) : Type 0 where
  pub sender_nonce : length sender.nonce ≡ 16
  pub hearer_nonce : length hearer.nonce ≡ 16
  pub lengths : length sender.greeting ≡ length hearer.greeting

-- a side with a counter for each of its heaps, and the lengths that its types have
pub record HasLengths (side : Side) (secret : Secret) : Type 0 where
  pub few : side.heaps ≤ 16
  pub counters : length side.counters.now ≡ side.heaps
  pub run : length side.run ≡ 16
  pub nonce : length secret.nonce ≡ 16

-- In the new form a greeting that was changed on the way, in its versions or in what it tells of a
-- run, does no good where there is a secret. Of a peer that sent another greeting than the one that
-- came, or heard another than this side sent, the answer is one for another message. It is welcome
-- only where two messages have the same tag.
abbrev pub ChangedCollides : Type 0
ChangedCollides = (side : Side) (secret : Secret) (came more : List ℕ) (again : ℕ)
    (sender hearer : Claimant) (peer version : ℕ) (run : Option Run) (own : Option (List ℕ))
    (used : ℕ) → side.secret ≡ Some secret → side.form ≡ New → HasLengths side secret
    → length came ≡ length (said_by side) → AreHeard sender hearer
    → (sender.greeting ≢ came) ⊎ (hearer.greeting ≢ said_by side)
    → opening_of side (said_by side)
    (came ++ (answer secret.key.now again sender hearer ++ more))
    ≡ Ok (Welcome peer version run own used)
    → (other : List ℕ) × IsCollision secret.key.now (claim again sender hearer) other

-- What a side tells of its run is the run that is told of, with a counter for each heap and 0
-- behind the last.
abbrev pub RunIsTold : Type 0
RunIsTold = (side : Side) → length side.counters.now ≤ 16 → side.start < 2 ^ 64
    → All (λ counter. counter < 2 ^ 64) side.counters.now
    → run_of (told_in New side) ≡ Some (record {
      name = side.run;
      start = side.start;
      counters = side.counters.now ++ replicate (16 - length side.counters.now) 0;
    })
