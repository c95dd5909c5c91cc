-- When a peer is welcome.

use Rattle.std.proofs.Common.{ap, append_assoc, arith, Err, length, List, None, Ok, Option, Result, Some, refl, subst, sym, ℕ, ◌∷◌, ◌++◌, ◌-◌, ◌≡◌, ◌∙◌}
use Rattle.std.proofs.Math.Seq.{take-append_seam}
use Rattle.std.proofs.lemmas.List.{length-append}
use Rattle.zq_wire.proofs.Parts.{IsPeer, answer_from, answer_long, answer_since, both_ok, nonce_from, nonce_since, open_from, open_since, peer_from, peer_since, step, terms}
use Rattle.zq_wire.specs.GreetingLaws.{IsWelcomeBySecret, IsWelcomeOpenly, WelcomeBySecret, WelcomeOpenly, greeting_of_peer, own_answer, own_claimant, peer_answer, peer_claimant, said_by_secret, said_openly}
use Rattle.zq_wire.specs.Opened.{answered, before, opened_at, opening_of, openly, own_part, peer_part, proved, secret_at, told}
use Rattle.zq_wire.specs.Reading.{answer_at, nonce_at, open_at, peer_at}
use Rattle.zq_wire.specs.Said.{Claimant, answer, claimant}
use Rattle.zq_wire.specs.Told.{Told, run_of}
use Rattle.zq_wire.specs.declared.met.Met.{Met}
use Rattle.zq_wire.specs.declared.opening.Opening.{Opening}
use Rattle.zq_wire.specs.declared.opening.Opening.TheVariants.{Welcome}
use Rattle.zq_wire.specs.declared.run.Run.{Run}
use Rattle.zq_wire.specs.declared.side.Secret.{Secret}
use Rattle.zq_wire.specs.declared.side.Side.{Side}
use Rattle.zq_wire.specs.declared.stop.Stop.{Stop}
use Rattle.zq_wire.specs.declared.stop.Stop.TheVariants.{Refused, Short}

-- a welcome that is told is one that was read
read_since : (r : Result Opening Stop) (opening : Opening) (peer version : ℕ) (run : Option Run) (own : Option (List ℕ)) (used : ℕ) → opening ≡ Welcome peer version run own used → told r ≡ Ok opening → r ≡ Ok opening
read_since (Ok o) opening peer version run own used is h = cc
read_since (Err Short) opening peer version run own used is h = cc
read_since (Err (Refused why)) opening peer version run own used is h = cc

-- a welcome by its parts
pub record SameWelcome (met : Met) (a : Option (List ℕ)) (u peer version : ℕ) (run : Option Run) (own : Option (List ℕ)) (used : ℕ) : Type 0 where
  pub same_peer : met.peer ≡ peer
  pub same_version : met.version ≡ version
  pub same_run : met.run ≡ run
  pub same_own : a ≡ own
  pub same_used : u ≡ used

same_welcome : (met : Met) (a : Option (List ℕ)) (u peer version : ℕ) (run : Option Run) (own : Option (List ℕ)) (used : ℕ) (r : Result Opening Stop)
    → r ≡ Ok (Welcome met.peer met.version met.run a u) → r ≡ Ok (Welcome peer version run own used) → SameWelcome met a u peer version run own used
same_welcome met a u peer version run own used r is h = record { same_peer = cc; same_version = cc; same_run = cc; same_own = cc; same_used = cc }

-- what follows the run, without a secret and with one
without : (secret : Option Secret) (side : Side) (said : List ℕ) (met : Met) (heard bytes : List ℕ) → secret ≡ None → secret_at secret side said met heard bytes ≡ openly met (length heard) bytes
without secret side said met heard bytes none = rw none refl

with_one : (held : Option Secret) (secret : Secret) (side : Side) (said : List ℕ) (met : Met) (heard bytes : List ℕ) → held ≡ Some secret → secret_at held side said met heard bytes ≡ secret_at (Some secret) side said met heard bytes
with_one held secret side said met heard bytes some = rw some refl

answered_since : (met : Met) (a : List ℕ) (whole : ℕ) (r : Result (List ℕ) Stop) (peer version : ℕ) (run : Option Run) (own : Option (List ℕ)) (used : ℕ) → answered met a whole r ≡ Ok (Welcome peer version run own used)
    → (rest : List ℕ) × (r ≡ Ok rest) × SameWelcome met (Some a) (whole - length rest) peer version run own used
answered_since met a whole (Ok rest) peer version run own used h = (rest, refl, same_welcome met (Some a) (whole - length rest) peer version run own used _ refl h)
answered_since met a whole (Err Short) peer version run own used h = cc
answered_since met a whole (Err (Refused why)) peer version run own used h = cc

-- what is used is what stands before the rest
used_since : (said rest heard : List ℕ) → heard ≡ said ++ rest → length heard - length rest ≡ length said
used_since said rest heard is = omega (arith, ap length is, length-append said rest)

before_since : (said rest heard : List ℕ) → heard ≡ said ++ rest → before heard rest ≡ said
before_since said rest heard is = rw (used_since said rest heard is, is) (take-append_seam said rest)

-- a peer that was read, as the parts of a welcome
pub record IsMet (side : Side) (heard : List ℕ) (peer version : ℕ) (run : Option Run) (rest : List ℕ) : Type 0 where
  pub met : Met
  pub read : IsPeer side heard met rest
  pub same_peer : met.peer ≡ peer
  pub same_version : met.version ≡ version
  pub same_run : met.run ≡ run

-- the values of a peer in place of those that were welcome
in_place : (side : Side) (heard : List ℕ) (met : Met) (rest : List ℕ) (peer version : ℕ) (run : Option Run) → met.peer ≡ peer → met.version ≡ version → met.run ≡ run → IsPeer side heard met rest
    → IsPeer side heard (record { peer = peer; version = version; run = run }) rest
in_place side heard met rest peer version run same_peer same_version same_run read =
    let same : met ≡ record { peer = peer; version = version; run = run } = λ i. record { peer = same_peer i; version = same_version i; run = same_run i } in
    subst (λ m. IsPeer side heard m rest) same read

openly_since : (side : Side) (greeted heard : List ℕ) (peer version : ℕ) (run : Option Run) (own : Option (List ℕ)) (used : ℕ) → side.secret ≡ None
    → opening_of side greeted heard ≡ Ok (Welcome peer version run own used) → IsWelcomeOpenly side heard peer version run own used
unfolding opened_at
openly_since side greeted heard peer version run own used none h =
    let (m, at_m, to_m) = both_ok (peer_at side heard) _ (Welcome peer version run own used) (read_since _ _ peer version run own used refl h) in
    let plain : openly m.0 (length heard) m.1 ≡ Ok (Welcome peer version run own used) = sym (without side.secret side greeted m.0 heard m.1 none) ∙ to_m in
    let (rest, at_rest, is) = both_ok (open_at m.1) _ (Welcome peer version run own used) plain in
    let same = same_welcome m.0 None (length heard - length rest) peer version run own used _ refl is in
    let read = in_place side heard m.0 m.1 peer version run same.same_peer same.same_version same.same_run (peer_since side heard m.0 m.1 at_m) in
    let said : heard ≡ said_openly side read.told peer ++ rest = read.split ∙ (ap (λ x. terms read.told peer side.heaps side.rule ++ x) (open_since m.1 rest at_rest) ∙ sym (simp append_assoc)) in
    record {
      expected = read.expected;
      told = read.told;
      agrees = read.agrees;
      run_told = read.run_is;
      own_none = sym same.same_own;
      used_all = sym same.same_used ∙ used_since (said_openly side read.told peer) rest heard said;
      frames = rest;
      said = said;
    }

openly_from : (side : Side) (greeted heard : List ℕ) (peer version : ℕ) (run : Option Run) (own : Option (List ℕ)) (used : ℕ) → side.secret ≡ None
    → IsWelcomeOpenly side heard peer version run own used → opening_of side greeted heard ≡ Ok (Welcome peer version run own used)
unfolding opened_at
openly_from side greeted heard peer version run own used none w =
    let count : length heard - length w.frames ≡ used = used_since (said_openly side w.told peer) w.frames heard w.said ∙ sym w.used_all in
    let split : heard ≡ terms w.told peer side.heaps side.rule ++ (0 ∷ w.frames) = w.said ∙ simp append_assoc in
    let met : Met = record { peer = peer; version = version; run = run_of w.told } in
    let read : peer_at side heard ≡ Ok (record { peer = peer; version = version; run = run_of w.told }, 0 ∷ w.frames) = ap (λ x. peer_at side x) split ∙ peer_from side w.told peer version (0 ∷ w.frames) w.expected w.agrees in
    let opened : openly (record { peer = peer; version = version; run = run_of w.told }) (length heard) (0 ∷ w.frames) ≡ Ok (Welcome peer version run own used) =
    step (open_at (0 ∷ w.frames)) _ w.frames (Welcome peer version run own used) (open_from w.frames) (rw (count, w.own_none, w.run_told) refl) in
    ap told (step (peer_at side heard) (λ m. secret_at side.secret side greeted m.0 heard m.1) (record { peer = peer; version = version; run = run_of w.told }, 0 ∷ w.frames) (Welcome peer version run own used) read
    (without side.secret side greeted (record { peer = peer; version = version; run = run_of w.told }) heard (0 ∷ w.frames) none ∙ opened))

pub welcome_openly : WelcomeOpenly
welcome_openly side greeted heard peer version run own used none = (openly_since side greeted heard peer version run own used none, openly_from side greeted heard peer version run own used none)

-- what a peer with a secret says, part by part
by_parts : (side : Side) (greeted : List ℕ) (secret : Secret) (told : Option Told) (peer version : ℕ) (nonce rest : List ℕ)
    → said_by_secret side greeted secret told peer version nonce ++ rest
    ≡ terms told peer side.heaps side.rule ++ (1 ∷ nonce ++ (peer_answer side greeted secret told peer version nonce ++ rest))
by_parts side greeted secret told peer version nonce rest = simp append_assoc

-- its greeting stands before its answer
greeting_before : (side : Side) (told : Option Told) (peer : ℕ) (nonce after heard : List ℕ) → heard ≡ terms told peer side.heaps side.rule ++ (1 ∷ nonce ++ after) → before heard after ≡ greeting_of_peer side told peer nonce
greeting_before side told peer nonce after heard is =
    before_since (greeting_of_peer side told peer nonce) after heard (is ∙ sym (simp append_assoc))

-- its part, with what was heard in the place of what it said
same_part : (side : Side) (met : Met) (heard : List ℕ) (told : Option Told) (peer : ℕ) (nonce : List ℕ × List ℕ) → met.peer ≡ peer → heard ≡ terms told peer side.heaps side.rule ++ (1 ∷ nonce.0 ++ nonce.1)
    → peer_part side met heard nonce ≡ peer_claimant side told peer nonce.0
same_part side met heard told peer nonce same is =
    let said = greeting_before side told peer nonce.0 nonce.1 heard is in
    λ i. claimant side.form (same i) nonce.0 (said i)

pub by_secret_since : (side : Side) (greeted : List ℕ) (secret : Secret) (heard : List ℕ) (peer version : ℕ) (run : Option Run) (own : Option (List ℕ)) (used : ℕ) → side.secret ≡ Some secret
    → opening_of side greeted heard ≡ Ok (Welcome peer version run own used) → IsWelcomeBySecret side greeted secret heard peer version run own used
unfolding opened_at
by_secret_since side greeted secret heard peer version run own used some h =
    let (m, at_m, to_m) = both_ok (peer_at side heard) _ (Welcome peer version run own used) (read_since _ _ peer version run own used refl h) in
    let opened : secret_at (Some secret) side greeted m.0 heard m.1 ≡ Ok (Welcome peer version run own used) = sym (with_one side.secret secret side greeted m.0 heard m.1 some) ∙ to_m in
    let (n, at_n, to_n) = both_ok (nonce_at m.1) _ (Welcome peer version run own used) opened in
    let one : Claimant = own_part side greeted secret in
    let other : Claimant = peer_part side m.0 heard n in
    let (rest, at_rest, same) =
    answered_since m.0 (answer secret.key.now m.0.version (own_part side greeted secret) (peer_part side m.0 heard n)) (length heard)
    (answer_at (answer secret.key.now m.0.version (peer_part side m.0 heard n) (own_part side greeted secret)) n.1) peer version run own used to_n in
    let read = in_place side heard m.0 m.1 peer version run same.same_peer same.same_version same.same_run (peer_since side heard m.0 m.1 at_m) in
    let (long, nonce_split) = nonce_since m.1 n.0 n.1 at_n in
    let split : heard ≡ terms read.told peer side.heaps side.rule ++ (1 ∷ n.0 ++ n.1) = read.split ∙ ap (λ x. terms read.told peer side.heaps side.rule ++ x) nonce_split in
    let part : peer_part side m.0 heard n ≡ peer_claimant side read.told peer n.0 = same_part side m.0 heard read.told peer n same.same_peer split in
    let owed : answer secret.key.now m.0.version (peer_part side m.0 heard n) (own_part side greeted secret) ≡ peer_answer side greeted secret read.told peer version n.0 =
    λ i. answer secret.key.now (same.same_version i) (part i) (own_claimant side greeted secret) in
    let due : answer secret.key.now m.0.version (own_part side greeted secret) (peer_part side m.0 heard n) ≡ own_answer side greeted secret read.told peer version n.0 =
    λ i. answer secret.key.now (same.same_version i) (own_claimant side greeted secret) (part i) in
    let answer_split : n.1 ≡ peer_answer side greeted secret read.told peer version n.0 ++ rest =
    answer_since (answer secret.key.now m.0.version (peer_part side m.0 heard n) (own_part side greeted secret)) n.1 rest at_rest ∙ ap (λ x. x ++ rest) owed in
    let said : heard ≡ said_by_secret side greeted secret read.told peer version n.0 ++ rest =
    split ∙ (ap (λ x. terms read.told peer side.heaps side.rule ++ (1 ∷ n.0 ++ x)) answer_split ∙ sym (by_parts side greeted secret read.told peer version n.0 rest)) in
    record {
      expected = read.expected;
      told = read.told;
      agrees = read.agrees;
      run_told = read.run_is;
      nonce = n.0;
      nonce_long = long;
      owes = sym same.same_own ∙ ap (λ x. Some x) due;
      used_all = sym same.same_used ∙ used_since (said_by_secret side greeted secret read.told peer version n.0) rest heard said;
      frames = rest;
      said = said;
    }

by_secret_from : (side : Side) (greeted : List ℕ) (secret : Secret) (heard : List ℕ) (peer version : ℕ) (run : Option Run) (own : Option (List ℕ)) (used : ℕ) → side.secret ≡ Some secret
    → IsWelcomeBySecret side greeted secret heard peer version run own used → opening_of side greeted heard ≡ Ok (Welcome peer version run own used)
unfolding opened_at
by_secret_from side greeted secret heard peer version run own used some w =
    let met : Met = record { peer = peer; version = version; run = run_of w.told } in
    let after : List ℕ = peer_answer side greeted secret w.told peer version w.nonce ++ w.frames in
    let count : length heard - length w.frames ≡ used = used_since (said_by_secret side greeted secret w.told peer version w.nonce) w.frames heard w.said ∙ sym w.used_all in
    let split : heard ≡ terms w.told peer side.heaps side.rule ++ (1 ∷ w.nonce ++ after) = w.said ∙ by_parts side greeted secret w.told peer version w.nonce w.frames in
    let read : peer_at side heard ≡ Ok (met, 1 ∷ w.nonce ++ after) = ap (λ x. peer_at side x) split ∙ peer_from side w.told peer version (1 ∷ w.nonce ++ after) w.expected w.agrees in
    let part : peer_part side met heard (w.nonce, after) ≡ peer_claimant side w.told peer w.nonce = same_part side met heard w.told peer (w.nonce, after) refl split in
    let right : answer_at (peer_answer side greeted secret w.told peer version w.nonce) after ≡ Ok w.frames =
    answer_from (peer_answer side greeted secret w.told peer version w.nonce) w.frames (answer_long secret.key.now version (peer_claimant side w.told peer w.nonce) (own_claimant side greeted secret)) in
    let told_so : proved secret met (own_claimant side greeted secret) (peer_claimant side w.told peer w.nonce) (length heard) after ≡ Ok (Welcome peer version run own used) =
    ap (λ r. answered met (own_answer side greeted secret w.told peer version w.nonce) (length heard) r) right ∙ rw (count, w.owes, w.run_told) refl in
    let opened : secret_at (Some secret) side greeted met heard (1 ∷ w.nonce ++ after) ≡ Ok (Welcome peer version run own used) =
    step (nonce_at (1 ∷ w.nonce ++ after)) _ (w.nonce, after) (Welcome peer version run own used) (nonce_from w.nonce after w.nonce_long)
    (ap (λ p. proved secret met (own_part side greeted secret) p (length heard) after) part ∙ told_so) in
    ap told (step (peer_at side heard) (λ m. secret_at side.secret side greeted m.0 heard m.1) (met, 1 ∷ w.nonce ++ after) (Welcome peer version run own used) read
    (with_one side.secret secret side greeted met heard (1 ∷ w.nonce ++ after) some ∙ opened))

pub welcome_by_secret : WelcomeBySecret
welcome_by_secret side greeted secret heard peer version run own used some =
    (by_secret_since side greeted secret heard peer version run own used some, by_secret_from side greeted secret heard peer version run own used some)
