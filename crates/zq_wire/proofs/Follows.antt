-- Where more bytes are heard, what was read is read again, and they stand behind the rest.

use Rattle.std.proofs.Common.{arith, Bool, Err, false, length, List, Ok, Result, true, refl, inl, inr, ℕ, [], ◌∷◌, ◌++◌, ◌*◌, ◌≡◌, cond}
use Rattle.std.proofs.lemmas.Bool.{cases_Bool}
use Rattle.std.proofs.lemmas.Bool.Decides.{nat_tests}
use Rattle.std.proofs.lemmas.List.{drop-append-le, length-append, take-append-le}
use Rattle.std.specs.Prelude.{nat_lt, ◌==◌}
use Rattle.std.specs.Str.{bytes_eq}
use Rattle.zq_dots.specs.Rule.{rule_of}
use Rattle.zq_dots.specs.declared.rule.Rule.{Rule}
use Rattle.zq_wire.specs.Ranges.{agreed_at, new_at, old_at, only, same_form, version_at}
use Rattle.zq_wire.specs.Reading.{answer_at, expected, heaps_at, magic_at, nonce_at, open_at, peer_at, rule_at, site_at}
use Rattle.zq_wire.specs.Said.{magic}
use Rattle.zq_wire.specs.Steps.{byte_at, bytes_at, ◌>>=◌}
use Rattle.zq_wire.specs.Told.{run_at}
use Rattle.zq_wire.specs.declared.form.Form.{Form}
use Rattle.zq_wire.specs.declared.form.Form.TheVariants.{New, Old}
use Rattle.zq_wire.specs.declared.refusal.Refusal.{Refusal}
use Rattle.zq_wire.specs.declared.refusal.Refusal.TheVariants as refusal
use Rattle.zq_wire.specs.declared.side.Side.{Side}
use Rattle.zq_wire.specs.declared.stop.Stop.{Stop}
use Rattle.zq_wire.specs.declared.stop.Stop.TheVariants.{Refused, Short}
use Rattle.zq_wire.specs.declared.versions.Versions.{Versions}
use Rattle.zq_fields.specs.Spelling.{rule_byte}

-- what is read again, once more bytes stand behind the rest
abbrev pub Follows : {X : Type 0} → (X → X) → Result X Stop → Result X Stop → Type 0
Follows behind (Ok x) again = again ≡ Ok (behind x)
Follows behind (Err Short) again = Unit {0}
Follows behind (Err (Refused why)) again = again ≡ Err (Refused why)

pub then : {X Y : Type 0} (behind : X → X) (behind_next : Y → Y) (r again : Result X Stop) (next : X → Result Y Stop)
    → Follows behind r again → ((x : X) → Follows behind_next (next x) (next (behind x))) → Follows behind_next (r >>= next) (again >>= next)
then behind behind_next (Ok x) again next h each = rw h (each x)
then behind behind_next (Err Short) again next h each = tt
then behind behind_next (Err (Refused why)) again next h each = rw h refl

-- a step that reads nothing
kept : {X Y : Type 0} (behind : Y → Y) (r : Result X Stop) (next again : X → Result Y Stop) → ((x : X) → Follows behind (next x) (again x)) → Follows behind (r >>= next) (r >>= again)
kept behind (Ok x) next again each = each x
kept behind (Err Short) next again each = tt
kept behind (Err (Refused why)) next again each = refl

-- a test of what was read, which says nothing of the rest
tested : (b : Bool) (rest more : List ℕ) (why : Refusal)
    → Follows (λ r. r ++ more) (cond b (Ok rest) (Err (Refused why))) (cond b (Ok (rest ++ more)) (Err (Refused why)))
tested true rest more why = refl
tested false rest more why = refl

pub byte_follows : (bytes more : List ℕ) → Follows (λ p. (p.0, p.1 ++ more)) (byte_at bytes) (byte_at (bytes ++ more))
byte_follows [] more = tt
byte_follows (b ∷ rest) more = refl

pub bytes_follow : (n : ℕ) (bytes more : List ℕ) → Follows (λ p. (p.0, p.1 ++ more)) (bytes_at n bytes) (bytes_at n (bytes ++ more))
bytes_follow n bytes more =
    elim (cases_Bool (nat_lt (length bytes) n)) [
      | inl short ↦ rw short tt
      | inr long ↦
          let enough : nat_lt (length (bytes ++ more)) n ≡ false = rw (length-append bytes more) (grind (arith, nat_tests)) in
          let front = take-append-le n bytes more (grind (arith, nat_tests)) in
          let back = drop-append-le n bytes more (grind (arith, nat_tests)) in
          rw (long, enough, front, back) refl
    ]

pub magic_follows : (bytes more : List ℕ) → Follows (λ r. r ++ more) (magic_at bytes) (magic_at (bytes ++ more))
unfolding magic_at
magic_follows bytes more = then (λ p. (p.0, p.1 ++ more)) (λ r. r ++ more) (bytes_at 8 bytes) (bytes_at 8 (bytes ++ more)) _ (bytes_follow 8 bytes more) (λ word. tested (bytes_eq word.0 magic) word.1 more refusal.Magic)

pub new_follows : (own : Versions) (form : Form) (bytes more : List ℕ) → Follows (λ p. (p.0, p.1 ++ more)) (new_at own form bytes) (new_at own form (bytes ++ more))
unfolding new_at
new_follows own form bytes more =
    then (λ p. (p.0, p.1 ++ more)) (λ p. (p.0, p.1 ++ more)) (byte_at bytes) (byte_at (bytes ++ more)) _ (byte_follows bytes more) (λ lowest.
    then (λ p. (p.0, p.1 ++ more)) (λ p. (p.0, p.1 ++ more)) (byte_at lowest.1) (byte_at (lowest.1 ++ more)) _ (byte_follows lowest.1 more) (λ highest.
    kept (λ p. (p.0, p.1 ++ more)) (agreed_at own (record { lowest = lowest.0; highest = highest.0 })) _ _ (λ version.
    kept (λ p. (p.0, p.1 ++ more)) (same_form form New) _ _ (λ same. refl))))

-- which form follows
marked : (zeroth one : Bool) (own : Versions) (form : Form) (byte : ℕ) (rest more : List ℕ) → Follows (λ p. (p.0, p.1 ++ more))
    (cond zeroth (new_at own form rest) (cond one (old_at own form >>= λ version. Ok (version, rest)) (Err (Refused (refusal.Version (only byte) own)))))
    (cond zeroth (new_at own form (rest ++ more)) (cond one (old_at own form >>= λ version. Ok (version, rest ++ more)) (Err (Refused (refusal.Version (only byte) own)))))
marked true one own form byte rest more = new_follows own form rest more
marked false true own form byte rest more = kept (λ p. (p.0, p.1 ++ more)) (old_at own form) _ _ (λ version. refl)
marked false false own form byte rest more = refl

pub version_follows : (own : Versions) (form : Form) (bytes more : List ℕ) → Follows (λ p. (p.0, p.1 ++ more)) (version_at own form bytes) (version_at own form (bytes ++ more))
unfolding version_at
version_follows own form bytes more = then (λ p. (p.0, p.1 ++ more)) (λ p. (p.0, p.1 ++ more)) (byte_at bytes) (byte_at (bytes ++ more)) _ (byte_follows bytes more) (λ mark. marked (mark.0 == 0) (mark.0 == 1) own form mark.0 mark.1 more)

pub run_follows : (form : Form) (heaps : ℕ) (bytes more : List ℕ) → Follows (λ p. (p.0, p.1 ++ more)) (run_at form heaps bytes) (run_at form heaps (bytes ++ more))
unfolding run_at
run_follows Old heaps bytes more = refl
run_follows New heaps bytes more =
    then (λ p. (p.0, p.1 ++ more)) (λ p. (p.0, p.1 ++ more)) (bytes_at 16 bytes) (bytes_at 16 (bytes ++ more)) _ (bytes_follow 16 bytes more) (λ name.
    then (λ p. (p.0, p.1 ++ more)) (λ p. (p.0, p.1 ++ more)) (bytes_at 8 name.1) (bytes_at 8 (name.1 ++ more)) _ (bytes_follow 8 name.1 more) (λ start.
    then (λ p. (p.0, p.1 ++ more)) (λ p. (p.0, p.1 ++ more)) (bytes_at (8 * heaps) start.1) (bytes_at (8 * heaps) (start.1 ++ more)) _ (bytes_follow (8 * heaps) start.1 more) (λ counters. refl)))

pub heaps_follow : (heaps : ℕ) (bytes more : List ℕ) → Follows (λ r. r ++ more) (heaps_at heaps bytes) (heaps_at heaps (bytes ++ more))
unfolding heaps_at
heaps_follow heaps bytes more = then (λ p. (p.0, p.1 ++ more)) (λ r. r ++ more) (byte_at bytes) (byte_at (bytes ++ more)) _ (byte_follows bytes more) (λ byte. tested (byte.0 == heaps) byte.1 more (refusal.Heaps byte.0))

pub rule_follows : (rule : Rule) (bytes more : List ℕ) → Follows (λ r. r ++ more) (rule_at rule bytes) (rule_at rule (bytes ++ more))
unfolding rule_at
rule_follows rule bytes more = then (λ p. (p.0, p.1 ++ more)) (λ r. r ++ more) (byte_at bytes) (byte_at (bytes ++ more)) _ (byte_follows bytes more) (λ byte. tested (byte.0 == rule_byte (rule_of rule)) byte.1 more refusal.Rule)

-- the site that was found, and the rest
paired : (r : Result ℕ Stop) (rest more : List ℕ) → Follows {X = ℕ × List ℕ} (λ p. (p.0, p.1 ++ more)) (r >>= λ peer. Ok (peer, rest)) (r >>= λ peer. Ok (peer, rest ++ more))
paired (Ok peer) rest more = refl
paired (Err Short) rest more = tt
paired (Err (Refused why)) rest more = refl

pub site_follows : (own : ℕ) (peers bytes more : List ℕ) → Follows (λ p. (p.0, p.1 ++ more)) (site_at own peers bytes) (site_at own peers (bytes ++ more))
unfolding site_at
site_follows own peers bytes more =
    then (λ p. (p.0, p.1 ++ more)) (λ p. (p.0, p.1 ++ more)) (byte_at bytes) (byte_at (bytes ++ more)) _ (byte_follows bytes more)
    (λ byte. paired (cond (byte.0 == own) (Err (Refused refusal.SameSite)) (expected byte.0 peers)) byte.1 more)

pub peer_follows : (side : Side) (bytes more : List ℕ) → Follows (λ p. (p.0, p.1 ++ more)) (peer_at side bytes) (peer_at side (bytes ++ more))
unfolding peer_at
peer_follows side bytes more =
    then (λ r. r ++ more) (λ p. (p.0, p.1 ++ more)) (magic_at bytes) (magic_at (bytes ++ more)) _ (magic_follows bytes more) (λ after_magic.
    then (λ p. (p.0, p.1 ++ more)) (λ p. (p.0, p.1 ++ more)) (version_at side.versions side.form after_magic) (version_at side.versions side.form (after_magic ++ more)) _ (version_follows side.versions side.form after_magic more) (λ version.
    then (λ p. (p.0, p.1 ++ more)) (λ p. (p.0, p.1 ++ more)) (site_at side.site side.peers.now version.1) (site_at side.site side.peers.now (version.1 ++ more)) _ (site_follows side.site side.peers.now version.1 more) (λ peer.
    then (λ r. r ++ more) (λ p. (p.0, p.1 ++ more)) (heaps_at side.heaps peer.1) (heaps_at side.heaps (peer.1 ++ more)) _ (heaps_follow side.heaps peer.1 more) (λ after_heaps.
    then (λ r. r ++ more) (λ p. (p.0, p.1 ++ more)) (rule_at side.rule after_heaps) (rule_at side.rule (after_heaps ++ more)) _ (rule_follows side.rule after_heaps more) (λ after_rule.
    then (λ p. (p.0, p.1 ++ more)) (λ p. (p.0, p.1 ++ more)) (run_at side.form side.heaps after_rule) (run_at side.form side.heaps (after_rule ++ more)) _ (run_follows side.form side.heaps after_rule more) (λ run. refl))))))

pub open_follows : (bytes more : List ℕ) → Follows (λ r. r ++ more) (open_at bytes) (open_at (bytes ++ more))
unfolding open_at
open_follows bytes more = then (λ p. (p.0, p.1 ++ more)) (λ r. r ++ more) (byte_at bytes) (byte_at (bytes ++ more)) _ (byte_follows bytes more) (λ byte. tested (byte.0 == 0) byte.1 more refusal.SecretThere)

-- a nonce behind a byte that says so
nonce_if : (b : Bool) (rest more : List ℕ)
    → Follows (λ p. (p.0, p.1 ++ more)) (cond b (bytes_at 16 rest) (Err (Refused refusal.SecretHere))) (cond b (bytes_at 16 (rest ++ more)) (Err (Refused refusal.SecretHere)))
nonce_if true rest more = bytes_follow 16 rest more
nonce_if false rest more = refl

pub nonce_follows : (bytes more : List ℕ) → Follows (λ p. (p.0, p.1 ++ more)) (nonce_at bytes) (nonce_at (bytes ++ more))
unfolding nonce_at
nonce_follows bytes more = then (λ p. (p.0, p.1 ++ more)) (λ p. (p.0, p.1 ++ more)) (byte_at bytes) (byte_at (bytes ++ more)) _ (byte_follows bytes more) (λ byte. nonce_if (byte.0 == 1) byte.1 more)

pub answer_follows : (owed bytes more : List ℕ) → Follows (λ r. r ++ more) (answer_at owed bytes) (answer_at owed (bytes ++ more))
unfolding answer_at
answer_follows owed bytes more = then (λ p. (p.0, p.1 ++ more)) (λ r. r ++ more) (bytes_at 32 bytes) (bytes_at 32 (bytes ++ more)) _ (bytes_follow 32 bytes more) (λ said. tested (bytes_eq said.0 owed) said.1 more refusal.Answer)
