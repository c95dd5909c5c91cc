-- What was decided of a peer stays where more is heard.

use Rattle.std.proofs.Common.{ap, arith, Err, length, List, None, Ok, Option, Result, Some, refl, subst, ℕ, ◌++◌, ◌-◌, ◌+◌, ◌≤◌, ◌≡◌}
use Rattle.std.proofs.lemmas.List.{length-append, take-append-le}
use Rattle.zq_wire.proofs.Follows.{Follows, answer_follows, nonce_follows, open_follows, peer_follows}
use Rattle.zq_wire.specs.GreetingLaws.{AnswerStays, RefusalStays, StillOwes, WelcomeStays}
use Rattle.zq_wire.specs.Opened.{answered, before, opened_at, own_part, peer_part, proved, secret_at, told}
use Rattle.zq_wire.specs.Reading.{answer_at, nonce_at, open_at, peer_at}
use Rattle.zq_wire.specs.Said.{Claimant, answer}
use Rattle.zq_wire.specs.Steps.{◌>>=◌}
use Rattle.zq_wire.specs.declared.met.Met.{Met}
use Rattle.zq_wire.specs.declared.opening.Opening.{Opening}
use Rattle.zq_wire.specs.declared.opening.Opening.TheVariants.{Answers, Waits, Welcome}
use Rattle.zq_wire.specs.declared.refusal.Refusal.{Refusal}
use Rattle.zq_wire.specs.declared.run.Run.{Run}
use Rattle.zq_wire.specs.declared.side.Secret.{Secret}
use Rattle.zq_wire.specs.declared.side.Side.{Side}
use Rattle.zq_wire.specs.declared.stop.Stop.{Stop}
use Rattle.zq_wire.specs.declared.stop.Stop.TheVariants.{Refused, Short}

-- a welcome, a refusal and an answer that is due stay
abbrev pub Stays : Result Opening Stop → Result Opening Stop → Type 0
Stays (Ok Waits) again = Unit {0}
Stays (Ok (Answers own)) again = StillOwes own (told again)
Stays (Ok (Welcome peer version run own used)) again = again ≡ Ok (Welcome peer version run own used)
Stays (Err Short) again = Unit {0}
Stays (Err (Refused why)) again = again ≡ Err (Refused why)

then_stays : {X : Type 0} (behind : X → X) (r again : Result X Stop) (next next_again : X → Result Opening Stop)
    → Follows behind r again → ((x : X) → Stays (next x) (next_again (behind x))) → Stays (r >>= next) (again >>= next_again)
then_stays behind (Ok x) again next next_again h each = rw h (each x)
then_stays behind (Err Short) again next next_again h each = tt
then_stays behind (Err (Refused why)) again next next_again h each = rw h refl

-- as many bytes are used
used_again : (whole : ℕ) (rest more : List ℕ) → (whole + length more) - length (rest ++ more) ≡ whole - length rest
used_again whole rest more = rw (length-append rest more) (omega arith)

-- and the same bytes stand before them
before_again : (heard rest more : List ℕ) → before (heard ++ more) (rest ++ more) ≡ before heard rest
before_again heard rest more =
    let count : length (heard ++ more) - length (rest ++ more) ≡ length heard - length rest = simp length-append (omega arith) in
    let fits : length heard - length rest ≤ length heard = omega arith in
    rw count (take-append-le (length heard - length rest) heard more fits)

answered_stays : (met : Met) (own : List ℕ) (whole : ℕ) (more : List ℕ) (r again : Result (List ℕ) Stop)
    → Follows (λ rest. rest ++ more) r again → Stays (answered met own whole r) (answered met own (whole + length more) again)
answered_stays met own whole more (Ok rest) again h = rw (h, used_again whole rest more) refl
answered_stays met own whole more (Err Short) (Ok rest) h = refl
answered_stays met own whole more (Err Short) (Err Short) h = refl
answered_stays met own whole more (Err Short) (Err (Refused why)) h = tt
answered_stays met own whole more (Err (Refused why)) again h = rw h refl

proved_stays : (secret : Secret) (met : Met) (own peer : Claimant) (whole : ℕ) (rest more : List ℕ) → Stays (proved secret met own peer whole rest) (proved secret met own peer (whole + length more) (rest ++ more))
proved_stays secret met own peer whole rest more =
    answered_stays met (answer secret.key.now met.version own peer) whole more (answer_at (answer secret.key.now met.version peer own) rest)
    (answer_at (answer secret.key.now met.version peer own) (rest ++ more)) (answer_follows (answer secret.key.now met.version peer own) rest more)

-- the peer's part is the same
part_stays : (secret : Secret) (side : Side) (said : List ℕ) (met : Met) (heard more : List ℕ) (nonce : List ℕ × List ℕ)
    → Stays (proved secret met (own_part side said secret) (peer_part side met heard nonce) (length heard) nonce.1)
    (proved secret met (own_part side said secret) (peer_part side met (heard ++ more) (nonce.0, nonce.1 ++ more)) (length (heard ++ more)) (nonce.1 ++ more))
part_stays secret side said met heard more nonce =
    rw (before_again heard nonce.1 more, length-append heard more) (proved_stays secret met (own_part side said secret) (peer_part side met heard nonce) (length heard) nonce.1 more)

secret_stays : (secret : Option Secret) (side : Side) (said : List ℕ) (met : Met) (heard bytes more : List ℕ)
    → Stays (secret_at secret side said met heard bytes) (secret_at secret side said met (heard ++ more) (bytes ++ more))
secret_stays None side said met heard bytes more =
    rw (length-append heard more)
    (then_stays (λ rest. rest ++ more) (open_at bytes) (open_at (bytes ++ more)) _ _ (open_follows bytes more)
    (λ rest. ap (λ used. Ok (Welcome met.peer met.version met.run None used)) (used_again (length heard) rest more)))
secret_stays (Some secret) side said met heard bytes more =
    then_stays (λ p. (p.0, p.1 ++ more)) (nonce_at bytes) (nonce_at (bytes ++ more)) _ _ (nonce_follows bytes more)
    (λ nonce. part_stays secret side said met heard more nonce)

opened_stays : (side : Side) (said bytes more : List ℕ) → Stays (opened_at side said bytes) (opened_at side said (bytes ++ more))
unfolding opened_at
opened_stays side said bytes more =
    then_stays (λ p. (p.0, p.1 ++ more)) (peer_at side bytes) (peer_at side (bytes ++ more)) _ _ (peer_follows side bytes more)
    (λ met. secret_stays side.secret side said met.0 bytes met.1 more)

welcome_told : (r again : Result Opening Stop) (peer version : ℕ) (run : Option Run) (own : Option (List ℕ)) (used : ℕ) → Stays r again → told r ≡ Ok (Welcome peer version run own used) → told again ≡ Ok (Welcome peer version run own used)
welcome_told (Ok Waits) again peer version run own used h is = cc
welcome_told (Ok (Answers a)) again peer version run own used h is = cc
welcome_told (Ok (Welcome p v r o u)) again peer version run own used h is = rw h is
welcome_told (Err Short) again peer version run own used h is = cc
welcome_told (Err (Refused why)) again peer version run own used h is = cc

refusal_told : (r again : Result Opening Stop) (refusal : Refusal) → Stays r again → told r ≡ Err refusal → told again ≡ Err refusal
refusal_told (Ok opening) again refusal h is = cc
refusal_told (Err Short) again refusal h is = cc
refusal_told (Err (Refused why)) again refusal h is = rw h is

answer_told : (r again : Result Opening Stop) (own : List ℕ) → Stays r again → told r ≡ Ok (Answers own) → StillOwes own (told again)
answer_told (Ok Waits) again own h is = cc
answer_told (Ok (Answers a)) again own h is = let same : a ≡ own = cc in subst (λ b. StillOwes b (told again)) same h
answer_told (Ok (Welcome p v r o u)) again own h is = cc
answer_told (Err Short) again own h is = cc
answer_told (Err (Refused why)) again own h is = cc

pub welcome_stays : WelcomeStays
welcome_stays side greeted heard more peer version run own used is = welcome_told (opened_at side greeted heard) (opened_at side greeted (heard ++ more)) peer version run own used (opened_stays side greeted heard more) is

pub refusal_stays : RefusalStays
refusal_stays side greeted heard more refusal is = refusal_told (opened_at side greeted heard) (opened_at side greeted (heard ++ more)) refusal (opened_stays side greeted heard more) is

pub answer_stays : AnswerStays
answer_stays side greeted heard more own is = answer_told (opened_at side greeted heard) (opened_at side greeted (heard ++ more)) own (opened_stays side greeted heard more) is
