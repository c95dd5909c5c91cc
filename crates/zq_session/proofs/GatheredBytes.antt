-- Bytes that are gathered and written, one after the other.
use Rattle.std.proofs.Common.{◌≡◌, ◌≤◌, ◌<◌, Err, MatchResult, Ok, arith, Result, List, ℕ, [], ◌++◌, length, refl, sym, ap, subst, ◌∙◌, append_assoc, append-nil, take, drop, take-append-drop}
use Rattle.zq_session.specs.Gathering.{Held, Gathers, IsCutOff, Puts, held}
use Rattle.zq_session.specs.Steps.{Does, FULL, Said, Says}
use Rattle.zq_session.specs.declared.outcome.SessionFault.{SessionFault}
use Rattle.zq_session.specs.declared.outcome.SessionFault.TheVariants.{Read, Write, NoMemory}
use Rattle.zq_session.proofs.Talks.{fills-join, fills-none, fills-one, says-join, says-one}

-- first more bytes come, of which some are sent, and then others
all-join : (gathered first second sent between more left : List ℕ) → gathered ++ first ≡ sent ++ between → between ++ second ≡ more ++ left → gathered ++ (first ++ second) ≡ (sent ++ more) ++ left
all-join gathered first second sent between more left p q =
    sym (append_assoc gathered first second) ∙ (ap (λ l. l ++ second) p ∙ (append_assoc sent between second ∙ (ap (λ l. sent ++ l) q ∙ sym (append_assoc sent more left))))

module _ {E : Type 0} (does : Does E) where
  pub gathers-none : (h : Held E) → Gathers does h h []
  gathers-none h = ([], fills-none does h.ends, append-nil h.gathered)

  pub gathers-join : (a b c : Held E) (first second : List ℕ) → Gathers does a b first → Gathers does b c second → Gathers does a c (first ++ second)
  gathers-join a b c first second p q = (
    p.0 ++ q.0,
    fills-join does a.ends b.ends c.ends p.0 q.0 p.1 q.1,
    all-join a.gathered first second p.0 b.gathered q.0 c.gathered p.2 q.2,
  )

  pub cut-join : (a b c : Held E) (first second : List ℕ) → Gathers does a b first → IsCutOff does b c second → IsCutOff does a c (first ++ second)
  cut-join a b c first second p q = (p.0 ++ q.0, q.1, says-join does a.ends b.ends c.ends p.0 q.0 p.1 q.2, all-join a.gathered first second p.0 b.gathered q.0 q.1 p.2 q.3)

  -- Nothing was written.
  pub gathers-kept : (ends : E) (gathered bytes : List ℕ) → Gathers does (held ends gathered) (held ends (gathered ++ bytes)) bytes
  gathers-kept ends gathered bytes = ([], fills-none does ends, refl)

  -- All that is gathered was written, since it was much; or the writer failed.
  pub many-written : (old new : E) (out rest : List ℕ) (result : Result (Unit {0}) SessionFault) → FULL ≤ length out
      → MatchResult result (λ done. (rest ≡ []) × does old (Said out) new) (λ fault. (fault ≡ Write) × (rest ≡ []) × ((at : ℕ) × does old (Said (take at out)) new))
      → MatchResult result (λ done. Gathers does (held old out) (held new rest) [] × (length rest < FULL)) (λ fault. (fault ≡ Write) × IsCutOff does (held old out) (held new rest) [])
  many-written old new out rest (Ok done) full p =
      ((out, fills-one does old new out full p.1, ap (λ l. out ++ l) (sym p.0)), let none = ap length p.0 in omega arith)
  many-written old new out rest (Err fault) full p =
      let at = p.2.0 in (p.0, (take at out, drop at out, says-one does old new (take at out) p.2.1, append-nil out ∙ sym (take-append-drop at out)))

  -- What is gathered is written too.
  pub all-written : (old mid new : E) (gathered bytes : List ℕ) → Gathers does (held old []) (held mid gathered) bytes → does mid (Said gathered) new → Says does old new bytes
  all-written old mid new gathered bytes p q = subst (Says does old new) (sym p.2) (says-join does old mid new p.0 gathered p.1 (says-one does mid new gathered q))

  -- The bytes begin with what was written.
  abbrev pub IsFrontWritten : E → E → List ℕ → Type 0
  IsFrontWritten old new bytes = (front back : List ℕ) × (bytes ≡ front ++ back) × Says does old new front

  -- The front of what is gathered is written too.
  pub front-written : (old mid new : E) (gathered bytes : List ℕ) (at : ℕ)
      → Gathers does (held old []) (held mid gathered) bytes → does mid (Said (take at gathered)) new → IsFrontWritten old new bytes
  front-written old mid new gathered bytes at p q =
      let front = take at gathered in
      let back = drop at gathered in (
        p.0 ++ front,
        back,
        p.2 ∙ (ap (λ l. p.0 ++ l) (sym (take-append-drop at gathered)) ∙ sym (append_assoc p.0 front back)),
        says-join does old mid new p.0 front p.1 (says-one does mid new front q),
      )

  -- The writer has failed.
  pub front-sent : (old new : E) (rest bytes : List ℕ) → IsCutOff does (held old []) (held new rest) bytes → IsFrontWritten old new bytes
  front-sent old new rest bytes p = (p.0, p.1, p.3, p.2)

  -- A fault is the same for a call of another result.
  pub puts-stopped : (T U : Type 0) (old new : Held E) (bytes : List ℕ) (why : SessionFault) → Puts {T = T} does old new bytes (Err why) → Puts {T = U} does old new bytes (Err why)
  puts-stopped T U old new bytes Read p = p
  puts-stopped T U old new bytes Write p = p
  puts-stopped T U old new bytes NoMemory p = p

  -- What was put before comes first.
  pub puts-join : (T : Type 0) (a b c : Held E) (first second : List ℕ) (result : Result T SessionFault) → Gathers does a b first → Puts {T = T} does b c second result → Puts {T = T} does a c (first ++ second) result
  puts-join T a b c first second (Ok done) p q = gathers-join a b c first second p q
  puts-join T a b c first second (Err Read) p q = absurd q
  puts-join T a b c first second (Err Write) p q = cut-join a b c first second p q
  puts-join T a b c first second (Err NoMemory) p q = gathers-join a b c first second p q
