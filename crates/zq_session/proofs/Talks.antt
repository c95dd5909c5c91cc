-- Steps of the two ends of a peer, one after the other.
use Rattle.std.proofs.Common.{◌≡◌, ◌≤◌, ℕ, ◌+◌, Option, List, [], ◌∷◌, ◌++◌, length, map, refl, sym, ap, subst, ◌∙◌, append_assoc, append-nil, arith}
use Rattle.std.proofs.lemmas.List.{map-append}
use Rattle.std.specs.Io.KnownBytes.{Appends, Consumes, IsAtEnd}
use Rattle.zq_resp.specs.Reply.{joined}
use Rattle.zq_session.specs.Steps.{AreFull, AreGathered, Does, FULL, Failed, Fills, Heard, IsFullBefore, Said, Says, Step, ReadsAndWrites, Talks, heard, reads, said}
use Rattle.zq_session.proofs.KnownBytes.{appends-join, appends-none, consumes-join, consumes-kept, consumes-none}

joined-append : (xs ys : List (List ℕ)) → joined (xs ++ ys) ≡ joined xs ++ joined ys
joined-append [] ys = refl
joined-append (x ∷ xs) ys = ap (λ bytes. x ++ bytes) (joined-append xs ys) ∙ sym (append_assoc x (joined xs) (joined ys))

pub heard-append : (xs ys : List Step) → heard (xs ++ ys) ≡ heard xs ++ heard ys
heard-append [] ys = refl
heard-append (Heard bytes ∷ xs) ys = ap (λ more. bytes ++ more) (heard-append xs ys) ∙ sym (append_assoc bytes (heard xs) (heard ys))
heard-append (Failed ∷ xs) ys = heard-append xs ys
heard-append (Said bytes ∷ xs) ys = heard-append xs ys

pub said-append : (xs ys : List Step) → said (xs ++ ys) ≡ said xs ++ said ys
said-append [] ys = refl
said-append (Heard bytes ∷ xs) ys = said-append xs ys
said-append (Failed ∷ xs) ys = said-append xs ys
said-append (Said bytes ∷ xs) ys = ap (λ more. bytes ++ more) (said-append xs ys) ∙ sym (append_assoc bytes (said xs) (said ys))

reads-append : (xs ys : List Step) → reads (xs ++ ys) ≡ reads xs + reads ys
reads-append [] ys = omega arith
reads-append (Heard bytes ∷ xs) ys = omega (arith, reads-append xs ys)
reads-append (Failed ∷ xs) ys = reads-append xs ys
reads-append (Said bytes ∷ xs) ys = reads-append xs ys

full-append : (xs ys : List (List ℕ)) → AreFull xs → AreFull ys → AreFull (xs ++ ys)
full-append [] ys p q = q
full-append (x ∷ xs) ys p q = (p.0, full-append xs ys p.1 q)

full-before : (bytes : List ℕ) (steps : List Step) → FULL ≤ length bytes → IsFullBefore bytes steps
full-before bytes [] full = tt
full-before bytes (Heard more ∷ steps) full = tt
full-before bytes (Failed ∷ steps) full = tt
full-before bytes (Said more ∷ steps) full = full

gathered-said : (parts : List (List ℕ)) (last : List ℕ) → AreFull parts → AreGathered (map Said (parts ++ last ∷ []))
gathered-said [] last full = (tt, tt)
gathered-said (part ∷ parts) last full = (full-before part (map Said (parts ++ last ∷ [])) full.0, gathered-said parts last full.1)

-- with a read that gave these bytes, and more steps
gathered-heard : (xs ys : List Step) (bytes : List ℕ) → AreGathered xs → AreGathered ys → AreGathered (xs ++ Heard bytes ∷ ys)
gathered-heard [] ys bytes p q = q
gathered-heard (Heard more ∷ xs) ys bytes p q = gathered-heard xs ys bytes p q
gathered-heard (Failed ∷ xs) ys bytes p q = gathered-heard xs ys bytes p q
gathered-heard (Said more ∷ []) ys bytes p q = (tt, q)
gathered-heard (Said more ∷ Heard next ∷ xs) ys bytes p q = (tt, gathered-heard (Heard next ∷ xs) ys bytes p.1 q)
gathered-heard (Said more ∷ Failed ∷ xs) ys bytes p q = (tt, gathered-heard (Failed ∷ xs) ys bytes p.1 q)
gathered-heard (Said more ∷ Said next ∷ xs) ys bytes p q = (p.0, gathered-heard (Said next ∷ xs) ys bytes p.1 q)

-- with a read that failed
pub gathered-failed : (xs : List Step) → AreGathered xs → AreGathered (xs ++ Failed ∷ [])
gathered-failed [] p = tt
gathered-failed (Heard more ∷ xs) p = gathered-failed xs p
gathered-failed (Failed ∷ xs) p = gathered-failed xs p
gathered-failed (Said more ∷ []) p = (tt, tt)
gathered-failed (Said more ∷ Heard next ∷ xs) p = (tt, gathered-failed (Heard next ∷ xs) p.1)
gathered-failed (Said more ∷ Failed ∷ xs) p = (tt, gathered-failed (Failed ∷ xs) p.1)
gathered-failed (Said more ∷ Said next ∷ xs) p = (p.0, gathered-failed (Said next ∷ xs) p.1)

heard-said : (parts : List (List ℕ)) → heard (map Said parts) ≡ []
heard-said [] = refl
heard-said (part ∷ parts) = heard-said parts

said-said : (parts : List (List ℕ)) → said (map Said parts) ≡ joined parts
said-said [] = refl
said-said (part ∷ parts) = ap (λ more. part ++ more) (said-said parts)

reads-said : (parts : List (List ℕ)) → reads (map Said parts) ≡ 0
reads-said [] = refl
reads-said (part ∷ parts) = reads-said parts

-- a read, and what is written for it
abbrev pub with_turn : List Step → List ℕ → List (List ℕ) → List Step
with_turn steps piece parts = steps ++ Heard piece ∷ map Said parts

pub heard-turn : (steps : List Step) (piece : List ℕ) (parts : List (List ℕ)) → heard (with_turn steps piece parts) ≡ heard steps ++ piece
heard-turn steps piece parts =
    heard-append steps (Heard piece ∷ map Said parts)
    ∙ ap (λ more. heard steps ++ more) (ap (λ more. piece ++ more) (heard-said parts) ∙ append-nil piece)

pub said-turn : (steps : List Step) (piece bytes : List ℕ) (parts : List (List ℕ)) → joined parts ≡ bytes → said (with_turn steps piece parts) ≡ said steps ++ bytes
said-turn steps piece bytes parts is =
    said-append steps (Heard piece ∷ map Said parts) ∙ ap (λ more. said steps ++ more) (said-said parts ∙ is)

pub gathered-turn : (steps : List Step) (piece last : List ℕ) (parts : List (List ℕ)) → AreGathered steps → AreFull parts → AreGathered (with_turn steps piece (parts ++ last ∷ []))
gathered-turn steps piece last parts p full = gathered-heard steps (map Said (parts ++ last ∷ [])) piece p (gathered-said parts last full)

pub gathered-end : (steps : List Step) → AreGathered steps → AreGathered (steps ++ Heard [] ∷ [])
gathered-end steps p = gathered-heard steps [] [] p tt

-- the last of what is written for a read is the last step
pub last-turn : (steps : List Step) (piece last : List ℕ) (parts : List (List ℕ)) → with_turn steps piece (parts ++ last ∷ []) ≡ with_turn steps piece parts ++ Said last ∷ []
last-turn steps piece last parts =
    ap (λ more. steps ++ Heard piece ∷ more) (map-append Said parts (last ∷ [])) ∙ sym (append_assoc steps (Heard piece ∷ map Said parts) (Said last ∷ []))

pub reads-turn : (steps : List Step) (piece : List ℕ) (parts : List (List ℕ)) → reads (with_turn steps piece parts) ≡ reads steps + 1
reads-turn steps piece parts = omega (arith, reads-append steps (Heard piece ∷ map Said parts), reads-said parts)

module _ {E : Type 0} (does : Does E) where
  pub talks-join : (a b c : E) (xs ys : List Step) → Talks does a xs b → Talks does b ys c → Talks does a (xs ++ ys) c
  talks-join a b c [] ys p q = subst (λ e. Talks does e ys c) (sym p) q
  talks-join a b c (x ∷ xs) ys p q = (p.0, p.1, talks-join p.0 b c xs ys p.2 q)

  pub talks-cut : (a c : E) (xs ys : List Step) → Talks does a (xs ++ ys) c → (b : E) × Talks does a xs b × Talks does b ys c
  talks-cut a c [] ys p = (a, refl, p)
  talks-cut a c (x ∷ xs) ys p = let more = talks-cut p.0 c xs ys p.2 in (more.0, (p.0, p.1, more.1), more.2)

  said-join : (a b c : E) (xs ys : List (List ℕ)) → Talks does a (map Said xs) b → Talks does b (map Said ys) c → Talks does a (map Said (xs ++ ys)) c
  said-join a b c xs ys p q = subst (λ steps. Talks does a steps c) (sym (map-append Said xs ys)) (talks-join a b c (map Said xs) (map Said ys) p q)

  pub fills-none : (e : E) → Fills does e e []
  fills-none e = ([], refl, refl, tt)

  pub fills-one : (a b : E) (bytes : List ℕ) → FULL ≤ length bytes → does a (Said bytes) b → Fills does a b bytes
  fills-one a b bytes full step = (bytes ∷ [], (b, step, refl), append-nil bytes, (full, tt))

  pub fills-join : (a b c : E) (first second : List ℕ) → Fills does a b first → Fills does b c second → Fills does a c (first ++ second)
  fills-join a b c first second p q = (p.0 ++ q.0, said-join a b c p.0 q.0 p.1 q.1, joined-append p.0 q.0 ∙ rw (p.2, q.2) refl, full-append p.0 q.0 p.3 q.3)

  pub says-one : (a b : E) (bytes : List ℕ) → does a (Said bytes) b → Says does a b bytes
  says-one a b bytes step = ([], bytes, (b, step, refl), append-nil bytes, tt)

  pub says-join : (a b c : E) (first second : List ℕ) → Fills does a b first → Says does b c second → Says does a c (first ++ second)
  says-join a b c first second p q =
      let parts = q.0 ++ q.1 ∷ [] in
      let same : p.0 ++ parts ≡ (p.0 ++ q.0) ++ q.1 ∷ [] = sym (append_assoc p.0 q.0 (q.1 ∷ [])) in (
        p.0 ++ q.0,
        q.1,
        subst (λ l. Talks does a (map Said l) c) same (said-join a b c p.0 parts p.1 q.2),
        subst (λ l. joined l ≡ first ++ second) same (joined-append p.0 parts ∙ rw (p.2, q.3) refl),
        full-append p.0 q.0 p.3 q.4,
      )

-- What a reader and a writer did step by step they did in all.
module _ {R W : Type 0} (remaining : R → Option (List ℕ)) (contents : W → Option (List ℕ)) where
  pub read-write-did : (steps : List Step) (old new : R × W) → Talks (ReadsAndWrites remaining contents) old steps new
      → Consumes (remaining old.0) (remaining new.0) (heard steps) × Appends (contents old.1) (contents new.1) (said steps)
  read-write-did [] old new p =
      subst (λ e. Consumes (remaining old.0) (remaining e.0) [] × Appends (contents old.1) (contents e.1) []) p
      (consumes-none (remaining old.0), appends-none (contents old.1))
  read-write-did (Heard bytes ∷ steps) old new p =
      let more = read-write-did steps p.0 new p.2 in (
        consumes-join (remaining old.0) (remaining p.0.0) (remaining new.0) bytes (heard steps) p.1.0 more.0,
        subst (λ w. Appends (contents w) (contents new.1) (said steps)) p.1.2 more.1,
      )
  read-write-did (Failed ∷ steps) old new p =
      let more = read-write-did steps p.0 new p.2 in (
        consumes-join (remaining old.0) (remaining p.0.0) (remaining new.0) [] (heard steps) (consumes-kept (remaining old.0) (remaining p.0.0) p.1.0) more.0,
        subst (λ w. Appends (contents w) (contents new.1) (said steps)) p.1.1 more.1,
      )
  read-write-did (Said bytes ∷ steps) old new p =
      let more = read-write-did steps p.0 new p.2 in (
        subst (λ r. Consumes (remaining r) (remaining new.0) (heard steps)) p.1.1 more.0,
        appends-join (contents old.1) (contents p.0.1) (contents new.1) bytes (said steps) p.1.0 more.1,
      )

  -- a read that gave nothing was the last step
  pub read-write-ended : (front : List Step) (old new : R × W) → Talks (ReadsAndWrites remaining contents) old (front ++ Heard [] ∷ []) new → IsAtEnd (remaining new.0)
  read-write-ended front old new p =
      let last = (talks-cut (ReadsAndWrites remaining contents) old new front (Heard [] ∷ []) p).2 in
      subst (λ e. IsAtEnd (remaining e.0)) last.2 (last.1.1 refl)
