-- A session that goes on read by read.
use Rattle.std.proofs.Common.{◌≡◌, ◌≤◌, ℕ, Option, Some, None, List, [], ◌∷◌, ◌++◌, length, map, Result, Ok, Err, inl, inr, refl, sym, ap, subst, ◌∙◌, append_assoc, append-nil}
use Rattle.std.specs.Io.KnownBytes.{Appends, Consumes}
use Rattle.zq_resp.specs.Reply.{joined}
use Rattle.zq_session.proofs.Served.{Stands, breaks-off, goes-no-further, serves-nothing, serves-so-far, serves-to-end, stands-first, stands-on}
use Rattle.zq_session.proofs.Talks.{gathered-end, gathered-failed, gathered-turn, heard-append, heard-turn, last-turn, said-append, said-turn, read-write-did, read-write-ended, talks-join, with_turn}
use Rattle.zq_session.specs.Conversation.{InTime, IsConversation, IsPaid, IsTalk}
use Rattle.zq_session.specs.Serving.{EndsWith, ServesPiece}
use Rattle.zq_session.specs.Session.{IsReadOff, Relation, Serves}
use Rattle.zq_session.specs.Steps.{AreGathered, Does, Failed, Heard, Said, Says, Step, ReadsAndWrites, Talks, heard, reads, said}
use Rattle.zq_session.specs.declared.outcome.End.{End}
use Rattle.zq_session.specs.declared.outcome.End.TheVariants.{Clean, Inside, Protocol}
use Rattle.zq_session.specs.declared.outcome.SessionFault.{SessionFault}
use Rattle.zq_session.specs.declared.outcome.SessionFault.TheVariants as stop
use Rattle.zq_session.specs.declared.serving.Served.TheVariants.{More, Broken}

module _ {S : Type 0} (answers : Relation S) (old : S) where
  in-time-join : (before xs ys : List Step) → InTime answers old before xs → InTime answers old (before ++ xs) ys → InTime answers old before (xs ++ ys)
  in-time-join before [] ys p q = subst (λ b. InTime answers old b ys) (append-nil before) q
  in-time-join before (Heard bytes ∷ xs) ys p q =
      (p.0, in-time-join (before ++ Heard bytes ∷ []) xs ys p.1 (subst (λ b. InTime answers old b ys) (sym (append_assoc before (Heard bytes ∷ []) xs)) q))
  in-time-join before (Failed ∷ xs) ys p q =
      (p.0, in-time-join (before ++ Failed ∷ []) xs ys p.1 (subst (λ b. InTime answers old b ys) (sym (append_assoc before (Failed ∷ []) xs)) q))
  in-time-join before (Said bytes ∷ xs) ys p q =
      in-time-join (before ++ Said bytes ∷ []) xs ys p (subst (λ b. InTime answers old b ys) (sym (append_assoc before (Said bytes ∷ []) xs)) q)

  in-time-said : (before : List Step) (parts : List (List ℕ)) → InTime answers old before (map Said parts)
  in-time-said before [] = tt
  in-time-said before (part ∷ parts) = in-time-said (before ++ Said part ∷ []) parts

module _ {E S : Type 0} (does : Does E) (answers : Relation S) (first : E) (old : S) where
  -- a session between two reads
  pub record IsUnderWay (last : E) (new : S) (steps : List Step) (had : List ℕ) : Type 0 where
    pub talks : Talks does first steps last
    pub stands : Stands answers old new (heard steps) (said steps) had
    pub in_time : InTime answers old [] steps
    pub gathered : AreGathered steps

  pub under-way-first : IsUnderWay first old [] []
  under-way-first = record { talks = refl; stands = stands-first answers old; in_time = tt; gathered = tt }

  paid : (last : E) (new : S) (steps : List Step) (had : List ℕ) → IsUnderWay last new steps had → IsPaid answers old steps
  paid last new steps had u = (u.stands.all, had, new, u.stands.splits, u.stands.answered)

  -- what was written, part by part
  abbrev pub parts_in : {b c : E} {bytes : List ℕ} → Says does b c bytes → List (List ℕ)
  parts_in p = p.0 ++ p.1 ∷ []

  turn-talks : (a b c : E) (mid : S) (steps : List Step) (had piece bytes : List ℕ) → IsUnderWay a mid steps had → does a (Heard piece) b → (p : Says does b c bytes) → Talks does first (with_turn steps piece (parts_in p)) c
  turn-talks a b c mid steps had piece bytes u step p = talks-join does first a c steps (Heard piece ∷ map Said (parts_in p)) u.talks (b, step, p.2)

  turn-in-time : (a : E) (mid : S) (steps : List Step) (had piece : List ℕ) (parts : List (List ℕ)) → IsUnderWay a mid steps had → InTime answers old [] (with_turn steps piece parts)
  turn-in-time a mid steps had piece parts u =
      in-time-join answers old [] steps (Heard piece ∷ map Said parts) u.in_time (paid a mid steps had u, in-time-said answers old (steps ++ Heard piece ∷ []) parts)

  -- what is said of all that was read and written, at a turn more
  at_turn : (P : List ℕ → List ℕ → Type 0) (steps : List Step) (piece bytes : List ℕ) (parts : List (List ℕ)) → joined parts ≡ bytes → P (heard steps ++ piece) (said steps ++ bytes) → P (heard (with_turn steps piece parts)) (said (with_turn steps piece parts))
  at_turn P steps piece bytes parts is p =
      subst (λ text. P text (said (with_turn steps piece parts))) (sym (heard-turn steps piece parts))
      (subst (λ written. P (heard steps ++ piece) written) (sym (said-turn steps piece bytes parts is)) p)

  pub under-way-on : (a b c : E) (mid new : S) (steps : List Step) (had piece bytes : List ℕ) (kept : Option (List ℕ)) → IsUnderWay a mid steps had → does a (Heard piece) b → (p : Says does b c bytes)
      → ServesPiece answers mid new had piece kept bytes (Ok More) → (has : List ℕ) × (kept ≡ Some has) × IsUnderWay c new (with_turn steps piece (parts_in p)) has
  under-way-on a b c mid new steps had piece bytes kept u step p served =
      let on = stands-on answers old mid new (heard steps) (said steps) had piece bytes kept u.stands served in (
        on.0,
        on.1,
        record {
          talks = turn-talks a b c mid steps had piece bytes u step p;
          stands = at_turn (λ text written. Stands answers old new text written on.0) steps piece bytes (parts_in p) p.3 on.2;
          in_time = turn-in-time a mid steps had piece (parts_in p) u;
          gathered = gathered-turn steps piece p.1 p.0 u.gathered p.4;
        },
      )

  -- the input breaks the protocol
  pub breaks-in : (a b c : E) (mid new : S) (steps : List Step) (had piece bytes : List ℕ) (kept : Option (List ℕ)) → IsUnderWay a mid steps had → does a (Heard piece) b → Says does b c bytes
      → ServesPiece answers mid new had piece kept bytes (Ok Broken) → IsTalk does answers first c old new (Ok (Some Protocol))
  breaks-in a b c mid new steps had piece bytes kept u step p served = record {
    steps = with_turn steps piece (parts_in p);
    talks = turn-talks a b c mid steps had piece bytes u step p;
    serves = at_turn (λ text written. Serves answers old new text written (Ok Protocol)) steps piece bytes (parts_in p) p.3
        (breaks-off answers old mid new (heard steps) (said steps) had piece bytes kept u.stands served);
    in_time = turn-in-time a mid steps had piece (parts_in p) u;
    gathered = gathered-turn steps piece p.1 p.0 u.gathered p.4;
    stops_by = tt;
  }

  -- a fault within a piece
  pub stops-in : (why : SessionFault) (a b c : E) (mid new : S) (steps : List Step) (had piece bytes : List ℕ) (kept : Option (List ℕ)) → IsUnderWay a mid steps had → does a (Heard piece) b → Says does b c bytes
      → length piece ≤ 65536 → ServesPiece answers mid new had piece kept bytes (Err why) → IsTalk does answers first c old new (Err why)
  stops-in stop.Read a b c mid new steps had piece bytes kept u step p small served = absurd served
  stops-in stop.Write a b c mid new steps had piece bytes kept u step p small served = record {
    steps = with_turn steps piece (parts_in p);
    talks = turn-talks a b c mid steps had piece bytes u step p;
    serves = at_turn (λ text written. Serves answers old new text written (Err stop.Write)) steps piece bytes (parts_in p) p.3
        (goes-no-further answers old mid new (heard steps) (said steps) had piece bytes kept stop.Write u.stands small served);
    in_time = turn-in-time a mid steps had piece (parts_in p) u;
    gathered = gathered-turn steps piece p.1 p.0 u.gathered p.4;
    stops_by = (p.1, (with_turn steps piece p.0, last-turn steps piece p.1 p.0));
  }
  stops-in stop.NoMemory a b c mid new steps had piece bytes kept u step p small served = record {
    steps = with_turn steps piece (parts_in p);
    talks = turn-talks a b c mid steps had piece bytes u step p;
    serves = at_turn (λ text written. Serves answers old new text written (Err stop.NoMemory)) steps piece bytes (parts_in p) p.3
        (goes-no-further answers old mid new (heard steps) (said steps) had piece bytes kept stop.NoMemory u.stands small served);
    in_time = turn-in-time a mid steps had piece (parts_in p) u;
    gathered = gathered-turn steps piece p.1 p.0 u.gathered p.4;
    stops_by = tt;
  }

  -- what is said of all that was read and written stays so at a step that reads and writes nothing
  at_last : (P : List ℕ → List ℕ → Type 0) (steps : List Step) (last : Step) → heard (last ∷ []) ≡ [] → said (last ∷ []) ≡ [] → P (heard steps) (said steps) → P (heard (steps ++ last ∷ [])) (said (steps ++ last ∷ []))
  at_last P steps last nothing none p =
      let text = heard-append steps (last ∷ []) ∙ (ap (λ more. heard steps ++ more) nothing ∙ append-nil (heard steps)) in
      let written = said-append steps (last ∷ []) ∙ (ap (λ more. said steps ++ more) none ∙ append-nil (said steps)) in
      subst (λ text. P text (said (steps ++ last ∷ []))) (sym text) (subst (λ written. P (heard steps) written) (sym written) p)

  -- a read fails
  pub fails-read : (a b : E) (new : S) (steps : List Step) (had : List ℕ) → IsUnderWay a new steps had → does a Failed b → IsTalk does answers first b old new (Err stop.Read)
  fails-read a b new steps had u step = record {
    steps = steps ++ Failed ∷ [];
    talks = talks-join does first a b steps (Failed ∷ []) u.talks (b, step, refl);
    serves = at_last (λ text written. Serves answers old new text written (Err stop.Read)) steps Failed refl refl (serves-so-far answers old new (heard steps) (said steps) had u.stands);
    in_time = in-time-join answers old [] steps (Failed ∷ []) u.in_time (paid a new steps had u, tt);
    gathered = gathered-failed steps u.gathered;
    stops_by = (steps, refl);
  }

  -- the input ends
  pub ends-read : (end : End) (a b : E) (new : S) (steps : List Step) (had : List ℕ) → IsUnderWay a new steps had → does a (Heard []) b → EndsWith had end → IsTalk does answers first b old new (Ok (Some end))
  ends-read Clean a b new steps had u step ends = record {
    steps = steps ++ Heard [] ∷ [];
    talks = talks-join does first a b steps (Heard [] ∷ []) u.talks (b, step, refl);
    serves = at_last (λ text written. Serves answers old new text written (Ok Clean)) steps (Heard []) refl refl (serves-to-end answers old new (heard steps) (said steps) had Clean u.stands ends);
    in_time = in-time-join answers old [] steps (Heard [] ∷ []) u.in_time (paid a new steps had u, tt);
    gathered = gathered-end steps u.gathered;
    stops_by = (steps, refl);
  }
  ends-read Inside a b new steps had u step ends = record {
    steps = steps ++ Heard [] ∷ [];
    talks = talks-join does first a b steps (Heard [] ∷ []) u.talks (b, step, refl);
    serves = at_last (λ text written. Serves answers old new text written (Ok Inside)) steps (Heard []) refl refl (serves-to-end answers old new (heard steps) (said steps) had Inside u.stands ends);
    in_time = in-time-join answers old [] steps (Heard [] ∷ []) u.in_time (paid a new steps had u, tt);
    gathered = gathered-end steps u.gathered;
    stops_by = (steps, refl);
  }
  ends-read Protocol a b new steps had u step ends = absurd ends

  -- all reads are made
  pub reads-end : (a : E) (new : S) (steps : List Step) (had : List ℕ) → IsUnderWay a new steps had → reads steps ≡ 4611686018427387904 → IsTalk does answers first a old new (Ok None)
  reads-end a new steps had u all = record {
    steps = steps;
    talks = u.talks;
    serves = serves-so-far answers old new (heard steps) (said steps) had u.stands;
    in_time = u.in_time;
    gathered = u.gathered;
    stops_by = all;
  }

  -- how a session ends by it

  pub conversed : (end : End) (last : E) (new : S) → IsTalk does answers first last old new (Ok (Some end)) → IsConversation does answers first last old new (Ok end)
  conversed end last new t = record { steps = t.steps; talks = t.talks; serves = t.serves; in_time = t.in_time; gathered = t.gathered; ends_by = t.stops_by }

  pub conversed-out : (last : E) (new : S) → IsTalk does answers first last old new (Ok None) → IsConversation does answers first last old new (Err stop.Read)
  conversed-out last new t = record { steps = t.steps; talks = t.talks; serves = t.serves; in_time = t.in_time; gathered = t.gathered; ends_by = inr t.stops_by }

  pub conversed-stopped : (why : SessionFault) (last : E) (new : S) → IsTalk does answers first last old new (Err why) → IsConversation does answers first last old new (Err why)
  conversed-stopped stop.Read last new t = record { steps = t.steps; talks = t.talks; serves = t.serves; in_time = t.in_time; gathered = t.gathered; ends_by = inl t.stops_by }
  conversed-stopped stop.Write last new t = record { steps = t.steps; talks = t.talks; serves = t.serves; in_time = t.in_time; gathered = t.gathered; ends_by = t.stops_by }
  conversed-stopped stop.NoMemory last new t = record { steps = t.steps; talks = t.talks; serves = t.serves; in_time = t.in_time; gathered = t.gathered; ends_by = tt }

  pub conversed-none : IsConversation does answers first first old old (Err stop.NoMemory)
  conversed-none = record { steps = []; talks = refl; serves = serves-nothing answers old; in_time = tt; gathered = tt; ends_by = tt }

-- ---- over a reader and a writer

module _ {R W S : Type 0} (remaining : R → Option (List ℕ)) (contents : W → Option (List ℕ)) (answers : Relation S) (first last : R × W) (old new : S) where
  pub read-write-served : (result : Result End SessionFault) → IsConversation (ReadsAndWrites remaining contents) answers first last old new result
      → (text written : List ℕ) × Consumes (remaining first.0) (remaining last.0) text × Appends (contents first.1) (contents last.1) written × Serves answers old new text written result
  read-write-served result c =
      let did = read-write-did remaining contents c.steps first last c.talks in
      (heard c.steps, said c.steps, did.0, did.1, c.serves)

  at_end : (steps front : List Step) → Talks (ReadsAndWrites remaining contents) first steps last → steps ≡ front ++ Heard [] ∷ [] → Talks (ReadsAndWrites remaining contents) first (front ++ Heard [] ∷ []) last
  at_end steps front talks is = subst (λ steps. Talks (ReadsAndWrites remaining contents) first steps last) is talks

  pub read-write-at-end : (result : Result End SessionFault) → IsConversation (ReadsAndWrites remaining contents) answers first last old new result → IsReadOff result (remaining last.0)
  read-write-at-end (Ok Clean) c = read-write-ended remaining contents c.ends_by.0 first last (at_end c.steps c.ends_by.0 c.talks c.ends_by.1)
  read-write-at-end (Ok Inside) c = read-write-ended remaining contents c.ends_by.0 first last (at_end c.steps c.ends_by.0 c.talks c.ends_by.1)
  read-write-at-end (Ok Protocol) c = tt
  read-write-at-end (Err why) c = tt
