-- A piece that is answered in turns, after each of which what is gathered is written where it is much.
use Rattle.std.proofs.Common.{◌≡◌, ◌+◌, List, ℕ, [], ◌++◌, Option, Ok, Err, sym, subst, append-nil, take, drop, take-append-drop}
use Rattle.std.proofs.Math.Seq.{take-add}
use Rattle.zq_session.proofs.AnsweredPart.{owed-front-of}
use Rattle.zq_session.proofs.GatheredBytes.{cut-join, gathers-join, gathers-kept}
use Rattle.zq_session.proofs.Served.{piece-after, piece-broken}
use Rattle.zq_session.specs.Answering.{AnswersSome}
use Rattle.zq_session.specs.Gathering.{Gathers, Held, IsCutOff, Puts, held}
use Rattle.zq_session.specs.Serving.{ServesPiece}
use Rattle.zq_session.specs.Session.{Relation}
use Rattle.zq_session.specs.Steps.{Does}
use Rattle.zq_session.specs.declared.outcome.SessionFault.{SessionFault}
use Rattle.zq_session.specs.declared.outcome.SessionFault.TheVariants as stop
use Rattle.zq_session.specs.declared.serving.Served.{Served}
use Rattle.zq_session.specs.declared.serving.Served.TheVariants.{Broken, More}

module _ {E S : Type 0} (does : Does E) (answers : Relation S) where
  -- the front of a piece is answered, and its replies are gathered
  abbrev pub IsTurned : (old new : S) (begun now : Held E) (had front : List ℕ) (kept : Option (List ℕ)) (served : Served) → Type 0
  IsTurned old new begun now had front kept served =
      (bytes : List ℕ) × ServesPiece answers old new had front kept bytes (Ok served) × Gathers does begun now bytes

  -- replies are put behind what is gathered
  put-behind : (begun : Held E) (ends : E) (written bytes before after : List ℕ) → Gathers does begun (held ends before) written → after ≡ before ++ bytes → Gathers does begun (held ends after) (written ++ bytes)
  put-behind begun ends written bytes before after p e =
      gathers-join does begun (held ends before) (held ends after) written bytes p (subst (λ out. Gathers does (held ends before) (held ends out) bytes) (sym e) (gathers-kept does ends before bytes))

  module _ (old mid new : S) (begun : Held E) (ends : E) (had piece rest before after : List ℕ) (at : ℕ) (between kept : Option (List ℕ)) (rest_is : rest ≡ drop at piece)
      (s : IsTurned old mid begun (held ends before) had (take at piece) between More) where
    -- what is answered of the rest of the piece, and put behind what is gathered
    abbrev pub IsPut : ℕ → Served → List ℕ → Type 0
    IsPut taken served rest = (bytes : List ℕ) × ServesPiece answers mid new s.1.1 (take taken rest) kept bytes (Ok served) × (after ≡ before ++ bytes)

    -- a part more is answered
    turned : (taken : ℕ) (served : Served) → IsPut taken served (drop at piece) → IsTurned old new begun (held ends after) had (take (at + taken) piece) kept served
    turned taken served b = (
      s.0 ++ b.0,
      subst (λ front. ServesPiece answers old new had front kept (s.0 ++ b.0) (Ok served)) (sym (take-add at taken piece))
          (piece-after answers old mid new had (take at piece) (take taken (drop at piece)) s.0 b.0 between kept (Ok served) s.1 b.1),
      put-behind begun ends s.0 b.0 before after s.2 b.2,
    )

    pub turn-on : (taken : ℕ) (served is : Served) (later : Held E) → served ≡ is → IsPut taken served rest → Gathers does (held ends after) later [] → IsTurned old new begun later had (take (at + taken) piece) kept is
    turn-on taken served is later same b w =
        let t = turned taken is (subst (λ served. IsPut taken served (drop at piece)) same (subst (IsPut taken served) rest_is b)) in
        (t.0, t.1, subst (Gathers does begun later) (append-nil t.0) (gathers-join does begun (held ends after) later t.0 [] t.2 w))

    -- the writer fails
    pub turn-cut : (taken : ℕ) (served : Served) (later : Held E) → IsPut taken served rest → IsCutOff does (held ends after) later [] →
        (bytes : List ℕ) × ServesPiece answers old new had piece kept bytes (Err stop.Write) × Puts {T = Served} does begun later bytes (Err stop.Write)
    turn-cut taken served later put w =
        let b = subst (IsPut taken served) rest_is put in
        let bytes = s.0 ++ b.0 in (
          bytes,
          subst (λ whole. ServesPiece answers old new had whole kept bytes (Err stop.Write)) (take-append-drop at piece)
              (piece-after answers old mid new had (take at piece) (drop at piece) s.0 b.0 between kept (Err stop.Write) s.1 (owed-front-of answers mid new s.1.1 (drop at piece) b.0 kept taken served b.1)),
          subst (IsCutOff does begun later) (append-nil bytes) (cut-join does begun (held ends after) later bytes [] (put-behind begun ends s.0 b.0 before after s.2 b.2) w),
        )

    -- memory is refused
    pub turn-stops : (why : SessionFault) → (bytes : List ℕ) × AnswersSome answers mid new s.1.1 rest kept bytes (Err why) × (after ≡ before ++ bytes) →
        (bytes : List ℕ) × ServesPiece answers old new had piece kept bytes (Err why) × Puts {T = Served} does begun (held ends after) bytes (Err why)
    turn-stops stop.Read put = absurd put.1
    turn-stops stop.Write put = absurd put.1
    turn-stops stop.NoMemory put =
        let b = subst (λ rest. (bytes : List ℕ) × ServesPiece answers mid new s.1.1 rest kept bytes (Err stop.NoMemory) × (after ≡ before ++ bytes)) rest_is put in
        let bytes = s.0 ++ b.0 in (
          bytes,
          subst (λ whole. ServesPiece answers old new had whole kept bytes (Err stop.NoMemory)) (take-append-drop at piece)
              (piece-after answers old mid new had (take at piece) (drop at piece) s.0 b.0 between kept (Err stop.NoMemory) s.1 b.1),
          put-behind begun ends s.0 b.0 before after s.2 b.2,
        )

  -- what breaks in the front of a piece breaks in it
  pub turn-breaks : (old new : S) (begun now : Held E) (had piece : List ℕ) (taken : ℕ) (kept : Option (List ℕ)) → IsTurned old new begun now had (take taken piece) kept Broken →
      (bytes : List ℕ) × ServesPiece answers old new had piece kept bytes (Ok Broken) × Puts {T = Served} does begun now bytes (Ok Broken)
  turn-breaks old new begun now had piece taken kept t =
      (t.0, subst (λ whole. ServesPiece answers old new had whole kept t.0 (Ok Broken)) (take-append-drop taken piece) (piece-broken answers old new had (take taken piece) (drop taken piece) t.0 kept t.1), t.2)
