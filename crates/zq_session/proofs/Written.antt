-- What a piece is answered with, once what is gathered is written too.
use Rattle.std.proofs.Common.{Bool, List, ℕ, [], ◌++◌, ◌≡◌, ◌≢◌, Option, Result, Ok, Err, false, refl, take}
use Rattle.std.specs.Prelude.{IsTrue, ◌↔◌}
use Rattle.zq_session.proofs.GatheredBytes.{all-written, front-sent, front-written}
use Rattle.zq_session.proofs.Served.{owed-written}
use Rattle.zq_session.specs.Gathering.{Gathers, IsCutOff, Puts, held}
use Rattle.zq_session.specs.Serving.{ServesPiece}
use Rattle.zq_session.specs.Session.{IsOwed, Relation}
use Rattle.zq_session.specs.Steps.{Does, Said, Says}
use Rattle.zq_session.specs.declared.outcome.SessionFault.{SessionFault}
use Rattle.zq_session.specs.declared.outcome.SessionFault.TheVariants as stop
use Rattle.zq_session.specs.declared.serving.Served.{Served}

pub goes_on : (result : Result Served SessionFault) (failed : Bool) → IsTrue failed ↔ (result ≡ Err stop.Write) → failed ≡ false → result ≢ Err stop.Write
goes_on result failed is goes = λ e. absurd (cc (is.1 e, goes))

module _ {E S : Type 0} (does : Does E) (answers : Relation S) where
  -- a piece's answer, once what is gathered is written too
  pub piece-written : (old new : S) (had piece bytes gathered : List ℕ) (kept : Option (List ℕ)) (first mid last : E) (result : Result Served SessionFault) → result ≢ Err stop.Write
      → ServesPiece answers old new had piece kept bytes result → Puts {T = Served} does (held first []) (held mid gathered) bytes result → does mid (Said gathered) last
      → (written : List ℕ) × Says does first last written × ServesPiece answers old new had piece kept written result
  piece-written old new had piece bytes gathered kept first mid last (Ok served) goes p q w = (bytes, all-written does first mid last gathered bytes q w, p)
  piece-written old new had piece bytes gathered kept first mid last (Err stop.Read) goes p q w = absurd p
  piece-written old new had piece bytes gathered kept first mid last (Err stop.Write) goes p q w = absurd (goes refl)
  piece-written old new had piece bytes gathered kept first mid last (Err stop.NoMemory) goes p q w = (bytes, all-written does first mid last gathered bytes q w, p)

  owed-at : (old new : S) (had piece bytes gathered : List ℕ) (kept : Option (List ℕ)) (first mid last : E) (result : Result Served SessionFault) (at : ℕ)
      → ServesPiece answers old new had piece kept bytes result → Gathers does (held first []) (held mid gathered) bytes → does mid (Said (take at gathered)) last
      → (written : List ℕ) × Says does first last written × IsOwed answers old new (had ++ piece) written
  owed-at old new had piece bytes gathered kept first mid last result at p q w =
      let f = front-written does first mid last gathered bytes at q w in
      (f.0, f.3, owed-written answers old new had piece bytes f.0 f.1 kept result p f.2)

  -- the same, where the writer fails then
  pub piece-unwritten : (old new : S) (had piece bytes gathered : List ℕ) (kept : Option (List ℕ)) (first mid last : E) (result : Result Served SessionFault) (at : ℕ) → result ≢ Err stop.Write
      → ServesPiece answers old new had piece kept bytes result → Puts {T = Served} does (held first []) (held mid gathered) bytes result → does mid (Said (take at gathered)) last
      → (written : List ℕ) × Says does first last written × IsOwed answers old new (had ++ piece) written
  piece-unwritten old new had piece bytes gathered kept first mid last (Ok served) at goes p q w = owed-at old new had piece bytes gathered kept first mid last (Ok served) at p q w
  piece-unwritten old new had piece bytes gathered kept first mid last (Err stop.Read) at goes p q w = absurd p
  piece-unwritten old new had piece bytes gathered kept first mid last (Err stop.Write) at goes p q w = absurd (goes refl)
  piece-unwritten old new had piece bytes gathered kept first mid last (Err stop.NoMemory) at goes p q w = owed-at old new had piece bytes gathered kept first mid last (Err stop.NoMemory) at p q w

  -- the same, where the writer has failed within the piece
  pub piece-cut-off : (old new : S) (had piece bytes gathered : List ℕ) (kept : Option (List ℕ)) (first mid : E)
      → ServesPiece answers old new had piece kept bytes (Err stop.Write) → IsCutOff does (held first []) (held mid gathered) bytes
      → (written : List ℕ) × Says does first mid written × IsOwed answers old new (had ++ piece) written
  piece-cut-off old new had piece bytes gathered kept first mid p q =
      let f = front-sent does first mid gathered bytes q in
      (f.0, f.3, owed-written answers old new had piece bytes f.0 f.1 kept (Err stop.Write) p f.2)
