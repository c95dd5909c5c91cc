-- What a server of a new site with two heaps writes for what it reads, and the status in the end.

use Rattle.std.specs.Prelude.{Err, List, Result, [], ℕ, ◌≡◌, ◌⊎◌}
use Rattle.zq_model.specs.Books.{Book}
use Rattle.zq_session.specs.Plain.{AnswersByPlan, no_keys}
use Rattle.zq_session.specs.Session.{Serves, status_of}
use Rattle.zq_session.specs.declared.outcome.End.{End}
use Rattle.zq_session.specs.declared.outcome.SessionFault.TheVariants.{NoMemory}
use Rattle.zq_session.specs.declared.outcome.SessionFault.{SessionFault}

-- a session with a server of the books of two heaps, in which nothing was done, read the text,
-- wrote these bytes and ended with this status
pub record IsServedAnew (text written : List ℕ) (code : ℕ) : Type 0 where
  pub last : List Book
  pub ended : Result End SessionFault
  pub serves : Serves AnswersByPlan (no_keys 2) last text written ended
  pub status : code ≡ status_of ended

-- there was no memory for the books: nothing was read or written
abbrev pub IsNotServed : List ℕ → List ℕ → ℕ → Type 0
IsNotServed text written code = (text ≡ []) × (written ≡ []) × (code ≡ status_of (Err NoMemory))

abbrev pub IsPiped : List ℕ → List ℕ → ℕ → Type 0
IsPiped text written code = IsServedAnew text written code ⊎ IsNotServed text written code
