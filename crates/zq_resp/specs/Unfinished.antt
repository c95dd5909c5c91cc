-- A request within the limit, as far as it has come, and what a piece gives.
use Rattle.std.specs.Prelude.{◌≡◌, ℕ, ◌≤◌, List, ◌++◌, length, drop, Option, Some, None, Result, Ok, Err}
use Rattle.std.specs.declared.vec.Vec.{Vec}
use Rattle.std.specs.declared.alloc.Global.{Global}
use Rattle.zq_resp.specs.declared.fault.FeedFault.{FeedFault}
use Rattle.zq_resp.specs.declared.reader.unfinished.Unfinished.{Unfinished}
use Rattle.zq_resp.specs.declared.reader.progress.Progress.{Progress}
use Rattle.zq_resp.specs.declared.reader.progress.Progress.TheVariants.{More, Whole}
use Rattle.zq_resp.specs.Front.{Got}
use Rattle.zq_resp.specs.Grammar.{asked_at, request_at}
use Rattle.zq_resp.specs.Request.{AreWords}
use Rattle.zq_resp.specs.Stream.{Requests, Reaches, Stops, handed}
use Rattle.zq_resp.specs.Suspended.{views, Fails}
use Rattle.zq_resp.specs.Partial.{IsPartial, text_so_far, resume}

-- what a reader of an unfinished request keeps
pub record Stands (u : Unfinished) : Type 0 where
  pub is : IsPartial u.partial
  pub small : u.size ≤ 16777216
  pub size_is : length (text_so_far u.partial) ≡ u.size
  pub resumes : (more : List ℕ) → asked_at (text_so_far u.partial ++ more) ≡ resume u.partial more

abbrev pub UnfinishedStep : Unfinished → List ℕ →
    Result (Progress Unfinished (Vec (Vec ℕ Global) Global) × ℕ) FeedFault → Type 0
UnfinishedStep old bytes (Ok (More new, taken)) =
    Stands new × (taken ≡ length bytes)
    × (text_so_far new.partial ≡ text_so_far old.partial ++ bytes)
UnfinishedStep old bytes (Ok (Whole words, taken)) =
    AreWords (views words)
    × (request_at (text_so_far old.partial ++ bytes) ≡ Got (views words, drop taken bytes))
UnfinishedStep old bytes (Err e) = Fails e (request_at (text_so_far old.partial ++ bytes))

-- What a piece gives: the requests grow by those of the bytes up to what is kept, or up to a fault.
abbrev pub PieceGives : Result Unfinished FeedFault → List ℕ → Requests → Requests → Type 0
PieceGives (Ok new) bytes before after =
    (all : Requests) × Stands new × Reaches bytes all (text_so_far new.partial)
    × (after ≡ before ++ handed all)
PieceGives (Err e) bytes before after = (new : Requests) × Stops bytes e new
    × (after ≡ before ++ new)

-- what contracts see of a reader: the bytes of the unfinished request, None after a fault
abbrev pub kept : Option Unfinished → Option (List ℕ)
kept None = None
kept (Some u) = Some (text_so_far u.partial)

abbrev pub IsKept : Option Unfinished → Type 0
IsKept None = Unit {0}
IsKept (Some u) = Stands u
