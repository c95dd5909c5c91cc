-- What a reader takes, as it is said of entries apart from the code's.

use Rattle.std.proofs.Common.{Err, List, Ok, Option, drop, refl, ℕ, ◌≡◌}
use Rattle.std.specs.Prelude.{OnOk, Result}
use Rattle.zq_entries.specs.Entry.{entry_of}
use Rattle.zq_entries.specs.Reading.{entry_at}
use Rattle.zq_entries.specs.declared.entry.Entry as code
use Rattle.zq_entries.specs.declared.entry.Entry.TheVariants as variant
use Rattle.zq_entries.specs.declared.start.Start.{Start}
use Rattle.zq_keeper.specs.Read.{Does, Opens, Reads}
use Rattle.zq_keeper.specs.declared.reader.Reader.{Reader}
use Rattle.zq_recovery.specs.Effect as effect
use Rattle.zq_recovery.specs.declared.opening.Identity.{Identity}
use Rattle.zq_stage.specs.Piece.{Staged}

opens_as : (i : Identity) (e : code.Entry) (old new : Option Start) → effect.Opens i e old new →
    Opens i (entry_of e) old new
opens_as i (variant.Start s) old new is = (s, refl, record { after = is.0; noted = is.1 })
opens_as i (variant.Round batches) old new is = is
opens_as i (variant.Piece p) old new is = is
opens_as i (variant.Sealed w) old new is = is
opens_as i variant.Rest old new is = is

does_as : (e : code.Entry) (old new : List Staged) → effect.Does e old new →
    Does (entry_of e) old new
does_as (variant.Start s) old new is = is
does_as (variant.Round batches) old new is = is
does_as (variant.Piece p) old new is = is
does_as (variant.Sealed w) old new is = is
does_as variant.Rest old new is = is

pub taken : {X F : Type 0} (r : Result X F) (old new : Reader) (payload : List ℕ)
    (e : code.Entry) → entry_at (drop 8 payload) ≡ Ok (entry_of e) →
    OnOk r (effect.Opens old.recovery.identity e old.recovery.start new.recovery.start) →
    OnOk r (effect.Does e old.recovery.stages.items new.recovery.stages.items) →
    new.recovery.identity ≡ old.recovery.identity → OnOk r (Reads old payload new)
taken (Ok x) old new payload e read opens does identity = record {
  identity = identity;
  takes = record {
    entry = entry_of e;
    read = read;
    opens = opens_as old.recovery.identity e old.recovery.start new.recovery.start opens;
    does = does_as e old.recovery.stages.items new.recovery.stages.items does;
  };
}
taken (Err fault) old new payload e read opens does identity = tt
