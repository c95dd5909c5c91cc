-- What is told of a log that was read to its end.

use Rattle.std.proofs.Common.{List, None, Option, Some, ap, arith, false, subst, sym, true, ◌-◌, ◌<◌, ◌≡◌, ◌∙◌, ℕ, nat_lt}
use Rattle.std.proofs.lemmas.Bool.Decides.{nat_tests}
use Rattle.zq_inspect.proofs.Recalling.{all_read}
use Rattle.zq_inspect.specs.Bytes.{used_of}
use Rattle.zq_inspect.specs.Found.{AreHeaps, IsSeen, IsSeenAs, IsStateOf, IsTaken}
use Rattle.zq_inspect.specs.Recalled.{AreRead, Recalls}
use Rattle.zq_inspect.specs.declared.inspection.Inspection.{Inspection}
use Rattle.zq_inspect.specs.declared.recall.Recall.{Recall}
use Rattle.zq_inspect.specs.declared.state.State.{State}
use Rattle.zq_inspect.specs.declared.state.State.TheVariants.{Damaged, Empty, Refused, Torn, Whole}
use Rattle.zq_keeper.specs.declared.reader.Reader.{Reader}
use Rattle.zq_wal.specs.Format.{recovered}
use Rattle.zq_wal.specs.Found as found
use Rattle.zq_wal.specs.Replay.{Replayed}
use Rattle.zq_wal.specs.declared.recovery.Found.{Found}

no_more : (used end : ℕ) → nat_lt end used ≡ false → used - end ≡ 0
no_more used end test = grind (arith, nat_tests)

some_more : (used end : ℕ) → nat_lt end used ≡ true → 0 < used - end
some_more used end test = grind (arith, nat_tests)

-- of each state, where the records are of this reader or there is none
told : (file : List ℕ) (x : Inspection) (reader : Option Reader) (used end : ℕ) (state : State) →
    IsTaken file x → x.torn ≡ used - end → x.reader ≡ reader →
    IsStateOf reader (nat_lt end used) state → IsSeenAs file x state
told file x None used end Whole taken torn is of = cc
told file x None used end Torn taken torn is of = cc
told file x None used end Empty taken torn is of = (taken, is)
told file x None used end Damaged taken torn is of = cc
told file x None used end (Refused refusal) taken torn is of = tt
told file x (Some reader) used end Whole taken torn is of =
    (taken, torn ∙ no_more used end of.0, subst AreHeaps (sym is) of.1)
told file x (Some reader) used end Torn taken torn is of =
    (taken, subst (λ n. 0 < n) (sym torn) (some_more used end of.0), subst AreHeaps (sym is) of.1)
told file x (Some reader) used end Empty taken torn is of = absurd of
told file x (Some reader) used end Damaged taken torn is of = absurd of
told file x (Some reader) used end (Refused refusal) taken torn is of = tt

pub seen : (file : List ℕ) (x : Inspection) (f : Found) (used : ℕ) (first last : Recall) →
    found.IsFound file f → first.reader ≡ None → Replayed Recalls first (recovered file) last →
    used ≡ used_of file → IsStateOf last.reader (nat_lt f.end used) x.state →
    (x.records ≡ f.count) × (x.bytes ≡ f.end) → x.torn ≡ used - f.end →
    x.reader ≡ last.reader → IsSeen file x
seen file x f used first last is none read total state sizes torn reader =
    let same : record { count = x.records; end = x.bytes } ≡ f =
    λ i. record { count = sizes.0 i; end = sizes.1 i } in
    let taken : IsTaken file x = record {
      found = subst (found.IsFound file) (sym same) is;
      read = subst (AreRead (recovered file)) (sym reader)
          (all_read (recovered file) first last none read);
      torn = torn ∙ ap (λ n. n - f.end) total ∙ sym (ap (λ n. used_of file - n) sizes.1);
    } in
    told file x last.reader used f.end x.state taken torn reader state
