-- What more bytes make of a frame that is not all there.
use Rattle.std.proofs.Common.{◌≡◌, ℕ, ◌<◌, ◌^◌, List, ◌++◌, length, take, drop, Ok, Err, sym, ap, ◌∙◌, append_assoc, arith}
use Rattle.std.proofs.lemmas.List.{take-append-drop}
use Rattle.std.specs.Int.{to_be_bytes, w32}
use Rattle.zq_wire.specs.declared.fault.StreamFault.{StreamFault}
use Rattle.zq_wire.specs.declared.fault.StreamFault.TheVariants.{TooLong, NoMemory, Over}
use Rattle.zq_wire.specs.declared.unfinished.Progress.{Progress}
use Rattle.zq_wire.specs.declared.unfinished.Progress.TheVariants.{More, Whole}
use Rattle.zq_wire.specs.Unfinished.{Begins, FrameStep}
use Rattle.zq_wire.proofs.Framed.{framed_of}

-- what a length makes that the bytes complete
pub ok_begins : (most size taken : ℕ) (text bytes : List ℕ) (progress : Progress) → Begins most size (Ok progress) → text ++ take taken bytes ≡ to_be_bytes w32 size
    → FrameStep most text bytes (Ok (progress, taken))
ok_begins most size taken text bytes (More new) begins is = (begins.0, begins.1 ∙ sym is)
ok_begins most size taken text bytes (Whole frame) begins is =
    let empty : length frame.items ≡ 0 = ap length begins.1 in
    (omega arith, framed_of 0 frame.items empty ∙ (ap (λ frame. to_be_bytes w32 0 ++ frame) begins.1 ∙ (ap (λ n. to_be_bytes w32 n) (sym begins.0) ∙ sym is)))

pub err_begins : (most size taken : ℕ) (text bytes : List ℕ) (why : StreamFault) → Begins most size (Err why) → size < 2 ^ 32 → text ++ take taken bytes ≡ to_be_bytes w32 size
    → FrameStep most text bytes (Err why)
err_begins most size taken text bytes TooLong begins fits is =
    record {
      size = size;
      after = drop taken bytes;
      begins = ap (λ bytes. text ++ bytes) (sym (take-append-drop taken bytes)) ∙ (sym (append_assoc text (take taken bytes) (drop taken bytes)) ∙ ap (λ front. front ++ drop taken bytes) is);
      fits = fits;
      long = begins;
    }
err_begins most size taken text bytes NoMemory begins fits is = tt
err_begins most size taken text bytes Over begins fits is = begins
