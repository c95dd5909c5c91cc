-- Pieces that are fed one after the other.
use Rattle.std.proofs.Common.{◌≡◌, ℕ, ◌≤◌, List, [], ◌∷◌, ◌++◌, length, Option, Some, None, Result, Ok, Err, refl, sym, ap, subst, ◌∙◌, append_assoc, arith, inl}
use Rattle.std.specs.List.{flat_map}
use Rattle.std.specs.Int.{to_be_bytes, w32}
use Rattle.std.proofs.lemmas.Grind.{flat_map-append}
use Rattle.std.proofs.lemmas.List.{append-nil}
use Rattle.std.proofs.lemmas.List.Elements.{All-append}
use Rattle.zq_wire.specs.declared.fault.StreamFault.{StreamFault}
use Rattle.zq_wire.specs.declared.fault.StreamFault.TheVariants as fault
use Rattle.zq_wire.specs.Framed.{IsTooLong, IsUnfinished, framed}
use Rattle.zq_wire.specs.StreamLaws.{Gives, Run, Turn, first_fault, given, given_by, stream}
use Rattle.zq_wire.specs.Stream.{Feeds, Frames, Reaches, Splits, Stops}
use Rattle.zq_wire.proofs.Streams.{reaches_none}

abbrev Small : ℕ → List ℕ → Type 0
Small most frame = length frame ≤ most

reaches_longer : (most : ℕ) (bytes rest more : List ℕ) (all : Frames) → Reaches most bytes all rest → Reaches most (bytes ++ more) all (rest ++ more)
reaches_longer most bytes rest more all reaches =
    record { spelled = ap (λ bytes. bytes ++ more) reaches.spelled ∙ append_assoc (flat_map framed all) rest more; small = reaches.small }

-- what stands before a piece, and the piece
pub reaches_on : (most : ℕ) (front had piece rest : List ℕ) (all new : Frames) → Reaches most front all had → Reaches most (had ++ piece) new rest → Reaches most (front ++ piece) (all ++ new) rest
reaches_on most front had piece rest all new reaches goes_on =
    record {
      spelled =
          ap (λ front. front ++ piece) reaches.spelled ∙ (append_assoc (flat_map framed all) had piece
          ∙ (ap (λ more. flat_map framed all ++ more) goes_on.spelled
          ∙ (sym (append_assoc (flat_map framed all) (flat_map framed new) rest) ∙ ap (λ front. front ++ rest) (sym (flat_map-append framed all new)))));
      small = All-append (Small most) all new reaches.small goes_on.small;
    }

-- and more
piece_reaches : (most : ℕ) (front had piece more rest : List ℕ) (all new : Frames) → Reaches most front all had → Reaches most (had ++ piece) new rest
    → Reaches most (front ++ (piece ++ more)) (all ++ new) (rest ++ more)
piece_reaches most front had piece more rest all new reaches goes_on =
    subst (λ bytes. Reaches most bytes (all ++ new) (rest ++ more)) (append_assoc front piece more)
    (reaches_longer most (front ++ piece) rest more (all ++ new) (reaches_on most front had piece rest all new reaches goes_on))

pub long_longer : (most : ℕ) (rest more : List ℕ) → IsTooLong most rest → IsTooLong most (rest ++ more)
long_longer most rest more long =
    record {
      size = long.size;
      after = long.after ++ more;
      begins = ap (λ rest. rest ++ more) long.begins ∙ append_assoc (to_be_bytes w32 long.size) long.after more;
      fits = long.fits;
      long = long.long;
    }

stops_on : (most : ℕ) (front had piece more : List ℕ) (all before : Frames) (why : StreamFault) → Reaches most front all had → Stops most (had ++ piece) why before
    → Stops most (front ++ (piece ++ more)) why (all ++ before)
stops_on most front had piece more all before fault.TooLong reaches stops =
    record {
      rest = stops.rest ++ more;
      reaches = piece_reaches most front had piece more stops.rest all before reaches stops.reaches;
      long = long_longer most stops.rest more stops.long;
    }
stops_on most front had piece more all before fault.NoMemory reaches stops =
    (stops.0 ++ more, piece_reaches most front had piece more stops.0 all before reaches stops.1)
stops_on most front had piece more all before fault.Over reaches stops = absurd stops

over_step : (most : ℕ) (piece : List ℕ) (answer : Result Frames (StreamFault × Frames)) (has : Option (List ℕ)) → Feeds most None piece answer has → (has ≡ None) × (given_by answer ≡ [])
over_step most piece (Ok frames) has feeds = absurd feeds
over_step most piece (Err (fault.TooLong, before)) has feeds = absurd feeds
over_step most piece (Err (fault.NoMemory, before)) has feeds = absurd feeds
over_step most piece (Err (fault.Over, before)) None feeds = (refl, feeds)
over_step most piece (Err (fault.Over, before)) (Some kept) feeds = absurd feeds

-- after a fault nothing more is given
run_over : (most : ℕ) (turns : List Turn) (last : Option (List ℕ)) → Run most None turns last → (last ≡ None) × (given turns ≡ [])
run_over most [] last run = (sym run, refl)
run_over most (turn ∷ turns) last run =
    let step = over_step most turn.0 turn.1 run.0 run.1 in
    let later = run_over most turns last (subst (λ has. Run most has turns last) step.0 run.2) in
    (later.0, ap (λ frames. frames ++ given turns) step.1 ∙ later.1)

-- from what a reader has on
abbrev GoesOn : ℕ → List Turn → Type 0
GoesOn most turns =
    (front had : List ℕ) (all : Frames) (last : Option (List ℕ)) → Reaches most front all had → IsUnfinished most had → Run most (Some had) turns last
    → Gives most (front ++ stream turns) (all ++ given turns) (first_fault turns) last

ok_step : (most : ℕ) (turns : List Turn) → GoesOn most turns → (front had piece : List ℕ) (all frames : Frames) (last has : Option (List ℕ)) → Reaches most front all had → Feeds most (Some had) piece (Ok frames) has → Run most has turns last
    → Gives most (front ++ (piece ++ stream turns)) (all ++ (frames ++ given turns)) (first_fault turns) last
ok_step most turns goes_on front had piece all frames last None reaches feeds run = absurd feeds
ok_step most turns goes_on front had piece all frames last (Some kept) reaches feeds run =
    let reached = reaches_on most front had piece kept all frames reaches feeds.reaches in
    let later = goes_on (front ++ piece) kept (all ++ frames) last reached feeds.unfinished run in
    subst (λ bytes. Gives most bytes (all ++ (frames ++ given turns)) (first_fault turns) last) (append_assoc front piece (stream turns))
    (subst (λ frames. Gives most ((front ++ piece) ++ stream turns) frames (first_fault turns) last) (append_assoc all frames (given turns)) later)

err_step : (most : ℕ) (turns : List Turn) (front had piece : List ℕ) (all before : Frames) (why : StreamFault) (last has : Option (List ℕ)) → Reaches most front all had → Feeds most (Some had) piece (Err (why, before)) has → Run most has turns last
    → Gives most (front ++ (piece ++ stream turns)) (all ++ (before ++ given turns)) (Some why) last
err_step most turns front had piece all before why last (Some kept) reaches feeds run = absurd feeds
err_step most turns front had piece all before why last None reaches feeds run =
    let over = run_over most turns last run in
    subst (λ last. Gives most (front ++ (piece ++ stream turns)) (all ++ (before ++ given turns)) (Some why) last) (sym over.0)
    (subst (λ later. Stops most (front ++ (piece ++ stream turns)) why (all ++ (before ++ later))) (sym over.1)
    (subst (λ before. Stops most (front ++ (piece ++ stream turns)) why (all ++ before)) (sym (append-nil before))
    (stops_on most front had piece (stream turns) all before why reaches feeds)))

run_on : (most : ℕ) (turns : List Turn) → GoesOn most turns
run_on most [] = λ front had all last reaches part run.
    subst (λ last. Gives most (front ++ []) (all ++ []) None last) run
    (subst (λ frames. Splits most (front ++ []) frames had) (sym (append-nil all))
    (record { reaches = subst (λ bytes. Reaches most bytes all had) (sym (append-nil front)) reaches; unfinished = part }))
run_on most ((piece, Ok frames) ∷ turns) = λ front had all last reaches part run.
    ok_step most turns (run_on most turns) front had piece all frames last run.0 reaches run.1 run.2
run_on most ((piece, Err (why, before)) ∷ turns) = λ front had all last reaches part run.
    err_step most turns front had piece all before why last run.0 reaches run.1 run.2

pub pieces_give : (most : ℕ) (turns : List Turn) (last : Option (List ℕ)) → Run most (Some []) turns last → Gives most (stream turns) (given turns) (first_fault turns) last
pieces_give most turns last run = run_on most turns [] [] [] last (reaches_none most []) (inl (omega arith)) run
