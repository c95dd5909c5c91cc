-- Requests one after the other.
use Rattle.std.proofs.Common.{◌≡◌, ℕ, List, [], ◌∷◌, ◌++◌, take, drop, Option, Some, None, Result, Ok, Err, refl, sym, ap, subst, ◌∙◌, append_assoc}
use Rattle.std.proofs.lemmas.List.{append-nil, append_cancel_right, take-append-drop}
use Rattle.std.proofs.lemmas.List.Elements.{filter-append}
use Rattle.zq_resp.specs.declared.fault.FeedFault.{FeedFault}
use Rattle.zq_resp.specs.declared.fault.FeedFault.TheVariants as fault
use Rattle.zq_resp.specs.Front.{Front, Got, Part, Wrong}
use Rattle.zq_resp.specs.Grammar.{request_at}
use Rattle.zq_resp.specs.Laws.{Gives, Run, Turn, first_fault, given, given_by, stream}
use Rattle.zq_resp.specs.Stream.{Breaks, Feeds, Reaches, Requests, Splits, Stops, handed, has_words}
use Rattle.zq_resp.proofs.Memory.{count_more}
use Rattle.zq_resp.proofs.Spelled.{request_again, request_got}
use Rattle.zq_resp.proofs.Stable.{got_stays, wrong_stays}

-- one request more
pub reaches_one : (bytes mid after : List ℕ) (all : Requests) (words : List (List ℕ)) → Reaches bytes all mid → request_at mid ≡ Got (words, after) → Reaches bytes (all ++ words ∷ []) after
reaches_one bytes mid after [] words reaches got = (after, ap request_at reaches ∙ got, refl)
reaches_one bytes mid after (first ∷ all) words reaches got = (reaches.0, reaches.1, reaches_one reaches.0 mid after all words reaches.2 got)

none_begun : request_at [] ≡ Part
unfolding request_at
none_begun = refl

-- the bytes up to a request's end are the request
got_alone : (bytes after : List ℕ) (words : List (List ℕ)) → request_at (bytes ++ after) ≡ Got (words, after) → request_at bytes ≡ Got (words, [])
got_alone bytes after words got =
    let found = request_got (bytes ++ after) after words got in
    let text : bytes ≡ found.0 = append_cancel_right bytes found.0 after found.2 in
    ap request_at (text ∙ sym (append-nil found.0)) ∙ request_again found.0 [] words found.1

-- a piece up to the end of its first request
pub fed_one : (had piece : List ℕ) (words : List (List ℕ)) (taken : ℕ) → request_at (had ++ piece) ≡ Got (words, drop taken piece) → Feeds (Some had) (take taken piece) (Ok (handed (words ∷ []))) (Some [])
fed_one had piece words taken got =
    let cut : had ++ piece ≡ (had ++ take taken piece) ++ drop taken piece = ap (λ text. had ++ text) (sym (take-append-drop taken piece)) ∙ sym (append_assoc had (take taken piece) (drop taken piece)) in
    let alone = got_alone (had ++ take taken piece) (drop taken piece) words (ap request_at (sym cut) ∙ got) in
    (words ∷ [], record { reaches = ([], alone, refl); partial = none_begun }, refl)

-- a piece that ends no request
pub fed_none : (had piece has : List ℕ) → has ≡ had ++ piece → request_at has ≡ Part → Feeds (Some had) piece (Ok []) (Some has)
fed_none had piece has longer part = ([], record { reaches = sym longer; partial = part }, refl)

-- a text is read in one way

-- no request stands at the front
abbrev pub IsStuck : List ℕ → Type 0
IsStuck bytes = (found : List (List ℕ) × List ℕ) → request_at bytes ≡ Got found → ⊥

part_stuck : (bytes : List ℕ) → request_at bytes ≡ Part → IsStuck bytes
part_stuck bytes part = λ found got. absurd cc

wrong_stuck : (bytes : List ℕ) (why : FeedFault) → request_at bytes ≡ Wrong why → IsStuck bytes
wrong_stuck bytes why wrong = λ found got. absurd cc

same_found : (bytes after left : List ℕ) (first other : List (List ℕ)) → request_at bytes ≡ Got (first, after) → request_at bytes ≡ Got (other, left) → (first ≡ other) × (after ≡ left)
same_found bytes after left first other got found =
    let pair : ◌≡◌ {A = List (List ℕ) × List ℕ} (first, after) (other, left) = cc in
    (ap (λ x. x.0) pair, ap (λ x. x.1) pair)

pub reaches_once : (all others : Requests) (bytes rest left : List ℕ) → Reaches bytes all rest → Reaches bytes others left → IsStuck rest → IsStuck left → (all ≡ others) × (rest ≡ left)
reaches_once [] [] bytes rest left reaches comes stuck ends = (refl, sym reaches ∙ comes)
reaches_once [] (other ∷ others) bytes rest left reaches comes stuck ends = absurd (stuck (other, comes.0) (ap request_at (sym reaches) ∙ comes.1))
reaches_once (first ∷ all) [] bytes rest left reaches comes stuck ends = absurd (ends (first, reaches.0) (ap request_at (sym comes) ∙ reaches.1))
reaches_once (first ∷ all) (other ∷ others) bytes rest left reaches comes stuck ends =
    let same = same_found bytes reaches.0 comes.0 first other reaches.1 comes.1 in
    let after = reaches_once all others comes.0 rest left (subst (λ bytes. Reaches bytes all rest) same.1 reaches.2) comes.2 stuck ends in
    (rw (same.0, after.0) refl, after.1)

pub splits_once : (bytes rest left : List ℕ) (all others : Requests) → Splits bytes all rest → Splits bytes others left → (all ≡ others) × (rest ≡ left)
splits_once bytes rest left all others splits divides =
    reaches_once all others bytes rest left splits.reaches divides.reaches (part_stuck rest splits.partial) (part_stuck left divides.partial)

pub breaks_once : (bytes : List ℕ) (all others : Requests) (why reason : FeedFault) → Breaks bytes all why → Breaks bytes others reason → (all ≡ others) × (why ≡ reason)
breaks_once bytes all others why reason breaks stops =
    let same = reaches_once all others bytes breaks.rest stops.rest breaks.reaches stops.reaches (wrong_stuck breaks.rest why breaks.wrong) (wrong_stuck stops.rest reason stops.wrong) in
    let wrong : ◌≡◌ {A = Front (List (List ℕ) × List ℕ)} (Wrong why) (Wrong reason) = sym breaks.wrong ∙ (ap request_at same.1 ∙ stops.wrong) in
    (same.0, cc)

pub breaks_alone : (bytes rest : List ℕ) (all others : Requests) (why : FeedFault) → Breaks bytes all why → Splits bytes others rest → ⊥
breaks_alone bytes rest all others why breaks splits =
    let same = reaches_once all others bytes breaks.rest rest breaks.reaches splits.reaches (wrong_stuck breaks.rest why breaks.wrong) (part_stuck rest splits.partial) in
    let wrong : ◌≡◌ {A = Front (List (List ℕ) × List ℕ)} (Wrong why) Part = sym breaks.wrong ∙ (ap request_at same.1 ∙ splits.partial) in
    absurd cc

-- pieces

reaches_longer : (all : Requests) (bytes rest more : List ℕ) → Reaches bytes all rest → Reaches (bytes ++ more) all (rest ++ more)
reaches_longer [] bytes rest more reaches = ap (λ front. front ++ more) reaches
reaches_longer (first ∷ all) bytes rest more reaches =
    (reaches.0 ++ more, got_stays bytes more reaches.0 first reaches.1, reaches_longer all reaches.0 rest more reaches.2)

reaches_on : (all new : Requests) (bytes mid rest : List ℕ) → Reaches bytes all mid → Reaches mid new rest → Reaches bytes (all ++ new) rest
reaches_on [] new bytes mid rest reaches goes_on = subst (λ bytes. Reaches bytes new rest) (sym reaches) goes_on
reaches_on (first ∷ all) new bytes mid rest reaches goes_on = (reaches.0, reaches.1, reaches_on all new reaches.0 mid rest reaches.2 goes_on)

-- what stands before a piece, the piece and more
piece_reaches : (all new : Requests) (front had piece more rest : List ℕ) → Reaches front all had → Reaches (had ++ piece) new rest → Reaches (front ++ (piece ++ more)) (all ++ new) (rest ++ more)
piece_reaches all new front had piece more rest reaches goes_on =
    reaches_on all new (front ++ (piece ++ more)) (had ++ (piece ++ more)) (rest ++ more)
    (reaches_longer all front had (piece ++ more) reaches)
    (subst (λ bytes. Reaches bytes new (rest ++ more)) (append_assoc had piece more) (reaches_longer new (had ++ piece) rest more goes_on))

handed_on : (all new given : Requests) → given ≡ handed new → handed all ++ given ≡ handed (all ++ new)
handed_on all new given same = ap (λ given. handed all ++ given) same ∙ sym (filter-append has_words all new)

breaks_on : (all new : Requests) (front had piece more : List ℕ) (why : FeedFault) → Reaches front all had → Breaks (had ++ piece) new why → Breaks (front ++ (piece ++ more)) (all ++ new) why
breaks_on all new front had piece more why reaches breaks =
    record {
      rest = breaks.rest ++ more;
      reaches = piece_reaches all new front had piece more breaks.rest reaches breaks.reaches;
      wrong = wrong_stays breaks.rest more why breaks.wrong;
    }

stops_on : (all before : Requests) (front had piece more : List ℕ) (why : FeedFault) → Reaches front all had → Stops (had ++ piece) why before → Stops (front ++ (piece ++ more)) why (handed all ++ before)
stops_on all before front had piece more fault.Protocol reaches stops =
    (all ++ stops.0, breaks_on all stops.0 front had piece more fault.Protocol reaches stops.1, handed_on all stops.0 before stops.2)
stops_on all before front had piece more fault.TooLong reaches stops =
    (all ++ stops.0, breaks_on all stops.0 front had piece more fault.TooLong reaches stops.1, handed_on all stops.0 before stops.2)
stops_on all before front had piece more fault.NoMemory reaches stops =
    (all ++ stops.0, stops.1 ++ more, piece_reaches all stops.0 front had piece more stops.1 reaches stops.2, handed_on all stops.0 before stops.3, count_more stops.1 more stops.4)
stops_on all before front had piece more fault.Over reaches stops = absurd stops

over_step : (piece : List ℕ) (answer : Result Requests (FeedFault × Requests)) (has : Option (List ℕ)) → Feeds None piece answer has → (has ≡ None) × (given_by answer ≡ [])
over_step piece (Ok requests) has feeds = absurd feeds
over_step piece (Err (fault.Protocol, before)) has feeds = absurd feeds
over_step piece (Err (fault.TooLong, before)) has feeds = absurd feeds
over_step piece (Err (fault.NoMemory, before)) has feeds = absurd feeds
over_step piece (Err (fault.Over, before)) None feeds = (refl, feeds)
over_step piece (Err (fault.Over, before)) (Some kept) feeds = absurd feeds

-- after a fault nothing more is given
run_over : (turns : List Turn) (last : Option (List ℕ)) → Run None turns last → (last ≡ None) × (given turns ≡ [])
run_over [] last run = (sym run, refl)
run_over (turn ∷ turns) last run =
    let step = over_step turn.0 turn.1 run.0 run.1 in
    let later = run_over turns last (subst (λ has. Run has turns last) step.0 run.2) in
    (later.0, ap (λ requests. requests ++ given turns) step.1 ∙ later.1)

-- from what a reader has on
abbrev GoesOn : List Turn → Type 0
GoesOn turns =
    (front had : List ℕ) (all : Requests) (last : Option (List ℕ)) → Reaches front all had → request_at had ≡ Part → Run (Some had) turns last
    → Gives (front ++ stream turns) (handed all ++ given turns) (first_fault turns) last

ok_step : (turns : List Turn) → GoesOn turns → (front had piece : List ℕ) (all requests : Requests) (last has : Option (List ℕ)) → Reaches front all had → Feeds (Some had) piece (Ok requests) has → Run has turns last
    → Gives (front ++ (piece ++ stream turns)) (handed all ++ (requests ++ given turns)) (first_fault turns) last
ok_step turns goes_on front had piece all requests last None reaches feeds run = absurd feeds
ok_step turns goes_on front had piece all requests last (Some kept) reaches feeds run =
    let new = feeds.0 in
    let reached : Reaches (front ++ piece) (all ++ new) kept =
    reaches_on all new (front ++ piece) (had ++ piece) kept (reaches_longer all front had piece reaches) feeds.1.reaches in
    let later = goes_on (front ++ piece) kept (all ++ new) last reached feeds.1.partial run in
    subst (λ bytes. Gives bytes (handed all ++ (requests ++ given turns)) (first_fault turns) last) (append_assoc front piece (stream turns))
    (subst (λ requests. Gives ((front ++ piece) ++ stream turns) requests (first_fault turns) last)
    (ap (λ first. first ++ given turns) (sym (handed_on all new requests feeds.2)) ∙ append_assoc (handed all) requests (given turns))
    later)

err_step : (turns : List Turn) (front had piece : List ℕ) (all before : Requests) (why : FeedFault) (last has : Option (List ℕ)) → Reaches front all had → Feeds (Some had) piece (Err (why, before)) has → Run has turns last
    → Gives (front ++ (piece ++ stream turns)) (handed all ++ (before ++ given turns)) (Some why) last
err_step turns front had piece all before why last (Some kept) reaches feeds run = absurd feeds
err_step turns front had piece all before why last None reaches feeds run =
    let over = run_over turns last run in
    subst (λ last. Gives (front ++ (piece ++ stream turns)) (handed all ++ (before ++ given turns)) (Some why) last) (sym over.0)
    (subst (λ later. Stops (front ++ (piece ++ stream turns)) why (handed all ++ (before ++ later))) (sym over.1)
    (subst (λ before. Stops (front ++ (piece ++ stream turns)) why (handed all ++ before)) (sym (append-nil before))
    (stops_on all before front had piece (stream turns) why reaches feeds)))

run_on : (turns : List Turn) → GoesOn turns
run_on [] = λ front had all last reaches part run.
    subst (λ last. Gives (front ++ []) (handed all ++ []) None last) run
    (all, record { reaches = subst (λ bytes. Reaches bytes all had) (sym (append-nil front)) reaches; partial = part }, append-nil (handed all))
run_on ((piece, Ok requests) ∷ turns) = λ front had all last reaches part run.
    ok_step turns (run_on turns) front had piece all requests last run.0 reaches run.1 run.2
run_on ((piece, Err (why, before)) ∷ turns) = λ front had all last reaches part run.
    err_step turns front had piece all before why last run.0 reaches run.1 run.2

nothing_part : request_at [] ≡ Part
unfolding request_at
nothing_part = refl

pub pieces_give : (turns : List Turn) (last : Option (List ℕ)) → Run (Some []) turns last → Gives (stream turns) (given turns) (first_fault turns) last
pieces_give turns last run = run_on turns [] [] [] last refl nothing_part run
