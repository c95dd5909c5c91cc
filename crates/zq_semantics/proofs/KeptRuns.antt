-- What every run of a world keeps.

use Rattle.zq_model.specs.Heaps.{heap_of}
use Rattle.std.proofs.Common.{mod-lt, Err, List, None, Ok, Some, [], arith, false, inl, inr, length, ltb-true, refl, slice_index, subst, suc, sym, true, ℕ, ◌++◌, ◌+◌, ◌<◌, ◌∷◌, ◌≡◌, ◌≤◌}
use Rattle.std.proofs.lemmas.Bool.{and_parts, leb-false, or_parts}
use Rattle.std.proofs.lemmas.Option.{none-some}
use Rattle.std.specs.Prelude.{Bool, if◌then◌else◌, slice_get, take}
use Rattle.zq_model.proofs.MeantQueues.{queue_is}
use Rattle.zq_model.proofs.Membership.{in_union}
use Rattle.zq_model.proofs.Places.{same_bytes}
use Rattle.zq_model.proofs.Worlds.{world_part}
use Rattle.zq_model.specs.Bounded.{HasShortNames}
use Rattle.zq_model.specs.Operation.{LONGEST, Operation}
use Rattle.zq_model.specs.Rule.{Rule}
use Rattle.zq_model.specs.Sets.{Early, IsClosed, IsHeaps, IsIn, IsMade, IsWorld, Known, LAST, New, SITES, Taken, in_heap, vector_of}
use Rattle.zq_model.proofs.Read.{in_place}
use Rattle.zq_model.specs.Moves.{Move, Queues}
use Rattle.zq_semantics.specs.Plan.{is_there, plan_of}
use Rattle.zq_resp.specs.Request.{IsRequest}
use Rattle.zq_semantics.proofs.InRange.{AreShort, moves_sound}
use Rattle.zq_semantics.specs.Books.{AreSound, IsSoundMove}
use Rattle.zq_semantics.proofs.Kept.{AreOf, IsKept, making_kept, merging_kept, taking_kept, world_of}
use Rattle.zq_semantics.specs.Doing.{Done, done, done_command, drawn, is_ping, queues_for}
use Rattle.zq_semantics.specs.Events.{Do, Event, Merge, Run, Take, after_merge, after_take, after_taken, is_blocked, is_possible, judged, set_at, set_in, state_after}
use Rattle.zq_semantics.specs.Reading.{heaps_in, queues_over}
use Rattle.zq_semantics.specs.Runs.{AreEvents, IsEvent, IsPlayable, after_event, missing_from, run, run_on, start}
use Rattle.zq_semantics.specs.State.{Sets, State, after_move, after_moves, counted, home_of, is_spent, is_worn, next_stamp, operation_by, standing}
use Rattle.zq_words.proofs.CommandLimits.{within_limits}
use Rattle.zq_words.specs.Command.{Command, Zpopnear, command_of}
use Rattle.zq_words.specs.Limits.{IsWithinLimits}
use Rattle.zq_words.specs.Words.{Word}

-- the heap of a member is one of K
pub heap_below_key : (K : ℕ) → IsHeaps K → (key member : List ℕ) → heap_of key member K < K
unfolding heap_of
heap_below_key K heaps key member = let some = heaps.0 in mod-lt _ (omega (arith, some))

pub heap_below : (K : ℕ) → IsHeaps K → (move : Move) → home_of K move < K
heap_below K heaps move = heap_below_key K heaps move.key move.member

-- ---- commands

pub either_done : (P : State → Type 0) (b : Bool) (x y : Done) → P x.now → P y.now → P (if b then x else y).now
either_done P b x y first second = elim b as (λ c. P (if c then x else y).now) [ true ↦ first | false ↦ second ]

pub short_over : (rule : Rule) (K : ℕ) (S : List Operation) (heaps : List ℕ) → IsWorld K S → ((o : Operation) → IsIn o S → HasShortNames o) → AreShort (queues_over rule S heaps)
short_over rule K S heaps world short key p i =
    let means = ((queue_is rule K S key heaps world).members p.0 p.1).0 i in
    let put = means.1.reached in
    let on = and_parts _ _ put.1.on in
    subst (λ (m : List ℕ). length m ≤ LONGEST) (same_bytes put.0.member p.1 on.1) (short put.0 put.1.here).member

-- what holds over the heaps that are drawn, and over all, holds over those for which a command plans
for_either : (P : Queues → Type 0) (rule : Rule) (K : ℕ) (S : List Operation) (w1 w2 : ℕ) (command : Command) → P (queues_over rule S (drawn K w1 w2)) → P (queues_over rule S (heaps_in K)) →
    P (queues_for rule K S w1 w2 command)
for_either P rule K S w1 w2 (Zpopnear key) near all =
    elim (is_there (queues_over rule S (drawn K w1 w2) key)) as (λ b. P (if b then queues_over rule S (drawn K w1 w2) else queues_over rule S (heaps_in K))) [ true ↦ near | false ↦ all ]
for_either P rule K S w1 w2 command near all = all

module _ (K : ℕ) (heaps : IsHeaps K) (past : List Sets) (site stamp : ℕ) (below : site < SITES) where
  pub made_is : (st : State) (move : Move) → IsSoundMove move → is_spent st site (home_of K move) ≡ false → IsMade K (st.sets site) (operation_by st site (home_of K move) move)
  made_is st move sound unspent =
      let room : slice_index (vector_of (st.sets site) (home_of K move)) site < LAST = leb-false _ _ (or_parts _ _ unspent).0 in
      record {
        heaps = heaps;
        act = sound.act;
        site = below;
        heap = refl;
        seen = refl;
        n = refl;
        bounded = omega (arith, room);
      }

  moves_kept : (moves : List Move) (st : State) → AreSound moves → IsKept K past st → IsKept K past (after_moves K site stamp (take (standing K site stamp moves st) moves) st)
  moves_kept [] st sound kept = kept
  moves_kept (move ∷ moves) st sound kept =
      let rest = standing K site stamp moves (after_move K site stamp move st) in
      elim (is_spent st site (home_of K move)) as (λ b. is_spent st site (home_of K move) ≡ b → IsKept K past (after_moves K site stamp (take (if b then 0 else suc rest) (move ∷ moves)) st)) [
        | true ↦ λ _. kept
        | false ↦ λ unspent.
            let its = sound move (inl refl) in
            moves_kept moves (after_move K site stamp move st) (λ m i. sound m (inr i))
            (making_kept K past st kept stamp (operation_by st site (home_of K move) move) (made_is st move its unspent) (record { key = its.key; member = its.member }))
      ] refl

module _ (rule : Rule) (K : ℕ) (heaps : IsHeaps K) (past : List Sets) (st : State) (kept : IsKept K past st) where
  short_in : (site : ℕ) (o : Operation) → IsIn o (st.sets site) → HasShortNames o
  short_in site o i = kept.short o (kept.now.within site o i)

  command_kept : (site w1 w2 : ℕ) (command : Command) (queues : Queues) → site < SITES → IsWithinLimits command → AreShort queues → IsKept K past (done_command rule K site w1 w2 st command queues).now
  command_kept site w1 w2 command queues below limits short =
      either_done (IsKept K past) (is_ping command) _ _ kept
      (either_done (IsKept K past) (is_worn K st site) _ _ kept
      (moves_kept K heaps past site (next_stamp K st site) below (plan_of command queues).moves st (moves_sound command queues limits short) kept))

  done_kept : (site w1 w2 : ℕ) (words : List Word) → site < SITES → IsRequest words → IsKept K past (done rule K site w1 w2 st (command_of words)).now
  done_kept site w1 w2 words below is =
      elim (command_of words) as (λ r. command_of words ≡ r → IsKept K past (done rule K site w1 w2 st r).now) [
        | Err refused ↦ λ _. kept
        | Ok command ↦ λ read.
            let over = λ (named : List ℕ). short_over rule K (st.sets site) named (world_of K past st kept site) (short_in site) in
            command_kept site w1 w2 command (queues_for rule K (st.sets site) w1 w2 command) below (within_limits words command is.limits.each is.limits.count read)
            (for_either AreShort rule K (st.sets site) w1 w2 command (over (drawn K w1 w2)) (over (heaps_in K)))
      ] refl

-- ---- operations that are handed over, and merges

module _ (K : ℕ) (past : List Sets) (st : State) (kept : IsKept K past st) where
  taken_kept : (site : ℕ) (o : Operation) (taken : Taken) → IsIn o st.made → judged st site o ≡ taken → IsKept K past (after_taken K st site o taken)
  taken_kept site o New i is =
      elim (is_blocked K st site o.heap) as (λ b. IsKept K past (if b then st else counted st site o.heap (next_stamp K st site) st.made (o ∷ st.sets site))) [
        | true ↦ kept
        | false ↦ taking_kept K past st kept site o.heap (next_stamp K st site) o i is
      ]
  taken_kept site o Known i is = kept
  taken_kept site o Early i is = kept

  take_kept : (site op : ℕ) → IsKept K past (after_take K st site (slice_get st.made op))
  take_kept site op =
      elim (slice_get st.made op) as (λ r. slice_get st.made op ≡ r → IsKept K past (after_take K st site r)) [
        | None ↦ λ _. kept
        | Some o ↦ λ e. taken_kept site o (judged st site o) (in_place st.made op o e) refl
      ] refl

-- what a site had at a moment is a closed set of what was made
pub had : (W : List Operation) (past : List Sets) → ((sets : Sets) → IsIn sets past → AreOf W sets) → (moment : ℕ) → AreOf W (set_in (slice_get past moment))
had W past are moment =
    elim (slice_get past moment) as (λ r. slice_get past moment ≡ r → AreOf W (set_in r)) [
      | None ↦ λ _. record { within = λ s o i. absurd i; closed = λ s. record { before = λ o i. absurd i } }
      | Some sets ↦ λ e. are sets (in_place past moment sets e)
    ] refl

merge_kept : (K : ℕ) (r : Run) (site from heap moment : ℕ) → IsKept K r.past r.now → IsKept K r.past (after_merge K r site from heap moment)
merge_kept K r site from heap moment kept =
    let are = had r.now.made r.past kept.before moment in
    elim (is_blocked K r.now site heap) as (λ b. IsKept K r.past (if b then r.now else counted r.now site heap (next_stamp K r.now site) r.now.made (r.now.sets site ++ in_heap heap (set_at r moment from)))) [
      | true ↦ kept
      | false ↦ merging_kept K r.past r.now kept site heap (next_stamp K r.now site) (set_at r moment from) (are.within from) (are.closed from)
    ]

-- ---- events

module _ (rule : Rule) (K sites : ℕ) (heaps : IsHeaps K) (few : sites ≤ SITES) where
  event_kept : (r : Run) (e : Event) → IsEvent e → is_possible K sites r e ≡ true → IsKept K r.past r.now → IsKept K r.past (state_after rule K r e)
  event_kept r (Do site words w1 w2) is there kept =
      let inside : site < sites = ltb-true site sites there in
      done_kept rule K heaps r.past r.now kept site w1 w2 words (omega (arith, inside, few)) is
  event_kept r (Take site op) is there kept = take_kept K r.past r.now kept site op
  event_kept r (Merge site from heap moment) is there kept = merge_kept K r site from heap moment kept

  -- the state that an event leaves is of the past then too
  past_kept : (past : List Sets) (st : State) → IsKept K past st → IsKept K (past ++ st.sets ∷ []) st
  past_kept past st kept = record {
    world = kept.world;
    short = kept.short;
    own = kept.own;
    now = kept.now;
    before = λ sets i. elim (in_union sets past (st.sets ∷ []) i) [
      | inl j ↦ kept.before sets j
      | inr j ↦ elim j [ inl e ↦ subst (AreOf st.made) e kept.now | inr none ↦ absurd none ]
    ];
  }

  run_kept : (events : List Event) (i : ℕ) (r : Run) → AreEvents events → missing_from rule K sites i events r ≡ None → IsKept K r.past r.now → IsKept K (run_on rule K events r).past (run_on rule K events r).now
  run_kept [] i r are there kept = kept
  run_kept (e ∷ events) i r are there kept =
      elim (is_possible K sites r e) as (λ b. is_possible K sites r e ≡ b → (if b then missing_from rule K sites (i + 1) events (after_event rule K r e) else Some i) ≡ None → IsKept K (run_on rule K events (after_event rule K r e)).past (run_on rule K events (after_event rule K r e)).now) [
        | true ↦ λ possible rest. run_kept events (i + 1) (after_event rule K r e) are.1 rest (past_kept r.past (state_after rule K r e) (event_kept r e are.0 possible kept))
        | false ↦ λ _ missing. absurd (none-some i (sym missing))
      ] refl there

started : (K : ℕ) → IsKept K start.past start.now
started K =
    let nothing : (W : List Operation) → AreOf W (λ _. []) = λ W. record { within = λ s o i. absurd i; closed = λ s. record { before = λ o i. absurd i } } in
    record {
      world = record { each = λ o i. absurd i; one = λ o p i j. absurd i };
      short = λ o i. absurd i;
      own = λ o i. absurd i;
      now = nothing [];
      before = λ sets i. elim i [ inl e ↦ subst (AreOf []) e (nothing []) | inr none ↦ absurd none ];
    }

pub kept_always : (rule : Rule) (K sites : ℕ) (events : List Event) → IsPlayable rule K sites events → IsKept K (run rule K events).past (run rule K events).now
kept_always rule K sites events is = run_kept rule K sites is.heaps is.few events 0 start is.each is.there (started K)

-- ---- what the sites had

module _ (rule : Rule) (K sites : ℕ) (events : List Event) (is : IsPlayable rule K sites events) where
  abbrev its : Run
  its = run rule K events

  kept : IsKept K its.past its.now
  kept = kept_always rule K sites events is

  pub within_at : (moment site : ℕ) (o : Operation) → IsIn o (set_at its moment site) → IsIn o its.now.made
  within_at moment site o = (had its.now.made its.past kept.before moment).within site o

  pub closed_at : (moment site : ℕ) → IsClosed (set_at its moment site)
  closed_at moment site = (had its.now.made its.past kept.before moment).closed site

  pub world_at : (moment site : ℕ) → IsWorld K (set_at its moment site)
  world_at moment site = world_part K (set_at its moment site) its.now.made (within_at moment site) kept.world

  within_two : (i site j other : ℕ) (o : Operation) → IsIn o (set_at its i site ++ set_at its j other) → IsIn o its.now.made
  within_two i site j other o there = elim (in_union o (set_at its i site) (set_at its j other) there) [ inl a ↦ within_at i site o a | inr b ↦ within_at j other o b ]

  pub world_of_two : (i site j other : ℕ) → IsWorld K (set_at its i site ++ set_at its j other)
  world_of_two i site j other = world_part K (set_at its i site ++ set_at its j other) its.now.made (within_two i site j other) kept.world

  pub world_of_three : (i site j other k third : ℕ) → IsWorld K (set_at its i site ++ (set_at its j other ++ set_at its k third))
  world_of_three i site j other k third =
      world_part K (set_at its i site ++ (set_at its j other ++ set_at its k third)) its.now.made
      (λ o there. elim (in_union o (set_at its i site) (set_at its j other ++ set_at its k third) there) [
        | inl a ↦ within_at i site o a
        | inr b ↦ within_two j other k third o b
      ]) kept.world
