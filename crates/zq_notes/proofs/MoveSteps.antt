-- The steps of a command's moves are the operations that a run makes of them.

use Rattle.std.proofs.Common.{ap, arith, eq-eqb, inl, inr, refl, subst, sym, ◌∙◌}
use Rattle.std.proofs.lemmas.Bool.{eqb-true}
use Rattle.std.specs.Prelude.{List, [], false, if◌then◌else◌, length, map, slice_index, slice_set, true, ℕ, ◌+◌, ◌==◌, ◌∷◌, ◌≡◌, ◌≤◌, ◌⊎◌}
use Rattle.zq_model.specs.Books.{Change, HandedOn, Made, Merged, Recorded, Step, Took, TookOver, operation_of}
use Rattle.zq_journal.specs.Books.{step_of}
use Rattle.zq_model.proofs.Membership.{in_or_not}
use Rattle.zq_model.specs.Operation.{Operation}
use Rattle.zq_model.specs.Sets.{IsIn}
use Rattle.zq_model.specs.Moves.{Move}
use Rattle.zq_notes.proofs.GatheredSets.{AreOnce}
use Rattle.zq_notes.proofs.MadeWorlds.{AllMade, AllMadeIn, IsMadeBy, IsMadeIn, IsMadeInAll}
use Rattle.zq_notes.proofs.RunMoves.{bumped, bumped_apart, bumped_here, operation_at, operations}
use Rattle.zq_notes.specs.Gathered.{gathered_by, gathered_in}
use Rattle.zq_notes.specs.Readings.{moved_in}
use Rattle.zq_notes.specs.Sites.{made_by}
use Rattle.zq_notes.specs.Uncut.{steps_in}
use Rattle.zq_semantics.specs.State.{home_of}

module _ (K s stamp : ℕ) where
  -- the steps of moves in the heap h
  abbrev pub steps_at : List Move → (ℕ → List ℕ) → ℕ → List Step
  steps_at moves V h = moved_in K s stamp h moves (V h)

  abbrev pub all_steps : List Move → (ℕ → List ℕ) → List ℕ → List (List Step)
  all_steps moves V heaps = map (λ h. moved_in K s stamp h moves (V h)) heaps

  -- ---- the same operations

  from_steps : (h : ℕ) (moves : List Move) (V : ℕ → List ℕ) (o : Operation) → IsMadeIn o (steps_at moves V h) → IsIn o (operations K s moves V)
  from_steps h [] V o i = absurd i
  from_steps h (move ∷ moves) V o i =
      elim (home_of K move == h) as (λ b. (home_of K move == h) ≡ b → IsMadeIn o (if b
      then step_of stamp (Made (operation_at K s V move h)) ∷ moved_in K s stamp h moves (slice_set (V h) s (slice_index (V h) s + 1))
      else moved_in K s stamp h moves (V h)) → IsIn o (operation_at K s V move (home_of K move) ∷ operations K s moves (bumped K s V (home_of K move)))) [
        | true ↦ λ same i. elim i [
          | inl j ↦ elim j [
            | inl e ↦ inl (ap (operation_at K s V move) (eqb-true (home_of K move) h same) ∙ e)
            | inr none ↦ absurd none
          ]
          | inr j ↦ inr (from_steps h moves (bumped K s V (home_of K move)) o (subst (λ v. IsMadeIn o (moved_in K s stamp h moves v)) (sym (bumped_here K s V (home_of K move) h same)) j))
        ]
        | false ↦ λ other i. inr (from_steps h moves (bumped K s V (home_of K move)) o (subst (λ v. IsMadeIn o (moved_in K s stamp h moves v)) (sym (bumped_apart K s V (home_of K move) h other)) i))
      ] refl i

  to_steps : (moves : List Move) (V : ℕ → List ℕ) (o : Operation) → IsIn o (operations K s moves V) → IsMadeIn o (steps_at moves V o.heap)
  to_steps [] V o i = absurd i
  to_steps (move ∷ moves) V o (inl e) =
      let at : home_of K move ≡ o.heap = ap (λ (x : Operation). x.heap) e in
      subst (λ b. IsMadeIn o (if b
      then step_of stamp (Made (operation_at K s V move o.heap)) ∷ moved_in K s stamp o.heap moves (slice_set (V o.heap) s (slice_index (V o.heap) s + 1))
      else moved_in K s stamp o.heap moves (V o.heap))) (sym (eq-eqb (home_of K move) o.heap at)) (inl (inl (ap (operation_at K s V move) (sym at) ∙ e)))
  to_steps (move ∷ moves) V o (inr i) =
      let rest = to_steps moves (bumped K s V (home_of K move)) o i in
      elim (home_of K move == o.heap) as (λ b. (home_of K move == o.heap) ≡ b → IsMadeIn o (if b
      then step_of stamp (Made (operation_at K s V move o.heap)) ∷ moved_in K s stamp o.heap moves (slice_set (V o.heap) s (slice_index (V o.heap) s + 1))
      else moved_in K s stamp o.heap moves (V o.heap))) [
        | true ↦ λ same. inr (subst (λ v. IsMadeIn o (moved_in K s stamp o.heap moves v)) (bumped_here K s V (home_of K move) o.heap same) rest)
        | false ↦ λ other. subst (λ v. IsMadeIn o (moved_in K s stamp o.heap moves v)) (bumped_apart K s V (home_of K move) o.heap other) rest
      ] refl

  pub from_all_steps : (heaps : List ℕ) (moves : List Move) (V : ℕ → List ℕ) (o : Operation) → IsMadeInAll o (all_steps moves V heaps) → IsIn o (operations K s moves V)
  from_all_steps [] moves V o i = absurd i
  from_all_steps (h ∷ heaps) moves V o (inl i) = from_steps h moves V o i
  from_all_steps (h ∷ heaps) moves V o (inr i) = from_all_steps heaps moves V o i

  to_these : (heaps : List ℕ) (moves : List Move) (V : ℕ → List ℕ) (o : Operation) → IsIn o.heap heaps → IsIn o (operations K s moves V) → IsMadeInAll o (all_steps moves V heaps)
  to_these [] moves V o here i = absurd here
  to_these (h ∷ heaps) moves V o (inl at) i = inl (subst (λ x. IsMadeIn o (steps_at moves V x)) (sym at) (to_steps moves V o i))
  to_these (h ∷ heaps) moves V o (inr there) i = inr (to_these heaps moves V o there i)

  -- ---- the heap of each move is among these

  abbrev pub AreHome : List Move → List ℕ → Type 0
  AreHome [] heaps = Unit {0}
  AreHome (move ∷ moves) heaps = IsIn (home_of K move) heaps × AreHome moves heaps

  heap_there : (moves : List Move) (V : ℕ → List ℕ) (heaps : List ℕ) (o : Operation) → AreHome moves heaps → IsIn o (operations K s moves V) → IsIn o.heap heaps
  heap_there [] V heaps o home i = absurd i
  heap_there (move ∷ moves) V heaps o home (inl e) = subst (λ h. IsIn h heaps) (ap (λ (x : Operation). x.heap) e) home.0
  heap_there (move ∷ moves) V heaps o home (inr i) = heap_there moves (bumped K s V (home_of K move)) heaps o home.1 i

  pub to_all_steps : (heaps : List ℕ) (moves : List Move) (V : ℕ → List ℕ) (o : Operation) → AreHome moves heaps → IsIn o (operations K s moves V) → IsMadeInAll o (all_steps moves V heaps)
  to_all_steps heaps moves V o home i = to_these heaps moves V o (heap_there moves V heaps o home i) i

  -- ---- their number

  -- how often the heap is there
  abbrev times : ℕ → List ℕ → ℕ
  times x [] = 0
  times x (h ∷ heaps) = (if x == h then 1 else 0) + times x heaps

  times_none : (x : ℕ) (heaps : List ℕ) → (IsIn x heaps → ⊥) → times x heaps ≡ 0
  times_none x [] out = refl
  times_none x (h ∷ heaps) out =
      let rest = times_none x heaps (λ i. out (inr i)) in
      elim (x == h) as (λ b. (x == h) ≡ b → (if b then 1 else 0) + times x heaps ≡ 0) [
        | true ↦ λ same. absurd (out (inl (sym (eqb-true x h same))))
        | false ↦ λ other. omega (arith, rest)
      ] refl

  times_once : (x : ℕ) (heaps : List ℕ) → AreOnce heaps → times x heaps ≤ 1
  times_once x [] once = omega arith
  times_once x (h ∷ heaps) once =
      elim (x == h) as (λ b. (x == h) ≡ b → (if b then 1 else 0) + times x heaps ≤ 1) [
        | true ↦ λ same. (let rest = times_none x heaps (λ i. once.0 (subst (λ y. IsIn y heaps) (eqb-true x h same) i)) in omega (arith, rest))
        | false ↦ λ other. (let rest = times_once x heaps once.1 in omega (arith, rest))
      ] refl

  times_some : (x : ℕ) (heaps : List ℕ) → 1 ≤ times x heaps → IsIn x heaps
  times_some x heaps some = elim (in_or_not x heaps) [
    | inl here ↦ here
    | inr out ↦ (let none = times_none x heaps out in absurd (omega (arith, none, some)))
  ]

  one_more : (move : Move) (moves : List Move) (V : ℕ → List ℕ) (h : ℕ) → length (steps_at (move ∷ moves) V h) ≡ (if home_of K move == h then 1 else 0) + length (steps_at moves (bumped K s V (home_of K move)) h)
  one_more move moves V h =
      elim (home_of K move == h) as (λ b. length (if b
      then step_of stamp (Made (operation_at K s V move h)) ∷ moved_in K s stamp h moves (slice_set (V h) s (slice_index (V h) s + 1))
      else moved_in K s stamp h moves (V h)) ≡ (if b then 1 else 0) + length (moved_in K s stamp h moves (if b then slice_set (V h) s (slice_index (V h) s + 1) else V h))) [
        | true ↦ omega arith
        | false ↦ omega arith
      ]

  many : (move : Move) (moves : List Move) (V : ℕ → List ℕ) (heaps : List ℕ) →
      steps_in (all_steps (move ∷ moves) V heaps) ≡ times (home_of K move) heaps + steps_in (all_steps moves (bumped K s V (home_of K move)) heaps)
  many move moves V [] = refl
  many move moves V (h ∷ heaps) = let one = one_more move moves V h in let rest = many move moves V heaps in omega (arith, one, rest)

  none : (V : ℕ → List ℕ) (heaps : List ℕ) → steps_in (all_steps [] V heaps) ≡ 0
  none V [] = refl
  none V (h ∷ heaps) = let rest = none V heaps in omega (arith, rest)

  -- there are no more steps than moves
  pub no_more : (moves : List Move) (V : ℕ → List ℕ) (heaps : List ℕ) → AreOnce heaps → steps_in (all_steps moves V heaps) ≤ length moves
  no_more [] V heaps once = let is = none V heaps in omega (arith, is)
  no_more (move ∷ moves) V heaps once =
      let is = many move moves V heaps in
      let one = times_once (home_of K move) heaps once in
      let rest = no_more moves (bumped K s V (home_of K move)) heaps once in
      omega (arith, is, one, rest)

  -- and where there are as many each move's heap is there
  pub all_home : (moves : List Move) (V : ℕ → List ℕ) (heaps : List ℕ) → AreOnce heaps → length moves ≤ steps_in (all_steps moves V heaps) → AreHome moves heaps
  all_home [] V heaps once all = tt
  all_home (move ∷ moves) V heaps once all =
      let is = many move moves V heaps in
      let one = times_once (home_of K move) heaps once in
      let rest = no_more moves (bumped K s V (home_of K move)) heaps once in (
        times_some (home_of K move) heaps (omega (arith, is, rest, all)),
        all_home moves (bumped K s V (home_of K move)) heaps once (omega (arith, is, one, all)),
      )

-- ---- what is gathered by steps that made operations

made_it : (s : ℕ) (o : Operation) (c : Change) → IsMadeBy s c → operation_of c ≡ o → IsIn o (made_by c)
made_it s o (Made p) made e = inl e
made_it s o (Took p) made e = absurd made

gathered_from : (W : List Operation) (s h : ℕ) (o : Operation) (steps : List Step) (S : List Operation) → AllMade s steps → IsIn o (gathered_in W h steps S) → IsIn o S ⊎ IsMadeIn o steps
gathered_from W s h o [] S made i = inl i
gathered_from W s h o (Recorded r ∷ steps) S made i = elim (gathered_from W s h o steps (operation_of r.change ∷ S) made.1 i) [
  | inl j ↦ elim j [ inl e ↦ inr (inl (made_it s o r.change made.0 e)) | inr there ↦ inl there ]
  | inr j ↦ inr (inr j)
]
gathered_from W s h o (Merged stamp other ∷ steps) S made i = absurd made
gathered_from W s h o (HandedOn stamp handed ∷ steps) S made i = absurd made
gathered_from W s h o (TookOver stamp other ∷ steps) S made i = absurd made

pub gathered_from_all : (W : List Operation) (s : ℕ) (o : Operation) (heaps : List ℕ) (steps : List (List Step)) (S : List Operation) → AllMadeIn s steps → IsIn o (gathered_by W heaps steps S) →
    IsIn o S ⊎ IsMadeInAll o steps
gathered_from_all W s o [] steps S made i = inl i
gathered_from_all W s o (h ∷ heaps) [] S made i = inl i
gathered_from_all W s o (h ∷ heaps) (ss ∷ steps) S made i = elim (gathered_from_all W s o heaps steps (gathered_in W h ss S) made.1 i) [
  | inl j ↦ elim (gathered_from W s h o ss S made.0 j) [ inl k ↦ inl k | inr k ↦ inr (inl k) ]
  | inr j ↦ inr (inr j)
]
