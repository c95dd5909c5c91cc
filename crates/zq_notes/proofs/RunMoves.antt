-- What the moves of a command make in the run of a world: the operations, one after the other, of which none is refused a number.

use Rattle.std.proofs.Common.{ap, arith, inl, inr, ne_eqb, eq-eqb, refl, subst, suc, sym, take_all, true≢false, zero, ◌∙◌}
use Rattle.std.proofs.lemmas.Bool.{cases_Bool, eqb-true, lt-leb, or_from}
use Rattle.std.specs.Prelude.{List, [], false, if◌then◌else◌, length, slice_index, slice_set, true, ℕ, ◌+◌, ◌<◌, ◌==◌, ◌∷◌, ◌≡◌, ◌≤◌, ◌⊎◌}
use Rattle.zq_model.proofs.Made.{made_new, making_closed}
use Rattle.zq_model.proofs.Membership.{in_left, in_right, in_union}
use Rattle.zq_model.proofs.Same.{image_of-same_heap}
use Rattle.zq_model.proofs.TailSets.{step_in_heap}
use Rattle.zq_model.proofs.Worlds.{world_part}
use Rattle.zq_model.specs.Image.{Image}
use Rattle.zq_model.specs.Operation.{Operation, operation_over}
use Rattle.zq_model.specs.Rule.{Rule}
use Rattle.zq_model.specs.Sets.{IsClosed, IsHeaps, IsIn, IsMade, IsNew, IsWorld, vector_of}
use Rattle.zq_model.specs.Moves.{Move, Queues}
use Rattle.zq_semantics.specs.Plan.{Plan, plan_of}
use Rattle.zq_semantics.specs.Replies.{Reply, bytes_of}
use Rattle.zq_semantics.specs.Run.{LAST_COUNT, Number, cut_error, cut_reply}
use Rattle.zq_semantics.proofs.Kept.{at_each}
use Rattle.zq_semantics.specs.Doing.{Done, done_by, done_command, done_to, is_ping, unchanged}
use Rattle.zq_semantics.specs.State.{State, after_move, after_moves, greatest, home_of, is_full, is_spent, is_worn, next_stamp, operation_by, standing, with_at, with_number}
use Rattle.zq_words.specs.Command.{Command}

-- ---- numbers below the last

pub greatest_within : (n : ℕ) (f : ℕ → ℕ) (c : ℕ) → ((i : ℕ) → f i ≤ c) → greatest n f ≤ c
greatest_within zero f c each = omega arith
greatest_within (suc n) f c each = let one = each n in let rest = greatest_within n f c each in omega (arith, one, rest)

pub not_worn : (K : ℕ) (st : State) (site c : ℕ) → ((s h : ℕ) → st.stamps s h ≤ c) → c < LAST_COUNT → is_worn K st site ≡ false
not_worn K st site c each low = let most = greatest_within K (st.stamps site) c (each site) in lt-leb LAST_COUNT (greatest K (st.stamps site)) (omega (arith, most, low))

pub not_full : (st : State) (site heap c : ℕ) → ((s h : ℕ) → st.counts s h ≤ c) → c < LAST_COUNT → is_full st site heap ≡ false
not_full st site heap c each low = let most = each site heap in lt-leb LAST_COUNT (st.counts site heap) (omega (arith, most, low))

pub next_within : (K : ℕ) (st : State) (site c : ℕ) → ((s h : ℕ) → st.stamps s h ≤ c) → next_stamp K st site ≤ c + 1
next_within K st site c each = let most = greatest_within K (st.stamps site) c (each site) in omega (arith, most)

-- numbers with one more in place
pub numbers_with : (f : ℕ → ℕ → ℕ) (site heap n c : ℕ) → ((s h : ℕ) → f s h ≤ c) → n ≤ c → (s h : ℕ) → with_number f site heap n s h ≤ c
numbers_with f site heap n c each more =
    at_each (λ s row. (h : ℕ) → row h ≤ c) f site (with_at (f site) heap n) each (at_each (λ h x. x ≤ c) (f site) heap n (each site) more)

pub counts_with : (f : ℕ → ℕ → ℕ) (site heap c : ℕ) → ((s h : ℕ) → f s h ≤ c) → (s h : ℕ) → with_number f site heap (f site heap + 1) s h ≤ c + 1
counts_with f site heap c each =
    numbers_with f site heap (f site heap + 1) (c + 1) (λ s h. let low = each s h in omega (arith, low)) (let low = each site heap in omega (arith, low))

pub here_is : {X : Type 0} (f : ℕ → X) (i : ℕ) (x : X) → with_at f i x i ≡ x
here_is f i x = ap (λ b. if b then x else f i) (eq-eqb i i refl)

pub apart_is : {X : Type 0} (f : ℕ → X) (i : ℕ) (x : X) (j : ℕ) → (j ≡ i → ⊥) → with_at f i x j ≡ f j
apart_is f i x j apart = ap (λ b. if b then x else f j) (ne_eqb j i apart)

-- ---- operations of moves

module _ (K s : ℕ) where
  -- the vectors after one more operation of the site in the heap x
  abbrev pub bumped : (ℕ → List ℕ) → ℕ → ℕ → List ℕ
  bumped V x h = if x == h then slice_set (V h) s (slice_index (V h) s + 1) else V h

  pub bumped_here : (V : ℕ → List ℕ) (x h : ℕ) → (x == h) ≡ true → bumped V x h ≡ slice_set (V h) s (slice_index (V h) s + 1)
  bumped_here V x h same = ap (λ b. if b then slice_set (V h) s (slice_index (V h) s + 1) else V h) same

  pub bumped_apart : (V : ℕ → List ℕ) (x h : ℕ) → (x == h) ≡ false → bumped V x h ≡ V h
  bumped_apart V x h other = ap (λ b. if b then slice_set (V h) s (slice_index (V h) s + 1) else V h) other

  abbrev pub operation_at : (ℕ → List ℕ) → Move → ℕ → Operation
  operation_at V move h = operation_over h (V h) s move.key move.member move.act

  -- the operations that the site makes of moves, one after the other, over these vectors
  abbrev pub operations : List Move → (ℕ → List ℕ) → List Operation
  operations [] V = []
  operations (move ∷ moves) V = operation_at V move (home_of K move) ∷ operations moves (bumped V (home_of K move))

  -- the state after moves of which these operations were made
  pub record IsMoved (stamp : ℕ) (st now : State) (made : List Operation) (number : ℕ) : Type 0 where
    pub made_from : (o : Operation) → IsIn o now.made → IsIn o st.made ⊎ IsIn o made
    pub made_to : (o : Operation) → IsIn o st.made ⊎ IsIn o made → IsIn o now.made
    pub has_from : (o : Operation) → IsIn o (now.sets s) → IsIn o (st.sets s) ⊎ IsIn o made
    pub has_to : (o : Operation) → IsIn o (st.sets s) ⊎ IsIn o made → IsIn o (now.sets s)
    pub others : (t : ℕ) → (t ≡ s → ⊥) → now.sets t ≡ st.sets t
    pub stamps : (c : ℕ) → stamp ≤ c + 1 → ((t h : ℕ) → st.stamps t h ≤ c) → (t h : ℕ) → now.stamps t h ≤ c + number
    pub counts : (c : ℕ) → ((t h : ℕ) → st.counts t h ≤ c) → (t h : ℕ) → now.counts t h ≤ c + number

  module _ (W : List Operation) (world : IsWorld K W) (heaps : IsHeaps K) where
    -- the site's set in the state is a closed one of the world, and has these vectors
    pub record IsAt (V : ℕ → List ℕ) (st : State) : Type 0 where
      pub within : (o : Operation) → IsIn o (st.sets s) → IsIn o W
      pub closed : IsClosed (st.sets s)
      pub vectors : (h : ℕ) → vector_of (st.sets s) h ≡ V h

    module _ (stamp : ℕ) (move : Move) (V : ℕ → List ℕ) (st : State) (at : IsAt V st) (there : IsIn (operation_at V move (home_of K move)) W) where
      abbrev home : ℕ
      home = home_of K move

      abbrev S : List Operation
      S = st.sets s

      abbrev o : Operation
      o = operation_by st s home move

      abbrev next : State
      next = after_move K s stamp move st

      pub same : o ≡ operation_at V move home
      same = ap (λ v. operation_over home v s move.key move.member move.act) (at.vectors home)

      here : IsIn o W
      here = subst (λ x. IsIn x W) (sym same) there

      part : IsWorld K S
      part = world_part K S W at.within world

      is_made : IsMade K S o
      is_made = let its = world.each o here in record { heaps = heaps; act = its.act; site = its.site; heap = refl; seen = refl; n = refl; bounded = its.bounded }

      new : IsNew S o
      new = made_new K S o part is_made

      within_next : (p : Operation) → IsIn p (o ∷ S) → IsIn p W
      within_next p i = elim i [ inl e ↦ subst (λ x. IsIn x W) e here | inr j ↦ at.within p j ]

      world_next : IsWorld K (o ∷ S)
      world_next = world_part K (o ∷ S) W within_next world

      vector_next : (h : ℕ) → vector_of (o ∷ S) h ≡ bumped V home h
      vector_next h = elim (cases_Bool (home == h)) [
        | inl equal ↦ (
            let here_too : home ≡ h = eqb-true home h equal in
            ap (λ (a : Image). a.vector) (step_in_heap K h S o world_next at.closed new here_too)
            ∙ ap (λ v. slice_set v s (slice_index (vector_of S home) s + 1)) (at.vectors h)
            ∙ ap (λ v. slice_set (V h) s (slice_index v s + 1)) (at.vectors home ∙ ap V here_too)
            ∙ sym (bumped_here V home h equal))
        | inr other ↦
            ap (λ (a : Image). a.vector) (image_of-same_heap K (o ∷ S) S h world_next part
            (λ p i is. elim i [ inl e ↦ absurd (true≢false (sym (eq-eqb home h (ap (λ (x : Operation). x.heap) e ∙ is)) ∙ other)) | inr j ↦ j ])
            (λ p i is. inr i))
            ∙ at.vectors h ∙ sym (bumped_apart V home h other)
      ]

      set_next : next.sets s ≡ o ∷ S
      set_next = here_is st.sets s (o ∷ S)

      pub at_next : IsAt (bumped V home) next
      at_next = record {
        within = λ p i. within_next p (subst (IsIn p) set_next i);
        closed = subst IsClosed (sym set_next) (making_closed K S o part at.closed is_made);
        vectors = λ h. ap (λ T. vector_of T h) set_next ∙ vector_next h;
      }

      pub not_spent : (c : ℕ) → ((t h : ℕ) → st.counts t h ≤ c) → c < LAST_COUNT → is_spent st s home ≡ false
      not_spent c each low =
          let its = (world.each o here).bounded in
          or_from _ _ (lt-leb _ _ (omega (arith, its))) (not_full st s home c each low)

      pub set_from : (p : Operation) → IsIn p (next.sets s) → IsIn p S ⊎ (operation_at V move home ≡ p)
      set_from p i = elim (subst (IsIn p) set_next i) [ inl e ↦ inr (sym same ∙ e) | inr j ↦ inl j ]

      pub set_to : (p : Operation) → IsIn p S ⊎ (operation_at V move home ≡ p) → IsIn p (next.sets s)
      set_to p i = subst (IsIn p) (sym set_next) (elim i [ inl j ↦ inr j | inr e ↦ inl (same ∙ e) ])

      pub all_from : (p : Operation) → IsIn p next.made → IsIn p st.made ⊎ (operation_at V move home ≡ p)
      all_from p i = elim (in_union p st.made (o ∷ []) i) [ inl j ↦ inl j | inr j ↦ elim j [ inl e ↦ inr (sym same ∙ e) | inr none ↦ absurd none ] ]

      pub all_to : (p : Operation) → IsIn p st.made ⊎ (operation_at V move home ≡ p) → IsIn p next.made
      all_to p i = elim i [ inl j ↦ in_left p st.made (o ∷ []) j | inr e ↦ in_right p st.made (o ∷ []) (inl (same ∙ e)) ]

    -- a set's members before one more is added, and those after it
    shift_from : {A B C : Type 0} → (A ⊎ B) ⊎ C → A ⊎ (B ⊎ C)
    shift_from (inl (inl a)) = inl a
    shift_from (inl (inr b)) = inr (inl b)
    shift_from (inr c) = inr (inr c)

    shift_to : {A B C : Type 0} → A ⊎ (B ⊎ C) → (A ⊎ B) ⊎ C
    shift_to (inl a) = inl (inl a)
    shift_to (inr (inl b)) = inl (inr b)
    shift_to (inr (inr c)) = inr c

    first_of_two : {A B C : Type 0} → (A → B) → A ⊎ C → B ⊎ C
    first_of_two f (inl a) = inl (f a)
    first_of_two f (inr c) = inr c

    -- moves whose operations are of the world all stand, where the counts leave room for them
    pub moved : (stamp : ℕ) (moves : List Move) (V : ℕ → List ℕ) (st : State) (c : ℕ) → IsAt V st → ((o : Operation) → IsIn o (operations moves V) → IsIn o W) →
        ((t h : ℕ) → st.counts t h ≤ c) → c + length moves < LAST_COUNT →
        (standing K s stamp moves st ≡ length moves) × IsMoved stamp st (after_moves K s stamp moves st) (operations moves V) (length moves)
    moved stamp [] V st c at inside each low = (
      refl,
      record {
        made_from = λ o i. inl i;
        made_to = λ o i. elim i [ inl j ↦ j | inr none ↦ absurd none ];
        has_from = λ o i. inl i;
        has_to = λ o i. elim i [ inl j ↦ j | inr none ↦ absurd none ];
        others = λ t apart. refl;
        stamps = λ d most all t h. let is = all t h in omega (arith, is);
        counts = λ d all t h. let is = all t h in omega (arith, is);
      },
    )
    moved stamp (move ∷ moves) V st c at inside each low =
        let first = inside (operation_at V move (home_of K move)) (inl refl) in
        let next : State = after_move K s stamp move st in
        let rest = moved stamp moves (bumped V (home_of K move)) next (c + 1) (at_next stamp move V st at first) (λ o i. inside o (inr i))
        (counts_with st.counts s (home_of K move) c each) (omega (arith, low)) in
        let its = rest.1 in (
          ap (λ b. if b then 0 else suc (standing K s stamp moves next)) (not_spent stamp move V st at first c each (omega (arith, low))) ∙ ap suc rest.0,
          record {
            made_from = λ o i. shift_from (first_of_two (all_from stamp move V st at first o) (its.made_from o i));
            made_to = λ o i. its.made_to o (first_of_two (all_to stamp move V st at first o) (shift_to i));
            has_from = λ o i. shift_from (first_of_two (set_from stamp move V st at first o) (its.has_from o i));
            has_to = λ o i. its.has_to o (first_of_two (set_to stamp move V st at first o) (shift_to i));
            others = λ t apart. its.others t apart ∙ apart_is st.sets s (operation_by st s (home_of K move) move ∷ st.sets s) t apart;
            stamps = λ d most all t h.
                let is = its.stamps (d + 1) (omega (arith, most)) (numbers_with st.stamps s (home_of K move) stamp (d + 1) (λ a b. let low = all a b in omega (arith, low)) most) t h in omega (arith, is);
            counts = λ d all t h. let is = its.counts (d + 1) (counts_with st.counts s (home_of K move) d all) t h in omega (arith, is);
          },
        )

-- ---- a command

-- a command other than PING, of a site with no stamp at its last value, that makes all its moves
module _ (rule : Rule) (K s w1 w2 : ℕ) (st : State) (command : Command) (queues : Queues) (plan : Plan) where
  abbrev pub all_done : Done
  all_done = record { now = after_moves K s (next_stamp K st s) plan.moves st; reply = bytes_of plan.reply }

  abbrev by_moves : (ℕ → Reply) → List Move → Done
  by_moves cut moves = record { now = after_moves K s (next_stamp K st s) moves st; reply = bytes_of (if length plan.moves == length plan.moves then plan.reply else cut (length plan.moves)) }

  abbrev by_plan : Plan → Done
  by_plan p = done_by K s (next_stamp K st s) p (λ k. cut_reply command queues k Number) st

  done_whole : (cut : ℕ → Reply) → standing K s (next_stamp K st s) plan.moves st ≡ length plan.moves → done_by K s (next_stamp K st s) plan cut st ≡ all_done
  done_whole cut all =
      ap (done_to K s (next_stamp K st s) plan cut st) all
      ∙ ap (by_moves cut) (take_all (length plan.moves) plan.moves (omega arith))
      ∙ ap (λ b. record { now = after_moves K s (next_stamp K st s) plan.moves st; reply = bytes_of (if b then plan.reply else cut (length plan.moves)) }) (eq-eqb (length plan.moves) (length plan.moves) refl)

  pub done_all : is_ping command ≡ false → is_worn K st s ≡ false → plan_of command queues ≡ plan → standing K s (next_stamp K st s) plan.moves st ≡ length plan.moves →
      done_command rule K s w1 w2 st command queues ≡ all_done
  done_all ping worn same all =
      ap (λ b. if b then unchanged st (bytes_of (plan_of command queues).reply) else (if is_worn K st s then unchanged st (bytes_of (cut_error 0 Number)) else by_plan (plan_of command queues))) ping
      ∙ ap (λ b. if b then unchanged st (bytes_of (cut_error 0 Number)) else by_plan (plan_of command queues)) worn
      ∙ ap by_plan same
      ∙ done_whole (λ k. cut_reply command queues k Number) all
