-- The example of a site that puts a member and reads its score.

use Rattle.std.proofs.Common.{ap, arith, inl, sym, ◌∙◌}
use Rattle.std.specs.Fmt.{digits}
use Rattle.std.specs.Prelude.{List, None, Option, Some, [], codes, if◌then◌else◌, length, map, pos, refl, slice_index, ℕ, ℤ, ◌+◌, ◌++◌, ◌∷◌, ◌≡◌}
use Rattle.zq_model.specs.Books.{Made, Step}
use Rattle.zq_model.proofs.SetTests.{HasScore-from_test, IsWorld-from_test}
use Rattle.zq_model.specs.Examples.{HEAPS, key_q, member_x, near, on_x}
use Rattle.zq_model.specs.Heaps.{fnv1a64, heap_of}
use Rattle.zq_model.specs.Limits.{standard}
use Rattle.zq_model.specs.Meaning.{IsScore}
use Rattle.zq_model.specs.Operation.{Operation, Put}
use Rattle.zq_model.specs.Rule.{Greatest}
use Rattle.zq_model.specs.Sets.{IsWorld, LAST, SITES}
use Rattle.zq_model.specs.Lent.{books_after, queues_of}
use Rattle.zq_model.specs.Moves.{Move, score_in}
use Rattle.zq_notes.proofs.Histories.{gathers, opens}
use Rattle.zq_notes.proofs.MovedSteps.{moves_are}
use Rattle.zq_notes.proofs.ReadOff.{AreScoresMeant, listed, ran_over}
use Rattle.zq_notes.specs.Examples.{added, four, put, scored, three}
use Rattle.zq_notes.specs.Gathered.{AreImagesOf}
use Rattle.zq_notes.specs.Notes.{Books}
use Rattle.zq_notes.specs.Readings.{IsRunOver, cut_off, in_full, moved_in}
use Rattle.zq_notes.specs.Sites.{empty_books}
use Rattle.zq_notes.specs.Thread.{IsNoteOver, IsOneThread, left_by}
use Rattle.zq_semantics.specs.Examples.{no_flags}
use Rattle.zq_semantics.specs.Plan.{Part, Plan, counts, lets, nothing, one, plan_of, reading}
use Rattle.zq_semantics.specs.Replies.{bytes_of, count_reply, score_reply}
use Rattle.zq_semantics.specs.Run.{whole}
use Rattle.zq_words.specs.Command.{Command, Zadd, Zscore}

abbrev opening : Books
opening = empty_books standard Greatest HEAPS

abbrev then_put : Books
then_put = left_by (added 1 (put 1 ∷ [])) opening

abbrev adding : Command
adding = Zadd key_q no_flags ((pos 3, member_x) ∷ [])

abbrev asking : Command
asking = Zscore key_q member_x

abbrev set_put : List Operation
set_put = on_x near 1 0 0 (Put (pos 3)) ∷ []

-- the plan of the ZADD by the score that x had
abbrev part_by : Option ℤ → Part
part_by old = if lets no_flags old (pos 3) then record { moves = one key_q member_x (Put (pos 3)); is_counted = counts no_flags old (pos 3) } else nothing

abbrev plan_by : Option ℤ → Plan
plan_by old = record { moves = (part_by old).moves ++ []; reply = count_reply ((if (part_by old).is_counted then 1 else 0) + 0) }

world_none : IsWorld HEAPS []
world_none = record { each = λ o none. absurd none; one = λ o p none. absurd none }

world_put : IsWorld HEAPS set_put
unfolding SITES LAST heap_of fnv1a64
world_put = IsWorld-from_test HEAPS set_put refl

scored_put : IsScore Greatest set_put key_q member_x (pos 3)
unfolding SITES LAST heap_of fnv1a64
scored_put = HasScore-from_test Greatest set_put key_q member_x (Some (pos 3)) refl

lies_there : heap_of key_q member_x HEAPS ≡ 1
unfolding heap_of fnv1a64
lies_there = refl

-- ---- bytes

one_added : bytes_of (plan_by None).reply ≡ codes ":1\r\n"
unfolding digits
one_added = refl

three_read : bytes_of (score_reply (Some (pos 3))) ≡ three
unfolding digits
three_read = refl

module _ (meant : AreScoresMeant) where
  -- ---- over the books of a new site

  none_in : (o : Option ℤ) → score_in (queues_of Greatest (map opening (1 ∷ [])) key_q) member_x ≡ o → o ≡ None
  none_in None is = refl
  none_in (Some x) is =
      let means = (meant Greatest HEAPS [] (map opening (1 ∷ [])) world_none (listed meant Greatest HEAPS [] [] opening world_none (opens standard Greatest HEAPS []) (1 ∷ [])) key_q member_x x (inl (sym lies_there))).0 is in
      absurd (means.reached.1.here)

  plans : plan_of adding (queues_of Greatest (map opening (1 ∷ []))) ≡ plan_by None
  plans = ap plan_by (none_in (score_in (queues_of Greatest (map opening (1 ∷ [])) key_q) member_x) refl)

  puts : IsNoteOver Greatest HEAPS 1 opening (added 1 (put 1 ∷ []))
  unfolding SITES LAST heap_of fnv1a64
  puts = record {
    steps = (record { legal = refl; own = refl }, tt);
    does = (
      refl,
      record {
        left = books_after 1 1 (plan_by None).moves (map opening (1 ∷ []));
        ran = whole (ap (λ (p : Plan). books_after 1 1 p.moves (map opening (1 ∷ []))) (sym plans)) (sym one_added ∙ ap (λ (p : Plan). bytes_of p.reply) (sym plans));
        appended = (record { records = record { stamp = 1; change = Made (on_x near 1 0 0 (Put (pos 3))) } ∷ []; tail = refl; recorded = refl }, tt);
      },
    );
  }

  -- ---- once x was put

  images_put : AreImagesOf Greatest HEAPS set_put set_put then_put
  images_put = gathers Greatest HEAPS 1 set_put (omega arith) world_put [] opening (added 1 (put 1 ∷ []) ∷ []) (opens standard Greatest HEAPS set_put) (puts, tt) (((inl refl, tt), tt), tt)

  score_is : score_in (queues_of Greatest (map then_put (1 ∷ [])) key_q) member_x ≡ Some (pos 3)
  score_is =
      (meant Greatest HEAPS set_put (map then_put (1 ∷ [])) world_put (listed meant Greatest HEAPS set_put set_put then_put world_put images_put (1 ∷ [])) key_q member_x (pos 3)
      (inl ((images_put.each 1).heap ∙ sym lies_there))).1 scored_put

  reads : plan_of asking (queues_of Greatest (map then_put (1 ∷ []))) ≡ reading (score_reply (Some (pos 3)))
  reads = ap (λ old. reading (score_reply old)) score_is

  asks : IsNoteOver Greatest HEAPS 1 then_put (scored 2 three)
  unfolding heap_of fnv1a64
  asks = record {
    steps = (record { legal = refl; own = refl }, tt);
    does = (
      refl,
      record {
        left = map then_put (1 ∷ []);
        ran = whole refl (sym three_read ∙ ap (λ (p : Plan). bytes_of p.reply) (sym reads));
        appended = (record { records = []; tail = refl; recorded = refl }, tt);
      },
    );
  }

  pub thread : IsOneThread Greatest HEAPS 1 opening (added 1 (put 1 ∷ []) ∷ scored 2 three ∷ [])
  thread = (puts, (asks, tt))

  -- ---- what is wrong

  -- the answer is the score that was put, or begins as an error does
  no_other : (moves : List Move) → IsRunOver (queues_of Greatest (map then_put (1 ∷ []))) asking moves four → ⊥
  no_other moves (in_full are says) =
      let e : four ≡ three = says ∙ ap (λ (p : Plan). bytes_of p.reply) reads ∙ three_read in
      let digit : 52 ≡ 51 = ap (λ l. slice_index l 4) e in
      absurd (omega (arith, digit))
  no_other moves (cut_off k want few are says) = let first : 36 ≡ 45 = ap (λ l. slice_index l 0) says in absurd (omega (arith, first))

  pub other : IsOneThread Greatest HEAPS 1 opening (added 1 (put 1 ∷ []) ∷ scored 2 four ∷ []) → ⊥
  other is =
      let ran = ran_over Greatest 1 2 asking (map then_put (1 ∷ [])) is.1.0.does.1.left four is.1.0.does.1.ran in no_other ran.0 ran.1

  -- it makes its step, or its answer begins as an error does
  no_idle : (moves : List Move) → IsRunOver (queues_of Greatest (map opening (1 ∷ []))) adding moves (codes ":1\r\n") → moves ≡ (plan_by None).moves
  no_idle moves (in_full are says) = are ∙ ap (λ (p : Plan). p.moves) plans
  no_idle moves (cut_off k want few are says) = let first : 58 ≡ 45 = ap (λ l. slice_index l 0) says in absurd (omega (arith, first))

  some_step : map (λ h. moved_in HEAPS 1 1 h (plan_by None).moves (opening h).state.vector) (1 ∷ []) ≡ (put 1 ∷ []) ∷ []
  unfolding SITES heap_of fnv1a64
  some_step = refl

  pub idle : IsOneThread Greatest HEAPS 1 opening (added 1 [] ∷ []) → ⊥
  idle is =
      let does = is.0.does.1 in
      let ran = ran_over Greatest 1 1 adding (map opening (1 ∷ [])) does.left (codes ":1\r\n") does.ran in
      let steps : [] ∷ [] ≡ map (λ h. moved_in HEAPS 1 1 h ran.0 (opening h).state.vector) (1 ∷ []) =
      moves_are 1 1 HEAPS ran.0 (1 ∷ []) opening does.left ([] ∷ []) (λ h. refl) (λ h. refl) ran.2 does.appended in
      let none : [] ∷ [] ≡ (put 1 ∷ []) ∷ [] = steps ∙ ap (λ ms. map (λ h. moved_in HEAPS 1 1 h ms (opening h).state.vector) (1 ∷ [])) (no_idle ran.0 ran.1) ∙ some_step in
      let number : 0 ≡ 1 = ap first_length none in
      absurd (omega (arith, number))
    where
      first_length : List (List Step) → ℕ
      first_length [] = 0
      first_length (ss ∷ steps) = length ss
