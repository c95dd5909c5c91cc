-- What the tests of written-out sets tell of a set, of two sets that meet, and of cases of them.

use Rattle.std.proofs.Common.{ℕ, ◌≡◌, Bool, false, true, List, None, Option, Some, [], ℤ, ap, refl, ◌++◌, ◌&&◌, ◌∙◌, ◌∷◌}
use Rattle.std.proofs.lemmas.Bool.{and_parts}
use Rattle.std.proofs.lemmas.Bool.Decides.{Decides-int_eq}
use Rattle.std.specs.Ordering.{int_eq}
use Rattle.zq_model.specs.Examples.{HEAPS, MeetAt, Pair, StandsAt, far, key_q, member_x, near}
use Rattle.zq_model.specs.Image.{entry_of}
use Rattle.zq_model.specs.Operation.{Operation}
use Rattle.zq_model.specs.Rule.{Rule}
use Rattle.zq_model.specs.Score.{score_of}
use Rattle.zq_model.specs.Cases.{Alone, AreCases, Holds, IsCase, Met, Case}
use Rattle.zq_model.proofs.ImageScores.{image_score_is, join_again_is, join_score_is, joined_again, joined_entry}
use Rattle.zq_model.proofs.SetTests.{closed_test, HasScore-from_test, IsClosed-from_test, IsWorld-from_test, score_test, world_test}

abbrev pub same_score : Option ℤ → Option ℤ → Bool
same_score None None = true
same_score None (Some y) = false
same_score (Some x) None = false
same_score (Some x) (Some y) = int_eq x y

same_from : (r s : Option ℤ) → same_score r s ≡ true → r ≡ s
same_from None None e = refl
same_from None (Some y) e = cc
same_from (Some x) None e = cc
same_from (Some x) (Some y) e = ap (λ z. Some z) ((Decides-int_eq x y).0 e)

module _ (rule : Rule) (S : List Operation) (h : ℕ) (k m : List ℕ) (score : Option ℤ) where
  abbrev pub stands_test : Bool
  stands_test = world_test HEAPS S && (closed_test S && (score_test rule S k m score && same_score (score_of rule (entry_of S h (k, m))) score))

  pub StandsAt-from_test : stands_test ≡ true → StandsAt rule S h k m score
  StandsAt-from_test e =
      let world = and_parts (world_test HEAPS S) _ e in
      let closed = and_parts (closed_test S) _ world.1 in
      let set = and_parts (score_test rule S k m score) _ closed.1 in
      record {
        world = IsWorld-from_test HEAPS S world.0;
        closed = IsClosed-from_test S closed.0;
        set = HasScore-from_test rule S k m score set.0;
        image = image_score_is rule S S h k m ∙ same_from _ _ set.1;
      }

module _ (rule : Rule) (S T : List Operation) (h : ℕ) (k m : List ℕ) (score : Option ℤ) where
  abbrev pub sets_test : Bool
  sets_test = score_test rule (S ++ T) k m score && (score_test rule (T ++ S) k m score && score_test rule (T ++ (S ++ T)) k m score)

  abbrev pub images_test : Bool
  images_test =
      same_score (score_of rule (joined_entry rule S T h k m)) score && (same_score (score_of rule (joined_entry rule T S h k m)) score
      && same_score (score_of rule (joined_again rule S T h k m)) score)

  abbrev pub meet_test : Bool
  meet_test = world_test HEAPS (S ++ T) && (closed_test S && (closed_test T && (sets_test && images_test)))

  pub MeetAt-from_test : meet_test ≡ true → MeetAt rule S T h k m score
  MeetAt-from_test e =
      let world = and_parts (world_test HEAPS (S ++ T)) _ e in
      let first = and_parts (closed_test S) _ world.1 in
      let second = and_parts (closed_test T) _ first.1 in
      let parts = and_parts sets_test _ second.1 in
      let union = and_parts (score_test rule (S ++ T) k m score) _ parts.0 in
      let turned = and_parts (score_test rule (T ++ S) k m score) _ union.1 in
      let there = and_parts (same_score (score_of rule (joined_entry rule S T h k m)) score) _ parts.1 in
      let back = and_parts (same_score (score_of rule (joined_entry rule T S h k m)) score) _ there.1 in
      record {
        world = IsWorld-from_test HEAPS (S ++ T) world.0;
        first_closed = IsClosed-from_test S first.0;
        second_closed = IsClosed-from_test T second.0;
        union = HasScore-from_test rule (S ++ T) k m score union.0;
        union_turned = HasScore-from_test rule (T ++ S) k m score turned.0;
        union_again = HasScore-from_test rule (T ++ (S ++ T)) k m score turned.1;
        joined = join_score_is rule S T h k m ∙ same_from _ _ there.0;
        joined_turned = join_score_is rule T S h k m ∙ same_from _ _ back.0;
        joined_again = join_again_is rule S T h k m ∙ same_from _ _ back.1;
      }

-- ---- cases

abbrev pub case_test : Rule → Case → Bool
case_test rule (Alone S score) = stands_test rule S 1 key_q member_x score
case_test rule (Met S T score) = meet_test rule S T 1 key_q member_x score

abbrev pub cases_test : Rule → List Case → Bool
cases_test rule [] = true
cases_test rule (case ∷ cases) = case_test rule case && cases_test rule cases

IsCase-from_test : (rule : Rule) (case : Case) → case_test rule case ≡ true → IsCase rule case
IsCase-from_test rule (Alone S score) e = StandsAt-from_test rule S 1 key_q member_x score e
IsCase-from_test rule (Met S T score) e = MeetAt-from_test rule S T 1 key_q member_x score e

AreCases-from_test : (rule : Rule) (cases : List Case) → cases_test rule cases ≡ true → AreCases rule cases
AreCases-from_test rule [] e = tt
AreCases-from_test rule (case ∷ cases) e =
    let h = and_parts (case_test rule case) _ e in
    (IsCase-from_test rule case h.0, AreCases-from_test rule cases h.1)

pub Holds-from_test : (rule : Rule) (cases : Pair → List Case) → cases_test rule (cases near) ≡ true → cases_test rule (cases far) ≡ true → Holds rule cases
Holds-from_test rule cases e f = record { of_near = AreCases-from_test rule (cases near) e; of_far = AreCases-from_test rule (cases far) f }
