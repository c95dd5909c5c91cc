-- How a server of a site that one session alone uses comes to its answers.

use Rattle.std.proofs.Common.{List, Some, [], ap, arith, inl, inr, length, map, refl, subst, suc, ℕ, ◌+◌, ◌∙◌, ◌∷◌, ◌≡◌, ◌≤◌}
use Rattle.std.specs.List.{range_with_len}
use Rattle.std.specs.Prelude.{Err, Ok, false, slice_get}
use Rattle.zq_commands.proofs.Begun.{rule_begun}
use Rattle.zq_commands.specs.Beginning.{HasStamp, IsNextStamp, begun}
use Rattle.zq_commands.specs.Lending.{IsDated}
use Rattle.zq_commands.specs.SiteBooks.{empty_book}
use Rattle.zq_commands.specs.VecBooks.{lending_of, rule_in}
use Rattle.zq_model.specs.Books.{Book}
use Rattle.zq_journal.specs.Books.{LAST_STAMP}
use Rattle.zq_model.specs.Rule.{Greatest}
use Rattle.zq_model.specs.Sets.{IsIn}
use Rattle.zq_semantics.specs.Replies.{bytes_of}
use Rattle.zq_semantics.specs.Run.{IsRun, Number, cut_error}
use Rattle.zq_semantics.specs.Books.{greatest_stamp}
use Rattle.zq_session.specs.Plain.{AreRuledGreatest, RunsCommand, RunsReading, SITE, is_ping, no_keys, runs, unread, worn}
use Rattle.zq_session.specs.Refusals.{IsRefusalOf}
use Rattle.zq_words.specs.Command.{Command, Reading}
use Rattle.zq_words.specs.Words.{Word}

-- ---- empty books

empty_from : (K n : ℕ) (books : List Book) → ((i : ℕ) (b : Book) → slice_get books i ≡ Some b → b ≡ empty_book K Greatest (n + i)) →
    books ≡ map (empty_book K Greatest) (range_with_len n (length books))
empty_from K n [] each = refl
empty_from K n (b ∷ books) each =
    let first : b ≡ empty_book K Greatest n = each 0 b refl ∙ ap (empty_book K Greatest) (omega arith) in
    let rest = empty_from K (n + 1) books (λ i c at. each (suc i) c at ∙ ap (empty_book K Greatest) (omega arith)) in
    λ i. first i ∷ rest i

pub opening : (K : ℕ) (books : List Book) → length books ≡ K → ((heap : ℕ) (book : Book) → slice_get books heap ≡ Some book → book ≡ empty_book K Greatest heap) → books ≡ no_keys K
opening K books number each = empty_from K 0 books (λ i b at. each i b at ∙ ap (empty_book K Greatest) (omega arith)) ∙ ap (λ n. map (empty_book K Greatest) (range_with_len 0 n)) number

pub opening_ruled : (K : ℕ) (books : List Book) → ((heap : ℕ) (book : Book) → slice_get books heap ≡ Some book → book ≡ empty_book K Greatest heap) → AreRuledGreatest books
opening_ruled K [] each = refl
opening_ruled K (b ∷ books) each = ap (λ (c : Book). c.rule) (each 0 b refl)

-- ---- stamps

stamp_above : (books : List Book) (b : Book) → IsIn b books → b.stamp ≤ greatest_stamp books
stamp_above [] b here = absurd here
stamp_above (c ∷ books) b (inl same) = let is = ap (λ (d : Book). d.stamp) same in omega (arith, is)
stamp_above (c ∷ books) b (inr there) = let rest = stamp_above books b there in omega (arith, rest)

stamp_below : (books : List Book) (most : ℕ) → ((b : Book) → IsIn b books → b.stamp ≤ most) → greatest_stamp books ≤ most
stamp_below [] most each = omega arith
stamp_below (c ∷ books) most each =
    let first = each c (inl refl) in
    let rest = stamp_below books most (λ b there. each b (inr there)) in omega (arith, first, rest)

-- the books as a call begins with them
pub begun_ruled : (stamp : ℕ) (old mid : List Book) → AreRuledGreatest old → mid ≡ map (begun stamp) old → AreRuledGreatest mid
begun_ruled stamp old mid ruled begins = ap rule_in begins ∙ rule_begun stamp old ∙ ruled

-- ---- a command

module _ (old : List Book) (command : Command) (apart : is_ping command ≡ false) where
  pub worn_command : (stamp : ℕ) → IsDated stamp (lending_of old) → HasStamp LAST_STAMP old → (bytes : Word) → bytes ≡ bytes_of (cut_error 0 Number) → RunsCommand old command old bytes
  unfolding LAST_STAMP
  worn_command stamp dated has bytes says =
      let most = dated.0 in
      let low = stamp_below old stamp dated.1 in
      let high = stamp_above old has.0 has.1 in
      let is = has.2 in
      worn apart (omega (arith, most, low, high, is)) refl says

  next_is : (stamp : ℕ) → IsNextStamp old stamp → stamp ≡ greatest_stamp old + 1
  next_is stamp next =
      let one = next.after.2 in
      let high = stamp_above old next.after.0 next.after.1 in
      let low = stamp_below old next.after.0.stamp (λ b here. let its = next.above b here in omega (arith, its, one)) in
      omega (arith, one, high, low)

  pub run_command : AreRuledGreatest old → (stamp site : ℕ) → IsNextStamp old stamp → site ≡ SITE → (mid new : List Book) (bytes : Word) → mid ≡ map (begun stamp) old →
      IsRun (rule_in mid) site stamp command mid new bytes → RunsCommand old command new bytes
  unfolding LAST_STAMP
  run_command ruled stamp site next zero mid new bytes begins ran =
      let is = next_is stamp next in
      let most = next.dated.0 in
      runs apart (omega (arith, is, most))
      (subst (λ n. IsRun Greatest SITE n command (map (begun n) old) new bytes) is
      (subst (λ m. IsRun Greatest SITE stamp command m new bytes) begins
      (subst (λ s. IsRun Greatest s stamp command mid new bytes) zero
      (subst (λ r. IsRun r site stamp command mid new bytes) (begun_ruled stamp old mid ruled begins) ran))))

-- ---- a refusal

pub refusal_runs : (reading : Reading) (s : List Book) (bytes : Word) → IsRefusalOf reading bytes → RunsReading s reading s bytes
refusal_runs (Ok command) s bytes is = unread is.0 refl is.1
refusal_runs (Err refused) s bytes is = (refl, is)
