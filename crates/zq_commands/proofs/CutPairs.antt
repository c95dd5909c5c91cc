-- The parts of a pop that was cut.

use Rattle.std.proofs.Common.{List, [], ap, arith, length, map, refl, subst, suc, sym, take, true, zero, ℕ, ◌*◌, ◌++◌, ◌∙◌, ◌∷◌, ◌≡◌, ◌≤◌}
use Rattle.std.proofs.lemmas.Bool.{and_from, and_parts}
use Rattle.std.proofs.lemmas.List.{length-map, take-map, take_all}
use Rattle.std.specs.Fmt.{signed_decimal}
use Rattle.zq_commands.proofs.Popped.{shown_parts}
use Rattle.zq_commands.specs.Arrays.{are_writable}
use Rattle.zq_model.specs.Moves.{Queue}
use Rattle.zq_resp.specs.Reply.{bulk, is_writable, reply_bytes}
use Rattle.zq_resp.specs.declared.reply.Reply.{Reply}
use Rattle.zq_semantics.specs.Procedures.{cut_pairs}
use Rattle.zq_semantics.specs.Replies.{pairs_reply}
use Rattle.zq_semantics.specs.Run.{Want}

-- two parts for each pair
parts_number : (pairs : Queue) → length (shown_parts pairs) ≡ 2 * length pairs
parts_number [] = refl
parts_number (p ∷ pairs) =
    let more : suc (suc (2 * length pairs)) ≡ 2 * length (p ∷ pairs) = omega arith in
    ap (λ n. suc (suc n)) (parts_number pairs) ∙ more

parts_taken : (pairs : Queue) (k : ℕ) → take (2 * k) (shown_parts pairs) ≡ shown_parts (take k pairs)
parts_taken pairs zero = refl
parts_taken [] (suc k) = let more : 2 * suc k ≡ suc (suc (2 * k)) = omega arith in ap (λ n. take n (shown_parts [])) more
parts_taken (p ∷ pairs) (suc k) =
    let more : 2 * suc k ≡ suc (suc (2 * k)) = omega arith in
    ap (λ n. take n (shown_parts (p ∷ pairs))) more ∙ ap (λ ws. bulk p.1 ∷ bulk (signed_decimal p.0) ∷ ws) (parts_taken pairs k)

pub writable_taken : (n : ℕ) (parts : List Reply) → are_writable parts ≡ true → are_writable (take n parts) ≡ true
writable_taken zero parts are = refl
writable_taken (suc n) [] are = refl
writable_taken (suc n) (x ∷ parts) are =
    let both = and_parts (is_writable x) (are_writable parts) are in
    and_from (is_writable x) (are_writable (take n parts)) both.0 (writable_taken n parts both.1)

module _ (pairs : Queue) (parts : List Reply) (are : map reply_bytes parts ≡ shown_parts pairs) (k : ℕ) where
  -- the parts of the first k pairs
  pub taken_parts : map reply_bytes (take (2 * k) parts) ≡ shown_parts (take k pairs)
  taken_parts = sym (take-map reply_bytes (2 * k) parts) ∙ ap (take (2 * k)) are ∙ parts_taken pairs k

  -- which are all where there are no more
  pub all_parts : length parts ≤ k → map reply_bytes parts ≡ shown_parts (take k pairs)
  all_parts past =
      let number : length pairs ≤ k = let same = ap length are in let shown = parts_number pairs in let mapped = length-map parts reply_bytes in omega (arith, past, same, shown, mapped) in
      are ∙ ap shown_parts (sym (take_all k pairs number))

pub cut_some : (pairs : Queue) (k : ℕ) (want : Want) → 1 ≤ k → cut_pairs pairs k want ≡ pairs_reply true (take k pairs)
cut_some pairs zero want some = absurd (omega (arith, some))
cut_some pairs (suc k) want some = refl

writable_one : (parts : List Reply) (x : Reply) → is_writable x ≡ true → are_writable parts ≡ true → are_writable (parts ++ x ∷ []) ≡ true
writable_one [] x one are = and_from (is_writable x) true one refl
writable_one (y ∷ parts) x one are =
    let both = and_parts (is_writable y) (are_writable parts) are in
    and_from (is_writable y) (are_writable (parts ++ x ∷ [])) both.0 (writable_one parts x one both.1)

-- and with a reply more
pub writable_more : (parts later : List Reply) (x : Reply) → later ≡ parts ++ x ∷ [] → is_writable x ≡ true → are_writable parts ≡ true → are_writable later ≡ true
writable_more parts later x is one are = subst (λ ps. are_writable ps ≡ true) (sym is) (writable_one parts x one are)
