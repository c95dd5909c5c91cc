-- What a connection answers itself among the replies to what waited.

use Rattle.std.proofs.Common.{ap, arith, inl, inr, refl, subst, suc, sym, true, zero, ◌∙◌}
use Rattle.std.proofs.lemmas.Bool.{and_from, and_parts}
use Rattle.std.proofs.lemmas.List.{append_assoc, drop-set-lt, drop_all, drop_more, take-append-drop, take_more_set}
use Rattle.std.specs.Prelude.{List, [], drop, get_or, length, set, take, ℕ, ◌+◌, ◌++◌, ◌<◌, ◌∷◌, ◌≡◌, ◌≤◌, ◌⊎◌}
use Rattle.zq_client.specs.Clients.{Client}
use Rattle.zq_client.specs.declared.profile.Profile.{Profile}
use Rattle.zq_commands.specs.Arrays.{are_writable}
use Rattle.zq_resp.specs.Reply.{is_writable}
use Rattle.zq_resp.specs.declared.reply.Reply.{Reply}
use Rattle.zq_serve.specs.Transactions.{AreFilled, IsFilledAt}
use Rattle.zq_session.specs.declared.queued.Queued.{Queued}

module _ (profile : Profile) where
  -- one reply is filled, and those behind it are
  filled_next : (before mid after : Client) (queue : List Queued) (were are : List Reply) (i : ℕ) (q : Queued) (was is : Reply) → i < length queue → i < length were →
      IsFilledAt profile before (get_or queue i q) (get_or were i was) is mid →
      AreFilled profile mid (drop (i + 1) queue) (drop (i + 1) (set were i is)) are after → AreFilled profile before (drop i queue) (drop i were) (is ∷ are) after
  filled_next before mid after queue were are i q was is inside within first others =
      let later = drop-set-lt (i + 1) were i is (omega arith) in
      subst (λ qs. AreFilled profile before qs (drop i were) (is ∷ are) after) (sym (drop_more queue i q inside))
      (subst (λ rs. AreFilled profile before (get_or queue i q ∷ drop (i + 1) queue) rs (is ∷ are) after) (sym (drop_more were i was within))
      (is, are, mid, refl, first, subst (λ rs. AreFilled profile mid (drop (i + 1) queue) rs are after) later others))

  -- all that come before are filled so that these stand behind them
  pub filled_more : (begun before mid : Client) (queue : List Queued) (first were : List Reply) (i : ℕ) (q : Queued) (was is : Reply) → i < length queue → i < length were →
      ((are : List Reply) (after : Client) → AreFilled profile before (drop i queue) (drop i were) are after → AreFilled profile begun queue first (take i were ++ are) after) →
      IsFilledAt profile before (get_or queue i q) (get_or were i was) is mid → (are : List Reply) (after : Client) →
      AreFilled profile mid (drop (i + 1) queue) (drop (i + 1) (set were i is)) are after → AreFilled profile begun queue first (take (i + 1) (set were i is) ++ are) after
  filled_more begun before mid queue first were i q was is inside within so_far at are after others =
      let next = filled_next before mid after queue were are i q was is inside within at others in
      let long = ap (λ rs. rs ++ are) (take_more_set were i is within) ∙ append_assoc (take i were) (is ∷ []) are in
      subst (λ rs. AreFilled profile begun queue first rs after) (sym long) (so_far (is ∷ are) after next)

  none_behind : (before : Client) (queue : List Queued) → AreFilled profile before queue [] [] before
  none_behind before [] = (refl, refl)
  none_behind before (q ∷ queue) = (refl, refl)

  -- no request is left, or no reply
  left : (before : Client) (queue : List Queued) (were : List Reply) (i : ℕ) → (length queue ≤ i) ⊎ (length were ≤ i) →
      AreFilled profile before (drop i queue) (drop i were) (drop i were) before
  left before queue were i (inl few) = subst (λ qs. AreFilled profile before qs (drop i were) (drop i were) before) (sym (drop_all i queue few)) (refl, refl)
  left before queue were i (inr few) = subst (λ rs. AreFilled profile before (drop i queue) rs rs before) (sym (drop_all i were few)) (none_behind before (drop i queue))

  pub filled_all : (begun before : Client) (queue : List Queued) (first were : List Reply) (i : ℕ) →
      ((are : List Reply) (after : Client) → AreFilled profile before (drop i queue) (drop i were) are after → AreFilled profile begun queue first (take i were ++ are) after) →
      (length queue ≤ i) ⊎ (length were ≤ i) → AreFilled profile begun queue first were before
  filled_all begun before queue first were i so_far few =
      subst (λ rs. AreFilled profile begun queue first rs before) (take-append-drop i were) (so_far (drop i were) before (left before queue were i few))

-- ---- texts that end no line

pub writable_at : (parts : List Reply) (i : ℕ) (d : Reply) → i < length parts → are_writable parts ≡ true → is_writable (get_or parts i d) ≡ true
writable_at [] i d inside are = absurd (omega (arith, inside))
writable_at (x ∷ parts) zero d inside are = (and_parts (is_writable x) (are_writable parts) are).0
writable_at (x ∷ parts) (suc i) d inside are = writable_at parts i d (omega (arith, inside)) (and_parts (is_writable x) (are_writable parts) are).1

pub writable_set : (parts : List Reply) (i : ℕ) (r : Reply) → are_writable parts ≡ true → is_writable r ≡ true → are_writable (set parts i r) ≡ true
writable_set [] i r are is = are
writable_set (x ∷ parts) zero r are is = and_from (is_writable r) (are_writable parts) is (and_parts (is_writable x) (are_writable parts) are).1
writable_set (x ∷ parts) (suc i) r are is =
    let both = and_parts (is_writable x) (are_writable parts) are in
    and_from (is_writable x) (are_writable (set parts i r)) both.0 (writable_set parts i r both.1 is)
