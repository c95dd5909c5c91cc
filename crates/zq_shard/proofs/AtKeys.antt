-- What a map of the code has at one key, and what is left of its bounds by a change there.

use Rattle.std.proofs.Common.{List, None, arith, Option, Some, [], ap, cond, false, length, refl, subst, sym, true, ℕ, ◌∙◌, ◌∷◌, ◌==◌, ◌≡◌, ◌≢◌, eqb-true}
use Rattle.std.proofs.lemmas.Cmp.{nat_list_cmp_total}
use Rattle.std.proofs.lemmas.Map.Lookups.{exact_bytes}
use Rattle.std.proofs.lemmas.Option.{none-some, same_Some}
use Rattle.std.specs.FinMap.{empty, entries, find, get-empty, get-entries, len, len-empty, len-entries, same_map}
use Rattle.std.specs.Map.{KeepsOthers, lookup}
use Rattle.std.specs.Ordering.{eq_by_cmp}
use Rattle.zq_model.proofs.Maps as maps
use Rattle.zq_model.specs.Image.{Entry}
use Rattle.zq_model.specs.Rule.{Rule}
use Rattle.zq_posheap.proofs.Entries.{has_text}
use Rattle.zq_posheap.specs.Order.{same_key}
use Rattle.zq_queue.specs.Entries.{Entries, bytes_cmp}
use Rattle.zq_queue.specs.Queued.{Queued}
use Rattle.zq_queue.specs.Sinks.{AreListed}
use Rattle.zq_shard.proofs.ByBytes.{found, updated}
use Rattle.zq_shard.specs.Queues.{AreQueues, HasAt, entries_in, entries_or_none, unless_empty}

-- ---- a queue with members, or without

pub nil_from_length : {X : Type 0} (xs : List X) → length xs ≡ 0 → xs ≡ []
nil_from_length [] e = refl
nil_from_length (x ∷ xs) e = absurd (omega (arith, e))

pub empty_from_len : (m : Entries) → len m ≡ 0 → m ≡ empty
empty_from_len m e =
    same_map nat_list_cmp_total exact_bytes m empty
    (λ q. get-entries m q ∙ ap (find bytes_cmp q) (nil_from_length (entries m) (sym (len-entries m) ∙ e)) ∙ sym (get-empty bytes_cmp q))

pub unless_none : (queue : Queued) → queue.entries ≡ empty → unless_empty queue ≡ None
unless_none queue is = ap (λ (m : Entries). cond (len m == 0) None (Some queue)) is ∙ ap (λ n. cond (n == 0) None (Some queue)) (len-empty bytes_cmp Entry)

pub unless_some : (queue : Queued) → queue.entries ≢ empty → unless_empty queue ≡ Some queue
unless_some queue full =
    elim (len queue.entries == 0) as (λ b. (len queue.entries == 0) ≡ b → cond b None (Some queue) ≡ Some queue) [
      | true ↦ λ e. absurd (full (empty_from_len queue.entries (eqb-true (len queue.entries) 0 e)))
      | false ↦ λ e. refl
    ] refl

pub entries_unless : (queue : Queued) → entries_or_none (unless_empty queue) ≡ queue.entries
entries_unless queue =
    elim (len queue.entries == 0) as (λ b. (len queue.entries == 0) ≡ b → entries_or_none (cond b None (Some queue)) ≡ queue.entries) [
      | true ↦ λ e. sym (empty_from_len queue.entries (eqb-true (len queue.entries) 0 e))
      | false ↦ λ e. refl
    ] refl

-- what stands in place of a queue is that queue, and has members
pub unless_is : (queue q : Queued) → unless_empty queue ≡ Some q → (queue ≡ q) × (q.entries ≢ empty)
unless_is queue q is =
    let same : queue ≡ q = elim (len queue.entries == 0) as (λ b. cond b None (Some queue) ≡ Some q → queue ≡ q) [
      | true ↦ λ e. absurd (none-some q e)
      | false ↦ λ e. same_Some queue q e
    ] is in
    (same, λ none. absurd (none-some q (sym (unless_none queue (ap (λ (x : Queued). x.entries) same ∙ none)) ∙ is)))

-- ---- one key

pub entries_found : (pairs : List (List ℕ × Queued)) (key : List ℕ) (r : Option Queued) → r ≡ lookup (has_text key) pairs → entries_in pairs key ≡ entries_or_none r
entries_found pairs key r is = ap entries_or_none (found pairs key ∙ sym is)

-- the same of the key by another name
pub key_entries : (pairs : List (List ℕ × Queued)) (key k : List ℕ) (r : Option Queued) → key ≡ k → r ≡ lookup (has_text key) pairs → entries_in pairs k ≡ entries_or_none r
key_entries pairs key k r same is = ap (entries_in pairs) (sym same) ∙ entries_found pairs key r is

-- no change
pub unchanged_at : {X : Type 0} (k : List ℕ) (w : Option X) (old : List (List ℕ × X)) → find bytes_cmp k old ≡ w → HasAt k w old old
unchanged_at k w old is q =
    elim (eq_by_cmp bytes_cmp q k) as (λ b. eq_by_cmp bytes_cmp q k ≡ b → find bytes_cmp q old ≡ cond b w (find bytes_cmp q old)) [
      | true ↦ λ here. ap (λ key. find bytes_cmp key old) (maps.same_key exact_bytes q k here) ∙ is
      | false ↦ λ there. refl
    ] refl

-- the key's queue was written and has members
pub written_at : (k : List ℕ) (queue after : Queued) (old new : List (List ℕ × Queued)) → lookup (has_text k) new ≡ Some queue → KeepsOthers same_key (has_text k) old new →
    queue ≡ after → queue.entries ≢ empty → HasAt k (unless_empty after) old new
written_at k queue after old new is others same full =
    updated k (unless_empty after) old new (is ∙ sym (unless_some queue full) ∙ ap unless_empty same) others

-- the key's queue was written, has no members, and was taken out
pub removed_at : (k : List ℕ) (queue after : Queued) (old mid new : List (List ℕ × Queued)) → KeepsOthers same_key (has_text k) old mid → HasAt k None mid new →
    queue ≡ after → queue.entries ≡ empty → HasAt k (unless_empty after) old new
removed_at k queue after old mid new written gone same none q =
    elim (eq_by_cmp bytes_cmp q k) as (λ b. eq_by_cmp bytes_cmp q k ≡ b → find bytes_cmp q new ≡ cond b (unless_empty after) (find bytes_cmp q old)) [
      | true ↦ λ here. gone q ∙ ap (λ b. cond b None (find bytes_cmp q mid)) here ∙ sym (unless_none queue none) ∙ ap unless_empty same
      | false ↦ λ away.
          gone q ∙ ap (λ b. cond b None (find bytes_cmp q mid)) away
          ∙ updated k (lookup (has_text k) mid) old mid refl written q ∙ ap (λ b. cond b (lookup (has_text k) mid) (find bytes_cmp q old)) away
    ] refl

-- a change at a key leaves queues of the rule, none of them empty
pub kept_at : (rule : Rule) (k : List ℕ) (queue : Queued) (old new : List (List ℕ × Queued)) → AreQueues rule old → HasAt k (unless_empty queue) old new → queue.rule ≡ rule → AreListed queue →
    AreQueues rule new
kept_at rule k queue old new kept has same listed key q there =
    elim (eq_by_cmp bytes_cmp key k) as (λ b. cond b (unless_empty queue) (find bytes_cmp key old) ≡ Some q → (q.rule ≡ rule) × (q.entries ≢ empty) × AreListed q) [
      | true ↦ λ here. let is = unless_is queue q here in (sym (ap (λ (x : Queued). x.rule) is.0) ∙ same, is.1, subst AreListed is.0 listed)
      | false ↦ λ elsewhere. kept key q elsewhere
    ] (sym (has key) ∙ there)

-- without its queue a key is not there
pub gone_at : {X : Type 0} (k : List ℕ) (old new : List (List ℕ × X)) → HasAt k None old new → find bytes_cmp k new ≡ None
gone_at k old new has = has k ∙ ap (λ b. cond b None (find bytes_cmp k old)) (maps.key_same nat_list_cmp_total k k refl)
