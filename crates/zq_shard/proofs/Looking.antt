-- What a look-up of a key tells of the heap.

use Rattle.std.proofs.Common.{Bor, List, None, Option, Some, [], ap, inl, refl, sym, unwrap_or, ℕ, ◌∙◌, ◌∷◌, ◌≡◌}
use Rattle.std.proofs.lemmas.Option.{none-some}
use Rattle.std.specs.FinMap.{empty, get, get-empty}
use Rattle.std.specs.Map.{lookup}
use Rattle.std.specs.Option.{option_copied}
use Rattle.std.specs.Prelude.{IfNone, IfSome}
use Rattle.zq_model.specs.Image.{Entry, Place, entry_at, no_additions}
use Rattle.zq_model.specs.Meaning.{Scored}
use Rattle.zq_model.specs.Queue.{queue_of}
use Rattle.zq_model.specs.Rule.{Rule}
use Rattle.zq_model.specs.Score.{score_of}
use Rattle.zq_model.specs.Sets.{IsIn}
use Rattle.zq_posheap.proofs.Entries.{has_text}
use Rattle.zq_queue.proofs.Helds.{score_of_nothing}
use Rattle.zq_queue.proofs.Listeds.{listed_score, queue_listed}
use Rattle.zq_queue.specs.Entries.{Entries, bytes_cmp, entry_in}
use Rattle.zq_queue.specs.Listed.{listed}
use Rattle.zq_queue.specs.Queued.{Queued}
use Rattle.zq_shard.proofs.AtKeys.{entries_found}
use Rattle.zq_shard.proofs.ByBytes.{found}
use Rattle.zq_shard.proofs.Members.{entries_at-members_in, get-entries_at, get-members_in}
use Rattle.zq_shard.specs.Standing.{order_of}
use Rattle.zq_shard.specs.Queues.{AreQueues, Keyed, entries_at, entries_in, members_in}

-- the list of no entries
pub listed_nothing : (rule : Rule) → listed rule empty ≡ []
listed_nothing rule = nothing_in (listed rule empty) (λ z here.
    none-some z.0 (sym (score_of_nothing rule) ∙ ap (λ r. score_of rule (unwrap_or r no_additions)) (sym (get-empty {X = Entry} bytes_cmp z.1)) ∙ listed_score rule empty z.0 z.1 here))
  where
    nothing_in : (q : List Scored) → ((z : Scored) → IsIn z q → ⊥) → q ≡ []
    nothing_in [] none = refl
    nothing_in (z ∷ q) none = absurd (none z (inl refl))

module _ (pairs : List (List ℕ × Queued)) (rule : Rule) (s : Keyed) (view : record { rule = rule; members = members_in pairs; order = order_of pairs } ≡ s) where
  pub entries_seen : (key : List ℕ) → entries_at s.members key ≡ entries_in pairs key
  entries_seen key = ap (λ (x : Keyed). entries_at x.members key) (sym view) ∙ entries_at-members_in pairs key

  pub place_seen : (q : Place) → get s.members q ≡ get (entries_in pairs q.0) q.1
  place_seen q = ap (λ (x : Keyed). get x.members q) (sym view) ∙ get-members_in pairs q

  module _ (key : List ℕ) where
    -- the key's queue in the model
    list_seen : (es : Entries) → entries_at s.members key ≡ es → queue_of s.rule key (s.members ∷ []) ≡ listed s.rule es
    list_seen es is = queue_listed s.rule es key s.members (λ m. sym (get-entries_at s.members key m) ∙ ap (λ e. get e m) is)

    pub look_entries : (r : Option (Bor Queued)) → option_copied r ≡ lookup (has_text key) pairs → IfSome r (λ queue. queue.now.entries ≡ entries_at s.members key)
    look_entries None is = tt
    look_entries (Some queue) is = sym (entries_seen key ∙ entries_found pairs key (Some queue.now) is)

    pub look_absent : (r : Option (Bor Queued)) → option_copied r ≡ lookup (has_text key) pairs → IfNone r (entries_at s.members key ≡ empty)
    look_absent None is = entries_seen key ∙ entries_found pairs key None is
    look_absent (Some queue) is = tt

    pub look_no_list : (r : Option (Bor Queued)) → option_copied r ≡ lookup (has_text key) pairs → IfNone r (queue_of s.rule key (s.members ∷ []) ≡ [])
    look_no_list None is = list_seen empty (look_absent None is) ∙ listed_nothing s.rule
    look_no_list (Some queue) is = tt

    module _ (kept : AreQueues rule pairs) where
      pub look_rule : (r : Option (Bor Queued)) → option_copied r ≡ lookup (has_text key) pairs → IfSome r (λ queue. queue.now.rule ≡ s.rule)
      look_rule None is = tt
      look_rule (Some queue) is = (kept key queue.now (found pairs key ∙ sym is)).0 ∙ ap (λ (x : Keyed). x.rule) view

      pub look_list : (r : Option (Bor Queued)) → option_copied r ≡ lookup (has_text key) pairs → IfSome r (λ queue. listed queue.now.rule queue.now.entries ≡ queue_of s.rule key (s.members ∷ []))
      look_list None is = tt
      look_list (Some queue) is =
          ap (λ r. listed r queue.now.entries) (look_rule (Some queue) is)
          ∙ sym (list_seen queue.now.entries (sym (look_entries (Some queue) is)))

-- an entry and a score, of a key that was found and of one that was not
module _ (s : Keyed) (key member : List ℕ) where
  pub entry_seen : (es : Entries) → es ≡ entries_at s.members key → get es member ≡ get s.members (key, member)
  entry_seen es is = ap (λ e. get e member) is ∙ get-entries_at s.members key member

  pub no_entry_seen : entries_at s.members key ≡ empty → None ≡ get s.members (key, member)
  no_entry_seen none = sym (get-empty bytes_cmp member) ∙ entry_seen empty (sym none)

  pub score_seen : (es : Entries) → es ≡ entries_at s.members key → score_of s.rule (entry_in es member) ≡ score_of s.rule (entry_at s.members (key, member))
  score_seen es is = ap (λ r. score_of s.rule (unwrap_or r no_additions)) (entry_seen es is)

  pub no_score_seen : entries_at s.members key ≡ empty → None ≡ score_of s.rule (entry_at s.members (key, member))
  no_score_seen none = sym (score_of_nothing s.rule) ∙ ap (λ r. score_of s.rule (unwrap_or r no_additions)) (no_entry_seen none)
