-- What either form of the members of a key keeps, and shows.
use Rattle.std.proofs.Common.{Err, Ok, Result, ap, subst, sym, ◌∙◌}
use Rattle.std.proofs.lemmas.Option.{same_Some, slice_get-get_or}
use Rattle.std.specs.FinMap.{get, insert, len, remove}
use Rattle.std.specs.Global.{Box, Vec}
use Rattle.std.specs.List.{swap_remove}
use Rattle.std.specs.Prelude.{Bool, List, None, OnErr, OnOk, Option, Some, [], count_by, false, get_or, length, map, option_map, slice_get, slice_set, unwrap_or, ℕ, ℤ, ◌++◌, ◌<◌, ◌∷◌, ◌≡◌, ◌≤◌}
use Rattle.zq_model.specs.Image.{Entry, is_bare, no_additions}
use Rattle.zq_model.specs.Meaning.{Scored}
use Rattle.zq_model.specs.Rule.{Rule}
use Rattle.zq_model.specs.Score.{score_of}
use Rattle.zq_posheap.specs.InOrder.{ListsInOrder}
use Rattle.zq_posheap.specs.Listing.{IsListing, Row}
use Rattle.zq_posheap.specs.Members.{Members, scores_of}
use Rattle.zq_queue.proofs.Changing.{written_is_set}
use Rattle.zq_queue.proofs.Fews.{few_pushed, few_removed, few_replaced, got_named, length-few, lists_few}
use Rattle.zq_queue.proofs.Helds.{get-entries_of, len-entries_of, none_bare, score_held, score_of_nothing, scored-insert}
use Rattle.zq_queue.proofs.Listeds.{listed_in_order}
use Rattle.zq_queue.proofs.Rowed.{entries_listing}
use Rattle.zq_queue.proofs.Scans.{count_few, head_few, named_at}
use Rattle.zq_queue.specs.Built.{row_pair}
use Rattle.zq_queue.specs.Entries.{Entries, NoneIsBare, entry_in, set_entry}
use Rattle.zq_queue.specs.Few.{AreFew, entries_by, names_in, pairs_by, rows_of}
use Rattle.zq_queue.specs.Form.{IsFormOf, entries_in}
use Rattle.zq_queue.specs.Least.{IsLeastOf}
use Rattle.zq_queue.specs.Listed.{listed}
use Rattle.zq_queue.specs.Queued.{AreScored, Held, entries_of}
use Rattle.zq_queue.specs.declared.few.Member.{Member}
use Rattle.zq_queue.specs.declared.indexed.Indexed.{Indexed}
use Rattle.zq_queue.specs.declared.members.Form.{Form}
use Rattle.zq_queue.specs.declared.members.Form.TheVariants.{Few, Many}

-- none of the entries is bare
pub stands : (rule : Rule) (form : Form) → IsFormOf rule form → NoneIsBare (entries_in form)
stands rule (Few list) its = its.stand
stands rule (Many many) its = none_bare rule many.value.held its

-- the entry beside a score
pub entry_got : (held : Held) (member : List ℕ) (p : ℤ × Entry) → get held member ≡ Some p → get (entries_of held) member ≡ Some p.1
entry_got held member p got = get-entries_of held member ∙ ap (option_map (λ (q : ℤ × Entry). q.1)) got

-- ---- few

module _ (rule : Rule) (form : Form) (list : Vec Member) (xs : List Member) (is : form ≡ Few list) (items : xs ≡ list.items) (its : IsFormOf rule form) where
  pub few_there : AreFew xs
  few_there = subst AreFew (sym items) (subst (IsFormOf rule) is its)

  pub few_entries : entries_by xs ≡ entries_in form
  few_entries = ap entries_by items ∙ ap entries_in (sym is)

  pub few_lists : IsListing (entries_in form) (rows_of xs)
  few_lists = subst (λ m. IsListing m (rows_of xs)) few_entries (lists_few xs few_there.apart)

  pub few_number : length xs ≡ len (entries_in form)
  few_number = length-few xs few_there.apart ∙ ap len few_entries

  pub few_head : (least : Option Scored) → IsLeastOf (pairs_by rule xs) least → least ≡ slice_get (listed rule (entries_in form)) 0
  few_head least is_least = sym (ap (λ m. slice_get (listed rule m) 0) (sym few_entries) ∙ head_few rule xs few_there least is_least)

  pub few_counts : (test : Scored → Bool) → count_by test (pairs_by rule xs) ≡ count_by test (listed rule (entries_in form))
  few_counts test = count_few rule xs few_there test ∙ ap (λ m. count_by test (listed rule m)) few_entries

  -- the entry of the member at a place
  pub few_got : (i : ℕ) (member : Member) (name : List ℕ) → i < length xs → member ≡ get_or xs i member → slice_get (names_in xs) i ≡ Some name → get (entries_in form) name ≡ Some member.entry
  few_got i member name within at named = ap (λ m. get m name) (sym few_entries)
      ∙ got_named xs few_there.apart i member name (slice_get-get_or xs i member within ∙ ap (λ x. Some x) (sym at)) named

  pub few_scored : (i : ℕ) (member : Member) (name : List ℕ) → i < length xs → member ≡ get_or xs i member → slice_get (names_in xs) i ≡ Some name →
      score_of rule member.entry ≡ score_of rule (entry_in (entries_in form) name)
  few_scored i member name within at named = ap (λ o. score_of rule (unwrap_or o no_additions)) (sym (few_got i member name within at named))

-- ---- many

module _ (rule : Rule) (form : Form) (many : Box Indexed) (x : Members Entry) (is : form ≡ Many many) (value : x ≡ many.value) (its : IsFormOf rule form) where
  pub many_scored : AreScored rule x.held
  many_scored = subst (λ (y : Members Entry). AreScored rule y.held) (sym value) (subst (IsFormOf rule) is its)

  pub many_entries : entries_of x.held ≡ entries_in form
  many_entries = ap (λ (y : Members Entry). entries_of y.held) value ∙ ap entries_in (sym is)

  pub many_lists : (rows : List (Row Entry)) → IsListing x.held rows → IsListing (entries_in form) (map row_pair rows)
  many_lists rows lists = subst (λ m. IsListing m (map row_pair rows)) many_entries (entries_listing x.held rows lists)

  pub many_number : len x.held ≡ len (entries_in form)
  many_number = sym (len-entries_of x.held) ∙ ap len many_entries

  pub many_order : ListsInOrder (scores_of x.held) (listed rule (entries_in form))
  many_order = subst (λ m. ListsInOrder (scores_of x.held) (listed rule m)) many_entries (listed_in_order rule x.held many_scored)

  pub many_got : (name : List ℕ) (p : ℤ × Entry) → get x.held name ≡ Some p → get (entries_in form) name ≡ Some p.1
  many_got name p got = ap (λ m. get m name) (sym many_entries) ∙ entry_got x.held name p got

  pub many_score : (name : List ℕ) → option_map (λ (p : ℤ × Entry). p.0) (get x.held name) ≡ score_of rule (entry_in (entries_in form) name)
  many_score name = sym (score_held rule x.held many_scored name) ∙ ap (λ m. score_of rule (entry_in m name)) many_entries

-- a member that is not there has no score
pub no_score_in : (rule : Rule) (form : Form) (name : List ℕ) → get (entries_in form) name ≡ None → None ≡ score_of rule (entry_in (entries_in form) name)
no_score_in rule form name none = sym (score_of_nothing rule) ∙ ap (λ o. score_of rule (unwrap_or o no_additions)) (sym none)

-- ---- changes of few

module _ (rule : Rule) (form : Form) (list : Vec Member) (xs : List Member) (is : form ≡ Few list) (items : xs ≡ list.items) (its : IsFormOf rule form) where
  few_all : AreFew xs
  few_all = few_there rule form list xs is items its

  few_map : entries_by xs ≡ entries_in form
  few_map = few_entries rule form list xs is items its

  name_is : (i : ℕ) (member : Member) (name : List ℕ) → i < length xs → member ≡ get_or xs i member → slice_get (names_in xs) i ≡ Some name → member.name ≡ name
  name_is i member name within at named = same_Some member.name name (sym (named_at xs i member within at) ∙ named)

  pub few_addition : (name : List ℕ) (entry : Entry) (new : List Member) → get (entries_in form) name ≡ None → is_bare entry ≡ false → length xs < 32 →
      new ≡ xs ++ record { name = name; entry = entry } ∷ [] → AreFew new × (entries_by new ≡ insert (entries_in form) name entry)
  few_addition name entry new none some room is_new =
      let r = few_pushed xs few_all (record { name = name; entry = entry }) (ap (λ m. get m name) few_map ∙ none) some room new is_new in
      (r.0, r.1 ∙ ap (λ m. insert m name entry) few_map)

  pub few_removal : (i : ℕ) (member : Member) (name : List ℕ) (new : List Member) → i < length xs → member ≡ get_or xs i member → slice_get (names_in xs) i ≡ Some name →
      new ≡ swap_remove xs i member → length new ≤ length xs → AreFew new × (entries_by new ≡ remove (entries_in form) name)
  few_removal i member name new within at named is_new fewer =
      let r = few_removed xs few_all i member (slice_get-get_or xs i member within ∙ ap (λ x. Some x) (sym at)) new is_new fewer in
      (r.0, r.1 ∙ (λ k. remove (few_map k) (name_is i member name within at named k)))

  pub few_exchange : (i : ℕ) (member : Member) (name : List ℕ) (entry : Entry) (new : List Member) → i < length xs → member ≡ get_or xs i member → slice_get (names_in xs) i ≡ Some name →
      is_bare entry ≡ false → new ≡ slice_set xs i (record { name = member.name; entry = entry }) → length new ≡ length xs → AreFew new × (entries_by new ≡ insert (entries_in form) name entry)
  few_exchange i member name entry new within at named some is_new as_many =
      let r = few_replaced xs few_all i member entry (slice_get-get_or xs i member within ∙ ap (λ x. Some x) (sym at)) some new is_new as_many in
      (r.0, r.1 ∙ (λ k. insert (few_map k) (name_is i member name within at named k) entry))

  -- where a member was put in, or there was no memory
  pub few_either : {E : Type 0} (r : Result (Unit {0}) E) (name : List ℕ) (entry : Entry) (new : List Member) → get (entries_in form) name ≡ None → is_bare entry ≡ false → length xs < 32 →
      OnOk r (new ≡ xs ++ record { name = name; entry = entry } ∷ []) → OnErr r (new ≡ xs) → AreFew new
  few_either (Ok u) name entry new none some room pushed refused = (few_addition name entry new none some room pushed).0
  few_either (Err e) name entry new none some room pushed refused = subst AreFew (sym refused) few_all

  pub few_added : {E : Type 0} (r : Result (Unit {0}) E) (name : List ℕ) (entry : Entry) (new : List Member) → get (entries_in form) name ≡ None → is_bare entry ≡ false → length xs < 32 →
      OnOk r (new ≡ xs ++ record { name = name; entry = entry } ∷ []) → (all : Entries) → insert (entries_in form) name entry ≡ all → OnOk r (entries_by new ≡ all)
  few_added (Ok u) name entry new none some room pushed all is_all = (few_addition name entry new none some room pushed).1 ∙ is_all
  few_added (Err e) name entry new none some room pushed all is_all = tt

-- ---- changes of many

module _ (rule : Rule) (held : Held) (scored : AreScored rule held) (name : List ℕ) (entry : Entry) (x y : ℤ) (handed : y ≡ x) (score : score_of rule entry ≡ Some x) (new : Held) where
  pub many_added_scored : new ≡ insert held name (y, entry) → AreScored rule new
  many_added_scored done = subst (AreScored rule) (sym (done ∙ ap (λ z. insert held name (z, entry)) handed)) (scored-insert rule held name x entry scored score)

  pub many_added_set : new ≡ insert held name (y, entry) → entries_of new ≡ set_entry (entries_of held) name entry
  many_added_set done = ap entries_of (done ∙ ap (λ z. insert held name (z, entry)) handed) ∙ written_is_set rule held name entry x score

  pub many_either : {E : Type 0} (r : Result (Unit {0}) E) → OnOk r (new ≡ insert held name (y, entry)) → OnErr r (new ≡ held) → AreScored rule new
  many_either (Ok u) done unchanged = many_added_scored done
  many_either (Err e) done unchanged = subst (AreScored rule) (sym unchanged) scored

  pub many_added : {E : Type 0} (r : Result (Unit {0}) E) → OnOk r (new ≡ insert held name (y, entry)) → (all : Entries) → set_entry (entries_of held) name entry ≡ all → OnOk r (entries_of new ≡ all)
  many_added (Ok u) done all is_all = many_added_set done ∙ is_all
  many_added (Err e) done all is_all = tt
