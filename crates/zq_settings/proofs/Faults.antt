-- What is wrong where a step of a reading is refused.
use Rattle.zq_settings.proofs.Steps.{both_err, some_since, none_since, integer_since, text_since}
use Rattle.std.proofs.Common.{◌≡◌, ◌⊎◌, ℕ, suc, false, not, List, [], ◌∷◌, ◌++◌, length, Option, Some, None, Result, Ok, Err, refl, ap, inl, inr}
use Rattle.std.proofs.lemmas.Bool.{cases_Bool}
use Rattle.std.specs.List.{find}
use Rattle.std.specs.Option.{ok_or}
use Rattle.toml.specs.Data.{Data, Members, Items, no_items, item, as_integer, as_str}
use Rattle.toml.specs.View.{items_of}
use Rattle.zq_settings.specs.Breaks.{HasUnknown, IsOfOtherKind, IsOutOfRange, IsOutside}
use Rattle.zq_settings.specs.Keys.{is_known}
use Rattle.zq_settings.specs.Numbers.{within}
use Rattle.zq_settings.specs.Settings.{◌>>=◌, whole_of, number_of, required_of, limit_of, connections_of, rule_of, rule_named, seed_of, client_limits_of, common_of, count_of, known_keys, unless_unknown}
use Rattle.zq_settings.specs.Tables.{names_in, value_at, first_unknown}
use Rattle.zq_settings.specs.declared.form.Form.{Form}
use Rattle.zq_settings.specs.declared.key.Key.{Key}
use Rattle.zq_settings.specs.declared.key.Key.TheVariants as key
use Rattle.zq_settings.specs.declared.why.Why.{Why}
use Rattle.zq_settings.specs.declared.why.Why.TheVariants.{Unknown, Missing, Kind, Range}

-- a refusal is of the first step, or of the next one
pub by_steps : {A B : Type 0} (r : Result A Why) (f : A → Result B Why) (why : Why) (P : Type 0) → (r ≡ Err why → P) → ((a : A) → r ≡ Ok a → f a ≡ Err why → P) → (r >>= f) ≡ Err why → P
by_steps (Ok a) f why P first next h = next a refl h
by_steps (Err refused) f why P first next h = let same : refused ≡ why = cc in first (ap Err same)

-- the key has a value that is of another kind, or one that it does not take
abbrev pub HasOther : Key → Members → Type 0
HasOther key table = (value : Data) × (value_at key table ≡ Some value) × IsOfOtherKind key value

abbrev pub HasOutside : Key → Members → Type 0
HasOutside key table = (value : Data) × (value_at key table ≡ Some value) × IsOutOfRange key value

abbrev pub HasFault : Key → Members → Why → Type 0
HasFault key table why = ((why ≡ Kind key) × HasOther key table) ⊎ ((why ≡ Range key) × HasOutside key table)

-- a number that a value is not
pub whole_fault : (key : Key) (least most : ℕ) (d : Data) (why : Why) → whole_of key least most d ≡ Err why → ((why ≡ Kind key) × (as_integer d ≡ None)) ⊎ ((why ≡ Range key) × IsOutside least most d)
whole_fault key least most d why h =
    elim (both_err (ok_or (as_integer d) (Kind key)) (λ z. ok_or (within least most z) (Range key)) why h) [
      | inl other ↦
          let (none, same) = none_since (as_integer d) (Kind key) why other in
          inl (same, none)
      | inr whole ↦
          let (z, is, outside) = whole in
          let (none, same) = none_since (within least most z) (Range key) why outside in
          inr (same, (z, integer_since d z (some_since _ _ z is), none))
    ]

-- the value of a key that takes a number
value_fault : (table : Members) (key : Key) (least most : ℕ) (kind : (d : Data) → as_integer d ≡ None → IsOfOtherKind key d) (range : (d : Data) → IsOutside least most d → IsOutOfRange key d)
    → (why : Why) (d : Data) → value_at key table ≡ Some d → whole_of key least most d ≡ Err why → HasFault key table why
value_fault table key least most kind range why d seen h =
    elim (whole_fault key least most d why h) [
      | inl other ↦ let (same, none) = other in inl (same, (d, seen, kind d none))
      | inr outside ↦ let (same, out) = outside in inr (same, (d, seen, range d out))
    ]

pub number_fault : (table : Members) (key : Key) (least most default : ℕ) (kind : (d : Data) → as_integer d ≡ None → IsOfOtherKind key d) (range : (d : Data) → IsOutside least most d → IsOutOfRange key d)
    → (why : Why) (value : Option Data) → value_at key table ≡ value → number_of key least most default value ≡ Err why → HasFault key table why
number_fault table key least most default kind range why None seen h = cc
number_fault table key least most default kind range why (Some d) seen h = value_fault table key least most kind range why d seen h

pub required_fault : (table : Members) (key : Key) (least most : ℕ) (kind : (d : Data) → as_integer d ≡ None → IsOfOtherKind key d) (range : (d : Data) → IsOutside least most d → IsOutOfRange key d)
    → (why : Why) (value : Option Data) → value_at key table ≡ value → required_of key least most value ≡ Err why → ((why ≡ Missing key) × (value_at key table ≡ None)) ⊎ HasFault key table why
required_fault table key least most kind range why None seen h = let same : why ≡ Missing key = cc in inl (same, seen)
required_fault table key least most kind range why (Some d) seen h = inr (value_fault table key least most kind range why d seen h)

pub seed_fault : (table : Members) (why : Why) → seed_of (value_at key.Seed table) ≡ Err why → HasFault key.Seed table why
seed_fault table why h = number_fault table key.Seed 0 9223372036854775807 1 (λ d none. none) (λ d out. out) why _ refl h

limit_fault : (table : Members) (why : Why) → connections_of (value_at key.Connections table) ≡ Err why → HasFault key.Connections table why
limit_fault table why h =
    elim (both_err (number_of key.Connections 0 1000000 0 (value_at key.Connections table)) (λ count. Ok (limit_of count)) why h) [
      | inl number ↦ number_fault table key.Connections 0 1000000 0 (λ d none. none) (λ d out. out) why _ refl number
      | inr none ↦ let (count, is, wrong) = none in let never : Ok (limit_of count) ≡ Err why = wrong in cc
    ]

pub rule_fault : (table : Members) (why : Why) (value : Option Data) → value_at key.Rule table ≡ value → rule_of value ≡ Err why → HasFault key.Rule table why
rule_fault table why None seen h = cc
rule_fault table why (Some d) seen h =
    elim (both_err (ok_or (as_str d) (Kind key.Rule)) (λ word. ok_or (rule_named word) (Range key.Rule)) why h) [
      | inl other ↦
          let (none, same) = none_since (as_str d) (Kind key.Rule) why other in
          inl (same, (d, seen, none))
      | inr text ↦
          let (word, is, unnamed) = text in
          let (none, same) = none_since (rule_named word) (Range key.Rule) why unnamed in
          inr (same, (d, seen, (word, text_since d word (some_since _ _ word is), none)))
    ]

-- what limits the clients of a port
client_limits_fault : (table : Members) (why : Why) (P : Type 0) → (HasFault key.Clients table why → P) → (HasFault key.Timeout table why → P) → (HasFault key.WriteTimeout table why → P)
    → (HasFault key.Output table why → P) → client_limits_of table ≡ Err why → P
client_limits_fault table why P of_clients of_timeout of_write_timeout of_output =
    by_steps (number_of key.Clients 1 1000000 10000 (value_at key.Clients table)) _ why P (λ h. of_clients (number_fault table key.Clients 1 1000000 10000 (λ d none. none) (λ d out. out) why _ refl h)) (λ clients _.
    by_steps (number_of key.Timeout 0 1000000 0 (value_at key.Timeout table)) _ why P (λ h. of_timeout (number_fault table key.Timeout 0 1000000 0 (λ d none. none) (λ d out. out) why _ refl h)) (λ timeout _.
    by_steps (number_of key.WriteTimeout 0 1000000 60 (value_at key.WriteTimeout table)) _ why P (λ h. of_write_timeout (number_fault table key.WriteTimeout 0 1000000 60 (λ d none. none) (λ d out. out) why _ refl h)) (λ write_timeout _.
    by_steps (number_of key.Output 1048576 1099511627776 268435456 (value_at key.Output table)) _ why P
    (λ h. of_output (number_fault table key.Output 1048576 1099511627776 268435456 (λ d none. none) (λ d out. out) why _ refl h)) (λ output _ wrong. cc))))

-- what all settings have, from heaps to output
pub common_fault : (table : Members) (why : Why) (P : Type 0) → (HasFault key.Heaps table why → P) → (HasFault key.Workers table why → P) → (HasFault key.Connections table why → P)
    → (HasFault key.Clients table why → P) → (HasFault key.Timeout table why → P) → (HasFault key.WriteTimeout table why → P) → (HasFault key.Output table why → P) → common_of table ≡ Err why → P
common_fault table why P of_heaps of_workers of_connections of_clients of_timeout of_write_timeout of_output =
    by_steps (number_of key.Heaps 2 16 4 (value_at key.Heaps table)) _ why P (λ h. of_heaps (number_fault table key.Heaps 2 16 4 (λ d none. none) (λ d out. out) why _ refl h)) (λ heaps _.
    by_steps (number_of key.Workers 1 64 4 (value_at key.Workers table)) _ why P (λ h. of_workers (number_fault table key.Workers 1 64 4 (λ d none. none) (λ d out. out) why _ refl h)) (λ workers _.
    by_steps (connections_of (value_at key.Connections table)) _ why P (λ h. of_connections (limit_fault table why h)) (λ connections _.
    by_steps (client_limits_of table) _ why P (client_limits_fault table why P of_clients of_timeout of_write_timeout of_output) (λ limits _ wrong. cc))))

-- an unknown key
unknown_at : (form : Form) (names : List (List ℕ)) (name : List ℕ) → find (λ n. not (is_known form n)) names ≡ Some name → (before : List (List ℕ)) × (others : List (List ℕ)) × (names ≡ before ++ name ∷ others) × (is_known form name ≡ false)
unknown_at form [] name h = cc
unknown_at form (first ∷ names) name h =
    elim (cases_Bool (is_known form first)) [
      | inl known ↦
          let (before, others, split, unknown) = unknown_at form names name (rw known at h) in
          (first ∷ before, others, ap (λ ns. first ∷ ns) split, unknown)
      | inr unknown ↦
          let same : first ≡ name = let there : Some first ≡ Some name = rw unknown at h in cc in
          rw (← same) ([], names, refl, unknown)
    ]

unknown_of : (form : Form) (table : Members) (why : Why) (unknown : Option (List ℕ)) → first_unknown form table ≡ unknown → unless_unknown form unknown ≡ Err why → (name : List ℕ) × (why ≡ Unknown form name) × HasUnknown form name table
unknown_of form table why None seen h = cc
unknown_of form table why (Some name) seen h = let same : why ≡ Unknown form name = cc in (name, same, unknown_at form (names_in table) name seen)

pub unknown_fault : (form : Form) (table : Members) (why : Why) → known_keys form table ≡ Err why → (name : List ℕ) × (why ≡ Unknown form name) × HasUnknown form name table
unknown_fault form table why h = unknown_of form table why (first_unknown form table) refl h

-- the entries of an array as a list
pub listed : (entries : Items) → (list : List Data) × (entries ≡ items_of list)
listed no_items = ([], refl)
listed (item entry entries) = let (list, same) = listed entries in (entry ∷ list, ap (item entry) same)

pub count_listed : (list : List Data) → count_of (items_of list) ≡ length list
count_listed [] = refl
count_listed (entry ∷ list) = ap suc (count_listed list)
